use Rattle.std.proofs.Common.{rules, tests}
use Rattle.grammar.specs.Grammars.{contents_in}
use Rattle.grammar.proofs.Listings.{found}
use Rattle.grammar.proofs.grammar.Grammar.next_listing.Goals as goal

pub returns : goal.returns
returns c =
    let d = contents_in c.args.self.now in
    let r = c.find_map.ensures.runs in
    found _ _ d c.args.auxiliary c.args.from.tree c.args.from.node r.0 c.find_map.result (search rules) (search rules)
    (λ a y f h. search (rules, tests))
    (λ t y h. search (rules, tests))
    r.2
