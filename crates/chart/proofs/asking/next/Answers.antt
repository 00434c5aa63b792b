use Rattle.std.proofs.Common.{sym, subst}
use Rattle.format.specs.declared.spot.Next.{Next}
use Rattle.grammar.specs.Grammars.{contents_in}
use Rattle.chart.specs.Early.{Early}
use Rattle.chart.proofs.Dots.{dot_early}
use Rattle.chart.proofs.asking.next.Goals as goal

pub returns : goal.returns
returns c =
    let g = c.args.grammar.now in
    let x = c.args.x.now in
    record {
      is = c.after_dot.ensures;
      early = subst (λ (n : Next). Early n x.dot) (sym c.after_dot.ensures) (dot_early (contents_in g) g.inner x.tree x.spot x.dot);
    }
