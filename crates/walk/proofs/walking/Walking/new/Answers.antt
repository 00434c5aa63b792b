use Rattle.std.proofs.Common.{length, ap, arith}
use Rattle.grammar.specs.Grammars.{contents_in}
use Rattle.walk.proofs.Goings.{going_start, start_ahead}
use Rattle.walk.proofs.walking.Walking.new.Goals as goal

pub invariant_of-result : goal.invariant_of-result
invariant_of-result c =
    record { going = going_start (contents_in c.args.grammar.now) c.args.grammar.now.ends c.begin.new.stack c.args.tag c.args.tree _ c.begin.ensures.new (omega arith) (ap length c.nodes.ensures) }

pub returns-clause-ahead : goal.returns-clause-ahead
returns-clause-ahead c =
    start_ahead (contents_in c.args.grammar.now) c.args.grammar.now.ends c.begin.new.stack c.args.tag c.args.tree _ c.begin.ensures.new (omega arith) (ap length c.nodes.ensures)
