use Rattle.std.proofs.Common.{◌≡◌, ◌+◌, ◌≤◌, length}
use Rattle.grammar.specs.Grammars.{contents_in}
use Rattle.walk.specs.Ahead.{whole_tree}
use Rattle.walk.specs.Moves.{contents_of, ahead_of}
use Rattle.walk.specs.Guided.{Led}
use Rattle.walk.proofs.machine.walk.Given as goal

abbrev pub invariant-loop-at : goal.invariant-loop-at
invariant-loop-at g l =
    record {
      grammar : contents_of l.walking ≡ contents_in l.grammar;
      room : l.walking.depth + g.G.Guide.left l.guide ≤ length l.walking.stack.now;
      led : Led g.G.Guide.holds (contents_in l.grammar) (whole_tree (contents_in l.grammar) l.tag l.tree) (ahead_of l.walking) l.initial.guide l.guide;
    }

abbrev pub decreases-loop-at : goal.decreases-loop-at
decreases-loop-at g l = g.G.Guide.left l.guide
