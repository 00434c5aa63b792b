use Rattle.std.proofs.Common.{◌≡◌, length}
use Rattle.walk.specs.Sizes.{size}
use Rattle.walk.specs.Moves.{contents_of, ahead_of}
use Rattle.walk.specs.Guided.{Led}
use Rattle.walk.proofs.walking.Walking.next_choice.Given as goal

abbrev pub invariant-loop-node : goal.invariant-loop-node
invariant-loop-node g l =
    record {
      grammar : contents_of l.self ≡ contents_of l.initial.self;
      entries : length l.self.stack.now ≡ length l.initial.self.stack.now;
      depth : l.self.depth ≡ l.initial.self.depth;
      left : g.G.Guide.left l.guide ≡ g.G.Guide.left l.initial.guide;
      led : Led g.G.Guide.holds (contents_of l.initial.self) (ahead_of l.initial.self) (ahead_of l.self) l.initial.guide l.guide;
    }

abbrev pub decreases-loop-node : goal.decreases-loop-node
decreases-loop-node g l = size (ahead_of l.self)
