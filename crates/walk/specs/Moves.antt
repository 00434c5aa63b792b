-- A walk under way, and what its moves do.
use Rattle.std.specs.Prelude.{◌≡◌, ℕ, Bool, true, false, length}
use Rattle.format.specs.Parts.{Contents}
use Rattle.grammar.specs.Grammars.{contents_in}
use Rattle.walk.specs.declared.walking.Walking.{Walking}
use Rattle.walk.specs.Ahead.{Ahead, nothing, entered, adjoined}
use Rattle.walk.specs.Stacks.{of_piece, content, paused}

-- what its grammar holds
abbrev pub contents_of : Walking → Contents
contents_of w = contents_in w.grammar.now

-- all that is still to walk
abbrev pub ahead_of : Walking → Ahead
ahead_of w = of_piece w.here (content w.stack.now w.here.frame) (paused w.stack.now w.waits)

-- the content of the first node, and what follows behind it
abbrev pub entered_here : Walking → Ahead
entered_here w = entered (contents_of w) w.here.tag w.here.tree w.here.node w.here.end (content w.stack.now w.here.frame) (paused w.stack.now w.waits)

-- the tree β adjoined at the first node
abbrev pub adjoined_here : (β σ : ℕ) → Walking → Ahead
adjoined_here β σ w = adjoined (contents_of w) β σ w.here.tag w.here.tree w.here.node w.here.end (content w.stack.now w.here.frame) (paused w.stack.now w.waits)

-- A move keeps the grammar and the number of entries. Then d trees are begun, and a is ahead.
pub record Moved (d : ℕ) (a : Ahead) (w w' : Walking) : Type 0 where
  pub grammar : contents_of w' ≡ contents_of w
  pub entries : length w'.stack.now ≡ length w.stack.now
  pub depth : w'.depth ≡ d
  pub ahead : ahead_of w' ≡ a

-- The piece that waits last comes next, or none waits.
abbrev pub Resumed : Walking → Walking → Bool → Type 0
Resumed w w' true = Moved w.depth (paused w.stack.now w.waits) w w'
Resumed w w' false = paused w.stack.now w.waits ≡ nothing
