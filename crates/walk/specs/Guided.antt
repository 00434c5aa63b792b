-- What a walk promises of its guide.
--
-- A guide makes the choices and hears the words. `H s₀ s c a` is what the guide keeps: it began as s₀, it stands as s, and `a` is still to walk in the grammar c. `P s₀ s c` is what holds where it
-- stops the walk, and `L s` is how many choices it can still make.
use Rattle.std.specs.Prelude.{◌≡◌, ℕ, ◌<◌, ◌≤◌, Bool, true, false, length, Some, None, Option, Ok, Err, Result}
use Rattle.format.specs.declared.node.Kind.{Kind}
use Rattle.format.specs.declared.node.Kind.TheVariants.{Inner, Word, Empty, Foot}
use Rattle.format.specs.Parts.{Contents}
use Rattle.format.specs.Keeps.{node_in}
use Rattle.derivation.specs.Walks.{is_choice}
use Rattle.walk.specs.declared.choice.Choice.{Choice}
use Rattle.walk.specs.declared.choice.Halt.{Halt}
use Rattle.walk.specs.declared.choice.Halt.TheVariants.{Stopped, SmallStack}
use Rattle.walk.specs.declared.stack.Piece.{Piece}
use Rattle.walk.specs.declared.walking.Walking.{Walking}
use Rattle.walk.specs.Ahead.{Ahead, nothing, part, entered, followed}
use Rattle.walk.specs.Moves.{contents_of, ahead_of}

abbrev pub is_word : Kind → Bool
is_word (Inner l) = false
is_word (Word w) = true
is_word Empty = false
is_word (Foot l) = false

-- A node without a word and without a choice is passed in silence.
abbrev pub Silent : {S : Type 0} → (S → S → Contents → Ahead → Type 0) → Type 0
Silent {S} H = (s₀ s : S) (c : Contents) (τ t n e : ℕ) (u r : Ahead) → n < e → is_word (node_in c t n).kind ≡ false → is_choice c t n ≡ false
    → H s₀ s c (part τ t n e u r) → H s₀ s c (entered c τ t n e u r)

-- So is the end of a part.
abbrev pub Over : {S : Type 0} → (S → S → Contents → Ahead → Type 0) → Type 0
Over {S} H = (s₀ s : S) (c : Contents) (τ t e : ℕ) (u r : Ahead) → H s₀ s c (part τ t e e u r) → H s₀ s c r

-- A word is heard.
pub record Heard {S : Type 0} (H : S → S → Contents → Ahead → Type 0) (L : S → ℕ) (s s' : S) (w : ℕ) : Type 0 where
  pub left : L s' ≡ L s
  pub holds : (s₀ : S) (c : Contents) (τ t n e : ℕ) (u r : Ahead) → n < e → (node_in c t n).kind ≡ Word w
      → H s₀ s c (part τ t n e u r) → H s₀ s' c (entered c τ t n e u r)

-- node n is before e, has no word, and lists a tree
pub record Asks (c : Contents) (t n e : ℕ) : Type 0 where
  pub inside : n < e
  pub wordless : is_word (node_in c t n).kind ≡ false
  pub choice : is_choice c t n ≡ true

-- At a choice node the guide makes a choice, or stops the walk.
abbrev pub Chosen : {S : Type 0} → (S → S → Contents → Ahead → Type 0) → (S → S → Contents → Type 0) → (S → ℕ) → Contents → S → S → (τ t n : ℕ) → Option Choice → Type 0
Chosen {S} H P L c s s' τ t n None = (s₀ : S) (e : ℕ) (u r : Ahead) → Asks c t n e → H s₀ s c (part τ t n e u r) → P s₀ s' c
Chosen {S} H P L c s s' τ t n (Some x) =
    (L s' < L s) × ((s₀ : S) (e : ℕ) (u r : Ahead) → Asks c t n e → H s₀ s c (part τ t n e u r) → H s₀ s' c (followed c x τ t n e u r))

-- From one moment of a walk to another the guide kept what it keeps.
pub record Led {S : Type 0} (H : S → S → Contents → Ahead → Type 0) (c : Contents) (a a' : Ahead) (s s' : S) : Type 0 where
  pub holds : (s₀ : S) → H s₀ s c a → H s₀ s' c a'

-- Up to the next choice node, where p begins.
pub record Reached {S : Type 0} (H : S → S → Contents → Ahead → Type 0) (L : S → ℕ) (s s' : S) (w w' : Walking) (p : Piece) : Type 0 where
  pub here : p ≡ w'.here
  pub asks : Asks (contents_of w) p.tree p.node p.end
  pub grammar : contents_of w' ≡ contents_of w
  pub entries : length w'.stack.now ≡ length w.stack.now
  pub depth : w'.depth ≡ w.depth
  pub left : L s' ≡ L s
  pub led : Led H (contents_of w) (ahead_of w) (ahead_of w') s s'

-- Up to the next choice node, or to the end.
abbrev pub NextChoice : {S : Type 0} → (S → S → Contents → Ahead → Type 0) → (S → ℕ) → S → S → Walking → Walking → Option Piece → Type 0
NextChoice H L s s' w w' None = Led H (contents_of w) (ahead_of w) nothing s s'
NextChoice H L s s' w w' (Some p) = Reached H L s s' w w' p

-- A whole walk, on a stack of so many entries: it needs one more than the guide has choices left.
abbrev pub Guided : {S : Type 0} → (S → S → Contents → Ahead → Type 0) → (S → S → Contents → Type 0) → (S → ℕ) → Contents → ℕ → Ahead → S → S → Result (Unit {0}) Halt → Type 0
Guided H P L c entries a s s' (Ok x) = (L s < entries) × Led H c a nothing s s'
Guided {S} H P L c entries a s s' (Err Stopped) = (L s < entries) × ((s₀ : S) → H s₀ s c a → P s₀ s' c)
Guided H P L c entries a s s' (Err SmallStack) = (entries ≤ L s) × (s' ≡ s)
