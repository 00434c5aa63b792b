-- Derivations of the trees of a grammar.
use Rattle.std.specs.Prelude.{◌≡◌, ℕ, true, List, [], ◌∷◌}
use Rattle.format.specs.declared.node.Kind.{Kind}
use Rattle.format.specs.declared.node.Kind.TheVariants.{Inner, Word, Empty, Foot}
use Rattle.format.specs.declared.node.Node.{Node}
use Rattle.format.specs.declared.spot.Spot.{Spot}
use Rattle.format.specs.declared.spot.Spot.TheVariants.{Top, At}
use Rattle.format.specs.declared.spot.Next.{Next}
use Rattle.format.specs.declared.spot.Next.TheVariants.{Bottom, Child}
use Rattle.format.specs.Parts.{Contents}
use Rattle.format.specs.Judge.{adjoinable}
use Rattle.format.specs.Keeps.{nodes_in, node_in}
use Rattle.format.specs.Questions.{children_of, may_start}
use Rattle.steps.specs.Conclusions.{stays, listed}

-- A derivation of a row of siblings: what is picked at the first, and a derivation of the later ones.
pub data Derivation : Type 0 where
  -- no sibling is left
  done : Derivation
  -- the first stays as it is: the derivation of the row below it, and of the later siblings
  stay : Derivation → Derivation → Derivation
  -- a tree is adjoined at the first: its number, its derivation, that of the row below the node, and that of the later siblings
  adjoin : ℕ → Derivation → Derivation → Derivation → Derivation

-- The row below a place of a tree ---------------------------------------------------------------------------------------------

abbrev pub as_children : List ℕ → List Next
as_children [] = []
as_children (n ∷ ns) = Child n ∷ as_children ns

-- an inner node has its children below it, a foot has the bottom, and a leaf has nothing
abbrev pub below_kind : Kind → List ℕ → List Next
below_kind (Inner l) ns = as_children ns
below_kind (Word w) ns = []
below_kind Empty ns = []
below_kind (Foot l) ns = Bottom ∷ []

-- below the top is the root
abbrev pub below_top : List Node → List Next
below_top [] = []
below_top (v ∷ vs) = Child 0 ∷ []

abbrev pub below : Contents → ℕ → Spot → List Next
below c t Top = below_top (nodes_in c t)
below c t (At n) = below_kind (node_in c t n).kind (children_of c t n)

-- the whole tree
abbrev pub tree_row : Contents → ℕ → List Next
tree_row c t = below c t Top

-- What is picked is allowed -----------------------------------------------------------------------------------------------------

-- A derivation of a row of tree t. At a leaf and at the bottom of a foot there is nothing to pick, and nothing below.
pub data Valid (c : Contents) : ℕ → List Next → Derivation → Type 0 where
  v_done : {t : ℕ} → Valid c t [] done
  v_word : {t n w : ℕ} {ks : List Next} {f : Derivation} → (node_in c t n).kind ≡ Word w → Valid c t ks f → Valid c t (Child n ∷ ks) (stay done f)
  v_empty : {t n : ℕ} {ks : List Next} {f : Derivation} → (node_in c t n).kind ≡ Empty → Valid c t ks f → Valid c t (Child n ∷ ks) (stay done f)
  v_bottom : {t : ℕ} {ks : List Next} {f : Derivation} → Valid c t ks f → Valid c t (Bottom ∷ ks) (stay done f)
  -- an inner node or a foot stays as it is, where it may
  v_plain : {t n : ℕ} {ks : List Next} {a f : Derivation} → adjoinable (node_in c t n).kind ≡ true → stays c t n ≡ true
      → Valid c t (below c t (At n)) a → Valid c t ks f → Valid c t (Child n ∷ ks) (stay a f)
  -- or a tree that it lists is adjoined, with a derivation of that tree
  v_adjoined : {t n β : ℕ} {ks : List Next} {r a f : Derivation} → adjoinable (node_in c t n).kind ≡ true → listed c t n β ≡ true
      → Valid c β (tree_row c β) r → Valid c t (below c t (At n)) a → Valid c t ks f → Valid c t (Child n ∷ ks) (adjoin β r a f)

-- A derivation of the grammar is one of a tree that may start.
pub record Derives (c : Contents) (t : ℕ) (f : Derivation) : Type 0 where
  pub starts : may_start c t ≡ true
  pub valid : Valid c t (tree_row c t) f
