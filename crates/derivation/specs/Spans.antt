-- What an item says: its part of the tree has a derivation that spans its positions, with its gap at the foot.
use Rattle.std.specs.Prelude.{◌≡◌, ℕ, true, List, [], ◌∷◌, ◌++◌, take}
use Rattle.format.specs.declared.node.Kind.TheVariants.{Word, Empty}
use Rattle.format.specs.declared.spot.Spot.TheVariants.{At}
use Rattle.format.specs.declared.spot.Next.{Next}
use Rattle.format.specs.declared.spot.Next.TheVariants.{Bottom, Child}
use Rattle.format.specs.Parts.{Contents}
use Rattle.format.specs.Judge.{adjoinable}
use Rattle.format.specs.Keeps.{node_in}
use Rattle.words.specs.Meaning.{Meaning}
use Rattle.steps.specs.declared.item.Item.{Item}
use Rattle.steps.specs.Items.{missing, joined}
use Rattle.steps.specs.Conclusions.{stays, listed}
use Rattle.derivation.specs.Derivations.{Derivation, done, stay, adjoin, below, tree_row}

-- the positions that feet span, in order
abbrev pub Gaps : Type 0
Gaps = List (ℕ × ℕ)

-- A derivation of a row of tree t spans i to j, with these gaps at its feet. A tree adjoined at a node has one gap, which the node's
-- content spans.
pub data Spans (c : Contents) (m : Meaning) : ℕ → List Next → Derivation → ℕ → ℕ → Gaps → Type 0 where
  s_done : {t i : ℕ} → Spans c m t [] done i i []
  s_word : {t n w : ℕ} {ks : List Next} {f : Derivation} {i k j : ℕ} {gs : Gaps} → (node_in c t n).kind ≡ Word w → m.edge i w k ≡ true
      → Spans c m t ks f k j gs → Spans c m t (Child n ∷ ks) (stay done f) i j gs
  s_empty : {t n : ℕ} {ks : List Next} {f : Derivation} {i j : ℕ} {gs : Gaps} → (node_in c t n).kind ≡ Empty
      → Spans c m t ks f i j gs → Spans c m t (Child n ∷ ks) (stay done f) i j gs
  s_bottom : {t : ℕ} {ks : List Next} {f : Derivation} {i k j : ℕ} {gs : Gaps} → Spans c m t ks f k j gs
      → Spans c m t (Bottom ∷ ks) (stay done f) i j ((i, k) ∷ gs)
  s_plain : {t n : ℕ} {ks : List Next} {a f : Derivation} {i k j : ℕ} {gs hs : Gaps} → adjoinable (node_in c t n).kind ≡ true
      → stays c t n ≡ true → Spans c m t (below c t (At n)) a i k gs → Spans c m t ks f k j hs
      → Spans c m t (Child n ∷ ks) (stay a f) i j (gs ++ hs)
  s_adjoined : {t n β : ℕ} {ks : List Next} {r a f : Derivation} {i l j p q : ℕ} {gs hs : Gaps} → adjoinable (node_in c t n).kind ≡ true
      → listed c t n β ≡ true → Spans c m β (tree_row c β) r i l ((p, q) ∷ []) → Spans c m t (below c t (At n)) a p q gs
      → Spans c m t ks f l j hs → Spans c m t (Child n ∷ ks) (adjoin β r a f) i j (gs ++ hs)

-- the foot positions that an item has for its gaps
abbrev pub starts_of : Gaps → ℕ
starts_of [] = missing
starts_of (g ∷ gs) = joined g.0 (starts_of gs)

abbrev pub ends_of : Gaps → ℕ
ends_of [] = missing
ends_of (g ∷ gs) = joined g.1 (ends_of gs)

-- a derivation of the row spans i to j, with the foot positions p and q
abbrev pub Part : Contents → Meaning → Derivation → ℕ → List Next → ℕ → ℕ → ℕ → ℕ → Type 0
Part c m f t ks i j p q = (gs : Gaps) × Spans c m t ks f i j gs × (starts_of gs ≡ p) × (ends_of gs ≡ q)

-- the same of the siblings before an item's dot
abbrev pub Means : Contents → Meaning → Derivation → Item → Type 0
Means c m f x = Part c m f x.tree (take x.dot (below c x.tree x.spot)) x.i x.j x.p x.q
