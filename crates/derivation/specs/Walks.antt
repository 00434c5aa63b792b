-- The walk through a derivation, which gives both its yield and its certificate.
use Rattle.std.specs.Prelude.{ℕ, suc, Bool, cond, List, [], ◌∷◌, ◌++◌}
use Rattle.format.specs.declared.node.Kind.{Kind}
use Rattle.format.specs.declared.node.Kind.TheVariants.{Inner, Word, Empty, Foot}
use Rattle.format.specs.declared.spot.Spot.TheVariants.{At}
use Rattle.format.specs.declared.spot.Next.{Next}
use Rattle.format.specs.declared.spot.Next.TheVariants.{End, Bottom, Child}
use Rattle.format.specs.Parts.{Contents}
use Rattle.format.specs.Keeps.{node_in, taken_trees, any}
use Rattle.words.specs.Meaning.{Meaning}
use Rattle.words.specs.Paths.{Admits}
use Rattle.derivation.specs.Derivations.{Derivation, done, stay, adjoin, below, tree_row, Derives}

-- what the walk meets: a choice, with its number, or a word
pub data Event : Type 0 where
  choice : ℕ → Event
  word : ℕ → Event

-- a choice node is one whose list is not empty
abbrev pub is_choice : Contents → ℕ → ℕ → Bool
is_choice c t n = any (taken_trees (node_in c t n).constraint)

-- what is met at a node that stays as it is, before its content: number 0 at a choice node, and the word of a leaf
abbrev pub met_kind : Kind → Bool → List Event
met_kind (Inner l) b = cond b (choice 0 ∷ []) []
met_kind (Word w) b = word w ∷ []
met_kind Empty b = []
met_kind (Foot l) b = cond b (choice 0 ∷ []) []

-- at the bottom of a foot comes the content of the node adjoined to
abbrev pub met : Contents → ℕ → Next → List Event → List Event
met c t End content = []
met c t Bottom content = content
met c t (Child n) content = met_kind (node_in c t n).kind (is_choice c t n)

abbrev pub first_in : List Next → Next
first_in [] = End
first_in (k ∷ ks) = k

abbrev pub later_in : List Next → List Next
later_in [] = []
later_in (k ∷ ks) = ks

abbrev pub below_next : Contents → ℕ → Next → List Next
below_next c t End = []
below_next c t Bottom = []
below_next c t (Child n) = below c t (At n)

-- The events of a row of tree t, in order, with this content at the foot. At a node with a tree adjoined comes that tree's number plus 1,
-- then the walk through that tree from its root on, with the node's own content at that tree's foot.
abbrev pub walk : Contents → ℕ → List Next → Derivation → List Event → List Event
walk c t ks done content = []
walk c t ks (stay a f) content =
    met c t (first_in ks) content ++ (walk c t (below_next c t (first_in ks)) a content ++ walk c t (later_in ks) f content)
walk c t ks (adjoin β r a f) content =
    choice (suc β) ∷ (walk c β (tree_row c β) r (walk c t (below_next c t (first_in ks)) a content) ++ walk c t (later_in ks) f content)

-- the words that are met
abbrev pub words_met : List Event → List ℕ
words_met [] = []
words_met (choice k ∷ es) = words_met es
words_met (word w ∷ es) = w ∷ words_met es

-- the choices that are met
abbrev pub choices_met : List Event → List ℕ
choices_met [] = []
choices_met (choice k ∷ es) = k ∷ choices_met es
choices_met (word w ∷ es) = choices_met es

-- A derivation of tree t that may start has no foot, and so no content there.
abbrev pub events : Contents → ℕ → Derivation → List Event
events c t f = walk c t (tree_row c t) f []

abbrev pub yield : Contents → ℕ → Derivation → List ℕ
yield c t f = words_met (events c t f)

-- the number of the initial tree, then a number for each choice node: 0 where it stays as it is, else the number of the tree adjoined plus 1
abbrev pub certificate : Contents → ℕ → Derivation → List ℕ
certificate c t f = t ∷ choices_met (events c t f)

-- a derivation of the grammar, with a yield that the source admits
pub record Derived (c : Contents) (m : Meaning) : Type 0 where
  pub tree : ℕ
  pub derivation : Derivation
  pub derives : Derives c tree derivation
  pub admitted : Admits m (yield c tree derivation)
