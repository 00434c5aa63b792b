-- What one field adds to what was read before it, by the rules of the format.
use Rattle.std.proofs.Common.{◌≡◌, ℕ, suc, ◌+◌, ◌<◌, ◌≤◌, ◌⊎◌, List, [], ◌∷◌, length, get_or, set, None, Ok}
use Rattle.format.specs.declared.node.Tree.{Tree}
use Rattle.format.specs.declared.node.Form.{Form}
use Rattle.format.specs.declared.node.Form.TheVariants.{Auxiliary}
use Rattle.format.specs.declared.stage.Phase.TheVariants.{Trees}
use Rattle.format.specs.Trees.{size}
use Rattle.format.specs.Parts.{pair, no_tree, no_node, label_of_kind, constrained, slot}
use Rattle.format.specs.Judge.{State, add_tree, judge_tree, judge_header, judge_adjoining, with_nodes, constraint_of}
use Rattle.format.specs.Format.{Spells, Elementary, as_row, preorder, TreeRules, Adjoinable}

-- The bytes are the preorder of the tree, the tree keeps the rules, and it has room in what was read so far.
pub record TreeBody (s : State) (t : Elementary) (body : List ℕ) : Type 0 where
  pub rules : TreeRules s.labels s.words t
  pub bytes : Spells (preorder t) body
  pub trees_fit : length s.trees < 64
  pub nodes_fit : length s.nodes + size (as_row t) ≤ 256

-- A tree field is taken exactly when its body is the preorder of one tree by the rules, and that tree is what is added.
abbrev pub TreeExact : Type 0
TreeExact = (s u : State) (f : Form) (body : List ℕ)
    → (judge_tree s f body ≡ Ok u → (t : Elementary) × (t.form ≡ f) × TreeBody s t body × (u ≡ add_tree s f (as_row t)))
    × ((t : Elementary) → t.form ≡ f → TreeBody s t body → judge_tree s f body ≡ Ok (add_tree s f (as_row t)))

-- The header: a number of labels and a number of words, neither zero.
abbrev pub HeaderTaken : State → List ℕ → State → Type 0
HeaderTaken s body u =
    (labels : ℕ) × (high : ℕ) × (low : ℕ) × (body ≡ labels ∷ (high ∷ (low ∷ []))) × (0 < labels) × (0 < pair high low)
    × (u ≡ record { phase = Trees; labels = labels; words = pair high low; trees = s.trees; nodes = s.nodes })

abbrev pub HeaderExact : Type 0
HeaderExact = (s u : State) (body : List ℕ) → (judge_header s body ≡ Ok u → HeaderTaken s body u) × (HeaderTaken s body u → judge_header s body ≡ Ok u)

-- Rising numbers, from `least` on, of auxiliary trees with the label.
abbrev pub Listed : List Tree → ℕ → ℕ → List ℕ → Type 0
Listed ts l least [] = Unit {0}
Listed ts l least (b ∷ bs) =
    (least ≤ b) × (b < length ts) × ((get_or ts b no_tree).form ≡ Auxiliary) × ((get_or ts b no_tree).label ≡ l) × Listed ts l (suc b) bs

-- Optional, or obligatory with a tree to adjoin.
abbrev pub Choice : ℕ → List ℕ → Type 0
Choice p bs = (p ≡ 1) ⊎ ((p ≡ 0) × (0 < length bs))

-- An adjoining field names a node that is there, may be adjoined to and has no constraint yet.
abbrev pub ConstraintTaken : State → List ℕ → State → Type 0
ConstraintTaken s body u =
    (t : ℕ) × (n : ℕ) × (p : ℕ) × (bs : List ℕ) × (body ≡ t ∷ (n ∷ (p ∷ bs)))
    × (t < length s.trees) × (n < (get_or s.trees t no_tree).size)
    × Adjoinable (get_or s.nodes (slot s.trees t n) no_node).kind × ((get_or s.nodes (slot s.trees t n) no_node).constraint ≡ None)
    × Choice p bs × Listed s.trees (label_of_kind (get_or s.nodes (slot s.trees t n) no_node).kind) 0 bs
    × (u ≡ with_nodes s (set s.nodes (slot s.trees t n) (constrained (get_or s.nodes (slot s.trees t n) no_node) (constraint_of p bs))))

abbrev pub ConstraintExact : Type 0
ConstraintExact = (s u : State) (body : List ℕ) → (judge_adjoining s body ≡ Ok u → ConstraintTaken s body u) × (ConstraintTaken s body u → judge_adjoining s body ≡ Ok u)
