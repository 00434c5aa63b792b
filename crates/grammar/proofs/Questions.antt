-- Questions on nodes that are there, and on nodes that are not.
use Rattle.std.proofs.Common.{◌≡◌, ℕ, zero, suc, Bool, ◌<◌, ◌≤◌, cond, List, [], ◌∷◌, length, get_or, drop, Some, None, refl, ap, ◌∙◌, add-one, arith, length-drop, length-take, lt-ltb, sym}
use Rattle.std.specs.List.{position, position_from}
use Rattle.std.proofs.lemmas.Iterator.Adapters.{position_from-zero}
use native.Mathlib.Nat.{min-le_right}
use Rattle.format.specs.Layout.{pass}
use Rattle.format.specs.Ends.{past}
use Rattle.format.specs.Keeps.{is_foot, tree_in, nodes_in, node_in, Few, Ends, ChildWithin}
use Rattle.format.specs.Questions.{nth, roots_from, foot_from}
use Rattle.format.specs.declared.node.Node.{Node}
use Rattle.format.specs.Parts.{Contents, no_node}

-- ends that stay among the nodes are all found
pub past_within : (vs : List Node) (k i : ℕ) → ((j : ℕ) → j < k → pass vs j i < length vs) → past vs k i ≡ Some (pass vs k i)
past_within vs zero i h = refl
past_within vs (suc k) i h =
    ap (λ (b : Bool). cond b (past vs k (get_or vs i no_node).end) None) (lt-ltb i (length vs) (h 0 (omega arith)))
    ∙ past_within vs k (get_or vs i no_node).end (λ j l. h (suc j) (omega (arith, l)))

-- the child with a number is found by following so many ends
pub nth_root : (vs : List Node) (m k i : ℕ) → k < m → nth (roots_from vs m i) k ≡ Some (pass vs k i)
nth_root vs zero k i h = absurd (omega arith)
nth_root vs (suc m) zero i h = refl
nth_root vs (suc m) (suc k) i h = nth_root vs m k (get_or vs i no_node).end (omega arith)

pub no_root : (vs : List Node) (m k i : ℕ) → m ≤ k → nth (roots_from vs m i) k ≡ None
no_root vs zero k i h = refl
no_root vs (suc m) zero i h = absurd (omega arith)
no_root vs (suc m) (suc k) i h = no_root vs m k (get_or vs i no_node).end (omega arith)

-- the first foot by its place, among nodes that are numbered from n on
foot_by_place : (n : ℕ) (vs : List Node) → position_from (λ v. is_foot v.kind) n vs ≡ foot_from n vs
foot_by_place n [] = refl
foot_by_place n (v ∷ vs) = ap (cond (is_foot v.kind) (Some n)) (ap (λ (k : ℕ). position_from (λ w. is_foot w.kind) k vs) (add-one n) ∙ foot_by_place (suc n) vs)

pub foot_by_position : (vs : List Node) → position (λ v. is_foot v.kind) vs ≡ foot_from 0 vs
foot_by_position vs = position_from-zero (λ v. is_foot v.kind) vs ∙ foot_by_place 0 vs

-- a tree has no more nodes than the table
pub few_nodes : (d : Contents) → Few d → (t : ℕ) → length (nodes_in d t) ≤ 256
few_nodes d few t =
    let a = length-take (tree_in d t).size (drop (tree_in d t).start d.nodes) in
    let b = length-drop (tree_in d t).start d.nodes in
    let m = min-le_right (tree_in d t).size (length (drop (tree_in d t).start d.nodes)) in
    omega (arith, few.1)

-- following ends finds each child, among the nodes
pub child_place : (d : Contents) → ChildWithin d → Ends d → (t n k : ℕ) → n < length (nodes_in d t) → k < (node_in d t n).children
    → (past (nodes_in d t) k (suc n) ≡ nth (roots_from (nodes_in d t) (node_in d t n).children (suc n)) k) × (past (nodes_in d t) k (suc n) ≡ Some (pass (nodes_in d t) k (suc n))) × (pass (nodes_in d t) k (suc n) < length (nodes_in d t))
child_place d within ends t n k h l =
    let e = (ends t n h).1 in
    let each : (j : ℕ) → j ≤ k → pass (nodes_in d t) j (suc n) < length (nodes_in d t) = λ j m. let a = within t n j (h, omega (arith, l, m)) in omega (arith, a, e) in
    let is = past_within (nodes_in d t) k (suc n) (λ j m. each j (omega (arith, m))) in
    (is ∙ sym (nth_root (nodes_in d t) (node_in d t n).children k (suc n) l), is, each k (omega arith))
