-- A grammar with a description by the rules keeps the rules as the table has them.
use Rattle.std.proofs.Common.{◌≡◌, ℕ, zero, suc, ◌+◌, ◌<◌, ◌≤◌, Bool, true, false, ◌||◌, ◌⊎◌, List, [], ◌∷◌, ◌++◌, length, get_or, take, drop, set, replicate, is_some as option_is_some, Some, None, Option, sym, refl, ap, ◌∙◌, subst, inl, inr, arith, length-set, get_or-drop, take_all, get_or-set_other, get_or-take, get_or-set_same}
use Rattle.std.proofs.lemmas.Grind.{common_steps}
use Rattle.std.proofs.lemmas.List.Elements.{All-get_or, All-from_recursion}
use native.Mathlib.Decide.{dec_lt}
use lib.ListN.{get_or-eq_default}
use lib.Seq.{take-append-le}
use Rattle.std.specs.List.{AllByRecursion}
use Rattle.std.proofs.lemmas.Bool.{cases_eq}
use Rattle.format.specs.declared.node.Kind.{Kind}
use Rattle.format.specs.declared.node.Kind.TheVariants.{Inner, Word, Empty, Foot}
use Rattle.format.specs.declared.node.Form.{Form}
use Rattle.format.specs.declared.node.Form.TheVariants.{Initial, Auxiliary}
use Rattle.format.specs.declared.node.Obligation.{Obligation}
use Rattle.format.specs.declared.node.Obligation.TheVariants.{Optional, Obligatory}
use Rattle.format.specs.declared.node.Constraint.{Constraint}
use Rattle.format.specs.declared.node.Node.{Node}
use Rattle.format.specs.declared.node.Tree.{Tree}
use Rattle.format.specs.Trees.{Row, none, node, trees_in, size, Entry, lay, plain_node}
use Rattle.format.specs.Parts.{Contents, no_tree, no_node, label_of_kind, feet_before, feet, no_list, mark, constrained, slot}
use Rattle.format.specs.Judge.{is_auxiliary, adjoinable}
use Rattle.format.specs.Ends.{bare, bares}
use Rattle.format.specs.Layout.{pass, Nested}
use Rattle.format.specs.Format.{Elementary, as_row, preorder, Named, Arity, Footed, TreeRules, no_entry, tree_at, kind_at, sizes, trees_from, laid_out, Adjoining, Adjoinable, Takes, CanMeet, AdjoiningRules, Description, Rules, constrain, constrain_all, constraint_by, contents_of, Described, name_of}
use Rattle.format.specs.Keeps.{tree_in, nodes_in, node_in, is_inner, is_foot, is_optional, may_stay, taken_trees, lists, any, foot_of, foot_count, least_name, most_name, feet_due, Keeps}
use Rattle.format.proofs.Cases.{nothing}
use Rattle.format.proofs.Laying.{length_lay, bares_lay}
use Rattle.format.proofs.Layouts.{all_nested}
use Rattle.format.proofs.Placed.{before, placed, length_trees_from, length_laid_out, tree_placed, slot_is, within, one_place, length_flatten, getD_bares, laid_out_bare}
use Rattle.format.proofs.Constrained.{length_constrain_all}
use Rattle.format.proofs.AdjoiningSteps.{node_size}
use Rattle.format.proofs.GrammarExact.{is_some}

-- Nodes without their constraints -------------------------------------------------------------------------------------

abbrev erase : Node → Node
erase v = plain_node v.kind v.children v.end

abbrev erases : List Node → List Node
erases [] = []
erases (v ∷ vs) = erase v ∷ erases vs

length_erases : (ns : List Node) → length (erases ns) ≡ length ns
length_erases [] = refl
length_erases (v ∷ ns) = ap suc (length_erases ns)

erases_++ : (ns ms : List Node) → erases (ns ++ ms) ≡ erases ns ++ erases ms
erases_++ [] ms = refl
erases_++ (v ∷ ns) ms = ap (λ (l : List Node). erase v ∷ l) (erases_++ ns ms)

erases_lay : (i : ℕ) (r : Row) → erases (lay i r) ≡ lay i r
erases_lay i none = refl
erases_lay i (node k kids rest) =
    ap (λ (l : List Node). plain_node k (trees_in kids) (suc i + size kids) ∷ l)
    (erases_++ (lay (suc i) kids) (lay (suc i + size kids) rest)
    ∙ (ap (λ (l : List Node). l ++ erases (lay (suc i + size kids) rest)) (erases_lay (suc i) kids)
    ∙ ap (λ (l : List Node). lay (suc i) kids ++ l) (erases_lay (suc i + size kids) rest)))

erases_laid_out : (ts : List Elementary) → erases (laid_out ts) ≡ laid_out ts
erases_laid_out [] = refl
erases_laid_out (t ∷ ts) =
    erases_++ (lay 0 (as_row t)) (laid_out ts)
    ∙ (ap (λ (l : List Node). l ++ erases (laid_out ts)) (erases_lay 0 (as_row t)) ∙ ap (λ (l : List Node). lay 0 (as_row t) ++ l) (erases_laid_out ts))

erases_set : (ns : List Node) (i : ℕ) (c : Constraint) → erases (set ns i (constrained (get_or ns i no_node) c)) ≡ erases ns
erases_set [] i c = refl
erases_set (v ∷ ns) zero c = refl
erases_set (v ∷ ns) (suc i) c = ap (λ (l : List Node). erase v ∷ l) (erases_set ns i c)

erases_constrain_all : (ts : List Tree) (xs : List Adjoining) (ns : List Node) → erases (constrain_all ts xs ns) ≡ erases ns
erases_constrain_all ts [] ns = refl
erases_constrain_all ts (x ∷ xs) ns = erases_constrain_all ts xs (constrain ts x ns) ∙ erases_set ns (slot ts x.tree x.node) (constraint_by x)

erases_drop : (k : ℕ) (ns : List Node) → erases (drop k ns) ≡ drop k (erases ns)
erases_drop zero ns = refl
erases_drop (suc k) [] = refl
erases_drop (suc k) (v ∷ ns) = erases_drop k ns

erases_take : (k : ℕ) (ns : List Node) → erases (take k ns) ≡ take k (erases ns)
erases_take zero ns = refl
erases_take (suc k) [] = refl
erases_take (suc k) (v ∷ ns) = ap (λ (l : List Node). erase v ∷ l) (erases_take k ns)

getD_erases : (ns : List Node) (i : ℕ) → get_or (erases ns) i (erase no_node) ≡ erase (get_or ns i no_node)
getD_erases [] i = refl
getD_erases (v ∷ ns) zero = refl
getD_erases (v ∷ ns) (suc i) = getD_erases ns i

-- the nodes of tree t, where the trees are laid out
part_of : (ts : List Elementary) (t : ℕ) → t < length ts → take (size (as_row (tree_at ts t))) (drop (before ts t) (laid_out ts)) ≡ lay 0 (as_row (tree_at ts t))
part_of [] t h = absurd (omega arith)
part_of (x ∷ ts) zero h =
    take-append-le (size (as_row x)) (lay 0 (as_row x)) (laid_out ts) (omega (arith, length_lay 0 (as_row x))) ∙ take_all (size (as_row x)) (lay 0 (as_row x)) (omega (arith, length_lay 0 (as_row x)))
part_of (x ∷ ts) (suc t) h =
    ap (take (size (as_row (tree_at ts t)))) (dropped (lay 0 (as_row x)) (laid_out ts) (size (as_row x)) (before ts t) (length_lay 0 (as_row x))) ∙ part_of ts t (omega arith)
  where
    dropped : (xs ys : List Node) (n k : ℕ) → length xs ≡ n → drop (n + k) (xs ++ ys) ≡ drop k ys
    dropped [] ys n k e = ap (λ (m : ℕ). drop m ys) (omega arith)
    dropped (y ∷ xs) ys zero k e = absurd (omega arith)
    dropped (y ∷ xs) ys (suc n) k e = ap (λ (m : ℕ). drop m (y ∷ (xs ++ ys))) (let q : suc n + k ≡ suc (n + k) = omega arith in q) ∙ dropped xs ys n k (omega arith)

-- Lookups ---------------------------------------------------------------------------------------------------------------

all_at : {X : Type 0} (P : X → Type 0) (xs : List X) (d : X) (n : ℕ) → AllByRecursion P xs → n < length xs → P (get_or xs n d)
all_at P xs d n h l = All-get_or P xs n d l (All-from_recursion P xs h)

-- ends are followed alike with and without constraints
pass_erases : (vs : List Node) (k i : ℕ) → pass (erases vs) k i ≡ pass vs k i
pass_erases vs zero i = refl
pass_erases vs (suc k) i = ap (λ (v : Node). pass (erases vs) k v.end) (getD_erases vs i) ∙ pass_erases vs k (get_or vs i no_node).end

nested_erases : (vs : List Node) (n : ℕ) → Nested (erases vs) n → Nested vs n
nested_erases vs n h =
    let end-at : (i : ℕ) → (get_or (erases vs) i no_node).end ≡ (get_or vs i no_node).end = λ i. ap (λ (v : Node). v.end) (getD_erases vs i) in
    let count : (get_or (erases vs) n no_node).children ≡ (get_or vs n no_node).children = ap (λ (v : Node). v.children) (getD_erases vs n) in
    let e = end-at n in
    let b = h.behind in
    let w = h.within in
    record {
      behind = omega arith;
      within = omega (arith, length_erases vs);
      subtrees = λ k a l. let r = h.subtrees k a (omega arith) in let q = end-at k in omega arith;
      children = sym (pass_erases vs (get_or vs n no_node).children (suc n)) ∙ (ap (λ (m : ℕ). pass (erases vs) m (suc n)) (sym count) ∙ (h.children ∙ e));
      child = λ k l. let r = h.child k (omega (arith, count)) in let q = pass_erases vs k (suc n) in omega arith;
    }

bares_erases : (vs : List Node) → bares (erases vs) ≡ bares vs
bares_erases [] = refl
bares_erases (v ∷ vs) = ap (λ (l : List Entry). bare v ∷ l) (bares_erases vs)

-- Feet ------------------------------------------------------------------------------------------------------------------

count_feet : (vs : List Node) → foot_count vs ≡ length (feet (bares vs))
count_feet [] = refl
count_feet (v ∷ vs) = by v.kind (count_feet vs)
  where
    by : (k : Kind) → foot_count vs ≡ length (feet (bares vs)) → foot_of k + foot_count vs ≡ length (feet_before k (feet (bares vs)))
    by (Inner l) e = omega arith
    by (Word w) e = omega arith
    by Empty e = omega arith
    by (Foot l) e = omega arith

foot_among : (P : ℕ → Type 0) (es : List Entry) (n : ℕ) → AllByRecursion P (feet es) → n < length es → is_foot (get_or es n no_entry).kind ≡ true → P (label_of_kind (get_or es n no_entry).kind)
foot_among P [] n h l e = absurd (omega arith)
foot_among P (x ∷ es) zero h l e = by x.kind h e
  where
    by : (k : Kind) → AllByRecursion P (feet_before k (feet es)) → is_foot k ≡ true → P (label_of_kind k)
    by (Inner l) h e = nothing (let z : ◌≡◌ {A = ℕ} 0 1 = cc in z)
    by (Word w) h e = nothing (let z : ◌≡◌ {A = ℕ} 0 1 = cc in z)
    by Empty h e = nothing (let z : ◌≡◌ {A = ℕ} 0 1 = cc in z)
    by (Foot l) h e = h.0
foot_among P (x ∷ es) (suc n) h l e = foot_among P es n (by x.kind h) (omega arith) e
  where
    by : (k : Kind) → AllByRecursion P (feet_before k (feet es)) → AllByRecursion P (feet es)
    by (Inner l) h = h
    by (Word w) h = h
    by Empty h = h
    by (Foot l) h = h.1

feet_count_due : (f : Form) (l : ℕ) (fs : List ℕ) → Footed f l fs → length fs ≡ feet_due f
feet_count_due Initial l fs h = ap length h
feet_count_due Auxiliary l fs h = ap length h

feet_labelled : (f : Form) (l : ℕ) (fs : List ℕ) → Footed f l fs → AllByRecursion (λ x. x ≡ l) fs
feet_labelled Initial l fs h = subst (AllByRecursion (λ x. x ≡ l)) (sym h) tt
feet_labelled Auxiliary l fs h = subst (AllByRecursion (λ x. x ≡ l)) (sym h) (refl, tt)

-- Kinds -----------------------------------------------------------------------------------------------------------------

named_least : (l w : ℕ) (k : Kind) → Named l w k → (least_name k ≤ name_of k) × (name_of k ≤ most_name l w k)
named_least l w (Inner x) h = (h.0, h.1)
named_least l w (Word x) h = (h.0, h.1)
named_least l w Empty h = (omega arith, omega arith)
named_least l w (Foot x) h = (h.0, h.1)

arity_inner : (k : Kind) (n : ℕ) → Arity k n → is_inner k ≡ true → (0 < n) × (n ≤ 8)
arity_inner (Inner l) n h e = h
arity_inner (Word w) n h e = nothing (let z : ◌≡◌ {A = ℕ} 0 1 = cc in z)
arity_inner Empty n h e = nothing (let z : ◌≡◌ {A = ℕ} 0 1 = cc in z)
arity_inner (Foot l) n h e = nothing (let z : ◌≡◌ {A = ℕ} 0 1 = cc in z)

arity_leaf : (k : Kind) (n : ℕ) → Arity k n → is_inner k ≡ false → n ≡ 0
arity_leaf (Inner l) n h e = nothing (let z : ◌≡◌ {A = ℕ} 0 1 = cc in z)
arity_leaf (Word w) n h e = h
arity_leaf Empty n h e = h
arity_leaf (Foot l) n h e = h

is_adjoinable : (k : Kind) → Adjoinable k → adjoinable k ≡ true
is_adjoinable (Inner l) h = refl
is_adjoinable (Word w) h = elim h [ ]
is_adjoinable Empty h = elim h [ ]
is_adjoinable (Foot l) h = refl

-- Sets of trees -----------------------------------------------------------------------------------------------------------

none_listed : (n b : ℕ) → get_or (replicate n false) b false ≡ false
none_listed n b = grind (arith, common_steps)

abbrev Suits : List Elementary → ℕ → ℕ → Type 0
Suits ts l b = (b < length ts) × ((tree_at ts b).form ≡ Auxiliary) × ((tree_at ts b).label ≡ l)

marked : (ts : List Elementary) (l least : ℕ) (bs : List ℕ) (s : List Bool) (b : ℕ) → Takes ts l least bs → get_or (mark bs s) b false ≡ true → (get_or s b false ≡ true) ⊎ Suits ts l b
marked ts l least [] s b h e = inl e
marked ts l least (x ∷ bs) s b h e = by (marked ts l (suc x) bs (set s x true) b h.4 e) (cases_eq b x)
  where
    by : (get_or (set s x true) b false ≡ true) ⊎ Suits ts l b → (b ≡ x) ⊎ (b ≡ x → ⊥) → (get_or s b false ≡ true) ⊎ Suits ts l b
    by (inr q) d = inr q
    by (inl q) (inl same) = inr (subst (Suits ts l) (sym same) (h.1, h.2, h.3))
    by (inl q) (inr ne) = inl (sym (get_or-set_other s x b true false ne) ∙ q)

any_set : (s : List Bool) (i : ℕ) → any s ≡ true → any (set s i true) ≡ true
any_set [] i h = h
any_set (b ∷ s) zero h = refl
any_set (b ∷ s) (suc i) h = by b h (any_set s i)
  where
    by : (b : Bool) → (b || any s) ≡ true → (any s ≡ true → any (set s i true) ≡ true) → (b || any (set s i true)) ≡ true
    by true h again = refl
    by false h again = again h

any_new : (s : List Bool) (i : ℕ) → i < length s → any (set s i true) ≡ true
any_new [] i h = absurd (omega arith)
any_new (b ∷ s) zero h = refl
any_new (b ∷ s) (suc i) h = by b (any_new s i (omega arith))
  where
    by : (b : Bool) → any (set s i true) ≡ true → (b || any (set s i true)) ≡ true
    by true q = refl
    by false q = q

any_mark : (bs : List ℕ) (s : List Bool) → any s ≡ true → any (mark bs s) ≡ true
any_mark [] s h = h
any_mark (b ∷ bs) s h = any_mark bs (set s b true) (any_set s b h)

some_mark : (ts : List Elementary) (l : ℕ) (bs : List ℕ) → 0 < length bs → Takes ts l 0 bs → length ts ≤ 64 → any (mark bs no_list) ≡ true
some_mark ts l [] h k few = absurd (omega arith)
some_mark ts l (b ∷ bs) h k few = any_mark bs (set no_list b true) (any_new no_list b (let q = k.1 in omega arith))

met : (o : Obligation) (ts : List Elementary) (l : ℕ) (bs : List ℕ) → is_optional o ≡ false → CanMeet o bs → Takes ts l 0 bs → length ts ≤ 64 → any (mark bs no_list) ≡ true
met Optional ts l bs e m k few = nothing (let z : ◌≡◌ {A = ℕ} 0 1 = cc in z)
met Obligatory ts l bs e m k few = some_mark ts l bs m k few

-- Where a constraint comes from --------------------------------------------------------------------------------------------

-- what is read where a constraint was just set
set_read : (ns : List Node) (i : ℕ) (c k : Constraint) → (get_or (set ns i (constrained (get_or ns i no_node) c)) i no_node).constraint ≡ Some k → c ≡ k
set_read ns i c k q = by (dec_lt i (length ns))
  where
    by : Dec (i < length ns) → c ≡ k
    by (yes l) =
        let e : (get_or (set ns i (constrained (get_or ns i no_node) c)) i no_node).constraint ≡ Some c = ap (λ (v : Node). v.constraint) (get_or-set_same ns i (constrained (get_or ns i no_node) c) no_node l) in
        cc
    by (no l) =
        let long = length-set ns i (constrained (get_or ns i no_node) c) in
        let e : (get_or (set ns i (constrained (get_or ns i no_node) c)) i no_node).constraint ≡ None
        = ap (λ (v : Node). v.constraint) (get_or-eq_default (set ns i (constrained (get_or ns i no_node) c)) no_node (omega arith)) in
        nothing (let z : ◌≡◌ {A = ℕ} 0 1 = cc in z)

abbrev From : (Adjoining → Type 0) → List Tree → ℕ → Constraint → Type 0
From P us i k = (x : Adjoining) × P x × (i ≡ slot us x.tree x.node) × (constraint_by x ≡ k)

origin : (P : Adjoining → Type 0) (us : List Tree) (xs : List Adjoining) (ns : List Node) (i : ℕ) (k : Constraint) → AllByRecursion P xs → (get_or (constrain_all us xs ns) i no_node).constraint ≡ Some k
    → ((get_or ns i no_node).constraint ≡ Some k) ⊎ From P us i k
origin P us [] ns i k h e = inl e
origin P us (x ∷ xs) ns i k h e = by (origin P us xs (constrain us x ns) i k h.1 e) (cases_eq i (slot us x.tree x.node))
  where
    by : ((get_or (constrain us x ns) i no_node).constraint ≡ Some k) ⊎ From P us i k → (i ≡ slot us x.tree x.node) ⊎ (i ≡ slot us x.tree x.node → ⊥)
        → ((get_or ns i no_node).constraint ≡ Some k) ⊎ From P us i k
    by (inr q) d = inr q
    by (inl q) (inr ne) = inl (ap (λ (v : Node). v.constraint) (sym (get_or-set_other ns (slot us x.tree x.node) i (constrained (get_or ns (slot us x.tree x.node) no_node) (constraint_by x)) no_node ne)) ∙ q)
    by (inl q) (inl same) =
        inr (x, h.0, same, set_read ns (slot us x.tree x.node) (constraint_by x) k (subst (λ (m : ℕ). (get_or (constrain us x ns) m no_node).constraint ≡ Some k) same q))

-- The table of a description ------------------------------------------------------------------------------------------------

module _ (d : Description) (rules : Rules d) where
  abbrev ts : List Elementary
  ts = d.trees

  abbrev us : List Tree
  us = trees_from 0 d.trees

  abbrev ns : List Node
  ns = constrain_all (trees_from 0 d.trees) d.adjoinings (laid_out d.trees)

  abbrev c : Contents
  c = contents_of d

  trees_long : length us ≡ length ts
  trees_long = length_trees_from 0 ts

  nodes_long : length ns ≡ sizes ts
  nodes_long = length_constrain_all us d.adjoinings (laid_out ts) ∙ length_laid_out ts

  -- a tree that is there
  module _ (t : ℕ) (h : t < length d.trees) where
    at_tree : tree_in c t ≡ placed (0 + before ts t) (tree_at ts t)
    at_tree = tree_placed 0 ts t h

    starts : (tree_in c t).start ≡ before ts t
    starts = ap (λ (u : Tree). u.start) at_tree ∙ (let e : 0 + before ts t ≡ before ts t = omega arith in e)

    sized : (tree_in c t).size ≡ size (as_row (tree_at ts t))
    sized = ap (λ (u : Tree). u.size) at_tree

    laid : erases (nodes_in c t) ≡ lay 0 (as_row (tree_at ts t))
    laid =
        ap (λ (n : ℕ). erases (take n (drop (tree_in c t).start ns))) sized
        ∙ (ap (λ (n : ℕ). erases (take (size (as_row (tree_at ts t))) (drop n ns))) starts
        ∙ (erases_take (size (as_row (tree_at ts t))) (drop (before ts t) ns)
        ∙ (ap (take (size (as_row (tree_at ts t)))) (erases_drop (before ts t) ns ∙ ap (drop (before ts t)) (erases_constrain_all us d.adjoinings (laid_out ts) ∙ erases_laid_out ts))
        ∙ part_of ts t h)))

    long : length (nodes_in c t) ≡ size (as_row (tree_at ts t))
    long = sym (length_erases (nodes_in c t)) ∙ (ap length laid ∙ length_lay 0 (as_row (tree_at ts t)))

    entries : bares (nodes_in c t) ≡ preorder (tree_at ts t)
    entries = sym (bares_erases (nodes_in c t)) ∙ (ap bares laid ∙ bares_lay 0 (as_row (tree_at ts t)))

    entry_is : (n : ℕ) → get_or (preorder (tree_at ts t)) n no_entry ≡ bare (node_in c t n)
    entry_is n = ap (λ (es : List Entry). get_or es n no_entry) (sym entries) ∙ getD_bares (nodes_in c t) n

    kind_is : (n : ℕ) → kind_at ts t n ≡ (node_in c t n).kind
    kind_is n = ap (λ (e : Entry). e.kind) (entry_is n)

    nested : (n : ℕ) → n < length (nodes_in c t) → Nested (nodes_in c t) n
    nested n l = nested_erases (nodes_in c t) n (subst (λ (vs : List Node). Nested vs n) (sym laid) (all_nested (as_row (tree_at ts t)) n (omega (arith, long))))

    by_rules : TreeRules d.labels d.words (tree_at ts t)
    by_rules = all_at (TreeRules d.labels d.words) ts _ t rules.trees h

    entry_there : (n : ℕ) → n < length (nodes_in c t) → n < length (preorder (tree_at ts t))
    entry_there n l = omega (arith, long, length_flatten (as_row (tree_at ts t)))

    node_at : (n : ℕ) → n < length (nodes_in c t) → node_in c t n ≡ get_or ns (slot us t n) no_node
    node_at n l =
        get_or-take (tree_in c t).size (drop (tree_in c t).start ns) n no_node (omega (arith, long, sized)) ∙ get_or-drop (tree_in c t).start ns n no_node

    -- a constraint of a node is one of the description's
    constraint_from : (n : ℕ) (k : Constraint) → n < length (nodes_in c t) → (node_in c t n).constraint ≡ Some k → (x : Adjoining) × AdjoiningRules ts x × (x.tree ≡ t) × (x.node ≡ n) × (constraint_by x ≡ k)
    constraint_from n k l e = by (origin (AdjoiningRules ts) us d.adjoinings (laid_out ts) (slot us t n) k rules.adjoinings (ap (λ (v : Node). v.constraint) (sym (node_at n l)) ∙ e))
      where
        by : ((get_or (laid_out ts) (slot us t n) no_node).constraint ≡ Some k) ⊎ From (AdjoiningRules ts) us (slot us t n) k
            → (x : Adjoining) × AdjoiningRules ts x × (x.tree ≡ t) × (x.node ≡ n) × (constraint_by x ≡ k)
        by (inl q) = let b = laid_out_bare ts (slot us t n) in nothing (let z : ◌≡◌ {A = ℕ} 0 1 = cc in z)
        by (inr f) =
            let x = f.0 in
            let r = f.1 in
            let p = one_place ts x.tree x.node t n r.tree_there (omega (arith, node_size ts x.tree, r.node_there)) h (omega (arith, long))
            (sym (slot_is ts x.tree x.node r.tree_there) ∙ (sym f.2 ∙ slot_is ts t n h)) in
            (x, r, p.0, p.1, f.3)

  -- a tree with a node is there
  there : (t n : ℕ) → n < length (nodes_in c t) → t < length ts
  there t n l = by (dec_lt t (length ts))
    where
      by : Dec (t < length ts) → t < length ts
      by (yes h) = h
      by (no h) =
          let e : tree_in c t ≡ no_tree = get_or-eq_default us no_tree (omega (arith, trees_long)) in
          let z : length (nodes_in c t) ≡ 0 = ap (λ (u : Tree). length (take u.size (drop u.start ns))) e in
          absurd (omega arith)

  -- a node with a constraint is there
  node_there : (t n : ℕ) → option_is_some (node_in c t n).constraint ≡ true → n < length (nodes_in c t)
  node_there t n s = by (dec_lt n (length (nodes_in c t)))
    where
      by : Dec (n < length (nodes_in c t)) → n < length (nodes_in c t)
      by (yes h) = h
      by (no h) =
          let e : option_is_some (node_in c t n).constraint ≡ false = ap (λ (v : Node). option_is_some v.constraint) (get_or-eq_default (nodes_in c t) no_node (omega arith)) in
          nothing (let z : ◌≡◌ {A = ℕ} 0 1 = cc in z)

  some_constraint : (o : Option Constraint) → option_is_some o ≡ true → (k : Constraint) × (o ≡ Some k)
  some_constraint None e = nothing (let z : ◌≡◌ {A = ℕ} 0 1 = cc in z)
  some_constraint (Some k) e = (k, refl)

  some_by_list : (o : Option Constraint) (b : ℕ) → lists o b ≡ true → option_is_some o ≡ true
  some_by_list None b e = nothing (let z : ◌≡◌ {A = ℕ} 0 1 = cc in z)
  some_by_list (Some k) b e = refl

  some_by_stay : (o : Option Constraint) → may_stay o ≡ false → option_is_some o ≡ true
  some_by_stay None e = nothing (let z : ◌≡◌ {A = ℕ} 0 1 = cc in z)
  some_by_stay (Some k) e = refl

  constrained_by : (t n : ℕ) → option_is_some (node_in c t n).constraint ≡ true
      → (x : Adjoining) × AdjoiningRules ts x × ((node_in c t n).constraint ≡ Some (constraint_by x)) × (kind_at ts x.tree x.node ≡ (node_in c t n).kind)
  constrained_by t n s =
      let l = node_there t n s in
      let h = there t n l in
      let k = some_constraint (node_in c t n).constraint s in
      let f = constraint_from t h n k.0 l k.1 in
      let x = f.0 in
      (x, f.1, k.1 ∙ ap Some (sym f.4), ap (λ (u : ℕ). kind_at ts u x.node) f.2 ∙ (ap (kind_at ts t) f.3 ∙ kind_is t h n))

  listed : (t n b : ℕ) → lists (node_in c t n).constraint b ≡ true → (b < length us) × (is_auxiliary (tree_in c b).form ≡ true) × ((tree_in c b).label ≡ label_of_kind (node_in c t n).kind)
  listed t n b e =
      let f = constrained_by t n (some_by_list (node_in c t n).constraint b e) in
      let x = f.0 in
      let r = f.1 in
      by (marked ts (label_of_kind (kind_at ts x.tree x.node)) 0 x.takes no_list b r.takes (ap (λ (o : Option Constraint). lists o b) (sym f.2) ∙ e)) (ap label_of_kind f.3)
    where
      by : {l : ℕ} → (get_or no_list b false ≡ true) ⊎ Suits ts l b → l ≡ label_of_kind (node_in c t n).kind
          → (b < length us) × (is_auxiliary (tree_in c b).form ≡ true) × ((tree_in c b).label ≡ label_of_kind (node_in c t n).kind)
      by (inl q) same = let z = none_listed 64 b in nothing (let y : ◌≡◌ {A = ℕ} 0 1 = cc in y)
      by (inr q) same =
          let few = q.0 in
          let e = at_tree b few in
          (omega (arith, trees_long), ap (λ (u : Tree). is_auxiliary u.form) e ∙ ap is_auxiliary q.1, ap (λ (u : Tree). u.label) e ∙ (q.2 ∙ same))

  obliged : (t n : ℕ) → may_stay (node_in c t n).constraint ≡ false → any (taken_trees (node_in c t n).constraint) ≡ true
  obliged t n e =
      let f = constrained_by t n (some_by_stay (node_in c t n).constraint e) in
      let x = f.0 in
      let r = f.1 in
      ap (λ (o : Option Constraint). any (taken_trees o)) f.2
      ∙ met x.obligation ts (label_of_kind (kind_at ts x.tree x.node)) x.takes (ap may_stay (sym f.2) ∙ e) r.can_meet r.takes rules.few_trees

  root_kind : (t : ℕ) (h : t < length ts) → (node_in c t 0).kind ≡ Inner (tree_at ts t).label
  root_kind t h = sym (kind_is t h 0)

  root_ends : (t : ℕ) (h : t < length ts) → (node_in c t 0).end ≡ (tree_in c t).size
  root_ends t h =
      ap (λ (v : Node). v.end) (sym (getD_erases (nodes_in c t) 0) ∙ ap (λ (vs : List Node). get_or vs 0 no_node) (laid t h))
      ∙ ((let e : 1 + size (tree_at ts t).children ≡ size (as_row (tree_at ts t)) = omega arith in e) ∙ sym (sized t h))

  pub keeps_of : Keeps (contents_of d)
  keeps_of = record {
    few = (omega (arith, trees_long, rules.few_trees), omega (arith, nodes_long, rules.few_nodes));
    initial = is_some 0 ts rules.initial.0 rules.initial.1 rules.initial.2;
    whole = λ t l. let h : t < length ts = omega (arith, trees_long) in
        (omega (arith, sized t h), omega (arith, starts t h, sized t h, within ts t h, nodes_long));
    roots = λ t l. let h : t < length ts = omega (arith, trees_long) in
        (ap is_inner (root_kind t h), ap label_of_kind (root_kind t h) ∙ ap (λ (u : Tree). u.label) (sym (at_tree t h)), root_ends t h);
    ends = λ t n l. let q = nested t (there t n l) n l in (q.behind, q.within);
    subtrees = λ t n k p. (nested t (there t n p.0) n p.0).subtrees k p.1 p.2;
    children = λ t n l. (nested t (there t n l) n l).children;
    child_within = λ t n k p. (nested t (there t n p.0) n p.0).child k p.1;
    inner_arity = λ t n p. let l = p.0 in let e = p.1 in let h = there t n l in
        arity_inner (node_in c t n).kind (node_in c t n).children
        (subst (λ (x : Entry). Arity x.kind x.children) (entry_is t h n) (all_at (λ x. Arity x.kind x.children) (preorder (tree_at ts t)) no_entry n (by_rules t h).counted (entry_there t h n l))) e;
    leaf_arity = λ t n p. let l = p.0 in let e = p.1 in let h = there t n l in
        arity_leaf (node_in c t n).kind (node_in c t n).children
        (subst (λ (x : Entry). Arity x.kind x.children) (entry_is t h n) (all_at (λ x. Arity x.kind x.children) (preorder (tree_at ts t)) no_entry n (by_rules t h).counted (entry_there t h n l))) e;
    names = λ t n l. let h = there t n l in
        named_least d.labels d.words (node_in c t n).kind
        (subst (Named d.labels d.words) (kind_is t h n) (all_at (λ x. Named d.labels d.words x.kind) (preorder (tree_at ts t)) no_entry n (by_rules t h).named (entry_there t h n l)));
    feet = λ t l. let h : t < length ts = omega (arith, trees_long) in
        count_feet (nodes_in c t) ∙ (ap (λ (es : List Entry). length (feet es)) (entries t h)
        ∙ (feet_count_due (tree_at ts t).form (tree_at ts t).label (feet (preorder (tree_at ts t))) (by_rules t h).footed ∙ ap (λ (u : Tree). feet_due u.form) (sym (at_tree t h))));
    foot_labels = λ t n p. let l = p.0 in let e = p.1 in let h = there t n l in
        ap label_of_kind (sym (kind_is t h n))
        ∙ (foot_among (λ x. x ≡ (tree_at ts t).label) (preorder (tree_at ts t)) n (feet_labelled (tree_at ts t).form (tree_at ts t).label (feet (preorder (tree_at ts t))) (by_rules t h).footed)
        (entry_there t h n l) (ap is_foot (kind_is t h n) ∙ e)
        ∙ ap (λ (u : Tree). u.label) (sym (at_tree t h)));
    constraints = λ t n s. let f = constrained_by t n s in is_adjoinable (node_in c t n).kind (subst Adjoinable f.3 f.1.adjoinable);
    listed_there = λ t n l. (listed t n l.0 l.1).0;
    listed_auxiliary = λ t n l. (listed t n l.0 l.1).1;
    listed_labels = λ t n l. (listed t n l.0 l.1).2;
    obligations = λ t n e. obliged t n e;
  }

pub keeps : (c : Contents) → Described c → Keeps c
keeps c h = subst Keeps h.2 (keeps_of h.0 h.1)
