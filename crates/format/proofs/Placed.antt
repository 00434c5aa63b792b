-- Where the trees of a description have their nodes in the table.
use Rattle.std.proofs.Common.{◌≡◌, ℕ, zero, suc, ◌+◌, ◌<◌, ◌≤◌, List, [], ◌∷◌, ◌++◌, length, get_or, None, sym, refl, ap, ◌∙◌, append_assoc, append-nil, arith, length-append}
use native.Mathlib.Decide.{dec_lt}
use lib.ListN.{get_or-append}
use Rattle.format.specs.declared.node.Node.{Node}
use Rattle.format.specs.declared.node.Tree.{Tree}
use Rattle.format.specs.Trees.{Row, none, node, size, Entry, flatten, lay}
use Rattle.format.specs.Parts.{no_tree, no_node, slot}
use Rattle.format.specs.Ends.{bare, bares}
use Rattle.format.specs.Format.{Elementary, as_row, preorder, no_entry, tree_at, sizes, trees_from, laid_out}
use Rattle.format.proofs.Laying.{length_lay, bares_++, bares_lay}

-- the tree of the table for a tree of the description whose nodes begin at i
abbrev pub placed : ℕ → Elementary → Tree
placed i t = record { form = t.form; label = t.label; start = i; size = size (as_row t) }

pub length_trees_from : (i : ℕ) (ts : List Elementary) → length (trees_from i ts) ≡ length ts
length_trees_from i [] = refl
length_trees_from i (t ∷ ts) = ap suc (length_trees_from (i + size (as_row t)) ts)

pub length_laid_out : (ts : List Elementary) → length (laid_out ts) ≡ sizes ts
length_laid_out [] = refl
length_laid_out (t ∷ ts) = length-append (lay 0 (as_row t)) (laid_out ts) ∙ (let a = length_lay 0 (as_row t) in let b = length_laid_out ts in omega arith)

pub trees_from_more : (i : ℕ) (ts : List Elementary) (t : Elementary) → trees_from i (ts ++ (t ∷ [])) ≡ trees_from i ts ++ (placed (i + sizes ts) t ∷ [])
trees_from_more i [] t = ap (λ (n : ℕ). placed n t ∷ []) (let e : i ≡ i + 0 = omega arith in e)
trees_from_more i (u ∷ ts) t =
    ap (λ (l : List Tree). placed i u ∷ l)
    (trees_from_more (i + size (as_row u)) ts t
    ∙ ap (λ (n : ℕ). trees_from (i + size (as_row u)) ts ++ (placed n t ∷ [])) (let e : i + size (as_row u) + sizes ts ≡ i + (size (as_row u) + sizes ts) = omega arith in e))

pub laid_out_more : (ts : List Elementary) (t : Elementary) → laid_out (ts ++ (t ∷ [])) ≡ laid_out ts ++ lay 0 (as_row t)
laid_out_more [] t = append-nil (lay 0 (as_row t))
laid_out_more (u ∷ ts) t = ap (λ (l : List Node). lay 0 (as_row u) ++ l) (laid_out_more ts t) ∙ sym (append_assoc (lay 0 (as_row u)) (laid_out ts) (lay 0 (as_row t)))

pub sizes_more : (ts : List Elementary) (t : Elementary) → sizes (ts ++ (t ∷ [])) ≡ sizes ts + size (as_row t)
sizes_more [] t = omega arith
sizes_more (u ∷ ts) t = let e = sizes_more ts t in omega arith

-- how many nodes come before those of tree t
abbrev pub before : List Elementary → ℕ → ℕ
before [] t = 0
before (u ∷ ts) zero = 0
before (u ∷ ts) (suc t) = size (as_row u) + before ts t

pub tree_placed : (i : ℕ) (ts : List Elementary) (t : ℕ) → t < length ts → get_or (trees_from i ts) t no_tree ≡ placed (i + before ts t) (tree_at ts t)
tree_placed i [] t h = absurd (omega arith)
tree_placed i (u ∷ ts) zero h = ap (λ (n : ℕ). placed n u) (let e : i ≡ i + 0 = omega arith in e)
tree_placed i (u ∷ ts) (suc t) h =
    tree_placed (i + size (as_row u)) ts t (omega arith)
    ∙ ap (λ (n : ℕ). placed n (tree_at ts t)) (let e : i + size (as_row u) + before ts t ≡ i + (size (as_row u) + before ts t) = omega arith in e)

pub slot_is : (ts : List Elementary) (t n : ℕ) → t < length ts → slot (trees_from 0 ts) t n ≡ before ts t + n
slot_is ts t n h = ap (λ (u : Tree). u.start + n) (tree_placed 0 ts t h) ∙ (let e : 0 + before ts t + n ≡ before ts t + n = omega arith in e)

-- a tree's nodes end before those of a later tree begin
later : (ts : List Elementary) (t u : ℕ) → t < u → u < length ts → before ts t + size (as_row (tree_at ts t)) ≤ before ts u
later [] t u l h = absurd (omega arith)
later (x ∷ ts) zero zero l h = absurd (omega arith)
later (x ∷ ts) (suc t) zero l h = absurd (omega arith)
later (x ∷ ts) zero (suc u) l h = omega arith
later (x ∷ ts) (suc t) (suc u) l h = let e = later ts t u (omega arith) (omega arith) in omega arith

-- and all end in the table
pub within : (ts : List Elementary) (t : ℕ) → t < length ts → before ts t + size (as_row (tree_at ts t)) ≤ sizes ts
within [] t h = absurd (omega arith)
within (x ∷ ts) zero h = omega arith
within (x ∷ ts) (suc t) h = let e = within ts t (omega arith) in omega arith

-- no two nodes stand at one place
pub one_place : (ts : List Elementary) (t n u m : ℕ) → t < length ts → n < size (as_row (tree_at ts t)) → u < length ts → m < size (as_row (tree_at ts u))
    → before ts t + n ≡ before ts u + m → (t ≡ u) × (n ≡ m)
one_place ts t n u m ht hn hu hm e = by (dec_lt t u) (dec_lt u t)
  where
    by : Dec (t < u) → Dec (u < t) → (t ≡ u) × (n ≡ m)
    by (yes l) d = elim (let k = later ts t u l hu in let f : ⊥ = omega arith in f) [ ]
    by (no a) (yes l) = elim (let k = later ts u t l ht in let f : ⊥ = omega arith in f) [ ]
    by (no a) (no b) =
        let same : t ≡ u = omega arith in
        let k : before ts t ≡ before ts u = ap (before ts) same in
        (same, omega arith)

-- What is read of the nodes -------------------------------------------------------------------------------------------

pub length_flatten : (r : Row) → length (flatten r) ≡ size r
length_flatten none = refl
length_flatten (node k kids rest) =
    ap suc (length-append (flatten kids) (flatten rest) ∙ (let a = length_flatten kids in let b = length_flatten rest in omega arith))

pub getD_bares : (ns : List Node) (i : ℕ) → get_or (bares ns) i no_entry ≡ bare (get_or ns i no_node)
getD_bares [] i = refl
getD_bares (v ∷ ns) zero = refl
getD_bares (v ∷ ns) (suc i) = getD_bares ns i

getD_behind : {X : Type 0} (xs ys : List X) (d : X) (n : ℕ) → get_or (xs ++ ys) (length xs + n) d ≡ get_or ys n d
getD_behind [] ys d n = ap (λ (k : ℕ). get_or ys k d) (let e : 0 + n ≡ n = omega arith in e)
getD_behind (x ∷ xs) ys d n = ap (λ (k : ℕ). get_or (x ∷ (xs ++ ys)) k d) (let e : suc (length xs) + n ≡ suc (length xs + n) = omega arith in e) ∙ getD_behind xs ys d n

-- node n of tree t is what the description says
pub entry_placed : (ts : List Elementary) (t n : ℕ) → t < length ts → n < size (as_row (tree_at ts t)) → get_or (bares (laid_out ts)) (before ts t + n) no_entry ≡ get_or (preorder (tree_at ts t)) n no_entry
entry_placed [] t n h l = absurd (omega arith)
entry_placed (x ∷ ts) zero n h l =
    let long = length_flatten (as_row x) in
    ap (λ (es : List Entry). get_or es (0 + n) no_entry) (bares_++ (lay 0 (as_row x)) (laid_out ts) ∙ ap (λ (es : List Entry). es ++ bares (laid_out ts)) (bares_lay 0 (as_row x)))
    ∙ (ap (λ (k : ℕ). get_or (preorder x ++ bares (laid_out ts)) k no_entry) (let e : 0 + n ≡ n = omega arith in e)
    ∙ get_or-append (preorder x) (bares (laid_out ts)) no_entry n (omega arith))
entry_placed (x ∷ ts) (suc t) n h l =
    let long = length_flatten (as_row x) in
    ap (λ (es : List Entry). get_or es (size (as_row x) + before ts t + n) no_entry) (bares_++ (lay 0 (as_row x)) (laid_out ts) ∙ ap (λ (es : List Entry). es ++ bares (laid_out ts)) (bares_lay 0 (as_row x)))
    ∙ (ap (λ (k : ℕ). get_or (preorder x ++ bares (laid_out ts)) k no_entry) (let e : size (as_row x) + before ts t + n ≡ length (preorder x) + (before ts t + n) = omega arith in e)
    ∙ (getD_behind (preorder x) (bares (laid_out ts)) no_entry (before ts t + n)
    ∙ entry_placed ts t n (omega arith) l))

-- no node of a fresh layout has a constraint
abbrev BareAt : List Node → Type 0
BareAt ns = (i : ℕ) → (get_or ns i no_node).constraint ≡ None

bare_++ : (ns ms : List Node) → BareAt ns → BareAt ms → BareAt (ns ++ ms)
bare_++ [] ms a b i = b i
bare_++ (v ∷ ns) ms a b zero = a 0
bare_++ (v ∷ ns) ms a b (suc i) = bare_++ ns ms (λ k. a (suc k)) b i

bare_lay : (i : ℕ) (r : Row) → BareAt (lay i r)
bare_lay i none k = refl
bare_lay i (node x kids rest) zero = refl
bare_lay i (node x kids rest) (suc k) = bare_++ (lay (suc i) kids) (lay (suc i + size kids) rest) (bare_lay (suc i) kids) (bare_lay (suc i + size kids) rest) k

pub laid_out_bare : (ts : List Elementary) (i : ℕ) → (get_or (laid_out ts) i no_node).constraint ≡ None
laid_out_bare [] i = refl
laid_out_bare (t ∷ ts) i = bare_++ (lay 0 (as_row t)) (laid_out ts) (bare_lay 0 (as_row t)) (laid_out_bare ts) i
