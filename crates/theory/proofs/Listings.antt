-- The nodes that list a tree.
use Rattle.std.proofs.Common.{◌≡◌, ℕ, zero, suc, ◌+◌, ◌<◌, ◌≤◌, Bool, true, false, cond, ◌⊎◌, List, [], ◌∷◌, ◌++◌, length, get_or, take, drop, sym, refl, ap, ◌∙◌, subst, inl, inr, add-zero, zero-add, arith}
use native.Mathlib.Decide.{ℕ_discrete, dec_lt}
use lib.ListN.{get_or-eq_default}
use Rattle.format.specs.declared.node.Node.{Node}
use Rattle.format.specs.declared.node.Tree.{Tree}
use Rattle.format.specs.declared.spot.Site.{Site}
use Rattle.format.specs.Parts.{Contents, no_tree, no_node}
use Rattle.format.specs.Keeps.{nodes_in, lists}
use Rattle.format.specs.Questions.{listing_nodes, listing_trees, listing}
use Rattle.steps.specs.Conclusions.{listed}
use Rattle.theory.specs.Members.{Among, here, there}
use Rattle.theory.proofs.Members.{among_left, among_right, among_++}

abbrev site : ℕ → ℕ → Site
site t n = record { tree = t; node = n }

from_cond : (b : Bool) {s x : Site} {xs : List Site} → Among Site s (cond b (x ∷ xs) xs) → ((b ≡ true) × (s ≡ x)) ⊎ Among Site s xs
from_cond true here = inl (refl, refl)
from_cond true (there h) = inr h
from_cond false h = inr h

to_cond_first : {b : Bool} (x : Site) (xs : List Site) → b ≡ true → Among Site x (cond b (x ∷ xs) xs)
to_cond_first {b} x xs e = subst (λ (v : Bool). Among Site x (cond v (x ∷ xs) xs)) (sym e) here

to_cond_rest : (b : Bool) {s : Site} (x : Site) (xs : List Site) → Among Site s xs → Among Site s (cond b (x ∷ xs) xs)
to_cond_rest true x xs h = there h
to_cond_rest false x xs h = h

from_nodes : (b t n : ℕ) (vs : List Node) {s : Site} → Among Site s (listing_nodes b t n vs)
    → (k : ℕ) × (s ≡ site t (n + k)) × (lists (get_or vs k no_node).constraint b ≡ true)
from_nodes b t n [] h = elim h [ ]
from_nodes b t n (v ∷ vs) {s} h = pick (from_cond (lists v.constraint b) h) (λ u. from_nodes b t (suc n) vs u)
  where
    pick : ((lists v.constraint b ≡ true) × (s ≡ site t n)) ⊎ Among Site s (listing_nodes b t (suc n) vs)
        → (Among Site s (listing_nodes b t (suc n) vs) → (k : ℕ) × (s ≡ site t (suc n + k)) × (lists (get_or vs k no_node).constraint b ≡ true))
        → (k : ℕ) × (s ≡ site t (n + k)) × (lists (get_or (v ∷ vs) k no_node).constraint b ≡ true)
    pick (inl u) f = (0, u.1 ∙ ap (λ (w : ℕ). site t w) (sym (add-zero n)), u.0)
    pick (inr u) f =
        let r = f u in
        let e : suc n + r.0 ≡ n + suc r.0 = omega arith in
        (suc r.0, r.1 ∙ ap (λ (w : ℕ). site t w) e, r.2)

to_nodes : (b t n : ℕ) (vs : List Node) (k : ℕ) → lists (get_or vs k no_node).constraint b ≡ true → Among Site (site t (n + k)) (listing_nodes b t n vs)
to_nodes b t n [] k e = let z : ◌≡◌ {A = ℕ} 0 1 = cc in absurd (omega arith)
to_nodes b t n (v ∷ vs) zero e =
    subst (λ (k : ℕ). Among Site (site t k) (listing_nodes b t n (v ∷ vs))) (sym (add-zero n)) (to_cond_first (site t n) (listing_nodes b t (suc n) vs) e)
to_nodes b t n (v ∷ vs) (suc k) e =
    let q : suc n + k ≡ n + suc k = omega arith in
    to_cond_rest (lists v.constraint b) (site t n) (listing_nodes b t (suc n) vs)
    (subst (λ (w : ℕ). Among Site (site t w) (listing_nodes b t (suc n) vs)) q (to_nodes b t (suc n) vs k e))

from_trees : (c : Contents) (b k t : ℕ) {s : Site} → Among Site s (listing_trees c b k t) → listed c s.tree s.node b ≡ true
from_trees c b zero t h = elim h [ ]
from_trees c b (suc k) t {s} h = pick (among_++ (listing_nodes b t 0 (nodes_in c t)) (listing_trees c b k (suc t)) h) (λ u. from_trees c b k (suc t) u)
  where
    pick : Among Site s (listing_nodes b t 0 (nodes_in c t)) ⊎ Among Site s (listing_trees c b k (suc t))
        → (Among Site s (listing_trees c b k (suc t)) → listed c s.tree s.node b ≡ true) → listed c s.tree s.node b ≡ true
    pick (inl u) f =
        let r = from_nodes b t 0 (nodes_in c t) u in
        subst (λ (w : Site). listed c w.tree w.node b ≡ true) (sym r.1)
        (subst (λ (w : ℕ). listed c t w b ≡ true) (sym (zero-add r.0)) r.2)
    pick (inr u) f = f u

to_trees : (c : Contents) (b k t u n : ℕ) → t ≤ u → u < t + k → listed c u n b ≡ true → Among Site (site u n) (listing_trees c b k t)
to_trees c b zero t u n l m e = absurd (omega arith)
to_trees c b (suc k) t u n l m e = pick (ℕ_discrete t u) (λ v w. to_trees c b k (suc t) u n v w e)
  where
    pick : Dec (t ≡ u) → (suc t ≤ u → u < suc t + k → Among Site (site u n) (listing_trees c b k (suc t)))
        → Among Site (site u n) (listing_nodes b t 0 (nodes_in c t) ++ listing_trees c b k (suc t))
    pick (yes q) f =
        among_left (listing_trees c b k (suc t))
        (subst (λ (w : ℕ). Among Site (site w n) (listing_nodes b t 0 (nodes_in c t))) q
        (subst (λ (w : ℕ). Among Site (site t w) (listing_nodes b t 0 (nodes_in c t))) (zero-add n)
        (to_nodes b t 0 (nodes_in c t) n (subst (λ (w : ℕ). listed c w n b ≡ true) (sym q) e))))
    pick (no q) f = among_right (listing_nodes b t 0 (nodes_in c t)) (f (omega arith) (omega arith))

-- a tree that is not there has no node that lists any
listed_there : (c : Contents) (b t n : ℕ) → listed c t n b ≡ true → t < length c.trees
listed_there c b t n e = pick (dec_lt t (length c.trees))
  where
    pick : Dec (t < length c.trees) → t < length c.trees
    pick (yes l) = l
    pick (no l) =
        let q : get_or c.trees t no_tree ≡ no_tree = get_or-eq_default c.trees no_tree {n = t} (omega arith) in
        let f : false ≡ true = subst (λ (v : Tree). lists (get_or (take v.size (drop v.start c.nodes)) n no_node).constraint b ≡ true) q e in
        let z : ◌≡◌ {A = ℕ} 0 1 = cc in absurd (omega arith)

pub from_listing : (c : Contents) (b : ℕ) {s : Site} → Among Site s (listing c b) → listed c s.tree s.node b ≡ true
from_listing c b h = from_trees c b (length c.trees) 0 h

pub to_listing : (c : Contents) (b t n : ℕ) → listed c t n b ≡ true → Among Site (record { tree = t; node = n }) (listing c b)
to_listing c b t n e = let l = listed_there c b t n e in to_trees c b (length c.trees) 0 t n (omega arith) (omega arith) e
