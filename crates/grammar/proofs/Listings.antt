-- The nodes that list a tree, found one after the other.
use Rattle.std.proofs.Common.{subst, IfSome, IsSomeAnd, drop_of_length-le, ◌≡◌, ℕ, zero, suc, add-one, nat_eq, ◌+◌, ◌-◌, ◌<◌, ◌≤◌, Bool, true, false, cond, List, [], ◌∷◌, ◌++◌, length, take, drop, Option, Some, None, sym, refl, ap, ◌∙◌, arith}
use Rattle.std.specs.List.{position, position_from}
use Rattle.std.specs.Option.{option_map, MatchOption}
use Rattle.std.specs.Iterator.Runs.{Run, AllItemsGive, IsFirstToGive, CallKeepsClosure}
use Rattle.std.proofs.iter.Yields.{nat_range_steps}
use Rattle.std.proofs.iter.runs.Sources.{range_runs}
use Rattle.std.specs.Fn.{Mut, Called}
use Rattle.std.proofs.lemmas.Iterator.Adapters.{position_from-zero}
use Rattle.format.specs.declared.spot.Site.{Site}
use native.Mathlib.Decide.{dec_lt}
use lib.ListN.{get_or-eq_default}
use Rattle.format.specs.declared.node.Node.{Node}
use Rattle.format.specs.declared.node.Tree.{Tree}
use Rattle.format.specs.Parts.{Contents, no_tree}
use Rattle.format.specs.Keeps.{nodes_in, lists}
use Rattle.format.specs.Questions.{first, listing_nodes, listing_trees, listing_from}

-- the first node that lists the tree, by its place among nodes that are numbered from n on
abbrev site : ℕ → ℕ → Site
site t n = record { tree = t; node = n }

placed : (b t n i : ℕ) (vs : List Node) → option_map (λ k. site t (n + k)) (position_from (λ v. lists v.constraint b) i vs) ≡ first (listing_nodes b t (n + i) vs)
placed b t n i [] = refl
placed b t n i (v ∷ vs) = by (lists v.constraint b) (placed b t n (i + 1) vs ∙ ap (λ (k : ℕ). first (listing_nodes b t k vs)) (omega arith))
  where
    by : (q : Bool) → option_map (λ k. site t (n + k)) (position_from (λ v. lists v.constraint b) (i + 1) vs) ≡ first (listing_nodes b t (suc (n + i)) vs)
        → option_map (λ k. site t (n + k)) (cond q (Some i) (position_from (λ v. lists v.constraint b) (i + 1) vs))
        ≡ first (cond q (site t (n + i) ∷ listing_nodes b t (suc (n + i)) vs) (listing_nodes b t (suc (n + i)) vs))
    by true next = refl
    by false next = next

pub listing_by_position : (b t n : ℕ) (vs : List Node) (r : Option ℕ) → r ≡ position (λ v. lists v.constraint b) vs → option_map (λ k. site t (n + k)) r ≡ first (listing_nodes b t n vs)
listing_by_position b t n vs r e =
    ap (option_map (λ k. site t (n + k))) (e ∙ position_from-zero (λ v. lists v.constraint b) vs) ∙ (placed b t n 0 vs ∙ ap (λ (k : ℕ). first (listing_nodes b t k vs)) (omega arith))

-- where the first of two lists is empty
pub first_none : {X : Type 0} (xs ys : List X) → None ≡ first xs → first (xs ++ ys) ≡ first ys
first_none [] ys h = refl
first_none (x ∷ xs) ys h = cc

pub absent_tree : (d : Contents) (t : ℕ) → length d.trees ≤ t → nodes_in d t ≡ []
absent_tree d t h = ap (λ (u : Tree). take u.size (drop u.start d.nodes)) (get_or-eq_default d.trees no_tree h)

-- what is behind tree t begins with the next tree
pub next_tree : (d : Contents) (b t : ℕ) → listing_trees d b (length d.trees - suc t) (suc t) ≡ listing_from d b (suc t) 0
next_tree d b t = by (dec_lt (suc t) (length d.trees))
  where
    by : Dec (suc t < length d.trees) → listing_trees d b (length d.trees - suc t) (suc t) ≡ listing_from d b (suc t) 0
    by (yes h) = ap (λ (k : ℕ). listing_trees d b k (suc t)) (let e : length d.trees - suc t ≡ suc (length d.trees - suc (suc t)) = omega arith in e)
    by (no h) =
        ap (λ (k : ℕ). listing_trees d b k (suc t)) (let e : length d.trees - suc t ≡ 0 = omega arith in e)
        ∙ sym (ap (λ (vs : List Node). listing_nodes b (suc t) 0 vs ++ listing_trees d b (length d.trees - suc (suc t)) (suc (suc t))) (absent_tree d (suc t) (omega arith))
        ∙ ap (λ (k : ℕ). listing_trees d b k (suc (suc t))) (let e : length d.trees - suc (suc t) ≡ 0 = omega arith in e))

-- where to begin in tree t, when node n0 of tree t0 is the first that may be found
abbrev pub begun : ℕ → ℕ → ℕ → ℕ
begun t0 n0 t = cond (nat_eq t t0) n0 0

-- the first in tree t, and the first in tree t and those behind it
abbrev pub here : Contents → ℕ → ℕ → ℕ → ℕ → Option Site
here d b t0 n0 t = first (listing_nodes b t (begun t0 n0 t) (drop (begun t0 n0 t) (nodes_in d t)))

abbrev pub ahead : Contents → ℕ → ℕ → ℕ → ℕ → Option Site
ahead d b t0 n0 t = first (listing_from d b t (begun t0 n0 t))

past : (t u n : ℕ) → u ≤ t → cond (nat_eq (t + 1) u) n 0 ≡ 0
past t u n h = grind arith

ahead_more : (d : Contents) (b t0 n0 t : ℕ) → t0 ≤ t → None ≡ here d b t0 n0 t → ahead d b t0 n0 (t + 1) ≡ ahead d b t0 n0 t
ahead_more d b t0 n0 t h none =
    ap (λ (k : ℕ). first (listing_from d b (t + 1) k)) (past t t0 n0 h)
    ∙ (ap (λ (k : ℕ). first (listing_from d b k 0)) (add-one t)
    ∙ (ap first (sym (next_tree d b t))
    ∙ sym (first_none (listing_nodes b t (begun t0 n0 t) (drop (begun t0 n0 t) (nodes_in d t))) (listing_trees d b (length d.trees - suc t) (suc t)) none)))

-- i trees without one
pub ahead_on : (d : Contents) (b t0 n0 i : ℕ) → ((k : ℕ) → k < i → None ≡ here d b t0 n0 (t0 + k)) → ahead d b t0 n0 (t0 + i) ≡ ahead d b t0 n0 t0
ahead_on d b t0 n0 zero h = ap (ahead d b t0 n0) (omega arith)
ahead_on d b t0 n0 (suc i) h =
    ap (ahead d b t0 n0) (let e : t0 + suc i ≡ t0 + i + 1 = omega arith in e)
    ∙ (ahead_more d b t0 n0 (t0 + i) (omega arith) (h i (omega arith)) ∙ ahead_on d b t0 n0 i (λ k l. h k (omega (arith, l))))

-- a found one is the first of all
pub ahead_some : (d : Contents) (b t0 n0 t : ℕ) (y : Site) → Some y ≡ here d b t0 n0 t → ahead d b t0 n0 t ≡ Some y
ahead_some d b t0 n0 t y e = by (listing_nodes b t (begun t0 n0 t) (drop (begun t0 n0 t) (nodes_in d t))) e
  where
    by : (xs : List Site) → Some y ≡ first xs → first (xs ++ listing_trees d b (length d.trees - suc t) (suc t)) ≡ Some y
    by [] h = cc
    by (x ∷ xs) h = sym h

-- none behind the last tree
pub ahead_none : (d : Contents) (b t0 n0 t : ℕ) → length d.trees ≤ t → ahead d b t0 n0 t ≡ None
ahead_none d b t0 n0 t h =
    ap (λ (vs : List Node). first (listing_nodes b t (begun t0 n0 t) (drop (begun t0 n0 t) vs) ++ listing_trees d b (length d.trees - suc t) (suc t))) (absent_tree d t h)
    ∙ (ap (λ (k : ℕ). first (listing_nodes b t (begun t0 n0 t) (drop (begun t0 n0 t) []) ++ listing_trees d b k (suc t))) (let e : length d.trees - suc t ≡ 0 = omega arith in e)
    ∙ ap (λ (vs : List Node). first (listing_nodes b t (begun t0 n0 t) vs ++ [])) (drop_of_length-le [] (omega arith)))

at_first : (t n : ℕ) → cond (nat_eq t t) n 0 ≡ n
at_first t n = grind arith

-- what a search over the trees' numbers finds, by its answer in each tree
in_place : (q : Option ℕ) (n : ℕ) (P : ℕ → Type 0) → option_map (λ y. y) q ≡ Some n → IfSome q P → P n
in_place None n P e h = let no : ⊥ = cc in elim no [ ]
in_place (Some x) n P e h = subst P (let same : x ≡ n = cc in same) h

in_that_place : (q : Option ℕ) (n : ℕ) (P : ℕ → Type 0) → option_map (λ y. y) q ≡ Some n → IsSomeAnd q P → P n
in_that_place None n P e h = elim h [ ]
in_that_place (Some x) n P e h = subst P (let same : x ≡ n = cc in same) h

pub found : {F : Type 0} (g : Mut F (ℕ × Unit {0}) (Option Site)) (f : F) (d : Contents) (b t0 n0 : ℕ) (p : Run nat_range_steps) (r : Option Site)
    → p.from.start ≡ t0 → p.from.end ≡ length d.trees → CallKeepsClosure g f
    → ((t : ℕ) (y : Option Site) → Called g f (t, tt) y f → y ≡ here d b t0 n0 t)
    → MatchOption r ((p.whole ≡ true) × AllItemsGive p g f None) (λ y. (i : ℕ) × (i < p.len) × (p.len ≡ i + 1) × IsFirstToGive p g f (Some y) None i)
    → r ≡ first (listing_from d b t0 n0)
found g f d b t0 n0 p None start end keeps gives m =
    let up = range_runs p p.seen in
    sym (ahead_none d b t0 n0 (t0 + p.len) (let long = up.1 m.0 in omega (arith, long, start, end)))
    ∙ (ahead_on d b t0 n0 p.len (λ k l. gives (t0 + k) None (in_place (p.at k) (t0 + k) (λ x. Called g f (x, tt) None f) (up.3 k l ∙ ap (λ (a : ℕ). Some (a + k)) start) (m.1 keeps k)))
    ∙ ap (λ (n : ℕ). first (listing_from d b t0 n)) (at_first t0 n0))
found g f d b t0 n0 p (Some y) start end keeps gives m =
    let up = range_runs p p.seen in
    let i = m.0 in
    sym (ahead_some d b t0 n0 (t0 + i) y (gives (t0 + i) (Some y) (in_that_place (p.at i) (t0 + i) (λ x. Called g f (x, tt) (Some y) f) (up.3 i m.1 ∙ ap (λ (a : ℕ). Some (a + i)) start) (m.3 keeps).0)))
    ∙ (ahead_on d b t0 n0 i (λ k l. gives (t0 + k) None (in_that_place (p.at k) (t0 + k) (λ x. Called g f (x, tt) None f) (up.3 k (omega (arith, l, m.1)) ∙ ap (λ (a : ℕ). Some (a + k)) start) ((m.3 keeps).1 k l)))
    ∙ ap (λ (n : ℕ). first (listing_from d b t0 n)) (at_first t0 n0))
