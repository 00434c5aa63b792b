-- Rows of siblings, and the nodes that they go over.
use Rattle.std.proofs.Common.{◌≡◌, ℕ, zero, suc, ◌+◌, ◌<◌, ◌≤◌, false, List, [], ◌∷◌, ◌++◌, length, take, Some, None, Option, sym, refl, ap, ◌∙◌, subst, append_assoc, arith}
use native.Mathlib.Decide.{dec_lt}
use lib.ListN.{get_or-eq_default}
use Rattle.format.specs.declared.node.Kind.{Kind}
use Rattle.format.specs.declared.node.Kind.TheVariants.{Inner, Word, Empty, Foot}
use Rattle.format.specs.declared.node.Node.{Node}
use Rattle.format.specs.declared.spot.Spot.{Spot}
use Rattle.format.specs.declared.spot.Spot.TheVariants.{Top, At}
use Rattle.format.specs.declared.spot.Next.{Next}
use Rattle.format.specs.declared.spot.Next.TheVariants.{End, Bottom, Child}
use Rattle.format.specs.Parts.{Contents, no_node}
use Rattle.format.specs.Layout.{pass}
use Rattle.format.specs.Keeps.{nodes_in, node_in, is_inner, Keeps}
use Rattle.format.specs.Questions.{nth, child_next, next_in, next_at_top, roots_from, children_of, after_dot}
use Rattle.derivation.specs.Derivations.{as_children, below_kind, below_top, below}
use Rattle.derivation.specs.Walks.{Event, is_choice}
use Rattle.walk.specs.declared.choice.Choice.{Choice}
use Rattle.spelling.specs.Tours.{from_node, tour}
use Rattle.spelling.proofs.Tours.{from_same, tour_none, tour_some, tour_fuel, tour_same, tour_split}

-- The nodes of a row are there, and each ends before m.
pub data Before (c : Contents) (t m : ℕ) : List Next → Type 0 where
  none : Before c t m []
  bottom : {ks : List Next} → Before c t m ks → Before c t m (Bottom ∷ ks)
  child : {n : ℕ} {ks : List Next} → n < length (nodes_in c t) → (node_in c t n).end ≤ m → Before c t m ks → Before c t m (Child n ∷ ks)

-- where a row that begins at a ends
abbrev pub reach : Contents → ℕ → ℕ → List Next → ℕ
reach c t a [] = a
reach c t a (End ∷ ks) = reach c t a ks
reach c t a (Bottom ∷ ks) = reach c t a ks
reach c t a (Child n ∷ ks) = reach c t (node_in c t n).end ks

pub reach_++ : (c : Contents) (t a : ℕ) (ks ls : List Next) → reach c t a (ks ++ ls) ≡ reach c t (reach c t a ks) ls
reach_++ c t a [] ls = refl
reach_++ c t a (End ∷ ks) ls = reach_++ c t a ks ls
reach_++ c t a (Bottom ∷ ks) ls = reach_++ c t a ks ls
reach_++ c t a (Child n ∷ ks) ls = reach_++ c t (node_in c t n).end ks ls

-- where the row below a place begins
abbrev pub begin : Spot → ℕ
begin Top = 0
begin (At n) = suc n

module _ (c : Contents) (K : Keeps c) (t : ℕ) where
  abbrev vs : List Node
  vs = nodes_in c t

  abbrev N : ℕ
  N = length vs

  ends : (n : ℕ) → n < N → (n < (node_in c t n).end) × ((node_in c t n).end ≤ N)
  ends n h = K.ends t n h

  -- subtrees one behind the other, all of them there
  abbrev There : ℕ → ℕ → Type 0
  There k i = (j : ℕ) → j < k → pass vs j i < N

  later : (k i : ℕ) → There (suc k) i → There k (node_in c t i).end
  later k i h j l = h (suc j) (omega arith)

  pub pass_more : (k i : ℕ) → There k i → i ≤ pass vs k i
  pass_more zero i h = omega arith
  pass_more (suc k) i h = let r = pass_more k (node_in c t i).end (later k i h) in let e = ends i (h 0 (omega arith)) in omega (arith, e.0)

  roots_before : (k i d m : ℕ) → There k i → nth (roots_from vs k i) d ≡ Some m
      → (m < N) × (i ≤ m) × Before c t m (take d (as_children (roots_from vs k i))) × (reach c t i (take d (as_children (roots_from vs k i))) ≡ m)
  roots_before zero i d m h e = absurd (cc)
  roots_before (suc k) i zero m h e =
      let z : i ≡ m = cc in
      (subst (λ (x : ℕ). x < N) z (h 0 (omega arith)), omega arith, none, z)
  roots_before (suc k) i (suc d) m h e =
      let r = roots_before k (node_in c t i).end d m (later k i h) e in
      let x = ends i (h 0 (omega arith)) in
      (r.0, omega (arith, x.0, r.1), child (h 0 (omega arith)) r.1 r.2, r.3)

  -- the children of a node that is there
  children_there : (n : ℕ) → n < N → There (node_in c t n).children (suc n)
  children_there n h j l = let w = K.child_within t n j (h, l) in let e = ends n h in omega (arith, e.1)

  no_children : (n : ℕ) → N ≤ n → (node_in c t n).children ≡ 0
  no_children n h = ap (λ (v : Node). v.children) (get_or-eq_default vs no_node {n = n} h)

  some_child : (o : Option ℕ) (m : ℕ) → child_next o ≡ Child m → o ≡ Some m
  some_child None m e = absurd (cc)
  some_child (Some x) m e = cc

  -- node m is there, and the row before it ends where it begins
  abbrev pub Follows : ℕ → ℕ → List Next → Type 0
  Follows a m ks = (m < N) × Before c t m ks × (reach c t a ks ≡ m)

  inner_after : (n d m : ℕ) → child_next (nth (children_of c t n) d) ≡ Child m → Follows (suc n) m (take d (as_children (children_of c t n)))
  inner_after n d m e = by_place (dec_lt n N)
    where
      by_place : Dec (n < N) → Follows (suc n) m (take d (as_children (children_of c t n)))
      by_place (yes h) = let r = roots_before (node_in c t n).children (suc n) d m (children_there n h) (some_child (nth (children_of c t n) d) m e) in (r.0, r.2, r.3)
      by_place (no h) =
          let z : children_of c t n ≡ [] = ap (λ (k : ℕ). roots_from vs k (suc n)) (no_children n (omega arith)) in
          let y : child_next (nth {X = ℕ} [] d) ≡ Child m = ap (λ (xs : List ℕ). child_next (nth xs d)) (sym z) ∙ e in
          absurd (cc)

  -- what comes after a dot is there, and the row before the dot ends before it
  kind_after : (k : Kind) (n d m : ℕ) → next_in k (children_of c t n) d ≡ Child m → Follows (suc n) m (take d (below_kind k (children_of c t n)))
  kind_after (Inner l) n d m e = inner_after n d m e
  kind_after (Word w) n d m e = absurd (cc)
  kind_after Empty n d m e = absurd (cc)
  kind_after (Foot l) n zero m e = absurd (cc)
  kind_after (Foot l) n (suc d) m e = absurd (cc)

  top_after : (ws : List Node) (d m : ℕ) → ws ≡ vs → next_at_top ws d ≡ Child m → Follows 0 m (take d (below_top ws))
  top_after [] d m w e = absurd (cc)
  top_after (v ∷ ws) zero m w e = let z : 0 ≡ m = cc in let l = ap length w in (omega arith, none, z)
  top_after (v ∷ ws) (suc d) m w e = absurd (cc)

  pub dot_after : (s : Spot) (d m : ℕ) → after_dot c t s d ≡ Child m → Follows (begin s) m (take d (below c t s))
  dot_after Top d m e = top_after vs d m refl e
  dot_after (At n) d m e = kind_after (node_in c t n).kind n d m e

  roots_reach : (k i : ℕ) → reach c t i (as_children (roots_from vs k i)) ≡ pass vs k i
  roots_reach zero i = refl
  roots_reach (suc k) i = roots_reach k (node_in c t i).end

  -- the children of a node end where its subtree ends
  pub children_reach : (n : ℕ) → n < N → reach c t (suc n) (as_children (children_of c t n)) ≡ (node_in c t n).end
  children_reach n h = roots_reach (node_in c t n).children (suc n) ∙ K.children t n h

  -- a leaf has no children
  pub leaf_children : (n : ℕ) → n < N → is_inner (node_in c t n).kind ≡ false → (children_of c t n ≡ []) × ((node_in c t n).end ≡ suc n)
  leaf_children n h e =
      let z = K.leaf_arity t n (h, e) in
      (ap (λ (k : ℕ). roots_from vs k (suc n)) z, sym (K.children t n h) ∙ ap (λ (k : ℕ). pass vs k (suc n)) z)

  -- Tours of rows ----------------------------------------------------------------------------------------------------------------

  module _ (D : ℕ → ℕ → List Event → List Event) (h : List Event) where
    -- the tour of a node and its subtree
    abbrev pub node_tour : (ℕ → Option Choice) → ℕ → List Event
    node_tour C n = tour c D C t (N + (node_in c t n).end) n (node_in c t n).end h

    -- the tour of a row: each node with its subtree, and the content at the bottom of a foot
    abbrev pub row_tour : (ℕ → Option Choice) → List Next → List Event
    row_tour C [] = []
    row_tour C (End ∷ ks) = row_tour C ks
    row_tour C (Bottom ∷ ks) = h ++ row_tour C ks
    row_tour C (Child n ∷ ks) = node_tour C n ++ row_tour C ks

    pub row_++ : (C : ℕ → Option Choice) (ks ls : List Next) → row_tour C (ks ++ ls) ≡ row_tour C ks ++ row_tour C ls
    row_++ C [] ls = refl
    row_++ C (End ∷ ks) ls = row_++ C ks ls
    row_++ C (Bottom ∷ ks) ls = rw (row_++ C ks ls, append_assoc) refl
    row_++ C (Child n ∷ ks) ls = rw (row_++ C ks ls, append_assoc) refl

    -- a subtree has whole subtrees in it
    nested : (n : ℕ) → n < N → (i : ℕ) → n ≤ i → i < (node_in c t n).end → (node_in c t i).end ≤ (node_in c t n).end
    nested n l i a b = by_place (dec_lt n i)
      where
        by_place : Dec (n < i) → (node_in c t i).end ≤ (node_in c t n).end
        by_place (yes u) = K.subtrees t n i (l, u, b)
        by_place (no u) = let z : n ≡ i = omega arith in let e = ap (λ (x : ℕ). (node_in c t x).end) z in omega arith

    -- The children of a node go over its subtree, but for the node itself.
    roots_tour : (C : ℕ → Option Choice) (k i e f : ℕ) → There k i → pass vs k i ≡ e → e ≤ N → N ≤ f + i → tour c D C t f i e h ≡ row_tour C (as_children (roots_from vs k i))
    roots_tour C zero i e f a p q r = tour_none c K.ends D t h C f i e (omega arith)
    roots_tour C (suc k) i e f a p q r =
        let l = a 0 (omega arith) in
        let x = ends i l in
        let y = pass_more k (node_in c t i).end (later k i a) in
        tour_split c K.ends D t h C N (omega arith) f i (node_in c t i).end e q r (omega (arith, x.0)) (omega arith) (nested i l)
        ∙ (ap (λ (v : List Event). v ++ tour c D C t f (node_in c t i).end e h)
        (tour_fuel c K.ends D t h C N (omega arith) f (N + (node_in c t i).end) i (node_in c t i).end x.1 r (omega arith))
        ∙ ap (λ (v : List Event). node_tour C i ++ v) (roots_tour C k (node_in c t i).end e f (later k i a) p q (omega (arith, x.0))))

    pub children_tour : (C : ℕ → Option Choice) (n f : ℕ) → n < N → N ≤ f + suc n → tour c D C t f (suc n) (node_in c t n).end h ≡ row_tour C (as_children (children_of c t n))
    children_tour C n f l r =
        roots_tour C (node_in c t n).children (suc n) (node_in c t n).end f (children_there n l) (K.children t n l) (ends n l).1 r

    -- Nodes and rows before m, by picks that agree before m.
    node_same : (C C' : ℕ → Option Choice) (m : ℕ) → ((i : ℕ) → i < m → C i ≡ C' i) → (n : ℕ) → n < N → (node_in c t n).end ≤ m → node_tour C n ≡ node_tour C' n
    node_same C C' m s n l e =
        tour_same c K.ends D t h K.subtrees C C' (N + (node_in c t n).end) n (node_in c t n).end (nested n l) (λ i a b. s i (omega arith))

    pub row_same : (C C' : ℕ → Option Choice) (m : ℕ) → ((i : ℕ) → i < m → C i ≡ C' i) → {ks : List Next} → Before c t m ks → row_tour C ks ≡ row_tour C' ks
    row_same C C' m s none = refl
    row_same C C' m s (bottom a) = rw (row_same C C' m s a) refl
    row_same C C' m s (child {n = n} {ks = ks} l e a) = rw (node_same C C' m s n l e, row_same C C' m s a) refl

    -- The content of a node, by picks that agree inside its subtree.
    pub inside_same : (C C' : ℕ → Option Choice) (n f : ℕ) → n < N → ((i : ℕ) → n < i → i < (node_in c t n).end → C i ≡ C' i)
        → tour c D C t f (suc n) (node_in c t n).end h ≡ tour c D C' t f (suc n) (node_in c t n).end h
    inside_same C C' n f l s =
        tour_same c K.ends D t h K.subtrees C C' f (suc n) (node_in c t n).end (λ i a b. nested n l i (omega arith) b) (λ i a b. s i (omega arith) b)

    -- The tour of a node, by what is picked there.
    pub node_step : (C : ℕ → Option Choice) (n : ℕ) → n < N
        → node_tour C n ≡ from_node D h (row_tour C (as_children (children_of c t n))) (row_tour C (as_children (children_of c t n))) [] (C n) (node_in c t n).kind (is_choice c t n)
    node_step C n l =
        let x = ends n l in
        tour_fuel c K.ends D t h C N (omega arith) (N + (node_in c t n).end) (suc (N + (node_in c t n).end)) n (node_in c t n).end x.1 (omega arith) (omega arith)
        ∙ (tour_some c K.ends D t h C (N + (node_in c t n).end) n (node_in c t n).end x.0
        ∙ from_same D h _ _ _ _ _ _ (C n) (C n) (node_in c t n).kind (is_choice c t n) (children_tour C n (N + (node_in c t n).end) l (omega arith))
        (λ e. (children_tour C n (N + (node_in c t n).end) l (omega arith), tour_none c K.ends D t h C (N + (node_in c t n).end) (node_in c t n).end (node_in c t n).end (omega arith), refl)))
