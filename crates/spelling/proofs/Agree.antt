-- The picks of an item are those of the derivation that is read off it.
use Rattle.std.proofs.Common.{◌≡◌, ℕ, zero, suc, ◌+◌, ◌<◌, ◌≤◌, Bool, true, false, List, [], ◌∷◌, ◌++◌, length, get_or, take, is_some, Some, None, Option, sym, refl, ap, ◌∙◌, subst, append_assoc, append-nil, arith, length-append}
use native.Mathlib.Decide.{dec_lt}
use Rattle.format.specs.declared.node.Kind.{Kind}
use Rattle.format.specs.declared.node.Kind.TheVariants.{Inner, Word, Empty, Foot}
use Rattle.format.specs.declared.node.Constraint.{Constraint}
use Rattle.format.specs.declared.spot.Spot.{Spot}
use Rattle.format.specs.declared.spot.Spot.TheVariants.{At}
use Rattle.format.specs.declared.spot.Next.{Next}
use Rattle.format.specs.declared.spot.Next.TheVariants.{Child}
use Rattle.format.specs.Parts.{Contents}
use Rattle.format.specs.Judge.{adjoinable}
use Rattle.format.specs.Keeps.{nodes_in, node_in, taken_trees, any, is_inner, Keeps}
use Rattle.format.specs.Questions.{children_of, after_dot}
use Rattle.steps.specs.declared.item.Item.{Item}
use Rattle.derivation.specs.Derivations.{Derivation, done, stay, adjoin, as_children, below_kind, below}
use Rattle.derivation.specs.Walks.{Event, choice, is_choice, met_kind, walk}
use Rattle.derivation.specs.Readings.{◌beside◌, derivation_of}
use Rattle.derivation.proofs.Dots.{dot_past}
use Rattle.walk.specs.declared.choice.Choice.{Choice}
use Rattle.walk.specs.declared.choice.Choice.TheVariants.{Stay, Adjoin}
use Rattle.spelling.specs.Tours.{from_node, adjoined_events}
use Rattle.spelling.proofs.Rows.{reach, reach_++, begin, Follows, dot_after, children_reach, leaf_children, node_tour, row_tour, row_++, children_tour, row_same, inside_same, node_step}

-- Derivations of rows ------------------------------------------------------------------------------------------------------------

-- how many siblings a derivation of a row is for
abbrev pub spine : Derivation → ℕ
spine done = 0
spine (stay a f) = suc (spine f)
spine (adjoin β r a f) = suc (spine f)

pub spine_beside : (f g : Derivation) → spine (f beside g) ≡ spine f + spine g
spine_beside done g = omega arith
spine_beside (stay a f) g = let r = spine_beside f g in omega arith
spine_beside (adjoin β r a f) g = let r = spine_beside f g in omega arith

module _ (c : Contents) (t : ℕ) (h : List Event) where
  pub walk_beside : (f g : Derivation) (ks ls : List Next) → spine f ≡ length ks → walk c t (ks ++ ls) (f beside g) h ≡ walk c t ks f h ++ walk c t ls g h
  walk_beside done g [] ls e = refl
  walk_beside done g (k ∷ ks) ls e = absurd (omega arith)
  walk_beside (stay a f) g [] ls e = absurd (omega arith)
  walk_beside (stay a f) g (k ∷ ks) ls e = rw (walk_beside f g ks ls (omega arith), append_assoc, append_assoc) refl
  walk_beside (adjoin β r a f) g [] ls e = absurd (omega arith)
  walk_beside (adjoin β r a f) g (k ∷ ks) ls e = rw (walk_beside f g ks ls (omega arith), append_assoc) refl

-- What a node adds to a tour -----------------------------------------------------------------------------------------------------

-- the content of a node is what its children give, or at a foot what comes there
abbrev ContentIs : Kind → (own children foot : List Event) → Type 0
ContentIs (Inner l) W R h = W ≡ R
ContentIs (Word w) W R h = Unit {0}
ContentIs Empty W R h = Unit {0}
ContentIs (Foot l) W R h = (W ≡ h) × (R ≡ [])

module _ (D : ℕ → ℕ → List Event → List Event) (W R h : List Event) where
  plain_events : (k : Kind) (b : Bool) → adjoinable k ≡ true → ContentIs k W R h → met_kind k b ++ (W ++ []) ≡ from_node D h R R [] (Some Stay) k b
  plain_events (Inner l) true e i = let z = append-nil W in cc
  plain_events (Inner l) false e i = append-nil W ∙ i
  plain_events (Word w) b e i = absurd (cc)
  plain_events Empty b e i = absurd (cc)
  plain_events (Foot l) true e i = let z = append-nil W in let y = append-nil h in let u = i.0 in let v = i.1 in cc
  plain_events (Foot l) false e i = let z = append-nil W in let y = append-nil h in let u = i.0 in let v = i.1 in cc

  adjoined_here : (β σ : ℕ) (k : Kind) → adjoinable k ≡ true → ContentIs k W R h
      → ◌≡◌ {A = List Event} (choice (suc β) ∷ (D β σ W ++ [])) (from_node D h R R [] (Some (Adjoin β σ)) k true)
  adjoined_here β σ (Inner l) e i = ap (λ (v : List Event). choice (suc β) ∷ (D β σ v ++ [])) i
  adjoined_here β σ (Word w) e i = absurd (cc)
  adjoined_here β σ Empty e i = absurd (cc)
  adjoined_here β σ (Foot l) e i = ap (λ (v : List Event). choice (suc β) ∷ (D β σ v ++ [])) i.0

leaf_events : (D : ℕ → ℕ → List Event → List Event) (h : List Event) (o : Option Choice) (k : Kind) (b : Bool) → adjoinable k ≡ false → met_kind k b ++ [] ≡ from_node D h [] [] [] o k b
leaf_events D h o (Inner l) b e = absurd (cc)
leaf_events D h o (Word w) b e = refl
leaf_events D h o Empty b e = refl
leaf_events D h o (Foot l) b e = absurd (cc)

not_inner : (k : Kind) → adjoinable k ≡ false → is_inner k ≡ false
not_inner (Inner l) e = absurd (cc)
not_inner (Word w) e = refl
not_inner Empty e = refl
not_inner (Foot l) e = absurd (cc)

pub any_some : (xs : List Bool) (n : ℕ) → get_or xs n false ≡ true → any xs ≡ true
any_some [] n e = absurd (cc)
any_some (true ∷ xs) n e = refl
any_some (false ∷ xs) zero e = absurd (cc)
any_some (false ∷ xs) (suc n) e = any_some xs n e

no_constraint : (o : Option Constraint) → (is_some o ≡ true → ⊥) → any (taken_trees o) ≡ false
no_constraint None f = refl
no_constraint (Some k) f = absurd (f refl)

module _ (c : Contents) (K : Keeps c) (its : List Item) (t : ℕ) where
  abbrev D : ℕ → ℕ → List Event → List Event
  D = adjoined_events c its

  abbrev N : ℕ
  N = length (nodes_in c t)

  -- A derivation f of a row that begins at a is what the picks C say.
  pub record Part (C : ℕ → Option Choice) (f : Derivation) (a : ℕ) (ks : List Next) : Type 0 where
    pub long : spine f ≡ length ks
    pub walks : (h : List Event) → walk c t ks f h ≡ row_tour c K t D h C ks
    pub told : (i : ℕ) → a ≤ i → i < reach c t a ks → is_choice c t i ≡ true → (x : Choice) × (C i ≡ Some x)

  -- The same of one node.
  pub record Sibling (C : ℕ → Option Choice) (g : Derivation) (m : ℕ) : Type 0 where
    pub single : spine g ≡ 1
    pub walks : (h : List Event) → walk c t (Child m ∷ []) g h ≡ node_tour c K t D h C m
    pub told : (i : ℕ) → m ≤ i → i < (node_in c t m).end → is_choice c t i ≡ true → (x : Choice) × (C i ≡ Some x)

  -- One more node before the dot.
  pub past : (s : Spot) (d m : ℕ) → after_dot c t s d ≡ Child m → (C C' : ℕ → Option Choice) → ((i : ℕ) → i < m → C' i ≡ C i) → (f g : Derivation)
      → Part C f (begin s) (take d (below c t s)) → Sibling C' g m → Part C' (f beside g) (begin s) (take (suc d) (below c t s))
  past s d m e C C' same f g P S =
      subst (λ (ks : List Next). Part C' (f beside g) (begin s) ks) (sym (dot_past c t s d m e))
      (record {
        long = (let a = spine_beside f g in let b = P.long in let z = S.single in let l = length-append (take d (below c t s)) (Child m ∷ []) in omega arith);
        walks = λ h.
            walk_beside c t h f g (take d (below c t s)) (Child m ∷ []) P.long
            ∙ (ap (λ (v : List Event). v ++ walk c t (Child m ∷ []) g h) (P.walks h ∙ sym (row_same c K t D h C' C m same F.1))
            ∙ (ap (λ (v : List Event). row_tour c K t D h C' (take d (below c t s)) ++ v) (S.walks h ∙ sym (append-nil (node_tour c K t D h C' m)))
            ∙ sym (row_++ c K t D h C' (take d (below c t s)) (Child m ∷ []))));
        told = λ i a b x. told' i a (subst (λ (v : ℕ). i < v) (reach_++ c t (begin s) (take d (below c t s)) (Child m ∷ [])) b) x (dec_lt i m);
      })
    where
      F : Follows c K t (begin s) m (take d (below c t s))
      F = dot_after c K t s d m e

      told' : (i : ℕ) → begin s ≤ i → i < (node_in c t m).end → is_choice c t i ≡ true → Dec (i < m) → (x : Choice) × (C' i ≡ Some x)
      told' i a b x (yes u) = let r = P.told i a (subst (λ (v : ℕ). i < v) (sym F.2) u) x in (r.0, same i u ∙ r.1)
      told' i a b x (no u) = S.told i (omega arith) b x

  -- Nothing before the dot.
  pub fresh_part : (C : ℕ → Option Choice) (a : ℕ) → Part C done a []
  fresh_part C a = record { long = refl; walks = λ h. refl; told = λ i x y z. absurd (omega arith) }

  -- A leaf.
  pub leaf_sibling : (C : ℕ → Option Choice) (m : ℕ) → m < N → adjoinable (node_in c t m).kind ≡ false → Sibling C (stay done done) m
  leaf_sibling C m l e =
      let z = leaf_children c K t m l (not_inner (node_in c t m).kind e) in
      record {
        single = refl;
        walks = λ h.
            rw (node_step c K t D h C m l, z.0) (leaf_events D h (C m) (node_in c t m).kind (is_choice c t m) e);
        told = λ i a b x.
            let o : m ≡ i = let y = z.1 in omega arith in
            let n = no_constraint (node_in c t m).constraint (λ u. (let v = K.constraints t m u in cc)) in
            let p = subst (λ (v : ℕ). is_choice c t v ≡ true) (sym o) x in
            absurd (cc);
      }

  -- A node with a content: y's part of the row below it, by picks that agree with C inside its subtree.
  module _ (C C' : ℕ → Option Choice) (m : ℕ) (l : m < N) (f : Derivation) (P : Part C' f (suc m) (below c t (At m)))
      (same : (i : ℕ) → m < i → i < (node_in c t m).end → C i ≡ C' i) where
    abbrev inside : List Event → List Event
    inside h = row_tour c K t D h C (as_children (children_of c t m))

    -- its children give the same by both picks
    inside_is : (h : List Event) → row_tour c K t D h C' (as_children (children_of c t m)) ≡ inside h
    inside_is h =
        sym (children_tour c K t D h C' m N l (omega arith))
        ∙ (sym (inside_same c K t D h C C' m N l same) ∙ children_tour c K t D h C m N l (omega arith))

    content_is : (h : List Event) (k : Kind) → (node_in c t m).kind ≡ k → ContentIs k (walk c t (below c t (At m)) f h) (inside h) h
    content_is h (Inner a) e = rw (P.walks h, e) (inside_is h)
    content_is h (Word a) e = tt
    content_is h Empty e = tt
    content_is h (Foot a) e = (
      rw (P.walks h, e) (append-nil h),
      rw (leaf_children c K t m l (ap is_inner e)).0 refl,
    )

    -- a content below the node is told
    kind_told : (k : Kind) → (node_in c t m).kind ≡ k → adjoinable k ≡ true → (i : ℕ) → m < i → i < (node_in c t m).end → i < reach c t (suc m) (below c t (At m))
    kind_told (Inner a) e d i u v =
        subst (λ (x : ℕ). i < x) (sym (ap (λ (x : Kind). reach c t (suc m) (below_kind x (children_of c t m))) e ∙ children_reach c K t m l)) v
    kind_told (Word a) e d i u v = absurd (cc)
    kind_told Empty e d i u v = absurd (cc)
    kind_told (Foot a) e d i u v = let z = (leaf_children c K t m l (ap is_inner e)).1 in absurd (omega arith)

    told_inside : adjoinable (node_in c t m).kind ≡ true → (x : Choice) → C m ≡ Some x → (i : ℕ) → m ≤ i → i < (node_in c t m).end → is_choice c t i ≡ true
        → (y : Choice) × (C i ≡ Some y)
    told_inside d x e i a b z = by_place (dec_lt m i)
      where
        by_place : Dec (m < i) → (y : Choice) × (C i ≡ Some y)
        by_place (yes u) = let r = P.told i u (kind_told (node_in c t m).kind refl d i u b) z in (r.0, same i u b ∙ r.1)
        by_place (no u) = let o : m ≡ i = omega arith in (x, subst (λ (v : ℕ). C v ≡ Some x) o e)

    -- It stays as it is.
    pub plain_sibling : adjoinable (node_in c t m).kind ≡ true → C m ≡ Some Stay → Sibling C (stay f done) m
    plain_sibling d e =
        record {
          single = refl;
          walks = λ h.
              rw (node_step c K t D h C m l, e)
              (plain_events D (walk c t (below c t (At m)) f h) (inside h) h (node_in c t m).kind (is_choice c t m) d (content_is h (node_in c t m).kind refl));
          told = told_inside d Stay e;
        }

    -- A tree is adjoined, with the derivation of the item σ.
    pub adjoined_sibling : (β σ : ℕ) → adjoinable (node_in c t m).kind ≡ true → is_choice c t m ≡ true → C m ≡ Some (Adjoin β σ) → Sibling C (adjoin β (derivation_of its σ) f done) m
    adjoined_sibling β σ d x e =
        record {
          single = refl;
          walks = λ h.
              rw (node_step c K t D h C m l, e, x)
              (adjoined_here D (walk c t (below c t (At m)) f h) (inside h) h β σ (node_in c t m).kind d (content_is h (node_in c t m).kind refl));
          told = told_inside d (Adjoin β σ) e;
        }
