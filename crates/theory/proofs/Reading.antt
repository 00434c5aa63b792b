-- Each conclusion is a step.
use Rattle.std.proofs.Common.{◌≡◌, ℕ, ◌+◌, Bool, true, false, cond, ◌⊎◌, List, [], ◌∷◌, ◌++◌, map, length, Some, None, Option, sym, refl, subst, inl, inr, arith, eqb-true}
use Rattle.std.specs.Option.{option_to_list}
use Rattle.format.specs.declared.node.Kind.{Kind}
use Rattle.format.specs.declared.node.Kind.TheVariants.{Inner, Word, Empty, Foot}
use Rattle.format.specs.declared.spot.Spot.{Spot}
use Rattle.format.specs.declared.spot.Spot.TheVariants.{Top, At}
use Rattle.format.specs.declared.spot.Next.{Next}
use Rattle.format.specs.declared.spot.Next.TheVariants.{End, Bottom, Child}
use Rattle.format.specs.Parts.{Contents}
use Rattle.format.specs.Judge.{adjoinable}
use Rattle.format.specs.Keeps.{node_in}
use Rattle.format.specs.Questions.{listing}
use Rattle.words.specs.Meaning.{Meaning}
use Rattle.steps.specs.declared.item.Item.{Item}
use Rattle.steps.specs.Items.{item_at}
use Rattle.steps.specs.Orders.{pairs, triples}
use Rattle.steps.specs.Conclusions.{after, site_kind, site_next, stays, listed, scan_edge, scan_kind, scan_next, scan as scans, predict_at, predict as predicts, completes, complete_at, complete as completed, adjoin_tree, adjoin_predict_at, adjoin_predict as adjoin-predicts, at_foot, starts_foot, foot_site, foot_predict as foot-predicts, lists_at, foots, foot_complete as foot-completed, adjoins, adjoin_at, adjoin_complete as adjoin-completed, conclusions}
use Rattle.theory.specs.Members.{Among, here}
use Rattle.theory.specs.Steps.{Step, scan_word, scan_empty, predict, complete, adjoin_predict, foot_predict, foot_complete, adjoin_complete, Below, premises}
use Rattle.theory.proofs.Members.{among_++, among_none, among_one, from_map, from_when, from_upto}
use Rattle.theory.proofs.Orders.{from_pairs, from_triples}
use Rattle.theory.proofs.Listings.{from_listing}
use Rattle.theory.proofs.Tests.{and_split, spot_true, top_true, foot_true}

-- an inner node or a foot right after the dot
kind_site : (n : ℕ) (F : Option ℕ → List Item) {y : Item} → (Among Item y (F None) → ⊥) → (k : Kind) → Among Item y (F (site_kind n k))
    → (adjoinable k ≡ true) × Among Item y (F (Some n))
kind_site n F none (Inner l) h = (refl, h)
kind_site n F none (Word w) h = absurd (none h)
kind_site n F none Empty h = absurd (none h)
kind_site n F none (Foot l) h = (refl, h)

next_site : (c : Contents) (t : ℕ) (F : Option ℕ → List Item) {y : Item} → (Among Item y (F None) → ⊥) → (nx : Next) → Among Item y (F (site_next c t nx))
    → (n : ℕ) × (nx ≡ Child n) × (adjoinable (node_in c t n).kind ≡ true) × Among Item y (F (Some n))
next_site c t F none End h = absurd (none h)
next_site c t F none Bottom h = absurd (none h)
next_site c t F none (Child n) h = let r = kind_site n F none (node_in c t n).kind h in (n, refl, r.0, r.1)

-- the first dot of a foot
foot_start : (c : Contents) (x : Item) (s : Spot) → at_foot c x s ≡ true
    → (f : ℕ) × (l : ℕ) × (s ≡ At f) × ((node_in c x.tree f).kind ≡ Foot l) × (x.dot ≡ 0) × (x.i ≡ x.j)
foot_start c x Top e = (0, 0, cc, cc, cc, cc)
foot_start c x (At f) e =
    let b1 = and_split _ _ e in
    let b2 = and_split _ _ b1.1 in
    let k = foot_true (node_in c x.tree f).kind b1.0 in
    (f, k.0, refl, k.1, eqb-true x.dot 0 b2.0, eqb-true x.i x.j b2.1)

lists_spot : (c : Contents) (t b : ℕ) (s : Spot) → lists_at c t s b ≡ true → (n : ℕ) × (s ≡ At n) × (listed c t n b ≡ true)
lists_spot c t b Top e = (0, cc, cc)
lists_spot c t b (At n) e = (n, refl, e)

module _ (c : Contents) (m : Meaning) (R : ℕ → Item → Type 0) (t : ℕ) where
  -- the conclusion of a step with premise t
  abbrev pub Told : Item → Type 0
  Told y = Step c m R y × Among ℕ t (premises y.origin)

  told : {y z : Item} → y ≡ z → Told z → Told y
  told e h = subst (λ (i : Item). Told i) (sym e) h

  from_kind : (x : Item) → R t x → (n : ℕ) → after c x ≡ Child n → (k : Kind) → (node_in c x.tree n).kind ≡ k → {y : Item}
      → Among Item y (scan_kind m t x k) → Told y
  from_kind x r n e (Inner l) d h = elim h [ ]
  from_kind x r n e (Word w) d h =
      let u = from_upto (m.last + 1) (scan_edge m t x w) h in
      let v = from_when (m.edge x.j w u.0) u.2 in
      let l = u.1 in
      told v.1 (scan_word r e d v.0 (omega arith), here)
  from_kind x r n e Empty d h = told (among_one h) (scan_empty r e d, here)
  from_kind x r n e (Foot l) d h = elim h [ ]

  from_next : (x : Item) → R t x → (nx : Next) → after c x ≡ nx → {y : Item} → Among Item y (scan_next c m t x nx) → Told y
  from_next x r End e h = elim h [ ]
  from_next x r Bottom e h = elim h [ ]
  from_next x r (Child n) e h = from_kind x r n e (node_in c x.tree n).kind refl h

  pub from_scan : (x : Item) → R t x → {y : Item} → Among Item y (scans c m t x) → Told y
  from_scan x r h = from_next x r (after c x) refl h

  pub from_predict : (x : Item) → R t x → {y : Item} → Among Item y (predicts c t x) → Told y
  from_predict x r h =
      let s = next_site c x.tree (predict_at c t x) among_none (after c x) h in
      let v = from_when (stays c x.tree s.0) s.3 in
      told v.1 (predict r s.1 s.2 v.0, here)

  pub from_complete : (a : ℕ) (x : Item) (b : ℕ) (z : Item) → R a x → R b z → Among ℕ t (a ∷ b ∷ []) → {y : Item}
      → Among Item y (option_to_list (completed c a x b z)) → Told y
  from_complete a x b z r r2 w h =
      let s = next_site c x.tree (λ o. option_to_list (complete_at c a x b z o)) among_none (after c x) h in
      let v = from_when (completes c x z s.0) s.3 in
      let b1 = and_split _ _ v.0 in
      let b2 = and_split _ _ b1.1 in
      let b3 = and_split _ _ b2.1 in
      let b4 = and_split _ _ b3.1 in
      told v.1 (
        complete r r2 s.1 s.2 b4.0 (eqb-true z.tree x.tree b1.0) (spot_true z.spot (At s.0) b2.0)
            (eqb-true z.i x.j b3.0) b4.1,
        w,
      )

  pub from_adjoin_predict : (x : Item) → R t x → {y : Item} → Among Item y (adjoin-predicts c t x) → Told y
  from_adjoin_predict x r h =
      let s = next_site c x.tree (adjoin_predict_at c t x) among_none (after c x) h in
      let u = from_upto (length c.trees) (adjoin_tree c t x s.0) s.3 in
      let v = from_when (listed c x.tree s.0 u.0) u.2 in
      told v.1 (adjoin_predict r s.1 s.2 u.1 v.0, here)

  pub from_foot_predict : (x : Item) → R t x → {y : Item} → Among Item y (foot-predicts c t x) → Told y
  from_foot_predict x r {y} h = pick (starts_foot c x) refl h
    where
      pick : (b : Bool) → starts_foot c x ≡ b → Among Item y (cond b (map (foot_site t x) (listing c x.tree)) []) → Told y
      pick true e u =
          let v = from_map (foot_site t x) (listing c x.tree) u in
          let f = foot_start c x x.spot e in
          told v.2 (foot_predict r f.2 f.3 f.4 f.5 (from_listing c x.tree v.1), here)
      pick false e u = elim u [ ]

  pub from_foot_complete : (a : ℕ) (x : Item) (b : ℕ) (z : Item) → R a x → R b z → Among ℕ t (a ∷ b ∷ []) → {y : Item}
      → Among Item y (option_to_list (foot-completed c a x b z)) → Told y
  from_foot_complete a x b z r r2 w h =
      let v = from_when (foots c x z) h in
      let b1 = and_split _ _ v.0 in
      let b2 = and_split _ _ b1.1 in
      let b3 = and_split _ _ b2.1 in
      let f = foot_start c z z.spot b1.0 in
      let l = lists_spot c x.tree z.tree x.spot b3.0 in
      told v.1 (foot_complete r r2 l.1 l.2 b3.1 f.2 f.3 f.4 f.5 (eqb-true z.i x.i b2.0), w)

  pub from_adjoin_complete : (a : ℕ) (x : Item) (b : ℕ) (y : Item) (d : ℕ) (z : Item) → R a x → R b y → R d z → Among ℕ t (a ∷ b ∷ d ∷ []) → {i : Item}
      → Among Item i (option_to_list (adjoin-completed c a x b y d z)) → Told i
  from_adjoin_complete a x b y d z r r2 r3 w h =
      let s = next_site c z.tree (λ o. option_to_list (adjoin_at c a x b y d z o)) among_none (after c z) h in
      let v = from_when (adjoins c x y z s.0) s.3 in
      let b1 = and_split _ _ v.0 in
      let f1 = and_split _ _ b1.0 in
      let f2 = and_split _ _ f1.0 in
      let f3 = and_split _ _ f1.1 in
      let b2 = and_split _ _ b1.1 in
      let b3 = and_split _ _ b2.1 in
      let b4 = and_split _ _ b3.1 in
      let b5 = and_split _ _ b4.1 in
      told v.1 (
        adjoin_complete r r2 r3 s.1 s.2 b5.0 (top_true x.spot f2.0) (eqb-true x.dot 1 f2.1) (eqb-true x.i z.j b4.0)
            (eqb-true y.tree z.tree b2.0) (spot_true y.spot (At s.0) b3.0) (eqb-true y.i x.p f3.0) (eqb-true y.j x.q f3.1) b5.1,
        w,
      )

module _ (c : Contents) (m : Meaning) (its : List Item) (t : ℕ) where
  abbrev Up : ℕ → Item → Type 0
  Up = Below its (t + 1)

  abbrev x_t : Item
  x_t = item_at its t

  abbrev r7 : List Item
  r7 = triples (adjoin-completed c) its t

  abbrev r6 : List Item
  r6 = pairs (foot-completed c) its t ++ r7

  abbrev r5 : List Item
  r5 = foot-predicts c t x_t ++ r6

  abbrev r4 : List Item
  r4 = adjoin-predicts c t x_t ++ r5

  abbrev r3 : List Item
  r3 = pairs (completed c) its t ++ r4

  abbrev r2 : List Item
  r2 = predicts c t x_t ++ r3

  pub from_conclusions : {y : Item} → Among Item y (conclusions c m its t) → Told c m Up t y
  from_conclusions {y} h = s1 (among_++ (scans c m t x_t) r2 h)
    where
      now : Up t x_t
      now = (omega arith, refl)

      s7 : Among Item y r7 → Told c m Up t y
      s7 u =
          let r = from_triples (adjoin-completed c) its t u in
          from_adjoin_complete c m Up t r.a (item_at its r.a) r.b (item_at its r.b) r.d (item_at its r.d)
          (r.a_upto, refl) (r.b_upto, refl) (r.d_upto, refl) r.one r.inside

      s6 : Among Item y (pairs (foot-completed c) its t) ⊎ Among Item y r7 → Told c m Up t y
      s6 (inl u) =
          let r = from_pairs (foot-completed c) its t u in
          from_foot_complete c m Up t r.a (item_at its r.a) r.b (item_at its r.b) (r.a_upto, refl) (r.b_upto, refl) r.one r.inside
      s6 (inr u) = s7 u

      s5 : Among Item y (foot-predicts c t x_t) ⊎ Among Item y r6 → Told c m Up t y
      s5 (inl u) = from_foot_predict c m Up t x_t now u
      s5 (inr u) = s6 (among_++ (pairs (foot-completed c) its t) r7 u)

      s4 : Among Item y (adjoin-predicts c t x_t) ⊎ Among Item y r5 → Told c m Up t y
      s4 (inl u) = from_adjoin_predict c m Up t x_t now u
      s4 (inr u) = s5 (among_++ (foot-predicts c t x_t) r6 u)

      s3 : Among Item y (pairs (completed c) its t) ⊎ Among Item y r4 → Told c m Up t y
      s3 (inl u) =
          let r = from_pairs (completed c) its t u in
          from_complete c m Up t r.a (item_at its r.a) r.b (item_at its r.b) (r.a_upto, refl) (r.b_upto, refl) r.one r.inside
      s3 (inr u) = s4 (among_++ (adjoin-predicts c t x_t) r5 u)

      s2 : Among Item y (predicts c t x_t) ⊎ Among Item y r3 → Told c m Up t y
      s2 (inl u) = from_predict c m Up t x_t now u
      s2 (inr u) = s3 (among_++ (pairs (completed c) its t) r4 u)

      s1 : Among Item y (scans c m t x_t) ⊎ Among Item y r2 → Told c m Up t y
      s1 (inl u) = from_scan c m Up t x_t now u
      s1 (inr u) = s2 (among_++ (predicts c t x_t) r3 u)
