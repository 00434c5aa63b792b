-- What a derivable item says is so.
use Rattle.std.proofs.Common.{◌≡◌, ℕ, zero, suc, ◌+◌, true, List, [], ◌∷◌, ◌++◌, take, sym, refl, ap, ◌∙◌, subst, append_assoc, add-one}
use Rattle.format.specs.declared.spot.Spot.{Spot}
use Rattle.format.specs.declared.spot.Spot.TheVariants.{Top}
use Rattle.format.specs.declared.spot.Next.{Next}
use Rattle.format.specs.declared.spot.Next.TheVariants.{Child}
use Rattle.format.specs.Parts.{Contents}
use Rattle.format.specs.Keeps.{nodes_in, Keeps}
use Rattle.words.specs.Meaning.{Meaning}
use Rattle.steps.specs.declared.item.Item.{Item}
use Rattle.steps.specs.Items.{joined}
use Rattle.steps.specs.Conclusions.{after, finished}
use Rattle.theory.specs.Steps.{Step, start, scan_word, scan_empty, predict, complete, adjoin_predict, foot_predict, foot_complete, adjoin_complete, DerivableIn}
use Rattle.derivation.specs.Derivations.{Derivation, done, stay, adjoin, below, tree_row}
use Rattle.derivation.specs.Spans.{Gaps, Spans, s_done, s_word, s_empty, s_bottom, s_plain, s_adjoined, starts_of, ends_of, Part, Means}
use Rattle.derivation.specs.Readings.{◌beside◌}
use Rattle.derivation.specs.Theorems.{DerivableItemsSpan}
use Rattle.derivation.proofs.Joins.{joined_missing, joined_comm, starts_++, ends_++, starts_nil, ends_nil}
use Rattle.derivation.proofs.Gaps.{only_gap}
use Rattle.derivation.proofs.Feet.{one_foot, gaps_feet, feet_sum, feet_under}
use Rattle.derivation.proofs.Dots.{dot_past, dot_last, whole_top, foot_row}

-- rows side by side
spans_++ : {c : Contents} {m : Meaning} {t : ℕ} {ks ls : List Next} {f h : Derivation} {i k j : ℕ} {gs hs : Gaps}
    → Spans c m t ks f i k gs → Spans c m t ls h k j hs → Spans c m t (ks ++ ls) (f beside h) i j (gs ++ hs)
spans_++ s_done v = v
spans_++ (s_word e d u) v = s_word e d (spans_++ u v)
spans_++ (s_empty e u) v = s_empty e (spans_++ u v)
spans_++ (s_bottom u) v = s_bottom (spans_++ u v)
spans_++ {hs = hs} (s_plain {gs = xs} {hs = ys} e d a u) v = rw (append_assoc xs ys hs) (s_plain e d a (spans_++ u v))
spans_++ {hs = hs} (s_adjoined {gs = xs} {hs = ys} e d r a u) v = rw (append_assoc xs ys hs) (s_adjoined e d r a (spans_++ u v))

module _ (c : Contents) (m : Meaning) where
  -- one more sibling before the dot
  pub extend : (x : Item) (n : ℕ) {f h : Derivation} {k : ℕ} {hs : Gaps} → after c x ≡ Child n → Means c m f x
      → Spans c m x.tree (Child n ∷ []) h x.j k hs
      → Part c m (f beside h) x.tree (take (x.dot + 1) (below c x.tree x.spot)) x.i k (joined x.p (starts_of hs)) (joined x.q (ends_of hs))
  extend x n {f} {h} {k} {hs} e M s = (
    M.0 ++ hs,
    subst (λ (ks : List Next). Spans c m x.tree ks (f beside h) x.i k (M.0 ++ hs))
        (sym (ap (λ (d : ℕ). take d (below c x.tree x.spot)) (add-one x.dot) ∙ dot_past c x.tree x.spot x.dot n e)) (spans_++ M.1 s),
    starts_++ M.0 hs ∙ ap (λ (r : ℕ). joined r (starts_of hs)) M.2,
    ends_++ M.0 hs ∙ ap (λ (r : ℕ). joined r (ends_of hs)) M.3,
  )

  pub part_at : {f : Derivation} {t : ℕ} {ks : List Next} {i j p q p' q' : ℕ} → Part c m f t ks i j p q → p ≡ p' → q ≡ q' → Part c m f t ks i j p' q'
  part_at M e h = (M.0, M.1, M.2 ∙ e, M.3 ∙ h)

  -- a finished item says it of the whole row
  pub whole_row : (y : Item) {f : Derivation} → finished c y ≡ true → Means c m f y → Part c m f y.tree (below c y.tree y.spot) y.i y.j y.p y.q
  whole_row y {f} e M =
      (M.0, subst (λ (ks : List Next). Spans c m y.tree ks f y.i y.j M.0) (dot_last c y.tree y.spot y.dot e) M.1, M.2, M.3)

  pub carry : {f : Derivation} {t t' : ℕ} {s s' : Spot} {i i' j j' p q : ℕ} → t ≡ t' → s ≡ s' → i ≡ i' → j ≡ j'
      → Part c m f t (below c t s) i j p q → Part c m f t' (below c t' s') i' j' p q
  carry {f} {t} {t'} {s} {s'} {i} {i'} {j} {j'} {p} {q} e1 e2 e3 e4 M =
      subst (λ (v : ℕ). Part c m f t' (below c t' s') i' v p q) e4
      (subst (λ (v : ℕ). Part c m f t' (below c t' s') v j p q) e3
      (subst (λ (v : Spot). Part c m f t' (below c t' v) i j p q) e2
      (subst (λ (v : ℕ). Part c m f v (below c v s) i j p q) e1 M)))

  pub top_part : {f : Derivation} {t d i i' j p q : ℕ} {s : Spot} → s ≡ Top → d ≡ 1 → i ≡ i' → Part c m f t (take d (below c t s)) i j p q
      → Part c m f t (tree_row c t) i' j p q
  top_part {f} {t} {d} {i} {i'} {j} {p} {q} {s} e1 e2 e3 M =
      subst (λ (v : ℕ). Part c m f t (tree_row c t) v j p q) e3
      (subst (λ (v : List Next). Part c m f t v i j p q) (whole_top (nodes_in c t))
      (subst (λ (v : ℕ). Part c m f t (take v (tree_row c t)) i j p q) e2
      (subst (λ (v : Spot). Part c m f t (take d (below c t v)) i j p q) e1 M)))

  -- an adjoined tree has one gap, at the item's foot positions
  pub top_gap : (K : Keeps c) {f : Derivation} {β i j p q : ℕ} → feet_sum (feet_under c β) (tree_row c β) ≡ 1 → Part c m f β (tree_row c β) i j p q
      → Spans c m β (tree_row c β) f i j ((p, q) ∷ [])
  top_gap K {f} {β} {i} {j} {p} {q} e M =
      let o = only_gap (λ (gs : Gaps). Spans c m β (tree_row c β) f i j gs × (starts_of gs ≡ p) × (ends_of gs ≡ q)) M.0 (gaps_feet c K M.1 ∙ e) (M.1, M.2, M.3) in
      let e1 : o.0 ≡ p = sym (joined_missing o.0) ∙ o.2.1 in
      let e2 : o.1 ≡ q = sym (joined_missing o.1) ∙ o.2.2 in
      subst (λ (v : ℕ). Spans c m β (tree_row c β) f i j ((p, v) ∷ [])) e2
      (subst (λ (v : ℕ). Spans c m β (tree_row c β) f i j ((v, o.1) ∷ [])) e1 o.2.0)

  -- the conclusion of a step says what is so, if its premises do
  unfoldable pub sound_step : (K : Keeps c) (R : ℕ → Item → Type 0) → ((a : ℕ) (x : Item) → R a x → (f : Derivation) × Means c m f x)
      → {y : Item} → Step c m R y → (f : Derivation) × Means c m f y
  sound_step K R ih (start e) = (done, ([], s_done, refl, refl))
  sound_step K R ih (scan_word {a = a} {n = n} {x = x} h e k d l) =
      let X = ih a x h in
      (X.0 beside stay done done, part_at (extend x n e X.1 (s_word k d s_done)) (joined_missing x.p) (joined_missing x.q))
  sound_step K R ih (scan_empty {a = a} {n = n} {x = x} h e k) =
      let X = ih a x h in
      (X.0 beside stay done done, part_at (extend x n e X.1 (s_empty k s_done)) (joined_missing x.p) (joined_missing x.q))
  sound_step K R ih (predict h e k d) = (done, ([], s_done, refl, refl))
  sound_step K R ih (complete {a = a} {b = b} {n = n} {x = x} {y = y} h h2 e k d e1 e2 e3 e4) =
      let X = ih a x h in
      let U = ih b y h2 in
      let Y = carry e1 e2 e3 refl (whole_row y e4 U.1) in (
        X.0 beside stay U.0 done,
        part_at (extend x n e X.1 (s_plain k d Y.1 s_done))
            (ap (λ (r : ℕ). joined x.p r) (starts_nil Y.0 Y.2)) (ap (λ (r : ℕ). joined x.q r) (ends_nil Y.0 Y.3)),
      )
  sound_step K R ih (adjoin_predict h e k l d) = (done, ([], s_done, refl, refl))
  sound_step K R ih (foot_predict h e1 e2 e3 e4 d) = (done, ([], s_done, refl, refl))
  sound_step K R ih (foot_complete {f = f} {l = l} {x = x} {y = y} h h2 e1 e2 e3 e4 e5 e6 e7 e8) = (
    stay done done,
    (
      (x.i, x.j) ∷ [],
      subst (λ (ks : List Next). Spans c m y.tree (take 1 ks) (stay done done) x.i x.j ((x.i, x.j) ∷ []))
          (sym (ap (λ (s : Spot). below c y.tree s) e4 ∙ foot_row c y.tree f l e5)) (s_bottom s_done),
      joined_missing x.i,
      joined_missing x.j,
    ),
  )
  sound_step K R ih (adjoin_complete {a = a} {b = b} {d = d} {n = n} {x = x} {y = y} {z = z} h h2 h3 e k l e1 e2 e3 e4 e5 e6 e7 e8) =
      let U = ih a x h in
      let V = ih b y h2 in
      let Z = ih d z h3 in
      let X = top_gap K (one_foot c K z.tree n x.tree l) (top_part e1 e2 e3 U.1) in
      let Y = carry e4 e5 e6 e7 (whole_row y e8 V.1) in (
        Z.0 beside adjoin x.tree U.0 V.0 done,
        part_at (extend z n e Z.1 (s_adjoined k l X Y.1 s_done))
            (ap (λ (r : ℕ). joined z.p r) (starts_nil Y.0 Y.2) ∙ joined_comm z.p y.p)
            (ap (λ (r : ℕ). joined z.q r) (ends_nil Y.0 Y.3) ∙ joined_comm z.q y.q),
      )

  sound_in : (K : Keeps c) (h : ℕ) (x : Item) → DerivableIn c m h x → (f : Derivation) × Means c m f x
  sound_in K zero x d = absurd d
  sound_in K (suc h) x d = sound_step K (λ _ y. DerivableIn c m h y) (λ a y u. sound_in K h y u) d

pub derivable_items_span : DerivableItemsSpan
derivable_items_span c m K x d = sound_in c m K d.0 x d.1
