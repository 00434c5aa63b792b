-- What a chart at work keeps.
use Rattle.std.proofs.Common.{◌≡◌, ℕ, zero, suc, ◌+◌, ◌<◌, ◌≤◌, Bool, true, false, cond, not, ltb, ◌⊎◌, List, length, sym, refl, ◌∙◌, subst, inl, inr, arith, ltb-true}
use native.Mathlib.Decide.{ℕ_discrete, dec_lt}
use Rattle.format.specs.declared.spot.Spot.TheVariants.{Top}
use Rattle.format.specs.Parts.{Contents}
use Rattle.format.specs.Questions.{may_start}
use Rattle.words.specs.Meaning.{Meaning}
use Rattle.steps.specs.declared.item.Item.{Item}
use Rattle.steps.specs.declared.item.Origin.TheVariants.{Start}
use Rattle.steps.specs.Items.{fresh, item_at}
use Rattle.steps.specs.Conclusions.{start_tree, starts, conclusions}
use Rattle.steps.specs.Runs.{State, draw_all, nothing_drawn, Working, goes_on, process, made, worked}
use Rattle.theory.specs.Members.{Among}
use Rattle.theory.specs.Steps.{Step, start, scan_word, scan_empty, predict, complete, adjoin_predict, foot_predict, foot_complete, adjoin_complete, Below, Justified, Holds, premises}
use Rattle.theory.proofs.Members.{from_when, to_when, from_upto, to_upto}
use Rattle.theory.proofs.Tests.{and_split}
use Rattle.theory.proofs.Premises.{more, apart}
use Rattle.theory.proofs.Draws.{Prefix, holds_on, Drawn, drawn_all}
use Rattle.theory.proofs.Reading.{from_conclusions}
use Rattle.theory.proofs.Writing.{to_conclusions}

pub record Kept (c : Contents) (m : Meaning) (w : Working) : Type 0 where
  pub just : Justified c m w.state.items
  pub bound : w.processed ≤ length w.state.items
  -- whatever a step concludes from processed items is held
  pub closed : w.state.full ≡ false → (y : Item) → Step c m (Below w.state.items w.processed) y → Holds w.state.items y

module _ (c : Contents) (m : Meaning) where
  -- no number is below 0
  none_below : {a : ℕ} {Z : Type 0} → a < 0 → Z
  none_below l = absurd (omega arith)

  -- without premises only the first step is left
  no_premises : (its : List Item) {y : Item} → Step c m (Below its 0) y → Among Item y (starts c)
  no_premises its (start {t = t} e) =
      let b = and_split (ltb t (length c.trees)) _ e in
      to_upto (length c.trees) (start_tree c) t (ltb-true t (length c.trees) b.0) (to_when (fresh t Top 0 Start) e)
  no_premises its (scan_word r e k d l) = none_below r.0
  no_premises its (scan_empty r e k) = none_below r.0
  no_premises its (predict r e k d) = none_below r.0
  no_premises its (complete r s e k d e1 e2 e3 e4) = none_below r.0
  no_premises its (adjoin_predict r e k l d) = none_below r.0
  no_premises its (foot_predict r e1 e2 e3 e4 d) = none_below r.0
  no_premises its (foot_complete r s e1 e2 e3 e4 e5 e6 e7 e8) = none_below r.0
  no_premises its (adjoin_complete r s u e k h e1 e2 e3 e4 e5 e6 e7 e8) = none_below r.0

  pub from_starts : {R : ℕ → Item → Type 0} {y : Item} → Among Item y (starts c) → Step c m R y
  from_starts {R} h =
      let u = from_upto (length c.trees) (start_tree c) h in
      let v = from_when (may_start c u.0) u.2 in
      subst (λ (i : Item). Step c m R i) (sym v.1) (start v.0)

  pub kept_made : (cap : ℕ) → Kept c m (made c cap)
  kept_made cap =
      let D = drawn_all cap nothing_drawn (starts c) in
      record {
        just = λ k h. from_starts (D.new k (omega arith) h);
        bound = omega arith;
        closed = λ e y s. D.held e y (no_premises _ s);
      }

  -- the items below t are those below a later number too, where the list goes on
  further : {its later : List Item} → Prefix its later → (s t : ℕ) → s ≤ t → s ≤ length its → (a : ℕ) (x : Item) → Below its s a x → Below later t a x
  further {its} {later} p s t l k a x b = (under b.0, p.agrees a (inside b.0) ∙ b.1)
    where
      under : a < s → a < t
      under h = omega arith

      inside : a < s → a < length its
      inside h = omega arith

  pub kept_process : (cap : ℕ) (w : Working) → w.state.full ≡ false → w.processed < length w.state.items → Kept c m w → Kept c m (process c m cap w)
  kept_process cap w room lt K = record { just = λ k h. just' k h (dec_lt k (length its)); bound = bound'; closed = closed' }
    where
      its : List Item
      its = w.state.items

      t : ℕ
      t = w.processed

      r : State
      r = draw_all cap w.state (conclusions c m its t)

      D : Drawn w.state (conclusions c m its t) r
      D = drawn_all cap w.state (conclusions c m its t)

      longer : length its ≤ length r.items
      longer = D.grows.longer

      bound' : t + 1 ≤ length r.items
      bound' = omega (arith, longer)

      just' : (k : ℕ) → k < length r.items → Dec (k < length its) → Step c m (Below r.items k) (item_at r.items k)
      just' k h (yes l) =
          subst (λ (v : Item). Step c m (Below r.items k) v) (sym (D.grows.agrees k l))
          (more (further D.grows k k (omega arith) (omega arith)) (K.just k l))
      just' k h (no l) =
          more (further D.grows (t + 1) k (omega arith) (omega arith)) (from_conclusions c m its t (D.new k (omega arith) h)).0

      -- what was below t + 1 in the longer list
      back : (a : ℕ) (x : Item) → Below r.items (t + 1) a x → Below its (t + 1) a x
      back a x b = (b.0, sym (D.grows.agrees a (inside b.0)) ∙ b.1)
        where
          inside : a < t + 1 → a < length its
          inside h = omega arith

      other : (a : ℕ) (x : Item) → Below its (t + 1) a x → (t ≡ a) ⊎ Below its t a x
      other a x b = pick (ℕ_discrete t a) b.0
        where
          pick : Dec (t ≡ a) → a < t + 1 → (t ≡ a) ⊎ Below its t a x
          pick (yes e) l = inl e
          pick (no n) l = inr (omega arith, b.1)

      closed' : r.full ≡ false → (y : Item) → Step c m (Below r.items (t + 1)) y → Holds r.items y
      closed' e y s = pick (apart t other (more back s))
        where
          pick : Among ℕ t (premises y.origin) ⊎ Step c m (Below its t) y → Holds r.items y
          pick (inl u) = D.held e y (to_conclusions c m its t lt (more back s) u)
          pick (inr u) = holds_on D.grows y (K.closed room y u)

  open_one : (b : Bool) → not b ≡ true → b ≡ false
  open_one true e = cc
  open_one false e = refl

  pub kept_worked : (cap n : ℕ) (w : Working) → Kept c m w → Kept c m (worked c m cap n w)
  kept_worked cap zero w K = K
  kept_worked cap (suc n) w K = pick (goes_on w) refl (λ J. kept_worked cap n (process c m cap w) J)
    where
      pick : (b : Bool) → goes_on w ≡ b → (Kept c m (process c m cap w) → Kept c m (worked c m cap n (process c m cap w)))
          → Kept c m (cond b (worked c m cap n (process c m cap w)) w)
      pick true e f =
          let b = and_split (not w.state.full) _ e in
          f (kept_process cap w (open_one w.state.full b.0) (ltb-true w.processed (length w.state.items) b.1) K)
      pick false e f = K

  pub kept : (cap n : ℕ) → Kept c m (worked c m cap n (made c cap))
  kept cap n = kept_worked cap n (made c cap) (kept_made cap)
