-- Budgets one after the other, the most that there is to do, and what calls leave of a chart.
use Rattle.std.proofs.Common.{◌≡◌, ℕ, zero, suc, ◌+◌, ◌-◌, ◌<◌, ◌≤◌, min, Bool, true, false, cond, not, List, [], ◌∷◌, length, sym, refl, ap, ◌∙◌, subst, suc-add, zero-add, add-one, arith, ltb-true}
use native.Mathlib.Decide.{dec_lt}
use Rattle.format.specs.Parts.{Contents}
use Rattle.words.specs.Meaning.{Meaning}
use Rattle.steps.specs.Runs.{Working, goes_on, process, worked, made}
use Rattle.theory.specs.Theorems.{chart}
use Rattle.theory.specs.Calls.{after_calls, counted, called, Most, MostExists, CallsAddUp, EqualCharts}
use Rattle.theory.proofs.Tests.{and_split}
use Rattle.theory.proofs.Room.{chart_room}

-- One budget after another ---------------------------------------------------------------------------------------------------------

module _ (c : Contents) (m : Meaning) (cap : ℕ) where
  pub worked_stop : (n : ℕ) (w : Working) → goes_on w ≡ false → worked c m cap n w ≡ w
  worked_stop zero w e = refl
  worked_stop (suc n) w e = ap (λ (b : Bool). cond b (worked c m cap n (process c m cap w)) w) e

  worked_goes : (n : ℕ) (w : Working) → goes_on w ≡ true → worked c m cap (suc n) w ≡ worked c m cap n (process c m cap w)
  worked_goes n w e = ap (λ (b : Bool). cond b (worked c m cap n (process c m cap w)) w) e

  -- two budgets one after the other are their sum
  pub worked_more : (a b : ℕ) (w : Working) → worked c m cap (a + b) w ≡ worked c m cap b (worked c m cap a w)
  worked_more zero b w = ap (λ (n : ℕ). worked c m cap n w) (zero-add b)
  worked_more (suc a) b w =
      ap (λ (n : ℕ). worked c m cap n w) (suc-add a b) ∙ pick (goes_on w) refl (worked_more a b (process c m cap w))
    where
      pick : (v : Bool) → goes_on w ≡ v
          → worked c m cap (a + b) (process c m cap w) ≡ worked c m cap b (worked c m cap a (process c m cap w))
          → cond v (worked c m cap (a + b) (process c m cap w)) w ≡ worked c m cap b (cond v (worked c m cap a (process c m cap w)) w)
      pick true e h = h
      pick false e h = sym (worked_stop b w e)

  chart_more : (a b : ℕ) → chart c m cap (a + b) ≡ worked c m cap b (chart c m cap a)
  chart_more a b = worked_more a b (made c cap)

  -- calls process as many items as one call with the sum of their budgets
  pub calls_sum : (w : Working) (bs : List ℕ) → after_calls c m cap w bs ≡ worked c m cap (counted c m cap w bs) w
  calls_sum w [] = refl
  calls_sum w (b ∷ bs) = pick w.state.full (λ v. calls_sum v bs)
    where
      pick : (f : Bool) → ((v : Working) → after_calls c m cap v bs ≡ worked c m cap (counted c m cap v bs) v)
          → after_calls c m cap (cond f w (worked c m cap b w)) bs
          ≡ worked c m cap (cond f 0 b + counted c m cap (cond f w (worked c m cap b w)) bs) w
      pick true r = r w ∙ ap (λ (n : ℕ). worked c m cap n w) (sym (zero-add (counted c m cap w bs)))
      pick false r = r (worked c m cap b w) ∙ sym (worked_more b (counted c m cap (worked c m cap b w) bs) w)

  -- The most that there is to do -----------------------------------------------------------------------------------------------------

  -- a chart that goes on has the next item processed
  chart_next : (n : ℕ) → goes_on (chart c m cap n) ≡ true → chart c m cap (suc n) ≡ process c m cap (chart c m cap n)
  chart_next n e = ap (λ (k : ℕ). chart c m cap k) (sym (add-one n)) ∙ (chart_more n 1 ∙ worked_goes 0 (chart c m cap n) e)

  -- each processing counts one
  pub processed_each : (n : ℕ) → ((k : ℕ) → k < n → goes_on (chart c m cap k) ≡ true) → (chart c m cap n).processed ≡ n
  processed_each zero g = refl
  processed_each (suc n) g =
      ap (λ (w : Working). w.processed) (chart_next n (g n (omega arith)))
      ∙ (let e = processed_each n (λ k h. g k (omega arith)) in omega arith)

  -- so a chart that goes on has processed fewer items than it has room for
  goes_below : (n : ℕ) → ((k : ℕ) → k < n → goes_on (chart c m cap k) ≡ true) → goes_on (chart c m cap n) ≡ true → n < cap
  goes_below n g e =
      let h = chart_room c m cap n in
      let p = processed_each n g in
      let b = and_split (not (chart c m cap n).state.full) _ e in
      let l = ltb-true (chart c m cap n).processed (length (chart c m cap n).state.items) b.1 in
      omega arith

  -- from n on, with `left` items more to look at
  least : (left n : ℕ) → n + left ≡ cap → ((k : ℕ) → k < n → goes_on (chart c m cap k) ≡ true) → (r : ℕ) × Most c m cap r × (r ≤ cap)
  least zero n e g = pick (goes_on (chart c m cap n)) refl
    where
      pick : (b : Bool) → goes_on (chart c m cap n) ≡ b → (r : ℕ) × Most c m cap r × (r ≤ cap)
      pick true h = absurd (omega (arith, goes_below n g h))
      pick false h = (n, record { ends = h; goes = g }, omega arith)
  least (suc left) n e g = pick (goes_on (chart c m cap n)) refl (λ u. least left (suc n) (omega arith) u)
    where
      further : goes_on (chart c m cap n) ≡ true → (k : ℕ) → k < suc n → Dec (k < n) → goes_on (chart c m cap k) ≡ true
      further h k l (yes q) = g k q
      further h k l (no q) = let j : n ≡ k = omega arith in subst (λ (v : ℕ). goes_on (chart c m cap v) ≡ true) j h

      pick : (b : Bool) → goes_on (chart c m cap n) ≡ b
          → (((k : ℕ) → k < suc n → goes_on (chart c m cap k) ≡ true) → (r : ℕ) × Most c m cap r × (r ≤ cap))
          → (r : ℕ) × Most c m cap r × (r ≤ cap)
      pick true h f = f (λ k l. further h k l (dec_lt k n))
      pick false h f = (n, record { ends = h; goes = g }, omega arith)

  -- no chart both goes on and ends
  not_both : (w : Working) → goes_on w ≡ true → goes_on w ≡ false → ⊥
  not_both w e h = let z : ◌≡◌ {A = ℕ} 0 1 = cc in omega arith

  same_most : (a b : ℕ) → Most c m cap a → Most c m cap b → a ≡ b
  same_most a b M N = pick (dec_lt a b) (dec_lt b a)
    where
      pick : Dec (a < b) → Dec (b < a) → a ≡ b
      pick (yes l) k = absurd (not_both (chart c m cap a) (N.goes a l) M.ends)
      pick (no l) (yes k) = absurd (not_both (chart c m cap b) (M.goes b k) N.ends)
      pick (no l) (no k) = omega arith

  -- past the most nothing changes
  pub chart_min : (k n : ℕ) → Most c m cap n → chart c m cap k ≡ chart c m cap (min k n)
  chart_min k n M = pick (dec_lt k n)
    where
      pick : Dec (k < n) → chart c m cap k ≡ chart c m cap (min k n)
      pick (yes l) = ap (λ (v : ℕ). chart c m cap v) (omega arith)
      pick (no l) =
          let e : k ≡ n + (k - n) = omega arith in
          let f : n ≡ min k n = omega arith in
          ap (λ (v : ℕ). chart c m cap v) e ∙ (chart_more n (k - n) ∙ (worked_stop (k - n) (chart c m cap n) M.ends ∙ ap (λ (v : ℕ). chart c m cap v) f))

  pub processed_min : (k n : ℕ) → Most c m cap n → (chart c m cap (min k n)).processed ≡ min k n
  processed_min k n M = processed_each (min k n) (λ j l. M.goes j (omega arith))

pub most_exists : MostExists
most_exists c m cap =
    let r = least c m cap cap 0 (omega arith) (λ k h. absurd (omega arith)) in
    record { number = r.0; most = r.1; only = λ n M. same_most c m cap n r.0 M r.1; room = r.2 }

pub calls_add_up : CallsAddUp
calls_add_up c m cap n bs M =
    let k = counted c m cap (made c cap) bs in
    let e = calls_sum c m cap (made c cap) bs ∙ chart_min c m cap k n M in
    record { same = e; processed = ap (λ (w : Working). w.processed) e ∙ processed_min c m cap k n M }

pub equal_charts : EqualCharts
equal_charts c m cap bs ds = record { to = to'; from = λ e. ap (λ (w : Working). w.processed) e }
  where
    n : ℕ
    n = (most_exists c m cap).number

    -- calls leave the chart of as many items as they leave processed
    by_processed : (xs : List ℕ) → called c m cap xs ≡ chart c m cap (called c m cap xs).processed
    by_processed xs =
        let A = calls_add_up c m cap n xs (most_exists c m cap).most in
        A.same ∙ ap (λ (v : ℕ). chart c m cap v) (sym A.processed)

    to' : (called c m cap bs).processed ≡ (called c m cap ds).processed → called c m cap bs ≡ called c m cap ds
    to' e = by_processed bs ∙ (ap (λ (v : ℕ). chart c m cap v) e ∙ sym (by_processed ds))
