-- Making a chart.
use Rattle.std.proofs.Common.{◌≡◌, ℕ, ◌≤◌, Bool, true, false, cond, not, ◌&&◌, ltb, leb, [], is_ok, Ok, Err, sym, refl, ap, ◌∙◌, arith, leb-true}
use Rattle.format.specs.Parts.{Contents}
use Rattle.steps.specs.Items.{most_positions}
use Rattle.steps.specs.Conclusions.{starts}
use Rattle.steps.specs.Runs.{State, Working, draw_all, made}
use Rattle.chart.specs.declared.refusal.Refusal.{Refusal}
use Rattle.chart.specs.declared.refusal.Refusal.TheVariants as refusals
use Rattle.chart.specs.Charts.{most_items, judged, refused_chart, making}
use Rattle.chart.proofs.Runs.{full_stays}

clash : {X : Type 0} → ◌≡◌ {A = ℕ} 0 1 → X
clash z = elim (let f : ⊥ = omega arith in f) [ ]

judged_short : (cap n : ℕ) → is_ok (judged cap n) ≡ true → n ≤ most_positions
judged_short cap n h = by (ltb 0 cap && leb cap most_items) (leb n most_positions) refl h
  where
    by : (a b : Bool) → leb n most_positions ≡ b → is_ok {E = Refusal} (cond a (cond b (Ok (tt {0})) (Err refusals.SourceTooLong)) (Err refusals.Capacity)) ≡ true → n ≤ most_positions
    by true true e h = leb-true n most_positions e
    by true false e h = clash (let z : ◌≡◌ {A = ℕ} 0 1 = cc in z)
    by false b e h = clash (let z : ◌≡◌ {A = ℕ} 0 1 = cc in z)

abbrev begun : Bool → State
begun f = record { items = []; full = f }

abbrev at_making : State → Working
at_making s = record { state = s; processed = 0 }

pub made_by : (c : Contents) (cap n : ℕ) (f : Bool) (s : State) → is_ok (judged cap n) ≡ not f → s ≡ draw_all cap (begun f) (starts c) → at_making s ≡ making c cap n
made_by c cap n false s o e = ap at_making e ∙ sym (ap (λ (b : Bool). cond b (made c cap) refused_chart) o)
made_by c cap n true s o e = ap at_making (e ∙ full_stays cap (begun true) (starts c) refl) ∙ sym (ap (λ (b : Bool). cond b (made c cap) refused_chart) o)

pub short_by : (c : Contents) (cap n : ℕ) (f : Bool) (s : State) → is_ok (judged cap n) ≡ not f → s ≡ draw_all cap (begun f) (starts c) → s.full ≡ false → n ≤ most_positions
short_by c cap n false s o e h = judged_short cap n o
short_by c cap n true s o e h =
    let q : s.full ≡ true = ap (λ (z : State). z.full) (e ∙ full_stays cap (begun true) (starts c) refl) in
    clash (let z : ◌≡◌ {A = ℕ} 0 1 = cc in z)
