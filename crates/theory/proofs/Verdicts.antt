-- Yes and no, rightly said.
use Rattle.std.proofs.Common.{◌≡◌, ℕ, zero, suc, ◌<◌, Bool, true, false, cond, not, ◌&&◌, ◌||◌, ltb, ◌⊎◌, List, [], ◌∷◌, length, sym, refl, ap, ◌∙◌, subst, inl, inr, arith, ltb-false, le-ltb}
use Rattle.format.specs.Parts.{Contents}
use Rattle.steps.specs.declared.item.Item.{Item}
use Rattle.steps.specs.declared.verdict.Verdict.{Verdict}
use Rattle.steps.specs.declared.verdict.Verdict.TheVariants.{Yes, No, Full, Open}
use Rattle.steps.specs.Items.{same_item, item_at}
use Rattle.steps.specs.Runs.{Working, goes_on, made}
use Rattle.steps.specs.Verdicts.{says_yes, yes_in}
use Rattle.theory.specs.Theorems.{chart, chart_items, AtRest}
use Rattle.theory.specs.Calls.{budgets}
use Rattle.theory.specs.Verdicts.{Accepted, RightVerdict, VerdictsAreRight, CalledVerdictsAreRight}
use Rattle.theory.proofs.Tests.{same_is}
use Rattle.theory.proofs.Derived.{held_are_derivable, resting_hold_all}
use Rattle.theory.proofs.Budgets.{calls_sum}

-- Verdicts by the three tests that they go by ------------------------------------------------------------------------------------------

abbrev by_tests : Bool → Bool → Bool → Verdict
by_tests y f g = cond y Yes (cond f Full (cond g Open No))

pub tests_yes : (y f g : Bool) → by_tests y f g ≡ Yes → y ≡ true
tests_yes true f g e = refl
tests_yes false true g e = cc
tests_yes false false true e = cc
tests_yes false false false e = cc

tests_no : (y f g : Bool) → by_tests y f g ≡ No → (y ≡ false) × (f ≡ false) × (g ≡ false)
tests_no true f g e = (cc, cc, cc)
tests_no false true g e = (cc, cc, cc)
tests_no false false true e = (cc, cc, cc)
tests_no false false false e = (refl, refl, refl)

tests_rest : (y f g : Bool) → f ≡ false → g ≡ false → (by_tests y f g ≡ Yes) ⊎ (by_tests y f g ≡ No)
tests_rest true f g e h = inl refl
tests_rest false f g e h = inr (ap (λ (v : Bool). cond v Full (cond g Open No)) e ∙ ap (λ (v : Bool). cond v Open No) h)

-- a chart that is not full goes on if an item is left
goes_by : (w : Working) → w.state.full ≡ false → goes_on w ≡ ltb w.processed (length w.state.items)
goes_by w e = ap (λ (v : Bool). not v && ltb w.processed (length w.state.items)) e

rests : (w : Working) → w.state.full ≡ false → goes_on w ≡ false → AtRest w
rests w e h = (e, ltb-false w.processed (length w.state.items) (sym (goes_by w e) ∙ h))

ends : (w : Working) → AtRest w → goes_on w ≡ false
ends w r = goes_by w r.0 ∙ le-ltb w.processed (length w.state.items) r.1

-- Held items that say yes ------------------------------------------------------------------------------------------------------------

yes_held : (c : Contents) (last : ℕ) (its : List Item) → yes_in c last its ≡ true
    → (k : ℕ) × (k < length its) × (says_yes c last (item_at its k) ≡ true)
yes_held c last [] e = (0, (let z : ◌≡◌ {A = ℕ} 0 1 = cc in absurd (omega arith)), cc)
yes_held c last (x ∷ xs) e = pick (says_yes c last x) refl e (λ u. yes_held c last xs u)
  where
    pick : (b : Bool) → says_yes c last x ≡ b → (b || yes_in c last xs) ≡ true
        → (yes_in c last xs ≡ true → (k : ℕ) × (k < length xs) × (says_yes c last (item_at xs k) ≡ true))
        → (k : ℕ) × (k < length (x ∷ xs)) × (says_yes c last (item_at (x ∷ xs) k) ≡ true)
    pick true h u f = (0, omega arith, h)
    pick false h u f = let r = f u in (suc r.0, (let l = r.1 in omega arith), r.2)

held_yes : (c : Contents) (last : ℕ) (its : List Item) (k : ℕ) → k < length its → says_yes c last (item_at its k) ≡ true → yes_in c last its ≡ true
held_yes c last [] k l e = absurd (omega arith)
held_yes c last (x ∷ xs) zero l e = ap (λ (v : Bool). v || yes_in c last xs) e
held_yes c last (x ∷ xs) (suc k) l e = pick (says_yes c last x) (held_yes c last xs k (omega arith) e)
  where
    pick : (b : Bool) → yes_in c last xs ≡ true → (b || yes_in c last xs) ≡ true
    pick true h = refl
    pick false h = h

-- the same items say the same
same_says : (c : Contents) (last : ℕ) (x y : Item) → same_item x y ≡ true → says_yes c last x ≡ says_yes c last y
same_says c last x y e = ap (λ (v : Item). says_yes c last v) (same_is x y e)

pub verdicts_are_right : VerdictsAreRight
verdicts_are_right c m cap n last = record {
  rests = rests w;
  decides = λ r. tests_rest yes? w.state.full (goes_on w) r.0 (ends w r);
  yes_rightly = λ e. accepts (yes_held c last its (tests_yes yes? w.state.full (goes_on w) e));
  no_rightly = λ e a. refuses (tests_no yes? w.state.full (goes_on w) e) a;
}
  where
    w : Working
    w = chart c m cap n

    its : List Item
    its = chart_items c m cap n

    yes? : Bool
    yes? = yes_in c last its

    accepts : (k : ℕ) × (k < length its) × (says_yes c last (item_at its k) ≡ true) → Accepted c m last
    accepts h = (item_at its h.0, held_are_derivable c m cap n h.0 h.1, h.2)

    refuses : (yes? ≡ false) × (w.state.full ≡ false) × (goes_on w ≡ false) → Accepted c m last → ⊥
    refuses t a =
        let h = resting_hold_all c m cap n (rests w t.1 t.2) a.0 a.1 in
        let e = held_yes c last its h.0 h.1 (same_says c last (item_at its h.0) a.0 h.2 ∙ a.2) in
        let z : ◌≡◌ {A = ℕ} 0 1 = cc (e, t.0) in
        omega arith

pub called_verdicts_are_right : CalledVerdictsAreRight
called_verdicts_are_right c m cap last bs =
    subst (λ (w : Working). RightVerdict c m last w) (sym (calls_sum c m cap (made c cap) bs)) (verdicts_are_right c m cap (budgets c m cap bs) last)
