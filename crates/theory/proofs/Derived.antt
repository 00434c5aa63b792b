-- Derivable items, and what a chart holds.
use Rattle.std.proofs.Common.{ℕ, zero, suc, ◌+◌, ◌<◌, ◌≤◌, List, length, subst, arith}
use Rattle.format.specs.Parts.{Contents}
use Rattle.words.specs.Meaning.{Meaning}
use Rattle.steps.specs.declared.item.Item.{Item}
use Rattle.steps.specs.declared.item.Origin.{Origin}
use Rattle.steps.specs.Items.{item_at}
use Rattle.theory.specs.Steps.{Step, start, scan_word, scan_empty, predict, complete, adjoin_predict, foot_predict, foot_complete, adjoin_complete, DerivableIn, Derivable, Below, Justified, Holds}
use Rattle.theory.specs.Theorems.{chart, chart_items, ConclusionsAreTheSteps, DerivableAreConcluded, HeldAreJustified, HeldAreDerivable, RestingHoldAll}
use Rattle.theory.proofs.Tests.{with_origin, same_is}
use Rattle.theory.proofs.Premises.{more, replace}
use Rattle.theory.proofs.Reading.{from_conclusions}
use Rattle.theory.proofs.Writing.{to_conclusions}
use Rattle.theory.proofs.Charts.{kept}

pub conclusions_are_the_steps : ConclusionsAreTheSteps
conclusions_are_the_steps c m its t l y = record {
  step = λ h. (from_conclusions c m its t h).0;
  premise = λ h. (from_conclusions c m its t h).1;
  concluded = λ s u. to_conclusions c m its t l s u;
}

pub held_are_justified : HeldAreJustified
held_are_justified c m cap n = (kept c m cap n).just

-- a higher derivation
higher : (c : Contents) (m : Meaning) (g h : ℕ) → g ≤ h → (x : Item) → DerivableIn c m g x → DerivableIn c m h x
higher c m zero h l x d = absurd d
higher c m (suc g) zero l x d = absurd (omega arith)
higher c m (suc g) (suc h) l x d = more (λ a y u. higher c m g h (omega arith) y u) d

-- two derivations, or three, brought to one height
upon : (c : Contents) (m : Meaning) (g h : ℕ) (x : Item) → DerivableIn c m g x → DerivableIn c m (g + h) x
upon c m g h x d = higher c m g (g + h) (omega arith) x d

under : (c : Contents) (m : Meaning) (g h : ℕ) (x : Item) → DerivableIn c m h x → DerivableIn c m (g + h) x
under c m g h x d = higher c m h (g + h) (omega arith) x d

concluded : (c : Contents) (m : Meaning) {x : Item} → Step c m (λ _ y. Derivable c m y) x → Derivable c m x
concluded c m (start e) = (1, start e)
concluded c m (scan_word r e k d l) = (suc r.0, scan_word r.1 e k d l)
concluded c m (scan_empty r e k) = (suc r.0, scan_empty r.1 e k)
concluded c m (predict r e k d) = (suc r.0, predict r.1 e k d)
concluded c m (complete {x = x} {y = y} r s e k d e1 e2 e3 e4) =
    (suc (r.0 + s.0), complete (upon c m r.0 s.0 x r.1) (under c m r.0 s.0 y s.1) e k d e1 e2 e3 e4)
concluded c m (adjoin_predict r e k l d) = (suc r.0, adjoin_predict r.1 e k l d)
concluded c m (foot_predict r e1 e2 e3 e4 d) = (suc r.0, foot_predict r.1 e1 e2 e3 e4 d)
concluded c m (foot_complete {x = x} {y = y} r s e1 e2 e3 e4 e5 e6 e7 e8) =
    (suc (r.0 + s.0), foot_complete (upon c m r.0 s.0 x r.1) (under c m r.0 s.0 y s.1) e1 e2 e3 e4 e5 e6 e7 e8)
concluded c m (adjoin_complete {x = x} {y = y} {z = z} r s u e k h e1 e2 e3 e4 e5 e6 e7 e8) = (
  suc (r.0 + (s.0 + u.0)),
  adjoin_complete (upon c m r.0 (s.0 + u.0) x r.1) (under c m r.0 (s.0 + u.0) y (upon c m s.0 u.0 y s.1))
      (under c m r.0 (s.0 + u.0) z (under c m s.0 u.0 z u.1)) e k h e1 e2 e3 e4 e5 e6 e7 e8,
)

by_step : (c : Contents) (m : Meaning) (x : Item) (h : ℕ) → DerivableIn c m h x → Step c m (λ _ y. Derivable c m y) x
by_step c m x zero d = absurd d
by_step c m x (suc h) d = more (λ a y u. (h, u)) d

pub derivable_are_concluded : DerivableAreConcluded
derivable_are_concluded c m x = record { by_step = λ d. by_step c m x d.0 d.1; derived = λ s. concluded c m s }

-- each justified item has a derivation as high as its number
justified_derivable : {c : Contents} {m : Meaning} (its : List Item) → Justified c m its → (b k : ℕ) → k < b → k < length its → DerivableIn c m b (item_at its k)
justified_derivable its J zero k l h = absurd (omega arith)
justified_derivable {c} {m} its J (suc b) k l h =
    more (λ a x u. subst (λ (i : Item). DerivableIn c m b i) u.1 (justified_derivable its J b a (below a u.0) (inside a u.0))) (J k h)
  where
    below : (a : ℕ) → a < k → a < b
    below a q = omega arith

    inside : (a : ℕ) → a < k → a < length its
    inside a q = omega arith

pub held_are_derivable : HeldAreDerivable
held_are_derivable c m cap n k h = (suc k, justified_derivable _ (kept c m cap n).just (suc k) k (omega arith) h)

-- a list closed under the steps holds what is derivable
closed_holds : {c : Contents} {m : Meaning} (its : List Item) → ((y : Item) → Step c m (Below its (length its)) y → Holds its y)
    → (h : ℕ) (y : Item) → DerivableIn c m h y → Holds its y
closed_holds its C zero y d = absurd d
closed_holds its C (suc h) y d =
    let r = replace (λ a x u. found x (closed_holds its C h x u)) d in
    C (with_origin y r.0) r.1
  where
    found : (x : Item) → Holds its x → (b : ℕ) × (o : Origin) × Below its (length its) b (with_origin x o)
    found x q = (q.0, (item_at its q.0).origin, (q.1, same_is (item_at its q.0) x q.2))

pub resting_hold_all : RestingHoldAll
resting_hold_all c m cap n rest y d = closed_holds (chart_items c m cap n) closed d.0 y d.1
  where
    -- all held items are processed
    far : length (chart_items c m cap n) ≤ (chart c m cap n).processed
    far = rest.1

    closed : (z : Item) → Step c m (Below (chart_items c m cap n) (length (chart_items c m cap n))) z → Holds (chart_items c m cap n) z
    closed z s = (kept c m cap n).closed rest.0 z (more (λ a x b. (let l = b.0 in omega (arith, far), b.1)) s)
