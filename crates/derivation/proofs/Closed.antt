-- Derivable items, by their parts, are closed under the steps.
use Rattle.std.proofs.Common.{◌≡◌, ℕ, suc, ◌+◌, true, refl, subst, add-one, arith}
use Rattle.format.specs.declared.node.Kind.TheVariants.{Word, Empty, Foot}
use Rattle.format.specs.declared.spot.Spot.{Spot}
use Rattle.format.specs.declared.spot.Spot.TheVariants.{Top, At}
use Rattle.format.specs.declared.spot.Next.TheVariants.{Child}
use Rattle.format.specs.Parts.{Contents}
use Rattle.format.specs.Judge.{adjoinable}
use Rattle.format.specs.Keeps.{node_in, Keeps}
use Rattle.format.specs.Questions.{after_dot, may_start}
use Rattle.words.specs.Meaning.{Meaning, Bounded}
use Rattle.steps.specs.declared.item.Item.{Item}
use Rattle.steps.specs.declared.item.Origin.{Origin}
use Rattle.steps.specs.declared.item.Origin.TheVariants.{Start, Scan, Predict, Complete, AdjoinPredict, FootPredict, FootComplete, AdjoinComplete}
use Rattle.steps.specs.Items.{missing, joined}
use Rattle.steps.specs.Conclusions.{is_end, stays, listed}
use Rattle.theory.specs.Steps.{Step, start, scan_word, scan_empty, predict, complete, adjoin_predict, foot_predict, foot_complete, adjoin_complete, Derivable}
use Rattle.theory.proofs.Derived.{derivable_are_concluded}

abbrev pub make : ℕ → Spot → ℕ → ℕ → ℕ → ℕ → ℕ → Origin → Item
make t s d i j p q o = record { tree = t; spot = s; dot = d; i = i; j = j; p = p; q = q; origin = o }

-- a fresh item has no positions but one
first_shape : {c : Contents} {m : Meaning} {R : ℕ → Item → Type 0} {y : Item} → Step c m R y → y.dot ≡ 0
    → (y.i ≡ y.j) × (y.p ≡ missing) × (y.q ≡ missing)
first_shape (start e) z = (refl, refl, refl)
first_shape (scan_word r e k d l) z = absurd (omega arith)
first_shape (scan_empty r e k) z = absurd (omega arith)
first_shape (predict r e k d) z = (refl, refl, refl)
first_shape (complete r s e k d e1 e2 e3 e4) z = absurd (omega arith)
first_shape (adjoin_predict r e k l d) z = (refl, refl, refl)
first_shape (foot_predict r e1 e2 e3 e4 d) z = (refl, refl, refl)
first_shape (foot_complete r s e1 e2 e3 e4 e5 e6 e7 e8) z = absurd (omega arith)
first_shape (adjoin_complete r s u e k h e1 e2 e3 e4 e5 e6 e7 e8) z = absurd (omega arith)

module _ (c : Contents) (m : Meaning) (K : Keeps c) (B : Bounded m) where
  -- an item with these parts is derivable
  abbrev pub Has : ℕ → Spot → ℕ → ℕ → ℕ → ℕ → ℕ → Type 0
  Has t s d i j p q = (o : Origin) × Derivable c m (make t s d i j p q o)

  got : {y : Item} → Step c m (λ _ x. Derivable c m x) y → Derivable c m y
  got {y} s = (derivable_are_concluded c m y).derived s

  next_dot : (t : ℕ) (s : Spot) (d i j p q : ℕ) → Has t s (d + 1) i j p q → Has t s (suc d) i j p q
  next_dot t s d i j p q h = subst (λ (v : ℕ). Has t s v i j p q) (add-one d) h

  pub c_start : (t : ℕ) → may_start c t ≡ true → Has t Top 0 0 0 missing missing
  c_start t e = (Start, got (start e))

  pub c_word : (t : ℕ) (s : Spot) (d i j p q n w k : ℕ) → after_dot c t s d ≡ Child n → (node_in c t n).kind ≡ Word w → m.edge j w k ≡ true
      → Has t s d i j p q → Has t s (suc d) i k p q
  c_word t s d i j p q n w k e1 e2 e3 h =
      next_dot t s d i k p q (Scan 0, got (scan_word {a = 0} {x = make t s d i j p q h.0} h.1 e1 e2 e3 (B j w k e3).1))

  pub c_empty : (t : ℕ) (s : Spot) (d i j p q n : ℕ) → after_dot c t s d ≡ Child n → (node_in c t n).kind ≡ Empty
      → Has t s d i j p q → Has t s (suc d) i j p q
  c_empty t s d i j p q n e1 e2 h = next_dot t s d i j p q (Scan 0, got (scan_empty {a = 0} {x = make t s d i j p q h.0} h.1 e1 e2))

  pub c_predict : (t : ℕ) (s : Spot) (d i j p q n : ℕ) → after_dot c t s d ≡ Child n → adjoinable (node_in c t n).kind ≡ true → stays c t n ≡ true
      → Has t s d i j p q → Has t (At n) 0 j j missing missing
  c_predict t s d i j p q n e1 e2 e3 h = (Predict 0, got (predict {a = 0} {x = make t s d i j p q h.0} h.1 e1 e2 e3))

  pub c_complete : (t : ℕ) (s : Spot) (d i j p q n d' k p' q' : ℕ) → after_dot c t s d ≡ Child n → adjoinable (node_in c t n).kind ≡ true
      → stays c t n ≡ true → Has t s d i j p q → Has t (At n) d' j k p' q' → is_end (after_dot c t (At n) d') ≡ true
      → Has t s (suc d) i k (joined p p') (joined q q')
  c_complete t s d i j p q n d' k p' q' e1 e2 e3 h y e4 =
      next_dot t s d i k (joined p p') (joined q q')
      (Complete 0 0, got (complete {a = 0} {b = 0} {x = make t s d i j p q h.0} {y = make t (At n) d' j k p' q' y.0} h.1 y.1 e1 e2 e3 refl refl refl e4))

  pub c_adjoin_predict : (t : ℕ) (s : Spot) (d i j p q n β : ℕ) → after_dot c t s d ≡ Child n → adjoinable (node_in c t n).kind ≡ true
      → listed c t n β ≡ true → Has t s d i j p q → Has β Top 0 j j missing missing
  c_adjoin_predict t s d i j p q n β e1 e2 e3 h =
      (AdjoinPredict 0, got (adjoin_predict {a = 0} {x = make t s d i j p q h.0} h.1 e1 e2 (K.listed_there t n (β, e3)) e3))

  pub c_foot_predict : (t n β f l k : ℕ) → listed c t n β ≡ true → (node_in c β f).kind ≡ Foot l
      → Has β (At f) 0 k k missing missing → Has t (At n) 0 k k missing missing
  c_foot_predict t n β f l k e1 e2 h =
      (FootPredict 0, got (foot_predict {a = 0} {x = make β (At f) 0 k k missing missing h.0} h.1 refl e2 refl refl e1))

  pub c_foot_complete : (t n β f l d i j p q : ℕ) → listed c t n β ≡ true → (node_in c β f).kind ≡ Foot l
      → Has t (At n) d i j p q → is_end (after_dot c t (At n) d) ≡ true → Has β (At f) 0 i i missing missing → Has β (At f) 1 i j i j
  c_foot_complete t n β f l d i j p q e1 e2 h e3 y = (
    FootComplete 0 0,
    got (foot_complete {a = 0} {b = 0} {x = make t (At n) d i j p q h.0} {y = make β (At f) 0 i i missing missing y.0} h.1 y.1 refl e1 e3 refl e2 refl refl refl),
  )

  pub c_adjoin_complete : (t : ℕ) (s : Spot) (d i j p q n β l k k' d' p' q' : ℕ) → after_dot c t s d ≡ Child n
      → adjoinable (node_in c t n).kind ≡ true → listed c t n β ≡ true → Has β Top 1 j l k k' → Has t (At n) d' k k' p' q'
      → is_end (after_dot c t (At n) d') ≡ true → Has t s d i j p q → Has t s (suc d) i l (joined p' p) (joined q' q)
  c_adjoin_complete t s d i j p q n β l k k' d' p' q' e1 e2 e3 x y e4 h =
      next_dot t s d i l (joined p' p) (joined q' q) (
        AdjoinComplete 0 0 0,
        got (adjoin_complete {a = 0} {b = 0} {d = 0} {x = make β Top 1 j l k k' x.0} {y = make t (At n) d' k k' p' q' y.0} {z = make t s d i j p q h.0}
            x.1 y.1 h.1 e1 e2 e3 refl refl refl refl refl refl refl e4),
      )

  pub c_fresh : (t : ℕ) (s : Spot) (i j p q : ℕ) → Has t s 0 i j p q → (i ≡ j) × (p ≡ missing) × (q ≡ missing)
  c_fresh t s i j p q h = first_shape ((derivable_are_concluded c m (make t s 0 i j p q h.0)).by_step h.1) refl
