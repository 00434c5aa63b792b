-- Steps under other premises.
use Rattle.std.proofs.Common.{◌≡◌, ℕ, ◌⊎◌, List, [], ◌∷◌, subst, inl, inr}
use Rattle.format.specs.Parts.{Contents}
use Rattle.words.specs.Meaning.{Meaning}
use Rattle.steps.specs.declared.item.Item.{Item}
use Rattle.steps.specs.declared.item.Origin.{Origin}
use Rattle.steps.specs.declared.item.Origin.TheVariants.{Start, Scan, Predict, Complete, AdjoinPredict, FootPredict, FootComplete, AdjoinComplete}
use Rattle.theory.specs.Members.{Among, here, there}
use Rattle.theory.specs.Steps.{Step, start, scan_word, scan_empty, predict, complete, adjoin_predict, foot_predict, foot_complete, adjoin_complete, premises}
use Rattle.theory.proofs.Tests.{with_origin}

at_first : {t a : ℕ} {rest : List ℕ} → t ≡ a → Among ℕ t (a ∷ rest)
at_first {t} {a} {rest} e = subst (λ (v : ℕ). Among ℕ t (v ∷ rest)) e here

one : {A Z : Type 0} (t : ℕ) {a : ℕ} → (t ≡ a) ⊎ A → (A → Z) → Among ℕ t (a ∷ []) ⊎ Z
one t (inl e) f = inl (at_first e)
one t (inr x) f = inr (f x)

two : {A B Z : Type 0} (t : ℕ) {a b : ℕ} → (t ≡ a) ⊎ A → (t ≡ b) ⊎ B → (A → B → Z) → Among ℕ t (a ∷ b ∷ []) ⊎ Z
two t (inl e) y f = inl (at_first e)
two t (inr x) (inl e) f = inl (there (at_first e))
two t (inr x) (inr y) f = inr (f x y)

three : {A B D Z : Type 0} (t : ℕ) {a b d : ℕ} → (t ≡ a) ⊎ A → (t ≡ b) ⊎ B → (t ≡ d) ⊎ D → (A → B → D → Z) → Among ℕ t (a ∷ b ∷ d ∷ []) ⊎ Z
three t (inl e) y z f = inl (at_first e)
three t (inr x) (inl e) z f = inl (there (at_first e))
three t (inr x) (inr y) (inl e) f = inl (there (there (at_first e)))
three t (inr x) (inr y) (inr z) f = inr (f x y z)

module _ {c : Contents} {m : Meaning} {R S : ℕ → Item → Type 0} where
  -- more items that may be premises
  pub more : ((a : ℕ) (x : Item) → R a x → S a x) → {y : Item} → Step c m R y → Step c m S y
  more F (start e) = start e
  more F (scan_word {a = a} {x = x} r e k d l) = scan_word (F a x r) e k d l
  more F (scan_empty {a = a} {x = x} r e k) = scan_empty (F a x r) e k
  more F (predict {a = a} {x = x} r e k d) = predict (F a x r) e k d
  more F (complete {a = a} {b = b} {x = x} {y = y} r s e k d e1 e2 e3 e4) = complete (F a x r) (F b y s) e k d e1 e2 e3 e4
  more F (adjoin_predict {a = a} {x = x} r e k l d) = adjoin_predict (F a x r) e k l d
  more F (foot_predict {a = a} {x = x} r e1 e2 e3 e4 d) = foot_predict (F a x r) e1 e2 e3 e4 d
  more F (foot_complete {a = a} {b = b} {x = x} {y = y} r s e1 e2 e3 e4 e5 e6 e7 e8) = foot_complete (F a x r) (F b y s) e1 e2 e3 e4 e5 e6 e7 e8
  more F (adjoin_complete {a = a} {b = b} {d = d} {x = x} {y = y} {z = z} r s u e k h e1 e2 e3 e4 e5 e6 e7 e8) =
      adjoin_complete (F a x r) (F b y s) (F d z u) e k h e1 e2 e3 e4 e5 e6 e7 e8

  -- Premises replaced by items with other origins: the conclusion has another origin, and is otherwise the same.
  pub replace : ((a : ℕ) (x : Item) → R a x → (b : ℕ) × (o : Origin) × S b (with_origin x o)) → {y : Item} → Step c m R y
      → (o : Origin) × Step c m S (with_origin y o)
  replace F (start e) = (Start, start e)
  replace F (scan_word {a = a} {x = x} r e k d l) = let f = F a x r in (Scan f.0, scan_word f.2 e k d l)
  replace F (scan_empty {a = a} {x = x} r e k) = let f = F a x r in (Scan f.0, scan_empty f.2 e k)
  replace F (predict {a = a} {x = x} r e k d) = let f = F a x r in (Predict f.0, predict f.2 e k d)
  replace F (complete {a = a} {b = b} {x = x} {y = y} r s e k d e1 e2 e3 e4) =
      let f = F a x r in let g = F b y s in (Complete f.0 g.0, complete f.2 g.2 e k d e1 e2 e3 e4)
  replace F (adjoin_predict {a = a} {x = x} r e k l d) = let f = F a x r in (AdjoinPredict f.0, adjoin_predict f.2 e k l d)
  replace F (foot_predict {a = a} {x = x} r e1 e2 e3 e4 d) = let f = F a x r in (FootPredict f.0, foot_predict f.2 e1 e2 e3 e4 d)
  replace F (foot_complete {a = a} {b = b} {x = x} {y = y} r s e1 e2 e3 e4 e5 e6 e7 e8) =
      let f = F a x r in let g = F b y s in (FootComplete f.0 g.0, foot_complete f.2 g.2 e1 e2 e3 e4 e5 e6 e7 e8)
  replace F (adjoin_complete {a = a} {b = b} {d = d} {x = x} {y = y} {z = z} r s u e k h e1 e2 e3 e4 e5 e6 e7 e8) =
      let f = F a x r in
      let g = F b y s in
      let i = F d z u in
      (AdjoinComplete f.0 g.0 i.0, adjoin_complete f.2 g.2 i.2 e k h e1 e2 e3 e4 e5 e6 e7 e8)

  -- t is a premise, or all premises are others
  pub apart : (t : ℕ) → ((a : ℕ) (x : Item) → R a x → (t ≡ a) ⊎ S a x) → {y : Item} → Step c m R y → Among ℕ t (premises y.origin) ⊎ Step c m S y
  apart t F (start e) = inr (start e)
  apart t F (scan_word {a = a} {x = x} r e k d l) = one t (F a x r) (λ f. scan_word f e k d l)
  apart t F (scan_empty {a = a} {x = x} r e k) = one t (F a x r) (λ f. scan_empty f e k)
  apart t F (predict {a = a} {x = x} r e k d) = one t (F a x r) (λ f. predict f e k d)
  apart t F (complete {a = a} {b = b} {x = x} {y = y} r s e k d e1 e2 e3 e4) = two t (F a x r) (F b y s) (λ f g. complete f g e k d e1 e2 e3 e4)
  apart t F (adjoin_predict {a = a} {x = x} r e k l d) = one t (F a x r) (λ f. adjoin_predict f e k l d)
  apart t F (foot_predict {a = a} {x = x} r e1 e2 e3 e4 d) = one t (F a x r) (λ f. foot_predict f e1 e2 e3 e4 d)
  apart t F (foot_complete {a = a} {b = b} {x = x} {y = y} r s e1 e2 e3 e4 e5 e6 e7 e8) =
      two t (F a x r) (F b y s) (λ f g. foot_complete f g e1 e2 e3 e4 e5 e6 e7 e8)
  apart t F (adjoin_complete {a = a} {b = b} {d = d} {x = x} {y = y} {z = z} r s u e k h e1 e2 e3 e4 e5 e6 e7 e8) =
      three t (F a x r) (F b y s) (F d z u) (λ f g i. adjoin_complete f g i e k h e1 e2 e3 e4 e5 e6 e7 e8)
