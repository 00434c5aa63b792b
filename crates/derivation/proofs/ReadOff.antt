-- The derivation read off a justified item is of its part of the tree.
use Rattle.std.proofs.Common.{◌≡◌, ℕ, zero, suc, ◌<◌, List, length, sym, refl, ap, subst, arith}
use Rattle.format.specs.Parts.{Contents}
use Rattle.format.specs.Keeps.{Keeps}
use Rattle.words.specs.Meaning.{Meaning}
use Rattle.steps.specs.declared.item.Item.{Item}
use Rattle.steps.specs.Items.{item_at}
use Rattle.theory.specs.Steps.{Step, start, scan_word, scan_empty, predict, complete, adjoin_predict, foot_predict, foot_complete, adjoin_complete, Below, Justified}
use Rattle.derivation.specs.Derivations.{Derivation, done, adjoin}
use Rattle.derivation.specs.Spans.{Means}
use Rattle.derivation.specs.Readings.{◌beside◌, by_origin, read_off}
use Rattle.derivation.specs.Theorems.{JustifiedItemsSpan}
use Rattle.derivation.proofs.Sound.{sound_step}

module _ (c : Contents) (m : Meaning) (K : Keeps c) (its : List Item) where
  -- the derivation that a step's premises give is the one that its origin names
  reads : (F : ℕ → Derivation) (b : ℕ) (ih : (a : ℕ) (x : Item) → Below its b a x → Means c m (F a) x) {y : Item} (s : Step c m (Below its b) y)
      → (sound_step c m K (Below its b) (λ a x u. (F a, ih a x u)) s).0 ≡ by_origin F its y.origin
  unfolding sound_step
  reads F b ih (start e) = refl
  reads F b ih (scan_word h e k d l) = refl
  reads F b ih (scan_empty h e k) = refl
  reads F b ih (predict h e k d) = refl
  reads F b ih (complete h h2 e k d e1 e2 e3 e4) = refl
  reads F b ih (adjoin_predict h e k l d) = refl
  reads F b ih (foot_predict h e1 e2 e3 e4 d) = refl
  reads F b ih (foot_complete h h2 e1 e2 e3 e4 e5 e6 e7 e8) = refl
  reads F b ih (adjoin_complete {a = a} {b = b'} {d = d} h h2 h3 e k l e1 e2 e3 e4 e5 e6 e7 e8) =
      ap (λ (x : Item). F d beside adjoin x.tree (F a) (F b') done) (sym h.1)

  by_step : (F : ℕ → Derivation) (b : ℕ) → ((a : ℕ) (x : Item) → Below its b a x → Means c m (F a) x) → (y : Item) → Step c m (Below its b) y
      → Means c m (by_origin F its y.origin) y
  by_step F b ih y s = subst (λ (f : Derivation). Means c m f y) (reads F b ih s) (sound_step c m K (Below its b) (λ a x u. (F a, ih a x u)) s).1

  held : Justified c m its → (h k : ℕ) → k < h → k < length its → Means c m (read_off h its k) (item_at its k)
  held J zero k l u = absurd (omega arith)
  held J (suc h) k l u =
      by_step (read_off h its) k
      (λ a x b. subst (λ (v : Item). Means c m (read_off h its a) v) b.1 (held J h a (less a b.0) (inside a b.0))) (item_at its k) (J k u)
    where
      less : (a : ℕ) → a < k → a < h
      less a z = omega arith

      inside : (a : ℕ) → a < k → a < length its
      inside a z = omega arith

pub justified_items_span : JustifiedItemsSpan
justified_items_span c m K its J k l = held c m K its J (suc k) k (omega arith) l
