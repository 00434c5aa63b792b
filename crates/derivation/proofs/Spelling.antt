-- What a chart spells passes.
use Rattle.std.proofs.Common.{◌≡◌, ℕ, suc, ◌+◌, ◌<◌, Bool, true, false, cond, ◌||◌, List, [], ◌∷◌, length, Some, None, Option, refl, ap, subst, arith}
use Rattle.format.specs.Parts.{Contents}
use Rattle.steps.specs.declared.item.Item.{Item}
use Rattle.steps.specs.declared.verdict.Verdict.TheVariants.{Yes, No, Full, Open}
use Rattle.steps.specs.Items.{item_at}
use Rattle.steps.specs.Runs.{Working, goes_on}
use Rattle.steps.specs.Verdicts.{says_yes, yes_in}
use Rattle.theory.specs.Calls.{called}
use Rattle.theory.proofs.Verdicts.{tests_yes}
use Rattle.derivation.specs.Walks.{certificate}
use Rattle.derivation.specs.Readings.{derivation_of}
use Rattle.derivation.specs.Spelling.{first_from, certificate_at, Passes, ChartsSpellRightly}
use Rattle.derivation.proofs.Unique.{never}
use Rattle.derivation.proofs.Main.{called_yes_items_are_derived}

-- the number of a held item with the property, counted from k
abbrev Found : (Item → Bool) → ℕ → List Item → ℕ → Type 0
Found p k its n = (d : ℕ) × (n ≡ k + d) × (d < length its) × (p (item_at its d) ≡ true)

found : (p : Item → Bool) (k : ℕ) (its : List Item) (n : ℕ) → first_from p k its ≡ Some n → Found p k its n
found p k [] n e = never cc
found p k (x ∷ xs) n e = pick (p x) refl e (λ u. found p (suc k) xs n u)
  where
    pick : (b : Bool) → p x ≡ b → cond b (Some k) (first_from p (suc k) xs) ≡ Some n
        → (first_from p (suc k) xs ≡ Some n → Found p (suc k) xs n) → Found p k (x ∷ xs) n
    pick true h u f = (0, (let z : k ≡ n = cc in omega arith), omega arith, h)
    pick false h u f = let r = f u in (suc r.0, (let z = r.1 in omega arith), (let z = r.2 in omega arith), r.3)

-- there is one exactly if an item says yes
module _ (c : Contents) (last : ℕ) where
  found_yes : (k : ℕ) (its : List Item) → yes_in c last its ≡ true → (n : ℕ) × (first_from (says_yes c last) k its ≡ Some n)
  found_yes k [] e = never cc
  found_yes k (x ∷ xs) e = pick (says_yes c last x) e (λ u. found_yes (suc k) xs u)
    where
      pick : (b : Bool) → (b || yes_in c last xs) ≡ true
          → (yes_in c last xs ≡ true → (n : ℕ) × (first_from (says_yes c last) (suc k) xs ≡ Some n))
          → (n : ℕ) × (cond b (Some k) (first_from (says_yes c last) (suc k) xs) ≡ Some n)
      pick true u f = (k, refl)
      pick false u f = f u

  yes_found : (k : ℕ) (its : List Item) (n : ℕ) → first_from (says_yes c last) k its ≡ Some n → yes_in c last its ≡ true
  yes_found k [] n e = cc
  yes_found k (x ∷ xs) n e = pick (says_yes c last x) e (λ u. yes_found (suc k) xs n u)
    where
      pick : (b : Bool) → cond b (Some k) (first_from (says_yes c last) (suc k) xs) ≡ Some n
          → (first_from (says_yes c last) (suc k) xs ≡ Some n → yes_in c last xs ≡ true) → (b || yes_in c last xs) ≡ true
      pick true u f = refl
      pick false u f = f u

-- the item whose certificate is spelled
spelled_of : (c : Contents) (its : List Item) (o : Option ℕ) (numbers : List ℕ) → certificate_at c its o ≡ Some numbers
    → (n : ℕ) × (o ≡ Some n) × (numbers ≡ certificate c (item_at its n).tree (derivation_of its n))
spelled_of c its None numbers e = never cc
spelled_of c its (Some n) numbers e = (n, refl, cc)

pub charts_spell_rightly : ChartsSpellRightly
charts_spell_rightly c m K cap bs =
    record {
      spells = λ e.
          let f = found_yes c m.last 0 its (tests_yes (yes_in c m.last its) w.state.full (goes_on w) e) in
          (certificate c (item_at its f.0).tree (derivation_of its f.0), ap (certificate_at c its) f.1);
      only = λ numbers e.
          let s = spelled_of c its (first_from (says_yes c m.last) 0 its) numbers e in
          ap (λ (b : Bool). cond b Yes (cond w.state.full Full (cond (goes_on w) Open No))) (yes_found c m.last 0 its s.0 s.1);
      passes = λ numbers e. passing numbers (spelled_of c its (first_from (says_yes c m.last) 0 its) numbers e);
    }
  where
    w : Working
    w = called c m cap bs

    its : List Item
    its = w.state.items

    passing : (numbers : List ℕ)
        → (n : ℕ) × (first_from (says_yes c m.last) 0 its ≡ Some n) × (numbers ≡ certificate c (item_at its n).tree (derivation_of its n))
        → Passes c m numbers
    passing numbers (n, e, s) =
        let f = found (says_yes c m.last) 0 its n e in
        let p : f.0 ≡ n = let z = f.1 in omega arith in
        let r = called_yes_items_are_derived c m K cap bs n (let y = f.2 in omega arith)
        (subst (λ (k : ℕ). says_yes c m.last (item_at its k) ≡ true) p f.3) in
        record { tree = (item_at its n).tree; derivation = derivation_of its n; derives = r.derives; spelling = s; admitted = r.admitted }
