use Rattle.std.specs.Prelude.{◌≡◌, ℕ, Bool, true, false, ◌&&◌, ◌==◌, refl}
use Rattle.std.proofs.Common.{◌∙◌, eqb-true, eq-eqb, arith}
use Rattle.format.specs.declared.spot.Spot.{Spot}
use Rattle.format.specs.declared.spot.Spot.TheVariants.{Top, At}
use Rattle.steps.specs.Items.{same_spot}

pub both : (a b c d e f : Bool) → (a ≡ true → c ≡ true → e ≡ true) → (b ≡ true → d ≡ true → f ≡ true) → a && b ≡ true → c && d ≡ true → e && f ≡ true
both true b true d e f h k p q = simp (h refl refl) (k p q)
both true b false d e f h k p q = let z : ◌≡◌ {A = ℕ} 0 1 = cc in absurd (omega arith)
both false b c d e f h k p q = let z : ◌≡◌ {A = ℕ} 0 1 = cc in absurd (omega arith)

pub num : (a b c : ℕ) → (a == b) ≡ true → (b == c) ≡ true → (a == c) ≡ true
num a b c p q = eq-eqb a c (eqb-true a b p ∙ eqb-true b c q)

pub spot : (a b c : Spot) → same_spot a b ≡ true → same_spot b c ≡ true → same_spot a c ≡ true
spot Top Top c p q = q
spot Top (At n) c p q = let z : ◌≡◌ {A = ℕ} 0 1 = cc in absurd (omega arith)
spot (At m) Top c p q = let z : ◌≡◌ {A = ℕ} 0 1 = cc in absurd (omega arith)
spot (At m) (At n) Top p q = q
spot (At m) (At n) (At k) p q = num m n k p q
