-- Answers that cannot be, and tests that let an answer pass.
use Rattle.std.proofs.Common.{◌≡◌, ℕ, Bool, true, false, cond, Ok, Err, Result, refl, arith}

pub nothing : {X : Type 0} → ◌≡◌ {A = ℕ} 0 1 → X
nothing z = absurd (omega arith)

pub never : {X Y E : Type 0} (e : E) (y : Y) → Err e ≡ Ok y → X
never e y h = nothing (let z : ◌≡◌ {A = ℕ} 0 1 = cc in z)

pub passes : {Y E : Type 0} (b : Bool) (x : Result Y E) (e : E) (y : Y) → cond b x (Err e) ≡ Ok y → (b ≡ true) × (x ≡ Ok y)
passes true x e y h = (refl, h)
passes false x e y h = never e y h
