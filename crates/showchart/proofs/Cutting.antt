-- Bytes passed so far, and those that are left.
use Rattle.std.proofs.Common.{◌≡◌, ℕ, ◌-◌, List, [], ◌∷◌, ◌++◌, length, take, sym, refl, ap, ◌∙◌, subst, append_assoc, arith, length-append, take-append-drop}
use lib.Seq.{take-append_seam}
use Rattle.format.specs.Fields.{Whole}
use Rattle.format.specs.Parts.{pair}
use Rattle.showchart.specs.Streams.{Passing, Passed}

-- the passed bytes are the first ones
pub passed : (bytes xs later : List ℕ) → bytes ≡ xs ++ later → bytes ≡ take (length bytes - length later) bytes ++ later
passed bytes xs later e =
    let P : List ℕ → Type 0 = λ b. b ≡ take (length b - length later) b ++ later in
    let n : length (xs ++ later) - length later ≡ length xs = omega (arith, length-append xs later) in
    subst P (sym e) (sym (ap (λ (l : List ℕ). l ++ later) (ap (λ (k : ℕ). take k (xs ++ later)) n ∙ take-append_seam xs later)))

-- a field, and what stands behind it
field_of : (rest : List ℕ) (tag : ℕ) (body later : List ℕ) → Whole rest tag body later → (seg : List ℕ) × (rest ≡ seg ++ later)
field_of [] tag body later w = elim w [ ]
field_of (t ∷ []) tag body later w = elim w [ ]
field_of (t ∷ (a ∷ [])) tag body later w = elim w [ ]
field_of (t ∷ (a ∷ (b ∷ more))) tag body later w =
    let k = pair a b in (
      t ∷ (a ∷ (b ∷ take k more)),
      ap (λ (l : List ℕ). t ∷ (a ∷ (b ∷ l))) (sym (take-append-drop k more) ∙ ap (λ (l : List ℕ). take k more ++ l) (sym w.3)),
    )

pub cut_on : (bytes xs rest : List ℕ) (tag : ℕ) (body later : List ℕ) → bytes ≡ xs ++ rest → Whole rest tag body later
    → bytes ≡ take (length bytes - length later) bytes ++ later
cut_on bytes xs rest tag body later e w =
    let f = field_of rest tag body later w in
    passed bytes (xs ++ f.0) later (e ∙ (ap (λ (l : List ℕ). xs ++ l) f.1 ∙ sym (append_assoc xs f.0 later)))

-- one more field passed
pub passed_on : (fs : List Passing) (bytes rest : List ℕ) (tag : ℕ) (body later : List ℕ) → Passed fs bytes rest → Whole rest tag body later → (tag ≡ 9 → ⊥)
    → Passed (fs ++ (record { tag = tag; body = body } ∷ [])) bytes later
passed_on [] bytes rest tag body later p w n = (later, subst (λ (l : List ℕ). Whole l tag body later) (sym p) w, n, refl)
passed_on (f ∷ fs) bytes rest tag body later p w n = (p.0, p.1, p.2, passed_on fs p.0 rest tag body later p.3 w n)
