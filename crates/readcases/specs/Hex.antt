-- Bytes written in hexadecimal digits.
use Rattle.std.specs.Prelude.{◌≡◌, ℕ, zero, suc, ◌+◌, ◌-◌, ◌*◌, Bool, cond, ◌&&◌, List, [], ◌∷◌, ◌++◌, Some, None, Ok, Err, Option, Result, nat_le}
use Rattle.readcases.specs.declared.case.CaseError.{CaseError}
use Rattle.readcases.specs.declared.case.CaseError.TheVariants.{Malformed, Unread}
use Rattle.grammar.specs.declared.read.ReadError.TheVariants.{Faulty, OutOfMemory}

abbrev pub between : ℕ → ℕ → ℕ → Bool
between a b n = nat_le a n && nat_le n b

-- 0 to 9, A to F or a to f
abbrev pub digit_of : ℕ → Option ℕ
digit_of b = cond (between 48 57 b) (Some (b - 48)) (cond (between 65 70 b) (Some (b - 65 + 10)) (cond (between 97 102 b) (Some (b - 97 + 10)) None))

abbrev pub joined : Option ℕ → Option ℕ → Option ℕ
joined None l = None
joined (Some h) None = None
joined (Some h) (Some l) = Some (16 * h + l)

abbrev pub byte_of : ℕ → ℕ → Option ℕ
byte_of h l = joined (digit_of h) (digit_of l)

abbrev pub before : Option ℕ → Option (List ℕ) → Option (List ℕ)
before None bs = None
before (Some b) None = None
before (Some b) (Some bs) = Some (b ∷ bs)

-- the bytes of digits, two digits to a byte
abbrev pub bytes_of : List ℕ → Option (List ℕ)
bytes_of [] = Some []
bytes_of (h ∷ []) = None
bytes_of (h ∷ (l ∷ ds)) = before (byte_of h l) (bytes_of ds)

-- what an answer says of the bytes that are asked for; want of memory apart
abbrev pub Decodes : {X : Type 0} → Option (List ℕ) → (X → List ℕ) → Result X CaseError → Type 0
Decodes d items (Ok x) = d ≡ Some (items x)
Decodes d items (Err Malformed) = d ≡ None
Decodes d items (Err (Unread OutOfMemory)) = Unit {0}
Decodes d items (Err (Unread (Faulty f))) = ⊥

-- a list so many times
abbrev pub copies : ℕ → List ℕ → List ℕ
copies zero xs = []
copies (suc n) xs = xs ++ copies n xs
