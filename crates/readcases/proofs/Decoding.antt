-- Bytes decoded so far, and those of the digits that are left.
use Rattle.std.proofs.Common.{◌≡◌, ℕ, suc, ◌-◌, ◌≤◌, List, [], ◌∷◌, ◌++◌, length, get_or, take, drop, Some, None, Option, sym, refl, ap, ◌∙◌, append_assoc, arith, take_all}
use Rattle.readcases.specs.Hex.{byte_of, bytes_of, before}

-- bytes behind others, where there are any
abbrev pub behind : List ℕ → Option (List ℕ) → Option (List ℕ)
behind xs None = None
behind xs (Some ys) = Some (xs ++ ys)

behind_more : (xs : List ℕ) (b : ℕ) (o : Option (List ℕ)) → behind xs (before (Some b) o) ≡ behind (xs ++ (b ∷ [])) o
behind_more xs b None = refl
behind_more xs b (Some ys) = ap Some (sym (append_assoc xs (b ∷ []) ys))

-- the byte of the first two digits, and those of the digits behind them
next_byte : (rest : List ℕ) → 2 ≤ length rest
    → bytes_of rest ≡ before (byte_of (get_or rest 0 0) (get_or rest 1 0)) (bytes_of (take (length rest - 2) (drop 2 rest)))
next_byte [] h = elim (let f : ⊥ = omega arith in f) [ ]
next_byte (a ∷ []) h = elim (let f : ⊥ = omega arith in f) [ ]
next_byte (a ∷ (b ∷ more)) h = ap (λ (l : List ℕ). before (byte_of a b) (bytes_of l)) (sym (take_all (suc (suc (length more)) - 2) more (omega arith)))

pub one_more : (digits xs ys rest : List ℕ) (b : ℕ) → 2 ≤ length rest
    → bytes_of digits ≡ behind xs (bytes_of rest)
    → Some b ≡ byte_of (get_or rest 0 0) (get_or rest 1 0)
    → ys ≡ xs ++ (b ∷ [])
    → bytes_of digits ≡ behind ys (bytes_of (take (length rest - 2) (drop 2 rest)))
one_more digits xs ys rest b h inv b-is y-is =
    let more = bytes_of (take (length rest - 2) (drop 2 rest)) in
    inv
    ∙ (ap (behind xs) (next_byte rest h ∙ ap (λ (o : Option ℕ). before o more) (sym b-is))
    ∙ (behind_more xs b more ∙ ap (λ (l : List ℕ). behind l more) (sym y-is)))
