-- The words taken so far, and those of the bytes that are left.
use Rattle.std.proofs.Common.{◌≡◌, ℕ, suc, ◌-◌, ◌≤◌, Bool, false, cond, eqb, List, [], ◌∷◌, ◌++◌, length, get_or, take, drop, sym, ap, ◌∙◌, append_assoc, arith, take_all}
use Rattle.format.specs.Parts.{pair}
use Rattle.showchart.specs.Sentences.{first_sentence}

-- the word of the first two bytes, and those of the bytes behind them
next_word : (rest : List ℕ) → 2 ≤ length rest → eqb (pair (get_or rest 0 0) (get_or rest 1 0)) 0 ≡ false
    → first_sentence rest ≡ pair (get_or rest 0 0) (get_or rest 1 0) ∷ first_sentence (take (length rest - 2) (drop 2 rest))
next_word [] h e = elim (let f : ⊥ = omega arith in f) [ ]
next_word (a ∷ []) h e = elim (let f : ⊥ = omega arith in f) [ ]
next_word (a ∷ (b ∷ more)) h e =
    ap (λ (v : Bool). cond v [] (pair a b ∷ first_sentence more)) e
    ∙ ap (λ (l : List ℕ). pair a b ∷ first_sentence l) (sym (take_all (suc (suc (length more)) - 2) more (omega arith)))

pub one_more : (body xs ys rest : List ℕ) (w : ℕ) → 2 ≤ length rest
    → first_sentence body ≡ xs ++ first_sentence rest
    → w ≡ pair (get_or rest 0 0) (get_or rest 1 0)
    → eqb w 0 ≡ false
    → ys ≡ xs ++ (w ∷ [])
    → first_sentence body ≡ ys ++ first_sentence (take (length rest - 2) (drop 2 rest))
one_more body xs ys rest w h inv w-is e y-is =
    let more = first_sentence (take (length rest - 2) (drop 2 rest)) in
    inv
    ∙ (ap (λ (l : List ℕ). xs ++ l) (next_word rest h (ap (λ (k : ℕ). eqb k 0) (sym w-is) ∙ e) ∙ ap (λ (k : ℕ). k ∷ more) (sym w-is))
    ∙ (sym (append_assoc xs (w ∷ []) more) ∙ ap (λ (l : List ℕ). l ++ more) (sym y-is)))
