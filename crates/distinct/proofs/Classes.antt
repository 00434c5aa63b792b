-- Which class a record is of: facts of `has` and of the first offers.
use Rattle.std.proofs.Common.{◌≡◌, ℕ, zero, suc, ◌+◌, ◌<◌, Bool, true, false, cond, ◌||◌, List, [], ◌∷◌, ◌++◌, length, get_or, take, is_some, Some, Option, sym, refl, ap, ◌∙◌, ⊎_elim, arith}
use Rattle.std.proofs.lemmas.List.{append_assoc, append-nil, get_or_append_left, get_or_push, length_push, length-take, get_or-take}
use Rattle.std.proofs.lemmas.Bool.{cases_lt, or_parts, or_cases, or_left, or_right}
use Rattle.distinct.specs.Adding.{first_same}
use Rattle.distinct.specs.Runs.{has, first_offers}

-- a record has a number among those held exactly when some held record is the same
pub has_first : {R : Type 0} (s : R → R → Bool) (k : ℕ) (ys : List R) (x : R) → has s ys x ≡ is_some (first_same s k ys x)
has_first s k [] x = refl
has_first s k (y ∷ ys) x = pick (s y x) (has s ys x) (first_same s (k + 1) ys x) (has_first s (k + 1) ys x)
  where
    pick : (b h : Bool) (o : Option ℕ) → h ≡ is_some o → (b || h) ≡ is_some (cond b (Some k) o)
    pick true h o e = refl
    pick false h o e = e

-- what has x has all that is the same as x
pub has_through : {R : Type 0} (s : R → R → Bool)
    → ((x y z : R) → s x y ≡ true → s y z ≡ true → s x z ≡ true)
    → (ys : List R) (x z : R) → s x z ≡ true → has s ys x ≡ true → has s ys z ≡ true
has_through s tr [] x z e h = h
has_through s tr (y ∷ ys) x z e h =
    ⊎_elim (λ p. or_left (s y z) (has s ys z) (tr y x z p e))
    (λ q. or_right (s y z) (has s ys z) (has_through s tr ys x z e q))
    (or_cases (s y x) (has s ys x) h)

-- none of a list that has none the same as x is the same as x
pub has_at : {R : Type 0} (s : R → R → Bool) (ys : List R) (x d : R) (i : ℕ) → has s ys x ≡ false → i < length ys
    → s (get_or ys i d) x ≡ false
has_at s [] x d i h l = absurd (omega arith)
has_at s (y ∷ ys) x d zero h l = (or_parts (s y x) (has s ys x) h).0
has_at s (y ∷ ys) x d (suc i) h l = has_at s ys x d i (or_parts (s y x) (has s ys x) h).1 (omega arith)

-- no record of a list is the same as a later one
abbrev pub Apart : {R : Type 0} → (R → R → Bool) → List R → Type 0
Apart {R} s xs = (d : R) (i j : ℕ) → i < j → j < length xs → s (get_or xs i d) (get_or xs j d) ≡ false

pub apart_push : {R : Type 0} (s : R → R → Bool) (xs : List R) (x : R) → Apart s xs → has s xs x ≡ false → Apart s (xs ++ x ∷ [])
apart_push s xs x a h d i j ij jl =
    ⊎_elim
    (λ l. let il : i < length xs = omega arith in
    ap (λ z. s z (get_or (xs ++ x ∷ []) j d)) (get_or_append_left xs (x ∷ []) d i il)
    ∙ (ap (λ z. s (get_or xs i d) z) (get_or_append_left xs (x ∷ []) d j l) ∙ a d i j ij l))
    (λ l. let n = length_push xs x in
    let il : i < length xs = omega arith in
    let e : length xs ≡ j = omega arith in
    ap (λ z. s z (get_or (xs ++ x ∷ []) j d)) (get_or_append_left xs (x ∷ []) d i il)
    ∙ (ap (λ z. s (get_or xs i d) z) (get_or_push xs x d j e) ∙ has_at s xs x d i h il))
    (cases_lt j (length xs))

-- the front of a list whose records are apart
pub apart_take : {R : Type 0} (s : R → R → Bool) (n : ℕ) (xs : List R) → Apart s xs → Apart s (take n xs)
apart_take s n xs a d i j ij jl =
    let t = length-take n xs in
    let jn : j < n = omega arith in
    let i-n : i < n = omega arith in
    let jx : j < length xs = omega arith in
    ap (λ z. s z (get_or (take n xs) j d)) (get_or-take n xs i d i-n)
    ∙ (ap (λ z. s (get_or xs i d) z) (get_or-take n xs j d jn) ∙ a d i j ij jx)

-- the first offers of a list of offers and of those behind it
pub first_append : {R : Type 0} (s : R → R → Bool) (b xs ys : List R)
    → first_offers s b (xs ++ ys) ≡ first_offers s b xs ++ first_offers s (b ++ xs) ys
first_append s b [] ys = ap (λ z. first_offers s z ys) (sym (append-nil b))
first_append s b (x ∷ xs) ys =
    more (has s b x) (first_offers s (b ++ x ∷ []) (xs ++ ys)) (first_offers s (b ++ x ∷ []) xs) (first_offers s (b ++ x ∷ xs) ys)
    (first_append s (b ++ x ∷ []) xs ys ∙ ap (λ z. first_offers s (b ++ x ∷ []) xs ++ first_offers s z ys) (append_assoc b (x ∷ []) xs))
  where
    more : (c : Bool) (p q r : List _) → p ≡ q ++ r → cond c p (x ∷ p) ≡ cond c q (x ∷ q) ++ r
    more true p q r e = e
    more false p q r e = ap (λ z. x ∷ z) e
