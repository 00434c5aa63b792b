-- The list of an adjoining field, by the tests that the code makes.
use Rattle.std.proofs.Common.{◌≡◌, ℕ, zero, suc, ◌+◌, ◌<◌, ◌≤◌, Bool, true, false, not, ◌&&◌, ◌||◌, ltb, leb, List, [], ◌∷◌, length, get_or, subst, add-one, sym, refl, ap, ◌∙◌, arith, ltb-true, ltb-false, le-leb}
use Rattle.std.specs.List.{list_all, list_any}
use Rattle.format.specs.declared.node.Tree.{Tree}
use Rattle.format.specs.Judge.{some_initial, is_auxiliary, suits, listable}
use Rattle.std.proofs.Math.Bool.{and-false}
use Rattle.std.proofs.lemmas.Bool.{lt-leb}

pub initial_by_any : (ts : List Tree) → list_any (λ t. not (is_auxiliary t.form)) ts ≡ some_initial ts
initial_by_any [] = refl
initial_by_any (t ∷ ts) = ap (λ (b : Bool). not (is_auxiliary t.form) || b) (initial_by_any ts)

none : (ts : List Tree) (l least b : ℕ) (bs : List ℕ) → listable ts l (suc b) bs ≡ false → listable ts l least (b ∷ bs) ≡ false
none ts l least b bs e =
    ap (λ (q : Bool). leb least b && (suits ts l b && q)) e ∙ (ap (λ (q : Bool). leb least b && q) (and-false (suits ts l b)) ∙ and-false (leb least b))

-- what the test of two neighbours says
pub rise : (bs : List ℕ) (k : ℕ) → true ≡ ltb (get_or bs k 0) (get_or bs (k + 1) 0) → get_or bs k 0 < get_or bs (suc k) 0
rise bs k e = subst (λ (n : ℕ). get_or bs k 0 < get_or bs n 0) (add-one k) (ltb-true (get_or bs k 0) (get_or bs (k + 1) 0) (sym e))

pub no_rise : (bs : List ℕ) (k : ℕ) → false ≡ ltb (get_or bs k 0) (get_or bs (k + 1) 0) → get_or bs (suc k) 0 ≤ get_or bs k 0
no_rise bs k e = subst (λ (n : ℕ). get_or bs n 0 ≤ get_or bs k 0) (add-one k) (ltb-false (get_or bs k 0) (get_or bs (k + 1) 0) (sym e))

-- rising numbers are listable if each of them suits
pub rising_listable : (ts : List Tree) (l least : ℕ) (bs : List ℕ) → (0 < length bs → least ≤ get_or bs 0 0)
    → ((k : ℕ) → suc k < length bs → get_or bs k 0 < get_or bs (suc k) 0) → list_all (λ b. suits ts l b) bs ≡ listable ts l least bs
rising_listable ts l least [] m h = refl
rising_listable ts l least (b ∷ bs) m h =
    ap (λ (q : Bool). suits ts l b && q) (rising_listable ts l (suc b) bs (λ p. h 0 (omega arith)) (λ k p. h (suc k) (omega arith)))
    ∙ ap (λ (q : Bool). q && (suits ts l b && listable ts l (suc b) bs)) (sym (le-leb least b (m (omega arith))))

-- numbers that do not rise at one place are not
pub not_rising : (ts : List Tree) (l least : ℕ) (bs : List ℕ) (k : ℕ) → suc k < length bs → get_or bs (suc k) 0 ≤ get_or bs k 0 → listable ts l least bs ≡ false
not_rising ts l least [] k h e = absurd (omega arith)
not_rising ts l least (b ∷ []) k h e = absurd (omega arith)
not_rising ts l least (b ∷ (c ∷ bs)) zero h e = none ts l least b (c ∷ bs) (ap (λ (q : Bool). q && (suits ts l c && listable ts l (suc c) bs)) (lt-leb (suc b) c (omega arith)))
not_rising ts l least (b ∷ (c ∷ bs)) (suc k) h e = none ts l least b (c ∷ bs) (not_rising ts l (suc b) (c ∷ bs) k (omega arith) e)
