-- A row without zeros admits its own words and no others.
use Rattle.std.proofs.Common.{◌≡◌, ℕ, ◌+◌, ◌<◌, ◌≤◌, not, eqb, ltb, leb, List, [], ◌∷◌, length, get_or, drop, sym, refl, ap, ◌∙◌, subst, arith}
use Rattle.std.proofs.lemmas.List.{drop_all, drop_more, length-drop}
use Rattle.std.proofs.lemmas.Bool.{and_from, lt-ltb, le-leb, eq-eqb, ne_eqb, not_from_false, cond-true}
use Rattle.words.specs.Meaning.{greatest_last, nothing}
use Rattle.words.specs.Paths.{Path, Admits}
use Rattle.words.specs.Rows.{row_of, row_meaning, AdmitsItsWords}
use Rattle.words.specs.Bounds.{row_edge}

-- what leads from i to the end are the words from i on
words_of : (ws vs : List ℕ) (i : ℕ) → Path (row_of ws) i vs (length ws) → vs ≡ drop i ws
words_of ws [] i p = sym (drop_all i ws (omega arith))
words_of ws (v ∷ vs) i (next, e, p) =
    let h = row_edge ws i v next e in
    let rest = words_of ws vs next p ∙ ap (λ z. drop z ws) h.next in
    ap (λ z. z ∷ vs) (sym h.there) ∙ (ap (λ z. get_or ws i 0 ∷ z) rest ∙ sym (drop_more ws i 0 h.inside))

-- where there is no zero, the words from i on lead from i to the end
path_of : (ws : List ℕ) → ((i : ℕ) → i < length ws → 0 < get_or ws i 0) → (vs : List ℕ) (i : ℕ) → i ≤ length ws → vs ≡ drop i ws
    → Path (row_of ws) i vs (length ws)
path_of ws nz [] i l e = let n = ap length e in let d = length-drop i ws in omega arith
path_of ws nz (v ∷ vs) i l e =
    let n = ap length e in
    let d = length-drop i ws in
    let lt : i < length ws = omega arith in
    let m = drop_more ws i 0 lt in
    let first : get_or ws i 0 ≡ v = cc in
    let rest : vs ≡ drop (i + 1) ws = cc in
    let some = nz i lt in
    let tail = path_of ws nz vs (i + 1) (omega arith) rest in (
      i + 1,
      and_from (ltb i (length ws)) _ (lt-ltb i (length ws) lt)
          (and_from (not (eqb v 0)) _ (not_from_false (eqb v 0) (ne_eqb v 0 (λ z. omega arith)))
          (and_from (eqb (get_or ws i 0) v) (eqb (i + 1) (i + 1)) (eq-eqb (get_or ws i 0) v first) (eq-eqb (i + 1) (i + 1) refl))),
      tail,
    )

pub row_means : (ws : List ℕ) → length ws ≤ greatest_last → row_meaning ws ≡ row_of ws
row_means ws h = cond-true (leb (length ws) greatest_last) (row_of ws) nothing (le-leb (length ws) greatest_last h)

pub admits_its_words : (ws : List ℕ) → AdmitsItsWords ws
admits_its_words ws short nz vs =
    let e = row_means ws short in (
      (λ p. words_of ws vs 0 (subst (λ z. Admits z vs) e p)),
      (λ q. subst (λ z. Admits z vs) (sym e) (path_of ws nz vs 0 (omega arith) q)),
    )
