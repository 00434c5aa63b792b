-- The nodes of a laid out tree are nested.
use Rattle.std.proofs.Common.{◌≡◌, ℕ, zero, suc, ◌+◌, ◌-◌, ◌<◌, ◌≤◌, List, ◌++◌, length, get_or, drop, sym, refl, ap, ◌∙◌, subst, arith, length-append, length-drop, drop-drop}
use native.Mathlib.Decide.{dec_lt}
use lib.Seq.{drop-append_seam}
use Rattle.format.specs.declared.node.Kind.{Kind}
use Rattle.format.specs.declared.node.Node.{Node}
use Rattle.format.specs.Trees.{Row, none, node, trees_in, size, ◌⊕◌, lay, plain_node}
use Rattle.format.specs.Layout.{pass, Nested}
use Rattle.format.specs.Parts.{no_node}
use Rattle.format.proofs.Laying.{length_lay, lay_beside, read_at}

-- Nodes that from i on are laid out as a first tree, its later siblings, and what is behind them.
module _ (ns : List Node) (i : ℕ) (k : Kind) (kids rest later : Row) (h : drop i ns ≡ lay i ((node k kids rest) ⊕ later)) where
  here : (i < length ns) × (get_or ns i no_node ≡ plain_node k (trees_in kids) (suc i + size kids)) × (drop (suc i) ns ≡ lay (suc i) kids ++ lay (suc i + size kids) (rest ⊕ later))
  here = read_at ns i no_node (plain_node k (trees_in kids) (suc i + size kids)) (lay (suc i) kids ++ lay (suc i + size kids) (rest ⊕ later)) h

  root_end : (get_or ns i no_node).end ≡ suc i + size kids
  root_end = ap (λ (w : Node). w.end) here.1

  inside : drop (suc i) ns ≡ lay (suc i) (kids ⊕ (rest ⊕ later))
  inside = here.2 ∙ sym (lay_beside (suc i) kids (rest ⊕ later))

  beside : drop (suc i + size kids) ns ≡ lay (suc i + size kids) (rest ⊕ later)
  beside = sym (drop-drop (size kids) (suc i) ns) ∙ (ap (drop (size kids)) here.2
      ∙ (ap (λ (j : ℕ). drop j (lay (suc i) kids ++ lay (suc i + size kids) (rest ⊕ later))) (sym (length_lay (suc i) kids)) ∙ drop-append_seam (lay (suc i) kids) (lay (suc i + size kids) (rest ⊕ later))))

  long : suc i + size kids ≤ length ns
  long =
      let a : length ns - suc i ≡ size kids + length (lay (suc i + size kids) (rest ⊕ later))
      = sym (length-drop (suc i) ns) ∙ (ap length here.2 ∙ (length-append (lay (suc i) kids) (lay (suc i + size kids) (rest ⊕ later)) ∙ ap (λ (m : ℕ). m + length (lay (suc i + size kids) (rest ⊕ later))) (length_lay (suc i) kids))) in
      let b = here.0 in
      omega arith

-- no subtree of a row ends behind the row
ends_in_row : (ns : List Node) (i n : ℕ) (r later : Row) → drop i ns ≡ lay i (r ⊕ later) → i ≤ n → n < i + size r → (get_or ns n no_node).end ≤ i + size r
ends_in_row ns i n none later h a b = absurd (omega arith)
ends_in_row ns i n (node k kids rest) later h a b =
    at (dec_lt n (suc i)) (dec_lt n (suc i + size kids))
    (ends_in_row ns (suc i) n kids (rest ⊕ later) (inside ns i k kids rest later h)) (ends_in_row ns (suc i + size kids) n rest later (beside ns i k kids rest later h))
  where
    at : Dec (n < suc i) → Dec (n < suc i + size kids)
        → (suc i ≤ n → n < suc i + size kids → (get_or ns n no_node).end ≤ suc i + size kids)
        → (suc i + size kids ≤ n → n < suc i + size kids + size rest → (get_or ns n no_node).end ≤ suc i + size kids + size rest)
        → (get_or ns n no_node).end ≤ i + size (node k kids rest)
    at (yes q) d in-kids in_rest =
        let e : n ≡ i = omega arith in
        let r = ap (λ (m : ℕ). (get_or ns m no_node).end) e ∙ root_end ns i k kids rest later h in
        omega arith
    at (no q) (yes w) in-kids in_rest = let r = in-kids (omega arith) w in omega arith
    at (no q) (no w) in-kids in_rest = let r = in_rest (omega arith) (omega arith) in omega arith

-- following the ends from i on passes the trees of a row
passes_row : (ns : List Node) (i : ℕ) (r later : Row) → drop i ns ≡ lay i (r ⊕ later) → pass ns (trees_in r) i ≡ i + size r
passes_row ns i none later h = let e : i ≡ i + 0 = omega arith in e
passes_row ns i (node k kids rest) later h =
    ap (pass ns (trees_in rest)) (root_end ns i k kids rest later h)
    ∙ (passes_row ns (suc i + size kids) rest later (beside ns i k kids rest later h) ∙ (let e : suc i + size kids + size rest ≡ i + suc (size kids + size rest) = omega arith in e))

pass_in_row : (ns : List Node) (i m : ℕ) (r later : Row) → drop i ns ≡ lay i (r ⊕ later) → m < trees_in r → pass ns m i < i + size r
pass_in_row ns i m none later h l = absurd (omega arith)
pass_in_row ns i zero (node k kids rest) later h l = omega arith
pass_in_row ns i (suc m) (node k kids rest) later h l =
    let r = pass_in_row ns (suc i + size kids) m rest later (beside ns i k kids rest later h) (omega arith) in
    let e = ap (pass ns m) (root_end ns i k kids rest later h) in
    omega arith

root_nested : (ns : List Node) (i : ℕ) (k : Kind) (kids rest later : Row) → drop i ns ≡ lay i ((node k kids rest) ⊕ later) → Nested ns i
root_nested ns i k kids rest later h =
    let e = root_end ns i k kids rest later h in
    let c : (get_or ns i no_node).children ≡ trees_in kids = ap (λ (w : Node). w.children) (here ns i k kids rest later h).1 in
    let in-kids = inside ns i k kids rest later h in
    record {
      behind = omega arith;
      within = omega (arith, long ns i k kids rest later h);
      subtrees = λ n a b. let r = ends_in_row ns (suc i) n kids (rest ⊕ later) in-kids a (omega arith) in omega arith;
      children = ap (λ (m : ℕ). pass ns m (suc i)) c ∙ (passes_row ns (suc i) kids (rest ⊕ later) in-kids ∙ sym e);
      child = λ n l. let r = pass_in_row ns (suc i) n kids (rest ⊕ later) in-kids (omega (arith, c)) in omega arith;
    }

nested_in : (ns : List Node) (i n : ℕ) (r later : Row) → drop i ns ≡ lay i (r ⊕ later) → i ≤ n → n < i + size r → Nested ns n
nested_in ns i n none later h a b = absurd (omega arith)
nested_in ns i n (node k kids rest) later h a b =
    at (dec_lt n (suc i)) (dec_lt n (suc i + size kids))
    (nested_in ns (suc i) n kids (rest ⊕ later) (inside ns i k kids rest later h)) (nested_in ns (suc i + size kids) n rest later (beside ns i k kids rest later h))
  where
    at : Dec (n < suc i) → Dec (n < suc i + size kids) → (suc i ≤ n → n < suc i + size kids → Nested ns n) → (suc i + size kids ≤ n → n < suc i + size kids + size rest → Nested ns n) → Nested ns n
    at (yes q) d in-kids in_rest = subst (Nested ns) (let e : i ≡ n = omega arith in e) (root_nested ns i k kids rest later h)
    at (no q) (yes w) in-kids in_rest = in-kids (omega arith) w
    at (no q) (no w) in-kids in_rest = in_rest (omega arith) (omega arith)

beside_none : (r : Row) → r ≡ r ⊕ none
beside_none none = refl
beside_none (node k kids rest) = ap (node k kids) (beside_none rest)

pub all_nested : (r : Row) (n : ℕ) → n < size r → Nested (lay 0 r) n
all_nested r n h = nested_in (lay 0 r) 0 n r none (ap (lay 0) (beside_none r)) (omega arith) (omega arith)
