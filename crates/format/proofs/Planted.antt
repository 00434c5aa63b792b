-- Planting and flattening are inverse: child counts make at most one row of trees, and its preorder is where they came from.
use Rattle.std.proofs.Common.{◌≡◌, ℕ, zero, suc, List, [], ◌∷◌, ◌++◌, Some, None, Option, sym, refl, ap, ◌∙◌, append_assoc, append-nil, arith}
use Rattle.format.specs.Trees.{Row, none, node, trees_in, ◌⊕◌, Entry, entry, flatten, Parted, short, parted, before, part, adopt, plant_before, plant}

pub beside_none : (r : Row) → r ⊕ none ≡ r
beside_none none = refl
beside_none (node k kids rest) = ap (node k kids) (beside_none rest)

-- as many trees as the first of two rows has are the first row
pub part_beside : (r s : Row) → part (trees_in r) (r ⊕ s) ≡ parted r s
part_beside none s = refl
part_beside (node k kids rest) s = ap (before k kids) (part_beside rest s)

-- entries in front of planted ones
pub plant_over : (r s : Row) (es : List Entry) → plant es ≡ Some s → plant (flatten r ++ es) ≡ Some (r ⊕ s)
plant_over none s es h = h
plant_over (node k kids rest) s es h =
    let later = plant_over rest s es h in
    let all = plant_over kids (rest ⊕ s) (flatten rest ++ es) later in
    ap (λ (l : List Entry). plant_before (entry k (trees_in kids)) (plant l)) (append_assoc (flatten kids) (flatten rest) es)
    ∙ (ap (plant_before (entry k (trees_in kids))) all ∙ ap (adopt k) (part_beside kids (rest ⊕ s)))

pub plant_flatten : (r : Row) → plant (flatten r) ≡ Some r
plant_flatten r =
    ap plant (sym (append-nil (flatten r))) ∙ (plant_over r none [] refl ∙ ap Some (beside_none r))

-- what a part of a row is
pub part_is : (n : ℕ) (r a b : Row) → part n r ≡ parted a b → (trees_in a ≡ n) × (a ⊕ b ≡ r)
part_is zero r a b h = (ap trees_in (sym (let e : parted none r ≡ parted a b = h in let f : none ≡ a = cc in f)), let f : a ⊕ b ≡ r = let x : none ≡ a = cc in let y : r ≡ b = cc in ap (λ (q : Row). q ⊕ b) (sym x) ∙ sym y in f)
part_is (suc n) none a b h = elim (let z : ◌≡◌ {A = ℕ} 0 1 = cc in let f : ⊥ = omega arith in f) [ ]
part_is (suc n) (node k kids rest) a b h = go (part n rest) refl h (part_is n rest)
  where
    go : (p : Parted) → part n rest ≡ p → before k kids p ≡ parted a b
        → ((c d : Row) → part n rest ≡ parted c d → (trees_in c ≡ n) × (c ⊕ d ≡ rest))
        → (trees_in a ≡ suc n) × (a ⊕ b ≡ node k kids rest)
    go short e h again = elim (let z : ◌≡◌ {A = ℕ} 0 1 = cc in let f : ⊥ = omega arith in f) [ ]
    go (parted c d) e h again =
        let x : node k kids c ≡ a = cc in
        let y : d ≡ b = cc in
        let i = again c d e in
        (sym (ap trees_in x) ∙ ap suc i.0, ap (λ (q : Row). q ⊕ b) (sym x) ∙ (ap (λ (q : Row). node k kids (c ⊕ q)) (sym y) ∙ ap (node k kids) i.1))

flatten_beside : (r s : Row) → flatten (r ⊕ s) ≡ flatten r ++ flatten s
flatten_beside none s = refl
flatten_beside (node k kids rest) s =
    ap (λ (l : List Entry). entry k (trees_in kids) ∷ (flatten kids ++ l)) (flatten_beside rest s)
    ∙ ap (λ (l : List Entry). entry k (trees_in kids) ∷ l) (sym (append_assoc (flatten kids) (flatten rest) (flatten s)))

pub flatten_plant : (es : List Entry) (r : Row) → plant es ≡ Some r → flatten r ≡ es
flatten_plant [] r h = let e : none ≡ r = cc in ap flatten (sym e)
flatten_plant (e ∷ es) r h = go (plant es) refl h (flatten_plant es)
  where
    adopted : (s : Row) (p : Parted) → part e.children s ≡ p → adopt e.kind p ≡ Some r → flatten s ≡ es → flatten r ≡ e ∷ es
    adopted s short x h f = elim (let z : ◌≡◌ {A = ℕ} 0 1 = cc in let w : ⊥ = omega arith in w) [ ]
    adopted s (parted a b) x h f =
        let y : node e.kind a b ≡ r = cc in
        let i = part_is e.children s a b x in
        sym (ap flatten y)
        ∙ (ap (λ (n : ℕ). entry e.kind n ∷ (flatten a ++ flatten b)) i.0
        ∙ ap (λ (l : List Entry). e ∷ l) (sym (flatten_beside a b) ∙ (ap flatten i.1 ∙ f)))

    go : (o : Option Row) → plant es ≡ o → plant_before e o ≡ Some r → ((s : Row) → plant es ≡ Some s → flatten s ≡ es) → flatten r ≡ e ∷ es
    go None x h again = elim (let z : ◌≡◌ {A = ℕ} 0 1 = cc in let w : ⊥ = omega arith in w) [ ]
    go (Some s) x h again = adopted s (part e.children s) refl h (again s x)
