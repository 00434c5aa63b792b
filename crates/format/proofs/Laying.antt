-- How a row of trees lies in a table.
use Rattle.std.proofs.Common.{◌≡◌, ℕ, zero, suc, ◌+◌, ◌<◌, ◌≤◌, Bool, cond, List, [], ◌∷◌, ◌++◌, length, get_or, drop, Some, None, Option, sym, refl, ap, ◌∙◌, append_assoc, arith, length-append, drop-drop, le-ltb, lt-ltb, length-drop}
use lib.Seq.{drop-append_seam}
use Rattle.format.specs.declared.node.Kind.{Kind}
use Rattle.format.specs.declared.node.Node.{Node}
use Rattle.format.specs.Trees.{Row, none, node, trees_in, size, ◌⊕◌, Entry, entry, flatten, Parted, short, parted, before, part, lay, plain_node}
use Rattle.format.specs.Ends.{past, bare, bares}
use Rattle.format.specs.Parts.{no_node}

pub length_lay : (i : ℕ) (r : Row) → length (lay i r) ≡ size r
length_lay i none = refl
length_lay i (node k kids rest) =
    ap suc (length-append (lay (suc i) kids) (lay (suc i + size kids) rest) ∙ (let a = length_lay (suc i) kids in let b = length_lay (suc i + size kids) rest in omega arith))

pub lay_beside : (i : ℕ) (a b : Row) → lay i (a ⊕ b) ≡ lay i a ++ lay (i + size a) b
lay_beside i none b = ap (λ (j : ℕ). lay j b) (let e : i ≡ i + 0 = omega arith in e)
lay_beside i (node k kids rest) b =
    let v = plain_node k (trees_in kids) (suc i + size kids) in
    let first = lay (suc i) kids in
    let later = lay (suc i + size kids) rest in
    ap (λ (l : List Node). v ∷ (first ++ l)) (lay_beside (suc i + size kids) rest b)
    ∙ (ap (λ (j : ℕ). v ∷ (first ++ (later ++ lay j b))) (let e : suc i + size kids + size rest ≡ i + suc (size kids + size rest) = omega arith in e)
    ∙ ap (λ (l : List Node). v ∷ l) (sym (append_assoc first later (lay (i + suc (size kids + size rest)) b))))

-- what stands at i, where a list from i on is known
pub read_at : {X : Type 0} (l : List X) (i : ℕ) (d x : X) (xs : List X) → drop i l ≡ x ∷ xs → (i < length l) × (get_or l i d ≡ x) × (drop (suc i) l ≡ xs)
read_at [] zero d x xs h = elim (let z : ◌≡◌ {A = ℕ} 0 1 = cc in let f : ⊥ = omega arith in f) [ ]
read_at [] (suc i) d x xs h = elim (let z : ◌≡◌ {A = ℕ} 0 1 = cc in let f : ⊥ = omega arith in f) [ ]
read_at (y ∷ l) zero d x xs h = (omega arith, cc, cc)
read_at (y ∷ l) (suc i) d x xs h = let r = read_at l i d x xs h in (omega arith, r.1, r.2)

nothing_at : {X : Type 0} (l : List X) (i : ℕ) → drop i l ≡ [] → length l ≤ i
nothing_at l i h = omega (arith, length-drop i l, ap length h)

-- the number past the trees that are parted off
abbrev pub past_part : ℕ → Parted → Option ℕ
past_part i short = None
past_part i (parted a b) = Some (i + size a)

past_before : (i : ℕ) (k : Kind) (kids : Row) (p : Parted) → past_part (suc i + size kids) p ≡ past_part i (before k kids p)
past_before i k kids short = refl
past_before i k kids (parted a b) = ap Some (let e : suc i + size kids + size a ≡ i + suc (size kids + size a) = omega arith in e)

-- Following ends from node i on passes the trees that `part` parts off.
pub past_is : (ns : List Node) (n i : ℕ) (r : Row) → drop i ns ≡ lay i r → past ns n i ≡ past_part i (part n r)
past_is ns zero i r h = ap Some (let e : i ≡ i + 0 = omega arith in e)
past_is ns (suc n) i none h =
    ap (λ (b : Bool). cond b (past ns n (get_or ns i no_node).end) None) (le-ltb i (length ns) (nothing_at ns i h))
past_is ns (suc n) i (node k kids rest) h =
    let v = plain_node k (trees_in kids) (suc i + size kids) in
    let here = read_at ns i no_node v (lay (suc i) kids ++ lay (suc i + size kids) rest) h in
    let later : drop (suc i + size kids) ns ≡ lay (suc i + size kids) rest
    = sym (drop-drop (size kids) (suc i) ns)
    ∙ (ap (drop (size kids)) here.2
    ∙ (ap (λ (j : ℕ). drop j (lay (suc i) kids ++ lay (suc i + size kids) rest)) (sym (length_lay (suc i) kids))
    ∙ drop-append_seam (lay (suc i) kids) (lay (suc i + size kids) rest))) in
    ap (λ (b : Bool). cond b (past ns n (get_or ns i no_node).end) None) (lt-ltb i (length ns) here.0)
    ∙ (ap (λ (w : Node). past ns n w.end) here.1
    ∙ (past_is ns n (suc i + size kids) rest later ∙ past_before i k kids (part n rest)))

-- nodes as the file has them
pub bares_++ : (ns ms : List Node) → bares (ns ++ ms) ≡ bares ns ++ bares ms
bares_++ [] ms = refl
bares_++ (n ∷ ns) ms = ap (λ (l : List Entry). bare n ∷ l) (bares_++ ns ms)

pub bares_lay : (i : ℕ) (r : Row) → bares (lay i r) ≡ flatten r
bares_lay i none = refl
bares_lay i (node k kids rest) =
    ap (λ (l : List Entry). entry k (trees_in kids) ∷ l)
    (bares_++ (lay (suc i) kids) (lay (suc i + size kids) rest)
    ∙ (ap (λ (l : List Entry). l ++ bares (lay (suc i + size kids) rest)) (bares_lay (suc i) kids)
    ∙ ap (λ (l : List Entry). flatten kids ++ l) (bares_lay (suc i + size kids) rest)))
