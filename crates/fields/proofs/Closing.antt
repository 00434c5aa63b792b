-- Closing subtrees from the last node to the first: the nodes behind a node are laid out as the row that was planted so far.
use Rattle.std.proofs.Common.{◌≡◌, ℕ, zero, suc, ◌+◌, ◌<◌, Bool, true, false, eqb, List, [], ◌∷◌, ◌++◌, length, get_or, take, drop, set, Some, None, sym, refl, ap, ◌∙◌, subst, arith, length-set, take-append-drop, drop_of_length-le, drop-cons, get_or-take, get_or-set_same, take-take, drop-set-lt, eqb-true}
use lib.Seq.{drop-length, take-set-le}
use borrow.Author.Tests.{eqb-false}
use Rattle.format.specs.declared.node.Node.{Node}
use Rattle.format.specs.Trees.{Row, none, node, trees_in, size, Entry, Parted, short, parted, part, adopt, plant_before, plant, alone, lay, plain_node}
use Rattle.format.specs.Ends.{past, bare, bares, fresh, freshes, Closed}
use Rattle.format.proofs.Planted.{part_is}
use Rattle.format.proofs.Laying.{length_lay, lay_beside, past_part, past_is}
use Rattle.format.specs.Parts.{no_node}

-- Nodes from number i on are closed, those before are as they were read.
pub record Closing (es : List Entry) (ns : List Node) (i : ℕ) : Type 0 where
  pub row : Row
  pub planted : plant (drop i es) ≡ Some row
  pub laid : drop i ns ≡ lay i row
  pub front : take i ns ≡ take i (freshes es)

pub length_freshes : (es : List Entry) → length (freshes es) ≡ length es
length_freshes [] = refl
length_freshes (e ∷ es) = ap suc (length_freshes es)

pub length_bares : (ns : List Node) → length (bares ns) ≡ length ns
length_bares [] = refl
length_bares (e ∷ es) = ap suc (length_bares es)

abbrev pub ended : Node → ℕ → Node
ended v n = record { kind = v.kind; children = v.children; end = n; constraint = v.constraint }

abbrev no_entry : Entry
no_entry = bare no_node

getD_freshes : (es : List Entry) (j : ℕ) → j < length es → get_or (freshes es) j no_node ≡ fresh (get_or es j no_entry)
getD_freshes [] j h = absurd (omega arith)
getD_freshes (e ∷ es) zero h = refl
getD_freshes (e ∷ es) (suc j) h = getD_freshes es j (omega arith)

pub closing_begins : (ns : List Node) → ns ≡ freshes (bares ns) → Closing (bares ns) ns (length ns)
closing_begins ns h = record {
  row = none;
  planted = ap plant (drop_of_length-le (bares ns) {i = length ns} (omega (arith, length_bares ns)));
  laid = drop-length ns;
  front = ap (take (length ns)) h;
}

-- node j before it is closed
here_fresh : (es : List Entry) (ns : List Node) (j : ℕ) → j < length ns → length ns ≡ length es → take (suc j) ns ≡ take (suc j) (freshes es) → get_or ns j no_node ≡ fresh (get_or es j no_entry)
here_fresh es ns j h len front =
    sym (get_or-take (suc j) ns j no_node (omega arith))
    ∙ (ap (λ (l : List Node). get_or l j no_node) front
    ∙ (get_or-take (suc j) (freshes es) j no_node (omega arith) ∙ getD_freshes es j (omega arith)))

plant_at : (es : List Entry) (j : ℕ) (r : Row) → j < length es → plant (drop (suc j) es) ≡ Some r → plant (drop j es) ≡ plant_before (get_or es j no_entry) (Some r)
plant_at es j r h p = ap plant (drop-cons es j no_entry h) ∙ ap (plant_before (get_or es j no_entry)) p

close_at : (es : List Entry) (ns : List Node) (j end : ℕ) (r : Row) (p : Parted) → j < length ns → length ns ≡ length es
    → plant (drop (suc j) es) ≡ Some r → drop (suc j) ns ≡ lay (suc j) r → take (suc j) ns ≡ take (suc j) (freshes es)
    → part (get_or es j no_entry).children r ≡ p → past_part (suc j) p ≡ Some end
    → Closing es (set ns j (ended (get_or ns j no_node) end)) j
close_at es ns j end r short h len planted laid front e past_end = elim (let z : ◌≡◌ {A = ℕ} 0 1 = cc in let f : ⊥ = omega arith in f) [ ]
close_at es ns j end r (parted a b) h len planted laid front e past_end =
    let en = get_or es j no_entry in
    let v = get_or ns j no_node in
    let is = part_is en.children r a b e in
    let at-end : suc j + size a ≡ end = cc in
    let w = ended v end in
    let w-is : w ≡ plain_node en.kind (trees_in a) (suc j + size a)
    = ap (λ (u : Node). ended u end) (here_fresh es ns j h len front)
    ∙ (ap (λ (n : ℕ). plain_node en.kind en.children n) (sym at-end)
    ∙ ap (λ (n : ℕ). plain_node en.kind n (suc j + size a)) (sym is.0)) in
    let h-set : j < length (set ns j w) = omega (arith, length-set ns j w) in
    record {
      row = node en.kind a b;
      planted = plant_at es j r (omega arith) planted ∙ ap (adopt en.kind) e;
      laid = drop-cons (set ns j w) j no_node h-set
          ∙ (ap (λ (u : Node). u ∷ drop (suc j) (set ns j w)) (get_or-set_same ns j w no_node h ∙ w-is)
          ∙ ap (λ (l : List Node). plain_node en.kind (trees_in a) (suc j + size a) ∷ l)
          (drop-set-lt (suc j) ns j w (omega arith) ∙ (laid ∙ (ap (lay (suc j)) (sym is.1) ∙ lay_beside (suc j) a b))));
      front = take-set-le j ns j w (omega arith)
          ∙ (sym (take-take j (suc j) ns (omega arith)) ∙ (ap (take j) front ∙ take-take j (suc j) (freshes es) (omega arith)));
    }

past_here : (es : List Entry) (ns : List Node) (j : ℕ) (r : Row) → j < length ns → length ns ≡ length es
    → drop (suc j) ns ≡ lay (suc j) r → take (suc j) ns ≡ take (suc j) (freshes es)
    → past ns (get_or ns j no_node).children (j + 1) ≡ past_part (suc j) (part (get_or es j no_entry).children r)
past_here es ns j r h len laid front =
    ap (λ (n : ℕ). past ns (get_or ns j no_node).children n) (let e : j + 1 ≡ suc j = omega arith in e)
    ∙ (ap (λ (u : Node). past ns u.children (suc j)) (here_fresh es ns j h len front) ∙ past_is ns (get_or es j no_entry).children (suc j) r laid)

-- the node before is closed too
pub closing_goes_on : (es : List Entry) (ns : List Node) (i j end : ℕ) → i ≡ suc j → j < length ns → length ns ≡ length es
    → Closing es ns i → Some end ≡ past ns (get_or ns j no_node).children (j + 1)
    → Closing es (set ns j (ended (get_or ns j no_node) end)) j
closing_goes_on es ns i j end e h len c was =
    let d : Closing es ns (suc j) = subst (λ (n : ℕ). Closing es ns n) e c in
    close_at es ns j end d.row (part (get_or es j no_entry).children d.row) h len d.planted d.laid d.front refl
    (sym (was ∙ past_here es ns j d.row h len d.laid d.front))

plant_none : (es fs : List Entry) → plant fs ≡ None → plant (es ++ fs) ≡ None
plant_none [] fs h = h
plant_none (e ∷ es) fs h = ap (plant_before e) (plant_none es fs h)

part_short : (j : ℕ) (p : Parted) → None ≡ past_part j p → p ≡ short
part_short j short h = refl
part_short j (parted a b) h = cc

-- too few trees stand behind a node
pub closing_fails : (es : List Entry) (ns : List Node) (i j : ℕ) → i ≡ suc j → j < length ns → length ns ≡ length es
    → Closing es ns i → None ≡ past ns (get_or ns j no_node).children (j + 1) → alone (plant es) ≡ None
closing_fails es ns i j e h len c was =
    let d : Closing es ns (suc j) = subst (λ (n : ℕ). Closing es ns n) e c in
    let en = get_or es j no_entry in
    let s = part_short (suc j) (part en.children d.row) (was ∙ past_here es ns j d.row h len d.laid d.front) in
    let here : plant (drop j es) ≡ None = plant_at es j d.row (omega arith) d.planted ∙ ap (adopt en.kind) s in
    ap alone (ap plant (sym (take-append-drop j es)) ∙ plant_none (take j es) (drop j es) here)

ends_alone : (es : List Entry) (ns : List Node) (r : Row) (b : Bool) → plant es ≡ Some r → ns ≡ lay 0 r → eqb (get_or ns 0 no_node).end (length ns) ≡ b → 0 < length ns → Closed es ns b
ends_alone es ns none b p l e h = absurd (omega (arith, ap length l))
ends_alone es ns (node k kids none) true p l e h = (node k kids none, ap alone p, l)
ends_alone es ns (node k kids none) false p l e h =
    let n = ap length l ∙ length_lay 0 (node k kids none) in
    let m : (get_or ns 0 no_node).end ≡ suc 0 + size kids = ap (λ (q : List Node). (get_or q 0 no_node).end) l in
    elim (eqb-false (get_or ns 0 no_node).end (length ns) e (omega arith)) [ ]
ends_alone es ns (node k kids (node m a b)) true p l e h =
    let n = ap length l ∙ length_lay 0 (node k kids (node m a b)) in
    let q : (get_or ns 0 no_node).end ≡ suc 0 + size kids = ap (λ (q : List Node). (get_or q 0 no_node).end) l in
    let t = eqb-true (get_or ns 0 no_node).end (length ns) e in
    absurd (omega arith)
ends_alone es ns (node k kids (node m a b)) false p l e h = ap alone p

pub closing_ends : (es : List Entry) (ns : List Node) (i : ℕ) → i ≡ 0 → Closing es ns i → 0 < length ns → Closed es ns (eqb (get_or ns 0 no_node).end (length ns))
closing_ends es ns i e c h =
    let d : Closing es ns 0 = subst (λ (n : ℕ). Closing es ns n) e c in
    ends_alone es ns d.row (eqb (get_or ns 0 no_node).end (length ns)) d.planted d.laid refl h

pub none_to_close : (es : List Entry) → length es ≡ 0 → alone (plant es) ≡ None
none_to_close [] h = refl
none_to_close (e ∷ es) h = absurd (omega arith)
