-- Reading the nodes of a body one after the other.
use Rattle.std.proofs.Common.{◌≡◌, ℕ, suc, ◌-◌, ◌<◌, ◌≤◌, List, [], ◌∷◌, ◌++◌, length, get_or, take, drop, Some, None, Ok, Err, Option, Result, sym, refl, ap, ◌∙◌, append_assoc, append-nil, arith, length-append, take_all}
use Rattle.format.specs.declared.node.Kind.{Kind}
use Rattle.format.specs.declared.node.Node.{Node}
use Rattle.format.specs.Trees.{Entry, entry, plain_node}
use Rattle.format.specs.Judge.{entries, entry_or, entry_before, kind_of}
use Rattle.format.specs.Ends.{fresh, freshes}
use Rattle.fields.proofs.Closing.{length_freshes}
use Rattle.format.specs.Parts.{pair}

-- entries in front of what is read later
abbrev pub after : List Entry → Result (List Entry) ℕ → Result (List Entry) ℕ
after es (Ok fs) = Ok (es ++ fs)
after es (Err n) = Err n

pub record ReadSoFar (labels words : ℕ) (body : List ℕ) (ns : List Node) (rest : List ℕ) : Type 0 where
  pub es : List Entry
  pub whole : entries labels words 0 body ≡ after es (entries labels words (length es) rest)
  pub same : ns ≡ freshes es

after_none : (o : Result (List Entry) ℕ) → o ≡ after [] o
after_none (Ok es) = refl
after_none (Err n) = refl

pub none_read : (labels words : ℕ) (body : List ℕ) (ns : List Node) → ns ≡ [] → ReadSoFar labels words body ns body
none_read labels words body ns e = record { es = []; whole = after_none (entries labels words 0 body); same = e }

after_more : (es : List Entry) (k : Kind) (c : ℕ) (o : Result (List Entry) ℕ) → after es (entry_before k c o) ≡ after (es ++ (entry k c ∷ [])) o
after_more es k c (Ok fs) = ap Ok (sym (append_assoc es (entry k c ∷ []) fs))
after_more es k c (Err n) = refl

freshes_more : (es : List Entry) (e : Entry) → freshes es ++ (fresh e ∷ []) ≡ freshes (es ++ (e ∷ []))
freshes_more [] e = refl
freshes_more (f ∷ es) e = ap (λ (l : List Node). fresh f ∷ l) (freshes_more es e)

-- the next node, by the four bytes at the front of what is left
next_entry : (labels words i : ℕ) (rest : List ℕ) → 4 ≤ length rest
    → entries labels words i rest ≡ entry_or i (kind_of labels words (get_or rest 0 0) (pair (get_or rest 1 0) (get_or rest 2 0))) (get_or rest 3 0) (entries labels words (suc i) (take (length rest - 4) (drop 4 rest)))
next_entry labels words i [] h = absurd (omega arith)
next_entry labels words i (a ∷ []) h = absurd (omega arith)
next_entry labels words i (a ∷ (b ∷ [])) h = absurd (omega arith)
next_entry labels words i (a ∷ (b ∷ (c ∷ []))) h = absurd (omega arith)
next_entry labels words i (a ∷ (b ∷ (c ∷ (d ∷ more)))) h =
    ap (λ (l : List ℕ). entry_or i (kind_of labels words a (pair b c)) d (entries labels words (suc i) l)) (sym (take_all (suc (suc (suc (suc (length more)))) - 4) more (omega arith)))

pub one_more_read : (labels words : ℕ) (body : List ℕ) (ns ms : List Node) (rest : List ℕ) (k : Kind) (name : ℕ) → 4 ≤ length rest
    → ReadSoFar labels words body ns rest
    → name ≡ pair (get_or rest 1 0) (get_or rest 2 0)
    → Some k ≡ kind_of labels words (get_or rest 0 0) name
    → ms ≡ ns ++ (plain_node k (get_or rest 3 0) 0 ∷ [])
    → ReadSoFar labels words body ms (take (length rest - 4) (drop 4 rest))
one_more_read labels words body ns ms rest k name h r n-is k-is m-is =
    let i = length r.es in
    let more = take (length rest - 4) (drop 4 rest) in
    let c = get_or rest 3 0 in
    record {
      es = r.es ++ (entry k c ∷ []);
      whole = r.whole
          ∙ (ap (after r.es) (next_entry labels words i rest h
          ∙ (ap (λ (n : ℕ). entry_or i (kind_of labels words (get_or rest 0 0) n) c (entries labels words (suc i) more)) (sym n-is)
          ∙ ap (λ (o : Option Kind). entry_or i o c (entries labels words (suc i) more)) (sym k-is)))
          ∙ (after_more r.es k c (entries labels words (suc i) more)
          ∙ ap (λ (j : ℕ). after (r.es ++ (entry k c ∷ [])) (entries labels words j more)) (let e : suc i ≡ length (r.es ++ (entry k c ∷ [])) = omega (arith, length-append r.es (entry k c ∷ [])) in e)));
      same = m-is ∙ (ap (λ (l : List Node). l ++ (plain_node k c 0 ∷ [])) r.same ∙ freshes_more r.es (entry k c));
    }

pub bad_node_read : (labels words : ℕ) (body : List ℕ) (ns : List Node) (rest : List ℕ) (name : ℕ) → 4 ≤ length rest
    → ReadSoFar labels words body ns rest
    → name ≡ pair (get_or rest 1 0) (get_or rest 2 0)
    → None ≡ kind_of labels words (get_or rest 0 0) name
    → entries labels words 0 body ≡ Err (length ns)
bad_node_read labels words body ns rest name h r n-is k-is =
    let i = length r.es in
    let more = take (length rest - 4) (drop 4 rest) in
    let c = get_or rest 3 0 in
    r.whole
    ∙ (ap (after r.es) (next_entry labels words i rest h
    ∙ (ap (λ (n : ℕ). entry_or i (kind_of labels words (get_or rest 0 0) n) c (entries labels words (suc i) more)) (sym n-is)
    ∙ ap (λ (o : Option Kind). entry_or i o c (entries labels words (suc i) more)) (sym k-is)))
    ∙ ap Err (let e : i ≡ length ns = omega (arith, ap length r.same, length_freshes r.es) in e))

no_more : (labels words i : ℕ) (rest : List ℕ) → length rest < 4 → entries labels words i rest ≡ Ok []
no_more labels words i [] h = refl
no_more labels words i (a ∷ []) h = refl
no_more labels words i (a ∷ (b ∷ [])) h = refl
no_more labels words i (a ∷ (b ∷ (c ∷ []))) h = refl
no_more labels words i (a ∷ (b ∷ (c ∷ (d ∷ more)))) h = absurd (omega arith)

pub all_read : (labels words : ℕ) (body : List ℕ) (ns : List Node) (rest : List ℕ) → length rest < 4
    → ReadSoFar labels words body ns rest → (es : List Entry) × (entries labels words 0 body ≡ Ok es) × (ns ≡ freshes es)
all_read labels words body ns rest h r =
    (r.es, r.whole ∙ (ap (after r.es) (no_more labels words (length r.es) rest h) ∙ ap Ok (append-nil r.es)), r.same)
