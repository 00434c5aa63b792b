use Rattle.std.proofs.Common.{◌≡◌, ℕ, suc, ◌+◌, ◌<◌, Bool, true, false, cond, List, [], ◌∷◌, ◌++◌, length, get_or, drop, codes, decimal, sym, refl, ap, ◌∙◌, append_assoc, append-nil, add-one, rules, drop-cons, drop_of_length-le}
use Rattle.std.proofs.lemmas.Grind.{put_two}
use Rattle.std.specs.Bool.{beq}
use Rattle.std.specs.List.{list_any}
use Rattle.format.specs.Keeps.{any}
use Rattle.format.specs.Texts.{obligation_name, listed_text}
use Rattle.format.proofs.node.ConstraintDisplay.fmt.Goals as goal
use Rattle.format.proofs.node.ConstraintDisplay.fmt.Goals.{then-listed+in_ok-write-2, else-listed}

some_is : (bs : List Bool) → list_any (λ y. beq y true) bs ≡ any bs
some_is [] = refl
some_is (true ∷ bs) = refl
some_is (false ∷ bs) = some_is bs

-- one more tree of the set
step : (bs : List Bool) (t : ℕ) (b : Bool) → t < length bs → get_or bs t false ≡ b
    → listed_text t (drop t bs) ≡ cond b (codes " " ++ decimal t) [] ++ listed_text (t + 1) (drop (t + 1) bs)
step bs t b h e =
    ap (listed_text t) (drop-cons bs t false h)
    ∙ (ap (λ (v : Bool). cond v (codes " " ++ decimal t) [] ++ listed_text (suc t) (drop (suc t) bs)) e
    ∙ ap (λ (k : ℕ). cond b (codes " " ++ decimal t) [] ++ listed_text k (drop k bs)) (sym (add-one t)))

pub returns-then-not-contains-clause-writes : goal.returns-then-not-contains-clause-writes
returns-then-not-contains-clause-writes g c = λ plain ok.
    let front = c.in_ok-write.ensures.writes plain refl in
    let back = c.write_str.ensures.writes front.plain ok in
    let none : any c.args.self.now.listed ≡ false = sym (some_is c.args.self.now.listed) ∙ (sym c.contains.ensures.value ∙ c.if-not-contains.true) in
    rw none (put_two _ _ _ _ _ _ _ front back (append_assoc (obligation_name c.args.self.now.obligation) (codes ":") (codes " none")))

pub loop-tree-init : goal.loop-tree-init
loop-tree-init g c = λ plain.
    let o = obligation_name c.args.self.now.obligation in (
      o ++ codes ":",
      c.in_ok-write.ensures.writes plain refl,
      append_assoc o (codes ":") (listed_text 0 c.args.self.now.listed),
    )

pub loop-tree-preserved : goal.loop-tree-preserved
loop-tree-preserved g c = λ plain.
    let so_far = c.loop-tree.invariant plain in
    let bs = c.args.self.now.listed in
    let t = c.loop-tree.tree-counter in
    let here : t < length bs = search rules in
    elim c.if-listed.branch [
      | then-listed+in_ok-write-2 w ↦ (
        so_far.0 ++ (codes " " ++ decimal t),
        rw w.f-is (put_two _ _ _ _ _ _ _ so_far.1 (w.in_ok-write-2.ensures.writes so_far.1.plain refl) refl),
        append_assoc so_far.0 (codes " " ++ decimal t) _ ∙ (ap (λ (l : List ℕ). so_far.0 ++ l) (sym (step bs t true here w.if-listed.true)) ∙ so_far.2),
      )
      | else-listed w ↦ (
        so_far.0,
        rw w.f-is so_far.1,
        ap (λ (l : List ℕ). so_far.0 ++ l) (sym (step bs t false here w.if-listed.false)) ∙ so_far.2,
      )
    ]

pub returns-clause-writes : goal.returns-clause-writes
returns-clause-writes g c = λ plain ok.
    let so_far = c.loop-tree.invariant plain in
    let bs = c.args.self.now.listed in
    let t = c.loop-tree.tree-counter in
    let some : any bs ≡ true = sym (some_is bs) ∙ (sym c.contains.ensures.value ∙ c.if-not-contains.false) in
    let all : so_far.0 ≡ obligation_name c.args.self.now.obligation ++ (codes ":" ++ listed_text 0 bs)
    = let e : drop t bs ≡ [] = drop_of_length-le bs (search rules) in
    sym (append-nil so_far.0) ∙ (ap (λ (l : List Bool). so_far.0 ++ listed_text t l) (sym e) ∙ so_far.2) in
    rw (some, ← all) so_far.1
