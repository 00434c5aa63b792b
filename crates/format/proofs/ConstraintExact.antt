-- Header and adjoining fields are taken exactly by their rules.
use Rattle.std.proofs.Common.{◌≡◌, ℕ, suc, Bool, true, false, cond, not, ◌&&◌, eqb, ltb, leb, ◌⊎◌, List, [], ◌∷◌, length, get_or, set, is_some, Some, None, Ok, Err, Option, Result, sym, refl, ap, ◌∙◌, inl, inr, arith, ltb-true, lt-ltb, eq-eqb, eqb-true, le-leb, leb-true}
use borrow.Author.Tests.{not-true}
use Rattle.std.proofs.lemmas.Bool.{and_parts, and_from, cond-true, cases_eq, not_from_false}
use Rattle.format.specs.declared.node.Kind.{Kind}
use Rattle.format.specs.declared.node.Kind.TheVariants.{Inner, Word, Empty, Foot}
use Rattle.format.specs.declared.node.Form.{Form}
use Rattle.format.specs.declared.node.Form.TheVariants.{Initial, Auxiliary}
use Rattle.format.specs.declared.node.Tree.{Tree}
use Rattle.format.specs.declared.node.Node.{Node}
use Rattle.format.specs.declared.stage.Phase.TheVariants.{Trees}
use Rattle.format.specs.declared.fault.Refusal.{Refusal}
use Rattle.format.specs.declared.fault.Rule.TheVariants as broken
use Rattle.format.specs.Judge.{State, refuse, refusal, judge_header, judge_adjoining, adjoin, adjoined, set_constraint, with_nodes, open_target, adjoinable, is_auxiliary, suits, listable, needs_met, constraint_of}
use Rattle.format.specs.Format.{Adjoinable}
use Rattle.format.proofs.Cases.{nothing, never, passes}
use Rattle.format.specs.Parts.{pair, label_of_kind, no_tree, no_node, constrained, slot}
use Rattle.format.proofs.Taken.{HeaderTaken, HeaderExact, Listed, Choice, ConstraintTaken, ConstraintExact}

header_only : (s u : State) (body : List ℕ) → judge_header s body ≡ Ok u → HeaderTaken s body u
header_only s u [] h = never (refusal broken.Body 0) u h
header_only s u (a ∷ []) h = never (refusal broken.Body 0) u h
header_only s u (a ∷ (b ∷ [])) h = never (refusal broken.Body 0) u h
header_only s u (a ∷ (b ∷ (c ∷ (d ∷ more)))) h = never (refusal broken.Body 0) u h
header_only s u (a ∷ (b ∷ (c ∷ []))) h =
    let n : State = record { phase = Trees; labels = a; words = pair b c; trees = s.trees; nodes = s.nodes } in
    let p = passes (ltb 0 a && ltb 0 (pair b c)) (Ok n) (refusal broken.Body 0) u h in
    let q = and_parts (ltb 0 a) (ltb 0 (pair b c)) p.0 in
    let e : ◌≡◌ {A = Result State Refusal} (Ok n) (Ok u) = p.1 in
    (a, b, c, refl, ltb-true 0 a q.0, ltb-true 0 (pair b c) q.1, let r : u ≡ n = cc in r)

header_all : (s u : State) (body : List ℕ) → HeaderTaken s body u → judge_header s body ≡ Ok u
header_all s u body h =
    let a = h.0 in
    let b = h.1 in
    let c = h.2 in
    let n : State = record { phase = Trees; labels = a; words = pair b c; trees = s.trees; nodes = s.nodes } in
    ap (judge_header s) h.3
    ∙ (cond-true (ltb 0 a && ltb 0 (pair b c)) (Ok n) (refuse broken.Body) (and_from (ltb 0 a) (ltb 0 (pair b c)) (lt-ltb 0 a h.4) (lt-ltb 0 (pair b c) h.5))
    ∙ ap Ok (sym h.6))

pub header_exact : HeaderExact
header_exact s u body = (header_only s u body, header_all s u body)

adjoinable_is : (k : Kind) → adjoinable k ≡ true → Adjoinable k
adjoinable_is (Inner l) h = tt
adjoinable_is (Word w) h = nothing (let z : ◌≡◌ {A = ℕ} 0 1 = cc in z)
adjoinable_is Empty h = nothing (let z : ◌≡◌ {A = ℕ} 0 1 = cc in z)
adjoinable_is (Foot l) h = tt

is_adjoinable : (k : Kind) → Adjoinable k → adjoinable k ≡ true
is_adjoinable (Inner l) h = refl
is_adjoinable (Word w) h = elim h [ ]
is_adjoinable Empty h = elim h [ ]
is_adjoinable (Foot l) h = refl

auxiliary_is : (f : Form) → is_auxiliary f ≡ true → f ≡ Auxiliary
auxiliary_is Initial h = cc
auxiliary_is Auxiliary h = refl

listed_is : (ts : List Tree) (l least : ℕ) (bs : List ℕ) → listable ts l least bs ≡ true → Listed ts l least bs
listed_is ts l least [] h = tt
listed_is ts l least (b ∷ bs) h =
    let p = and_parts (leb least b) (suits ts l b && listable ts l (suc b) bs) h in
    let q = and_parts (suits ts l b) (listable ts l (suc b) bs) p.1 in
    let r = and_parts (ltb b (length ts)) (is_auxiliary (get_or ts b no_tree).form && eqb (get_or ts b no_tree).label l) q.0 in
    let v = and_parts (is_auxiliary (get_or ts b no_tree).form) (eqb (get_or ts b no_tree).label l) r.1 in
    (leb-true least b p.0, ltb-true b (length ts) r.0, auxiliary_is (get_or ts b no_tree).form v.0, eqb-true (get_or ts b no_tree).label l v.1, listed_is ts l (suc b) bs q.1)

is_listed : (ts : List Tree) (l least : ℕ) (bs : List ℕ) → Listed ts l least bs → listable ts l least bs ≡ true
is_listed ts l least [] h = refl
is_listed ts l least (b ∷ bs) h =
    and_from (leb least b) (suits ts l b && listable ts l (suc b) bs) (le-leb least b h.0)
    (and_from (suits ts l b) (listable ts l (suc b) bs)
    (and_from (ltb b (length ts)) (is_auxiliary (get_or ts b no_tree).form && eqb (get_or ts b no_tree).label l) (lt-ltb b (length ts) h.1)
    (and_from (is_auxiliary (get_or ts b no_tree).form) (eqb (get_or ts b no_tree).label l) (ap is_auxiliary h.2) (eq-eqb (get_or ts b no_tree).label l h.3)))
    (is_listed ts l (suc b) bs h.4))

choice_is : (p : ℕ) (bs : List ℕ) → needs_met p bs ≡ true → Choice p bs
choice_is p [] h = inl (eqb-true p 1 h)
choice_is p (b ∷ bs) h = let small = leb-true p 1 h in at (cases_eq p 1)
  where
    at : (p ≡ 1) ⊎ (p ≡ 1 → ⊥) → Choice p (b ∷ bs)
    at (inl e) = inl e
    at (inr n) = let small = leb-true p 1 h in inr (omega arith, omega arith)

is_choice : (p : ℕ) (bs : List ℕ) → Choice p bs → needs_met p bs ≡ true
is_choice p [] (inl e) = eq-eqb p 1 e
is_choice p [] (inr e) = nothing (omega (arith, e.1))
is_choice p (b ∷ bs) (inl e) = le-leb p 1 (omega arith)
is_choice p (b ∷ bs) (inr e) = le-leb p 1 (omega (arith, e.0))

none_from : {X : Type 0} (o : Option X) → is_some o ≡ false → o ≡ None
none_from None h = refl
none_from (Some x) h = nothing (let z : ◌≡◌ {A = ℕ} 0 1 = cc in z)

module _ (s : State) (t n p : ℕ) (bs : List ℕ) where
  i : ℕ
  i = slot s.trees t n

  abbrev v : Node
  v = get_or s.nodes (slot s.trees t n) no_node

  abbrev there : Bool
  there = ltb t (length s.trees) && (ltb n (get_or s.trees t no_tree).size && open_target v)

  abbrev right : Bool
  right = needs_met p bs && listable s.trees (label_of_kind v.kind) 0 bs

  abbrev nodes_then : List Node
  nodes_then = set s.nodes (slot s.trees t n) (constrained v (constraint_of p bs))

  -- the two tests of an adjoining field, one after the other
  by_tests : (b c : Bool) → there ≡ b → right ≡ c → adjoined s (adjoin s.trees s.nodes t n p bs) ≡ cond b (cond c (Ok (with_nodes s nodes_then)) (refuse broken.List)) (refuse broken.Target)
  by_tests true true x y =
      ap (λ (q : Bool). adjoined s (set_constraint s.trees s.nodes p bs (cond q (Some (slot s.trees t n)) None))) x
      ∙ ap (λ (q : Bool). adjoined s (cond q (Ok nodes_then) (Err broken.List))) y
  by_tests true false x y =
      ap (λ (q : Bool). adjoined s (set_constraint s.trees s.nodes p bs (cond q (Some (slot s.trees t n)) None))) x
      ∙ ap (λ (q : Bool). adjoined s (cond q (Ok nodes_then) (Err broken.List))) y
  by_tests false c x y = ap (λ (q : Bool). adjoined s (set_constraint s.trees s.nodes p bs (cond q (Some (slot s.trees t n)) None))) x

  only : (u : State) (b c : Bool) → there ≡ b → right ≡ c → adjoined s (adjoin s.trees s.nodes t n p bs) ≡ Ok u → ConstraintTaken s (t ∷ (n ∷ (p ∷ bs))) u
  only u false c x y h = never (refusal broken.Target 0) u (sym (by_tests false c x y) ∙ h)
  only u true false x y h = never (refusal broken.List 0) u (sym (by_tests true false x y) ∙ h)
  only u true true x y h =
      let a = and_parts (ltb t (length s.trees)) (ltb n (get_or s.trees t no_tree).size && open_target v) x in
      let b = and_parts (ltb n (get_or s.trees t no_tree).size) (open_target v) a.1 in
      let o = and_parts (adjoinable v.kind) (not (is_some v.constraint)) b.1 in
      let r = and_parts (needs_met p bs) (listable s.trees (label_of_kind v.kind) 0 bs) y in
      let w : ◌≡◌ {A = Result State Refusal} (Ok (with_nodes s nodes_then)) (Ok u) = sym (by_tests true true x y) ∙ h in (
        t,
        n,
        p,
        bs,
        refl,
        ltb-true t (length s.trees) a.0,
        ltb-true n (get_or s.trees t no_tree).size b.0,
        adjoinable_is v.kind o.0,
        none_from v.constraint (not-true (is_some v.constraint) o.1),
        choice_is p bs r.0,
        listed_is s.trees (label_of_kind v.kind) 0 bs r.1,
        let e : u ≡ with_nodes s nodes_then = cc in e,
      )

constraint_only : (s u : State) (body : List ℕ) → judge_adjoining s body ≡ Ok u → ConstraintTaken s body u
constraint_only s u [] h = never (refusal broken.Body 0) u h
constraint_only s u (t ∷ []) h = never (refusal broken.Body 0) u h
constraint_only s u (t ∷ (n ∷ [])) h = never (refusal broken.Body 0) u h
constraint_only s u (t ∷ (n ∷ (p ∷ bs))) h = only s t n p bs u (there s t n p bs) (right s t n p bs) refl refl h

constraint_all : (s u : State) (body : List ℕ) → ConstraintTaken s body u → judge_adjoining s body ≡ Ok u
constraint_all s u body h =
    let t = h.0 in
    let n = h.1 in
    let p = h.2 in
    let bs = h.3 in
    let node_there = v s t n p bs in
    ap (judge_adjoining s) h.4
    ∙ (by_tests s t n p bs true true
    (and_from (ltb t (length s.trees)) (ltb n (get_or s.trees t no_tree).size && open_target node_there) (lt-ltb t (length s.trees) h.5)
    (and_from (ltb n (get_or s.trees t no_tree).size) (open_target node_there) (lt-ltb n (get_or s.trees t no_tree).size h.6)
    (and_from (adjoinable node_there.kind) (not (is_some node_there.constraint)) (is_adjoinable node_there.kind h.7) (not_from_false (is_some node_there.constraint) (ap is_some h.8)))))
    (and_from (needs_met p bs) (listable s.trees (label_of_kind node_there.kind) 0 bs) (is_choice p bs h.9) (is_listed s.trees (label_of_kind node_there.kind) 0 bs h.10))
    ∙ ap Ok (sym h.11))

pub constraint_exact : ConstraintExact
constraint_exact s u body = (constraint_only s u body, constraint_all s u body)
