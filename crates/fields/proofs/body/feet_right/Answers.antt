use Rattle.std.proofs.Common.{◌≡◌, ℕ, suc, ◌+◌, Bool, true, false, not, is_some, cond, eqb, List, [], ◌∷◌, length, get_or, drop, Some, None, Option, sym, refl, ap, ◌∙◌, ◌-◌, take, subst, add-one, arith, take_all, length-drop, rules, tests}
use Rattle.std.specs.List.{position, position_from}
use Rattle.std.proofs.lemmas.Iterator.Adapters.{position_from-zero}
use Rattle.format.specs.declared.node.Kind.{Kind}
use Rattle.format.specs.declared.node.Kind.TheVariants.{Inner, Word, Empty, Foot}
use Rattle.format.specs.declared.node.Form.TheVariants.{Initial, Auxiliary}
use Rattle.format.specs.declared.node.Node.{Node}
use Rattle.format.specs.Judge.{feet_right}
use Rattle.format.specs.Ends.{bares}
use Rattle.format.specs.Keeps.{is_foot}
use Rattle.format.specs.Parts.{feet, feet_before, label_of_kind, no_node}
use Rattle.fields.proofs.body.feet_right.Goals as goal

a_foot : (k : Kind) (fs : List ℕ) → is_foot k ≡ true → feet_before k fs ≡ label_of_kind k ∷ fs
a_foot (Inner l) fs e = cc
a_foot (Word w) fs e = cc
a_foot Empty fs e = cc
a_foot (Foot l) fs e = refl

no_foot : (k : Kind) (fs : List ℕ) → is_foot k ≡ false → feet_before k fs ≡ fs
no_foot (Inner l) fs e = refl
no_foot (Word w) fs e = refl
no_foot Empty fs e = refl
no_foot (Foot l) fs e = cc

-- node i is the first foot
record First (i : ℕ) (ns : List Node) : Type 0 where
  pub foot : is_foot (get_or ns i no_node).kind ≡ true
  pub feet_are : feet (bares ns) ≡ label_of_kind (get_or ns i no_node).kind ∷ feet (bares (drop (suc i) ns))

first : (k i : ℕ) (ns : List Node) → position_from (λ v. is_foot v.kind) k ns ≡ Some i → (j : ℕ) × (i ≡ k + j) × First j ns
first k i [] e = cc
first k i (v ∷ vs) e = by (is_foot v.kind) refl (first (suc k) i vs) e
  where
    by : (b : Bool) → b ≡ is_foot v.kind → (position_from (λ v. is_foot v.kind) (suc k) vs ≡ Some i → (j : ℕ) × (i ≡ suc k + j) × First j vs)
        → cond b (Some k) (position_from (λ v. is_foot v.kind) (k + 1) vs) ≡ Some i → (j : ℕ) × (i ≡ k + j) × First j (v ∷ vs)
    by true q h e = (0, (let same : k ≡ i = cc in omega (arith, same)), record { foot = sym q; feet_are = a_foot v.kind (feet (bares vs)) (sym q) })
    by false q h e =
        let r = h (ap (λ (n : ℕ). position_from (λ v. is_foot v.kind) n vs) (sym (add-one k)) ∙ e) in
        (suc r.0, omega (arith, r.1), record { foot = r.2.foot; feet_are = no_foot v.kind (feet (bares vs)) (sym q) ∙ r.2.feet_are })

-- no node is a foot
none : (k : ℕ) (ns : List Node) → position_from (λ v. is_foot v.kind) k ns ≡ None → feet (bares ns) ≡ []
none k [] e = refl
none k (v ∷ vs) e = by (is_foot v.kind) refl (none (k + 1) vs) e
  where
    by : (b : Bool) → b ≡ is_foot v.kind → (position_from (λ v. is_foot v.kind) (k + 1) vs ≡ None → feet (bares vs) ≡ [])
        → cond b (Some k) (position_from (λ v. is_foot v.kind) (k + 1) vs) ≡ None → feet (bares (v ∷ vs)) ≡ []
    by true q h e = cc
    by false q h e = no_foot v.kind (feet (bares vs)) (sym q) ∙ h e

abbrev found_in : Option ℕ → List Node → Type 0
found_in o ns = o ≡ position (λ v. is_foot v.kind) ns

found : (ns : List Node) (i : ℕ) → found_in (Some i) ns → First i ns
found ns i e =
    let r = first 0 i ns (sym (e ∙ position_from-zero (λ v. is_foot v.kind) ns)) in
    subst (λ (j : ℕ). First j ns) (omega (arith, r.1)) r.2

absent : (ns : List Node) → found_in None ns → feet (bares ns) ≡ []
absent ns e = none 0 ns (sym (e ∙ position_from-zero (λ v. is_foot v.kind) ns))

initial : (ns : List Node) (l : ℕ) (o : Option ℕ) (r : Bool) → found_in o ns → is_some o ≡ not r → r ≡ feet_right Initial l (feet (bares ns))
initial ns l None true e n = rw (absent ns e) refl
initial ns l None false e n = cc
initial ns l (Some i) true e n = cc
initial ns l (Some i) false e n = rw (found ns i e).feet_are refl

-- whether a node is a foot with the label
abbrev has_foot : ℕ → Kind → Bool
has_foot l (Inner m) = false
has_foot l (Word w) = false
has_foot l Empty = false
has_foot l (Foot m) = eqb m l

labelled : (l : ℕ) (k : Kind) → is_foot k ≡ true → has_foot l k ≡ eqb (label_of_kind k) l
labelled l (Inner m) e = cc
labelled l (Word w) e = cc
labelled l Empty e = cc
labelled l (Foot m) e = refl

-- the first foot has the label, and none is behind it
only : (ns : List Node) (l i : ℕ) (o : Option ℕ) (r : Bool) → First i ns → true ≡ has_foot l (get_or ns i no_node).kind → found_in o (drop (suc i) ns) → is_some o ≡ not r
    → r ≡ feet_right Auxiliary l (feet (bares ns))
only ns l i None true f h e n = rw (f.feet_are, absent (drop (suc i) ns) e) (h ∙ labelled l (get_or ns i no_node).kind f.foot)
only ns l i None false f h e n = cc
only ns l i (Some j) true f h e n = cc
only ns l i (Some j) false f h e n = rw (f.feet_are, (found (drop (suc i) ns) j e).feet_are) refl

wrong : (f l : ℕ) (fs : List ℕ) → false ≡ eqb f l → false ≡ feet_right Auxiliary l (f ∷ fs)
wrong f l [] e = e
wrong f l (g ∷ fs) e = refl

pub returns-in-Initial-default : goal.returns-in-Initial-default
returns-in-Initial-default c =
    rw c.in-Initial-default.is-0 (initial c.args.nodes.now c.args.label c.first_foot-first.result c.is_none.result c.first_foot-first.ensures c.is_none.ensures)

pub returns-then-eq : goal.returns-then-eq
returns-then-eq c =
    let ns = c.args.nodes.now in
    let i = c.in-Auxiliary-Some.first in
    let h : c.eq.result ≡ has_foot c.args.label (get_or ns i no_node).kind = search (rules, tests) in
    let f = found ns i (sym c.in-Auxiliary-Some.is-1 ∙ c.first_foot-first.ensures) in
    let rest : take (length ns - (i + 1)) (drop (i + 1) ns) ≡ drop (suc i) ns
    = take_all (length ns - (i + 1)) (drop (i + 1) ns) (omega (arith, length-drop (i + 1) ns)) ∙ ap (λ (n : ℕ). drop n ns) (add-one i) in
    rw c.in-Auxiliary-Some.is-0 (only ns c.args.label i c.first_foot.result c.is_none-then-eq.result f (sym c.if-eq.true ∙ h)
    (c.first_foot.ensures ∙ ap (position (λ v. is_foot v.kind)) rest) c.is_none-then-eq.ensures)

pub returns-else-eq : goal.returns-else-eq
returns-else-eq c =
    let ns = c.args.nodes.now in
    let l = c.args.label in
    let i = c.in-Auxiliary-Some.first in
    let h : c.eq.result ≡ has_foot l (get_or ns i no_node).kind = search (rules, tests) in
    let f = found ns i (sym c.in-Auxiliary-Some.is-1 ∙ c.first_foot-first.ensures) in
    rw (c.if-eq.false, c.in-Auxiliary-Some.is-0, f.feet_are) (wrong (label_of_kind (get_or ns i no_node).kind) l _ (sym c.if-eq.false ∙ (h ∙ labelled l (get_or ns i no_node).kind f.foot)))

pub returns-in-Auxiliary-None : goal.returns-in-Auxiliary-None
returns-in-Auxiliary-None c = rw (c.in-Auxiliary-None.is-0, absent c.args.nodes.now (sym c.in-Auxiliary-None.is-1 ∙ c.first_foot-first.ensures)) refl
