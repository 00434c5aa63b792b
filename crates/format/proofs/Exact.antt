-- A tree field is taken exactly when its body is the preorder of one tree by the rules.
use Rattle.std.proofs.Common.{◌≡◌, ℕ, suc, ◌*◌, ◌%◌, ◌<◌, ◌≤◌, Bool, true, false, cond, eqb, ltb, leb, List, [], ◌∷◌, length, Some, None, Ok, Err, Option, Result, sym, refl, ap, ◌∙◌, subst, arith, ltb-true, lt-ltb, eq-eqb, eqb-true, le-leb, leb-true}
use Rattle.std.specs.List.{AllByRecursion}
use Rattle.std.proofs.lemmas.Bool.{and_parts, and_from, cond-true}
use Rattle.format.specs.declared.node.Kind.{Kind}
use Rattle.format.specs.declared.node.Kind.TheVariants.{Inner, Word, Empty, Foot}
use Rattle.format.specs.declared.node.Form.{Form}
use Rattle.format.specs.declared.node.Form.TheVariants.{Initial, Auxiliary}
use Rattle.format.specs.Trees.{Entry, entry}
use Rattle.format.specs.Judge.{named, kind_of, entries, entry_or, entry_before, arity, arities, feet_right}
use Rattle.format.specs.Format.{code_of, name_of, Spells, Named, Arity, Footed}
use Rattle.format.specs.Parts.{pair}

nothing : {X : Type 0} → ◌≡◌ {A = ℕ} 0 1 → X
nothing z = absurd (omega arith)

-- a test that gives a value
given : (b : Bool) (x k : Kind) → cond b (Some x) None ≡ Some k → (b ≡ true) × (x ≡ k)
given true x k h = (refl, cc)
given false x k h = nothing (let z : ◌≡◌ {A = ℕ} 0 1 = cc in z)

in_range : (most n : ℕ) → named most n ≡ true → (0 < n) × (n ≤ most)
in_range most n h = let p = and_parts (ltb 0 n) (leb n most) h in (ltb-true 0 n p.0, leb-true n most p.1)

range_in : (most n : ℕ) → (0 < n) × (n ≤ most) → named most n ≡ true
range_in most n h = and_from (ltb 0 n) (leb n most) (lt-ltb 0 n h.0) (le-leb n most h.1)

abbrev IsKind : ℕ → ℕ → ℕ → ℕ → Kind → Type 0
IsKind labels words k n kind = (code_of kind ≡ k) × (name_of kind ≡ n) × Named labels words kind

kind_is : (labels words k n : ℕ) (kind : Kind) → kind_of labels words k n ≡ Some kind → IsKind labels words k n kind
kind_is labels words k n kind h = at0 (eqb k 0) refl h
  where
    is3 : (b : Bool) → eqb k 3 ≡ b → cond b (cond (named labels n) (Some (Foot n)) None) None ≡ Some kind → IsKind labels words k n kind
    is3 true e h =
        let g = given (named labels n) (Foot n) kind h in
        subst (IsKind labels words k n) g.1 (sym (eqb-true k 3 e), refl, in_range labels n g.0)
    is3 false e h = nothing (let z : ◌≡◌ {A = ℕ} 0 1 = cc in z)

    at2 : (b : Bool) → eqb k 2 ≡ b → cond b (cond (eqb n 0) (Some Empty) None) (cond (eqb k 3) (cond (named labels n) (Some (Foot n)) None) None) ≡ Some kind → IsKind labels words k n kind
    at2 true e h =
        let g = given (eqb n 0) Empty kind h in
        subst (IsKind labels words k n) g.1 (sym (eqb-true k 2 e), sym (eqb-true n 0 g.0), tt)
    at2 false e h = is3 (eqb k 3) refl h

    at1 : (b : Bool) → eqb k 1 ≡ b → cond b (cond (named words n) (Some (Word n)) None) (cond (eqb k 2) (cond (eqb n 0) (Some Empty) None) (cond (eqb k 3) (cond (named labels n) (Some (Foot n)) None) None)) ≡ Some kind → IsKind labels words k n kind
    at1 true e h =
        let g = given (named words n) (Word n) kind h in
        subst (IsKind labels words k n) g.1 (sym (eqb-true k 1 e), refl, in_range words n g.0)
    at1 false e h = at2 (eqb k 2) refl h

    at0 : (b : Bool) → eqb k 0 ≡ b → cond b (cond (named labels n) (Some (Inner n)) None) (cond (eqb k 1) (cond (named words n) (Some (Word n)) None) (cond (eqb k 2) (cond (eqb n 0) (Some Empty) None) (cond (eqb k 3) (cond (named labels n) (Some (Foot n)) None) None))) ≡ Some kind → IsKind labels words k n kind
    at0 true e h =
        let g = given (named labels n) (Inner n) kind h in
        subst (IsKind labels words k n) g.1 (sym (eqb-true k 0 e), refl, in_range labels n g.0)
    at0 false e h = at1 (eqb k 1) refl h

kind_read : (labels words : ℕ) (kind : Kind) → Named labels words kind → kind_of labels words (code_of kind) (name_of kind) ≡ Some kind
kind_read labels words (Inner l) h = cond-true (named labels l) (Some (Inner l)) None (range_in labels l h)
kind_read labels words (Word w) h = cond-true (named words w) (Some (Word w)) None (range_in words w h)
kind_read labels words Empty h = refl
kind_read labels words (Foot l) h = cond-true (named labels l) (Some (Foot l)) None (range_in labels l h)

abbrev AllNamed : ℕ → ℕ → List Entry → Type 0
AllNamed labels words es = AllByRecursion (λ e. Named labels words e.kind) es

-- what the nodes of whole fours are
pub entries_spell : (labels words i : ℕ) (body : List ℕ) (es : List Entry) → length body % 4 ≡ 0 → entries labels words i body ≡ Ok es → Spells es body × AllNamed labels words es
entries_spell labels words i [] [] f h = (refl, tt)
entries_spell labels words i [] (e ∷ es) f h = nothing (let z : ◌≡◌ {A = ℕ} 0 1 = cc in z)
entries_spell labels words i (a ∷ []) es f h = nothing (omega arith)
entries_spell labels words i (a ∷ (b ∷ [])) es f h = nothing (omega arith)
entries_spell labels words i (a ∷ (b ∷ (c ∷ []))) es f h = nothing (omega arith)
entries_spell labels words i (k ∷ (high ∷ (low ∷ (c ∷ more)))) es f h =
    at (kind_of labels words k (pair high low)) refl (entries labels words (suc i) more) refl h (λ fs. entries_spell labels words (suc i) more fs (omega arith))
  where
    at : (o : Option Kind) → kind_of labels words k (pair high low) ≡ o → (r : Result (List Entry) ℕ) → entries labels words (suc i) more ≡ r → entry_or i o c r ≡ Ok es
        → ((fs : List Entry) → entries labels words (suc i) more ≡ Ok fs → Spells fs more × AllNamed labels words fs)
        → Spells es (k ∷ (high ∷ (low ∷ (c ∷ more)))) × AllNamed labels words es
    at None e r g h again = nothing (let z : ◌≡◌ {A = ℕ} 0 1 = cc in z)
    at (Some kind) e (Err n) g h again = nothing (let z : ◌≡◌ {A = ℕ} 0 1 = cc in z)
    at (Some kind) e (Ok fs) g h again =
        let is = kind_is labels words k (pair high low) kind e in
        let s = again fs g in
        let es-is : entry kind c ∷ fs ≡ es = cc in
        subst (λ (l : List Entry). Spells l (k ∷ (high ∷ (low ∷ (c ∷ more)))) × AllNamed labels words l) es-is
        ((high, low, more, sym is.1, ap (λ (n : ℕ). n ∷ (high ∷ (low ∷ (c ∷ more)))) (sym is.0), s.0), (is.2, s.1))

pub spelled_entries : (labels words i : ℕ) (es : List Entry) (body : List ℕ) → Spells es body → AllNamed labels words es → (entries labels words i body ≡ Ok es) × (length body ≡ 4 * length es)
spelled_entries labels words i [] body h n = (ap (entries labels words i) h, ap length h)
spelled_entries labels words i (e ∷ es) body h n =
    let high = h.0 in
    let low = h.1 in
    let more = h.2 in
    let rest = spelled_entries labels words (suc i) es more h.5 n.1 in
    let long = rest.1 in (
      ap (entries labels words i) h.4
          ∙ (ap (λ (m : ℕ). entry_or i (kind_of labels words (code_of e.kind) m) e.children (entries labels words (suc i) more)) h.3
          ∙ (ap (λ (o : Option Kind). entry_or i o e.children (entries labels words (suc i) more)) (kind_read labels words e.kind n.0)
          ∙ ap (entry_before e.kind e.children) rest.0)),
      ap length h.4 ∙ (let q : suc (suc (suc (suc (length more)))) ≡ 4 * suc (length es) = omega arith in q),
    )

arity_is : (k : Kind) (c : ℕ) → arity k c ≡ true → Arity k c
arity_is (Inner l) c h = let p = and_parts (ltb 0 c) (leb c 8) h in (ltb-true 0 c p.0, leb-true c 8 p.1)
arity_is (Word w) c h = eqb-true c 0 h
arity_is Empty c h = eqb-true c 0 h
arity_is (Foot l) c h = eqb-true c 0 h

is_arity : (k : Kind) (c : ℕ) → Arity k c → arity k c ≡ true
is_arity (Inner l) c h = and_from (ltb 0 c) (leb c 8) (lt-ltb 0 c h.0) (le-leb c 8 h.1)
is_arity (Word w) c h = eq-eqb c 0 h
is_arity Empty c h = eq-eqb c 0 h
is_arity (Foot l) c h = eq-eqb c 0 h

pub arities_are : (es : List Entry) → arities es ≡ true → AllByRecursion (λ e. Arity e.kind e.children) es
arities_are [] h = tt
arities_are (e ∷ es) h = let p = and_parts (arity e.kind e.children) (arities es) h in (arity_is e.kind e.children p.0, arities_are es p.1)

pub are_arities : (es : List Entry) → AllByRecursion (λ e. Arity e.kind e.children) es → arities es ≡ true
are_arities [] h = refl
are_arities (e ∷ es) h = and_from (arity e.kind e.children) (arities es) (is_arity e.kind e.children h.0) (are_arities es h.1)

pub feet_are : (f : Form) (l : ℕ) (fs : List ℕ) → feet_right f l fs ≡ true → Footed f l fs
feet_are Initial l [] h = refl
feet_are Initial l (x ∷ fs) h = cc
feet_are Auxiliary l [] h = cc
feet_are Auxiliary l (x ∷ []) h = ap (λ (n : ℕ). n ∷ []) (eqb-true x l h)
feet_are Auxiliary l (x ∷ (y ∷ fs)) h = cc

pub are_feet : (f : Form) (l : ℕ) (fs : List ℕ) → Footed f l fs → feet_right f l fs ≡ true
are_feet Initial l fs h = ap (feet_right Initial l) h
are_feet Auxiliary l fs h = ap (feet_right Auxiliary l) h ∙ eq-eqb l l refl
