-- A field is taken exactly by the rules for its tag.
use Rattle.std.proofs.Common.{◌≡◌, ℕ, Bool, true, false, cond, eqb, List, Some, None, Ok, Option, sym, refl, ap, ◌∙◌, eqb-true}
use Rattle.format.specs.declared.node.Form.TheVariants.{Initial, Auxiliary}
use Rattle.format.specs.declared.stage.Tag.{Tag}
use Rattle.format.specs.declared.stage.Tag.TheVariants as tags
use Rattle.format.specs.declared.stage.Phase.{Phase}
use Rattle.format.specs.declared.stage.Phase.TheVariants.{Start, Trees, Adjoinings}
use Rattle.format.specs.declared.fault.Rule.TheVariants as broken
use Rattle.format.specs.Judge.{State, refusal, tag_of, judge_body, judge_tagged, judge_field}
use Rattle.format.proofs.Cases.{never}
use Rattle.format.proofs.TreeExact.{tree_exact}
use Rattle.format.proofs.ConstraintExact.{header_exact, constraint_exact}
use Rattle.format.proofs.Chains.{number_of, BodyTaken, FieldTaken}

tag_is : (t : ℕ) (g : Tag) → tag_of t ≡ Some g → t ≡ number_of g
tag_is t g h = at1 (eqb t 1) refl h
  where
    at4 : (b : Bool) → eqb t 4 ≡ b → cond b (Some tags.Adjoining) None ≡ Some g → t ≡ number_of g
    at4 true e h = let q : tags.Adjoining ≡ g = cc in eqb-true t 4 e ∙ ap number_of q
    at4 false e h = cc

    at3 : (b : Bool) → eqb t 3 ≡ b → cond b (Some (tags.Tree Auxiliary)) (cond (eqb t 4) (Some tags.Adjoining) None) ≡ Some g → t ≡ number_of g
    at3 true e h = let q : tags.Tree Auxiliary ≡ g = cc in eqb-true t 3 e ∙ ap number_of q
    at3 false e h = at4 (eqb t 4) refl h

    at2 : (b : Bool) → eqb t 2 ≡ b → cond b (Some (tags.Tree Initial)) (cond (eqb t 3) (Some (tags.Tree Auxiliary)) (cond (eqb t 4) (Some tags.Adjoining) None)) ≡ Some g → t ≡ number_of g
    at2 true e h = let q : tags.Tree Initial ≡ g = cc in eqb-true t 2 e ∙ ap number_of q
    at2 false e h = at3 (eqb t 3) refl h

    at1 : (b : Bool) → eqb t 1 ≡ b → cond b (Some tags.Header) (cond (eqb t 2) (Some (tags.Tree Initial)) (cond (eqb t 3) (Some (tags.Tree Auxiliary)) (cond (eqb t 4) (Some tags.Adjoining) None))) ≡ Some g → t ≡ number_of g
    at1 true e h = let q : tags.Header ≡ g = cc in eqb-true t 1 e ∙ ap number_of q
    at1 false e h = at2 (eqb t 2) refl h

tag_read : (g : Tag) → tag_of (number_of g) ≡ Some g
tag_read tags.Header = refl
tag_read (tags.Tree Initial) = refl
tag_read (tags.Tree Auxiliary) = refl
tag_read tags.Adjoining = refl

body_only : (p : Phase) (s u : State) (g : Tag) (body : List ℕ) → judge_body p s g body ≡ Ok u → BodyTaken p s g body u
body_only Start s u tags.Header body h = (header_exact s u body).0 h
body_only Trees s u tags.Header body h = never (refusal broken.Order 0) u h
body_only Adjoinings s u tags.Header body h = never (refusal broken.Order 0) u h
body_only Start s u (tags.Tree f) body h = never (refusal broken.Order 0) u h
body_only Trees s u (tags.Tree f) body h = (tree_exact s u f body).0 h
body_only Adjoinings s u (tags.Tree f) body h = never (refusal broken.Order 0) u h
body_only Start s u tags.Adjoining body h = never (refusal broken.Order 0) u h
body_only Trees s u tags.Adjoining body h = (constraint_exact s u body).0 h
body_only Adjoinings s u tags.Adjoining body h = (constraint_exact s u body).0 h

body_all : (p : Phase) (s u : State) (g : Tag) (body : List ℕ) → BodyTaken p s g body u → judge_body p s g body ≡ Ok u
body_all Start s u tags.Header body h = (header_exact s u body).1 h
body_all Trees s u tags.Header body h = elim h [ ]
body_all Adjoinings s u tags.Header body h = elim h [ ]
body_all Start s u (tags.Tree f) body h = elim h [ ]
body_all Trees s u (tags.Tree f) body h = (tree_exact s u f body).1 h.0 h.1 h.2 ∙ ap Ok (sym h.3)
body_all Adjoinings s u (tags.Tree f) body h = elim h [ ]
body_all Start s u tags.Adjoining body h = elim h [ ]
body_all Trees s u tags.Adjoining body h = (constraint_exact s u body).1 h
body_all Adjoinings s u tags.Adjoining body h = (constraint_exact s u body).1 h

pub field_exact : (s u : State) (tag : ℕ) (body : List ℕ) → (judge_field s tag body ≡ Ok u → FieldTaken s tag body u) × (FieldTaken s tag body u → judge_field s tag body ≡ Ok u)
field_exact s u tag body = (λ h. only (tag_of tag) refl h, λ h. ap (λ (o : Option Tag). judge_tagged s o body) (ap tag_of h.1 ∙ tag_read h.0) ∙ body_all s.phase s u h.0 body h.2)
  where
    only : (o : Option Tag) → tag_of tag ≡ o → judge_tagged s o body ≡ Ok u → FieldTaken s tag body u
    only None e h = never (refusal broken.Tag 0) u h
    only (Some g) e h = (g, tag_is tag g e, body_only s.phase s u g body h)
