-- Bytes as fields one behind the other, each taken by what was read before it.
use Rattle.std.proofs.Common.{◌≡◌, ℕ, ◌≤◌, true, List, [], ◌∷◌, length, Ok}
use Rattle.format.specs.declared.stage.Phase.{Phase}
use Rattle.format.specs.declared.stage.Phase.TheVariants.{Start, Trees, Adjoinings}
use Rattle.format.specs.Judge.{State, contents, judge, nothing_read, some_initial, add_tree}
use Rattle.format.specs.declared.node.Form.TheVariants.{Initial, Auxiliary}
use Rattle.format.specs.declared.stage.Tag.{Tag}
use Rattle.format.specs.declared.stage.Tag.TheVariants as tags
use Rattle.format.specs.Format.{IsField, Elementary, as_row}
use Rattle.format.specs.Parts.{Contents}
use Rattle.format.proofs.Taken.{HeaderTaken, ConstraintTaken, TreeBody}

-- the tag byte of a field
abbrev pub number_of : Tag → ℕ
number_of tags.Header = 1
number_of (tags.Tree Initial) = 2
number_of (tags.Tree Auxiliary) = 3
number_of tags.Adjoining = 4

-- The header comes first and once, then the trees, then the adjoining fields; each by its rules.
abbrev pub BodyTaken : Phase → State → Tag → List ℕ → State → Type 0
BodyTaken Start s tags.Header body u = HeaderTaken s body u
BodyTaken Trees s tags.Header body u = ⊥
BodyTaken Adjoinings s tags.Header body u = ⊥
BodyTaken Start s (tags.Tree f) body u = ⊥
BodyTaken Trees s (tags.Tree f) body u = (t : Elementary) × (t.form ≡ f) × TreeBody s t body × (u ≡ add_tree s f (as_row t))
BodyTaken Adjoinings s (tags.Tree f) body u = ⊥
BodyTaken Start s tags.Adjoining body u = ⊥
BodyTaken Trees s tags.Adjoining body u = ConstraintTaken s body u
BodyTaken Adjoinings s tags.Adjoining body u = ConstraintTaken s body u

abbrev pub FieldTaken : State → ℕ → List ℕ → State → Type 0
FieldTaken s tag body u = (g : Tag) × (tag ≡ number_of g) × BodyTaken s.phase s g body u

pub record FieldOf : Type 0 where
  pub tag : ℕ
  pub body : List ℕ

-- the fields lead from one state of the reading to another
abbrev pub Chain : State → List FieldOf → List ℕ → State → Type 0
Chain s [] bytes u = (bytes ≡ []) × (s ≡ u)
Chain s (f ∷ fs) bytes u = (later : List ℕ) × (mid : State) × IsField f.tag f.body bytes later × FieldTaken s f.tag f.body mid × Chain mid fs later u

abbrev pub Begun : Phase → Type 0
Begun Start = ⊥
Begun Trees = Unit {0}
Begun Adjoinings = Unit {0}

-- The bytes are few enough, they are fields that lead to what the grammar holds, there is a header and an initial tree.
pub record GrammarBytes (bytes : List ℕ) (c : Contents) : Type 0 where
  pub few : length bytes ≤ 16384
  pub fields : List FieldOf
  pub last : State
  pub chain : Chain nothing_read fields bytes last
  pub begun : Begun last.phase
  pub initial : some_initial last.trees ≡ true
  pub holds : contents last ≡ c

abbrev pub BytesExact : Type 0
BytesExact = (bytes : List ℕ) (c : Contents) → (judge bytes ≡ Ok c → GrammarBytes bytes c) × (GrammarBytes bytes c → judge bytes ≡ Ok c)
