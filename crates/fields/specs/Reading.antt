-- What a reader's answer says of a judgement; want of memory apart.
use Rattle.std.specs.Prelude.{◌≡◌, ℕ, List, Some, None, Ok, Err, vec_items, Option, Result}
use Rattle.format.specs.declared.node.Node.{Node}
use Rattle.fields.specs.declared.stop.Stop.{Stop}
use Rattle.fields.specs.declared.stop.Stop.TheVariants.{Broken, OutOfMemory}
use Rattle.format.specs.declared.fault.Refusal.{Refusal}
use Rattle.format.specs.declared.fault.Rule.TheVariants as broken
use Rattle.format.specs.Trees.{Row, Entry, lay}
use Rattle.format.specs.Judge.{refusal, root_label}
use Rattle.fields.specs.declared.tree.Planted.{Planted}

-- An answer with the value x agrees with a judgement by what is asked of x.
abbrev pub Agrees : {X Y : Type 0} → Result Y Refusal → (X → Y → Type 0) → Result X Stop → Type 0
Agrees {X} {Y} d P (Ok x) = (y : Y) × (d ≡ Ok y) × P x y
Agrees d P (Err (Broken f)) = d ≡ Err f
Agrees d P (Err OutOfMemory) = Unit {0}

-- the nodes of a body, or the first bad one
abbrev pub judge_nodes : Result (List Entry) ℕ → Result (List Entry) Refusal
judge_nodes (Ok es) = Ok es
judge_nodes (Err n) = Err (refusal broken.Name n)

-- what a shape's answer says
abbrev pub Shaped : Option Row → List Node → Option ℕ → Type 0
Shaped o ns None = o ≡ None
Shaped o ns (Some l) = (r : Row) × (o ≡ Some r) × (root_label r ≡ l) × (ns ≡ lay 0 r)

-- the nodes lie as the tree does
abbrev pub Laid : Planted → Row → Type 0
Laid p r = (p.label ≡ root_label r) × (vec_items p.nodes ≡ lay 0 r)
