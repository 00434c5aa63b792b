-- What setting the constraint of a node answers, and what it leaves.
use Rattle.std.specs.Prelude.{◌≡◌, ℕ, List, length, get_or, Some, Ok, Err, vec_items, Result, ◌≢◌, slice_index_or}
use Rattle.format.specs.declared.node.Node.{Node}
use Rattle.format.specs.declared.fault.Rule.{Rule}
use Rattle.format.specs.Parts.{no_node, slot}
use Rattle.format.specs.Judge.{constraint_of}
use Rattle.grammar.specs.declared.table.Table.{Table}

-- The nodes are those of the judgement; a refusal leaves the table as it was.
abbrev pub Adjoins : Result (List Node) Rule → Table → Table → Result (Unit {0}) Rule → Type 0
Adjoins j before after (Ok u) = (j ≡ Ok (vec_items after.nodes)) × (after.trees ≡ before.trees)
Adjoins j before after (Err r) = (j ≡ Err r) × (after.trees ≡ before.trees) × (after.nodes ≡ before.nodes)

-- Node n of tree t has the new constraint, and every other node is as it was.
abbrev pub OneSet : ℕ → ℕ → ℕ → List ℕ → Table → Table → Result (Unit {0}) Rule → Type 0
OneSet t n p bs before after (Ok u) =
    ((get_or (vec_items after.nodes) (slot (vec_items before.trees) t n) no_node).constraint ≡ Some (constraint_of p bs))
    × (length (vec_items after.nodes) ≡ length (vec_items before.nodes))
    × ((k : ℕ) → (k ≢ slot (vec_items before.trees) t n) → slice_index_or (vec_items after.nodes) k no_node ≡ slice_index_or (vec_items before.nodes) k no_node)
OneSet t n p bs before after (Err r) = Unit {0}
