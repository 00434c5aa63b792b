-- The parts of a table.
use Rattle.std.specs.Prelude.{List, length, vec_items}
use Rattle.format.specs.declared.node.Node.{Node}
use Rattle.format.specs.declared.node.Tree.{Tree}
use Rattle.format.specs.declared.node.Form.{Form}
use Rattle.fields.specs.declared.tree.Planted.{Planted}

-- the tree whose nodes come behind those of the table
abbrev pub tree_behind : List Node → Form → Planted → Tree
tree_behind ns f p = record { form = f; label = p.label; start = length ns; size = length (vec_items p.nodes) }
