-- The bytes of the line that tells of a fault.
use Rattle.std.specs.Prelude.{ℕ, List, ◌++◌, codes, decimal}
use Rattle.format.specs.declared.fault.Fault.{Fault}
use Rattle.format.specs.declared.fault.Layer.{Layer}
use Rattle.format.specs.declared.fault.Layer.TheVariants as layers
use Rattle.format.specs.Numbers.{number, layer}

abbrev pub layer_name : Layer → List ℕ
layer_name layers.Field = codes "field"
layer_name layers.Tree = codes "tree"
layer_name layers.Adjoining = codes "adjoining"

abbrev pub fault_line : Fault → List ℕ
fault_line f = codes "fault " ++ (decimal (number f.rule) ++ (codes " " ++ (layer_name (layer f.rule) ++ (codes " " ++ (decimal f.place ++ (codes " " ++ decimal f.node))))))
