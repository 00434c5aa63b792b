-- The number and the layer of each refusal of a reading.
use Rattle.std.specs.Prelude.{ℕ}
use Rattle.format.specs.declared.fault.Rule.{Rule}
use Rattle.format.specs.declared.fault.Rule.TheVariants as broken
use Rattle.format.specs.declared.fault.Layer.{Layer}
use Rattle.format.specs.declared.fault.Layer.TheVariants as layers

abbrev pub number : Rule → ℕ
number broken.Cut = 1
number broken.Tag = 2
number broken.Order = 3
number broken.Body = 4
number broken.Room = 5
number broken.Name = 6
number broken.Shape = 7
number broken.Foot = 8
number broken.Target = 9
number broken.List = 10
number broken.Size = 11
number broken.NoInitial = 12

abbrev pub layer : Rule → Layer
layer broken.Cut = layers.Field
layer broken.Tag = layers.Field
layer broken.Order = layers.Field
layer broken.Body = layers.Field
layer broken.Room = layers.Tree
layer broken.Name = layers.Tree
layer broken.Shape = layers.Tree
layer broken.Foot = layers.Tree
layer broken.Target = layers.Adjoining
layer broken.List = layers.Adjoining
layer broken.Size = layers.Field
layer broken.NoInitial = layers.Field
