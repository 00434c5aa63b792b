-- What the first field of bytes is, or that there is none.
use Rattle.std.specs.Prelude.{ℕ, List, Some, None, Option}
use Rattle.fields.specs.declared.field.Field.{Field}
use Rattle.format.specs.Fields.{Short, Whole}

abbrev pub CutField : List ℕ → Option Field → Type 0
CutField bytes None = Short bytes
CutField bytes (Some f) = Whole bytes f.tag f.body.now f.rest.now
