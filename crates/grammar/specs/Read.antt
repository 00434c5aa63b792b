-- What the answer of a reading says of the judgement of the bytes; want of memory apart.
use Rattle.std.specs.Prelude.{◌≡◌, ℕ, List, Ok, Err, Result, codes}
use Rattle.format.specs.declared.fault.Fault.{Fault}
use Rattle.format.specs.Parts.{Contents}
use Rattle.format.specs.Judge.{contents, fault}
use Rattle.format.specs.Lines.{fault_line}
use Rattle.grammar.specs.declared.draft.Draft.{Draft}
use Rattle.grammar.specs.declared.read.ReadError.{ReadError}
use Rattle.grammar.specs.declared.read.ReadError.TheVariants.{Faulty, OutOfMemory}
use Rattle.fields.specs.declared.stop.Stop.{Stop}
use Rattle.fields.specs.declared.stop.Stop.TheVariants as stops
use Rattle.grammar.specs.Drafts.{state}

abbrev pub Reads : Result Contents Fault → Result Draft ReadError → Type 0
Reads j (Ok d) = j ≡ Ok (contents (state d))
Reads j (Err (Faulty f)) = j ≡ Err f
Reads j (Err OutOfMemory) = Unit {0}

-- a stop within a field, as an error of the reading
abbrev pub error_at : ℕ → Stop → ReadError
error_at place (stops.Broken f) = Faulty (fault f.rule place f.node)
error_at place stops.OutOfMemory = OutOfMemory

-- the text of an error of the reading
abbrev pub error_text : ReadError → List ℕ
error_text (Faulty f) = fault_line f
error_text OutOfMemory = codes "out of memory"
