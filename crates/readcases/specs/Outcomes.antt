-- What the outcome of a case says of its bytes, and how it reads.
use Rattle.std.specs.Prelude.{◌≡◌, ℕ, List, ◌++◌, Ok, Err, codes, decimal, Result}
use Rattle.format.specs.declared.fault.Fault.{Fault}
use Rattle.format.specs.Parts.{Contents}
use Rattle.grammar.specs.declared.read.ReadError.TheVariants.{Faulty, OutOfMemory}
use Rattle.grammar.specs.Read.{error_text}
use Rattle.summary.specs.declared.counts.Counts.{Counts}
use Rattle.summary.specs.Counts.{Counted}
use Rattle.readcases.specs.declared.case.CaseError.{CaseError}
use Rattle.readcases.specs.declared.case.CaseError.TheVariants.{Malformed, Unread}

-- The counts or the fault are those of the judgement; want of memory apart.
abbrev pub Answers : Result Contents Fault → Result Counts CaseError → Type 0
Answers j (Ok c) = (g : Contents) × (j ≡ Ok g) × Counted g c
Answers j (Err (Unread (Faulty f))) = j ≡ Err f
Answers j (Err (Unread OutOfMemory)) = Unit {0}
Answers j (Err Malformed) = ⊥

abbrev pub case_error_text : CaseError → List ℕ
case_error_text Malformed = codes "malformed"
case_error_text (Unread e) = error_text e

abbrev pub outcome_text : Result Counts CaseError → List ℕ
outcome_text (Ok c) = codes "ok " ++ (decimal c.trees ++ (codes " " ++ decimal c.nodes))
outcome_text (Err e) = case_error_text e
