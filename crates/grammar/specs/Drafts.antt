-- The reader's draft as a state of the judgement.
use Rattle.std.specs.Prelude.{◌≡◌, Ok, Err, vec_items, Result}
use Rattle.format.specs.declared.fault.Refusal.{Refusal}
use Rattle.format.specs.Judge.{State}
use Rattle.fields.specs.declared.stop.Stop.{Stop}
use Rattle.fields.specs.declared.stop.Stop.TheVariants.{Broken, OutOfMemory}
use Rattle.grammar.specs.declared.draft.Draft.{Draft}

abbrev pub state : Draft → State
state d = record { phase = d.phase; labels = d.header.labels; words = d.header.words; trees = vec_items d.table.trees; nodes = vec_items d.table.nodes }

-- A field is judged as the draft and the answer after it say; want of memory apart.
abbrev pub Judged : {X : Type 0} → Result State Refusal → Draft → Result X Stop → Type 0
Judged j d (Ok u) = j ≡ Ok (state d)
Judged j d (Err (Broken f)) = j ≡ Err f
Judged j d (Err OutOfMemory) = Unit {0}
