-- What the answer of reading a grammar says of the bytes; want of memory apart.
use Rattle.std.specs.Prelude.{◌≡◌, ℕ, List, Ok, Err, Result}
use Rattle.format.specs.declared.fault.Fault.{Fault}
use Rattle.format.specs.Parts.{Contents}
use Rattle.format.specs.Format.{IsGrammar}
use Rattle.grammar.specs.declared.grammar.Grammar.{Grammar}
use Rattle.grammar.specs.declared.read.ReadError.{ReadError}
use Rattle.grammar.specs.declared.read.ReadError.TheVariants.{Faulty, OutOfMemory}
use Rattle.grammar.specs.Grammars.{contents_in}

-- The grammar or the fault is that of the judgement.
abbrev pub GrammarRead : Result Contents Fault → Result Grammar ReadError → Type 0
GrammarRead j (Ok g) = j ≡ Ok (contents_in g)
GrammarRead j (Err (Faulty f)) = j ≡ Err f
GrammarRead j (Err OutOfMemory) = Unit {0}

-- The bytes are the grammar that was read; bytes with a fault are none.
abbrev pub GrammarExact : List ℕ → Result Grammar ReadError → Type 0
GrammarExact bytes (Ok g) = IsGrammar bytes (contents_in g)
GrammarExact bytes (Err (Faulty f)) = (c : Contents) → IsGrammar bytes c → ⊥
GrammarExact bytes (Err OutOfMemory) = Unit {0}
