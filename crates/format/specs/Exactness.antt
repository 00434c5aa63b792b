-- What is proved of the judgement of bytes.
use Rattle.std.specs.Prelude.{◌≡◌, ℕ, ◌⊎◌, List, Ok, Err}
use Rattle.format.specs.declared.fault.Fault.{Fault}
use Rattle.format.specs.Parts.{Contents}
use Rattle.format.specs.Judge.{judge}
use Rattle.format.specs.Format.{IsGrammar}

-- The judgement takes exactly the bytes that are a grammar.
abbrev pub JudgedExactly : Type 0
JudgedExactly = (bytes : List ℕ) (c : Contents) → (judge bytes ≡ Ok c → IsGrammar bytes c) × (IsGrammar bytes c → judge bytes ≡ Ok c)

-- the bytes have the fault, by the order of judgement
abbrev pub HasFault : List ℕ → Fault → Type 0
HasFault bytes f = judge bytes ≡ Err f

-- The bytes are a grammar, one only, and have no fault.
pub record OneGrammar (bytes : List ℕ) : Type 0 where
  pub contents : Contents
  pub is : IsGrammar bytes contents
  pub only : (c : Contents) → IsGrammar bytes c → c ≡ contents
  pub no_fault : (f : Fault) → HasFault bytes f → ⊥

-- The bytes have a fault, one only, and are no grammar.
pub record OneFault (bytes : List ℕ) : Type 0 where
  pub fault : Fault
  pub has : HasFault bytes fault
  pub only : (f : Fault) → HasFault bytes f → f ≡ fault
  pub no_grammar : (c : Contents) → IsGrammar bytes c → ⊥

-- Every list of bytes is one grammar or has one fault, never both, never neither.
abbrev pub OneOrOther : Type 0
OneOrOther = (bytes : List ℕ) → OneGrammar bytes ⊎ OneFault bytes
