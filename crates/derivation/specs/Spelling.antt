-- The certificate that a chart spells, and certificates that pass.
use Rattle.std.specs.Prelude.{◌≡◌, ℕ, suc, Bool, cond, List, [], ◌∷◌, length, Some, None, Option}
use Rattle.format.specs.Parts.{Contents}
use Rattle.format.specs.Known.{known_contents}
use Rattle.words.specs.Meaning.{Meaning}
use Rattle.words.specs.Paths.{Admits}
use Rattle.words.specs.Rows.{row_of}
use Rattle.steps.specs.declared.item.Item.{Item}
use Rattle.steps.specs.declared.verdict.Verdict.TheVariants.{Yes}
use Rattle.steps.specs.Items.{item_at}
use Rattle.steps.specs.Runs.{Working}
use Rattle.steps.specs.Verdicts.{says_yes, verdict}
use Rattle.theory.specs.Calls.{called}
use Rattle.derivation.specs.Derivations.{Derivation, Derives}
use Rattle.derivation.specs.Walks.{yield, certificate}
use Rattle.derivation.specs.Readings.{derivation_of}
use Rattle.format.specs.Keeps.{Keeps}

-- the number of the first item with a property, where the list's first has the number k
abbrev pub first_from : (Item → Bool) → ℕ → List Item → Option ℕ
first_from p k [] = None
first_from p k (x ∷ xs) = cond (p x) (Some k) (first_from p (suc k) xs)

abbrev pub certificate_at : Contents → List Item → Option ℕ → Option (List ℕ)
certificate_at c its None = None
certificate_at c its (Some k) = Some (certificate c (item_at its k).tree (derivation_of its k))

-- Items spell the certificate of the derivation that is read off the first of them that says yes.
abbrev pub spelled : Contents → ℕ → List Item → Option (List ℕ)
spelled c last its = certificate_at c its (first_from (says_yes c last) 0 its)

-- Numbers pass if they are the certificate of a derivation of the grammar, with a yield that the source admits.
pub record Passes (c : Contents) (m : Meaning) (numbers : List ℕ) : Type 0 where
  pub tree : ℕ
  pub derivation : Derivation
  pub derives : Derives c tree derivation
  pub spelling : numbers ≡ certificate c tree derivation
  pub admitted : Admits m (yield c tree derivation)

-- A chart spells a certificate exactly if its verdict is Yes, and the certificate passes.
pub record SpellsRightly (c : Contents) (m : Meaning) (w : Working) : Type 0 where
  pub spells : verdict c m.last w ≡ Yes → (numbers : List ℕ) × (spelled c m.last w.state.items ≡ Some numbers)
  pub only : (numbers : List ℕ) → spelled c m.last w.state.items ≡ Some numbers → verdict c m.last w ≡ Yes
  pub passes : (numbers : List ℕ) → spelled c m.last w.state.items ≡ Some numbers → Passes c m numbers

-- after any calls, at rest or not
abbrev pub ChartsSpellRightly : Type 0
ChartsSpellRightly = (c : Contents) (m : Meaning) → Keeps c → (cap : ℕ) (bs : List ℕ) → SpellsRightly c m (called c m cap bs)

-- what the chart of a sentence of the known grammar spells, with room for 2000 items
abbrev pub known_spelled : List ℕ → Option (List ℕ)
known_spelled ws = spelled known_contents (length ws) (called known_contents (row_of ws) 2000 (100 ∷ [])).state.items

abbrev pub KnownCertificates : Type 0
KnownCertificates =
    (known_spelled (2 ∷ 1 ∷ []) ≡ Some (0 ∷ 2 ∷ [])) × (known_spelled (1 ∷ []) ≡ Some (0 ∷ 0 ∷ [])) × (known_spelled (2 ∷ []) ≡ None)
