-- What a chart's verdict says of the sentence.
use Rattle.std.specs.Prelude.{◌≡◌, ℕ, true, false, ◌⊎◌, List}
use Rattle.format.specs.Parts.{Contents}
use Rattle.words.specs.Meaning.{Meaning}
use Rattle.steps.specs.declared.item.Item.{Item}
use Rattle.steps.specs.declared.verdict.Verdict.TheVariants.{Yes, No}
use Rattle.steps.specs.Runs.{Working, goes_on}
use Rattle.steps.specs.Verdicts.{says_yes, verdict}
use Rattle.theory.specs.Steps.{Derivable}
use Rattle.theory.specs.Theorems.{chart, AtRest}
use Rattle.theory.specs.Calls.{called}

-- a derivable item says yes, for sentences from position 0 to `last`
abbrev pub Accepted : Contents → Meaning → ℕ → Type 0
Accepted c m last = (x : Item) × Derivable c m x × (says_yes c last x ≡ true)

pub record RightVerdict (c : Contents) (m : Meaning) (last : ℕ) (w : Working) : Type 0 where
  -- a chart that is not full and does not go on is at rest
  pub rests : w.state.full ≡ false → goes_on w ≡ false → AtRest w
  -- at rest it says yes or no
  pub decides : AtRest w → (verdict c last w ≡ Yes) ⊎ (verdict c last w ≡ No)
  -- yes: some derivable item says yes; no: none does
  pub yes_rightly : verdict c last w ≡ Yes → Accepted c m last
  pub no_rightly : verdict c last w ≡ No → Accepted c m last → ⊥

-- The verdict is right after any number of items processed, and after any calls.
abbrev pub VerdictsAreRight : Type 0
VerdictsAreRight = (c : Contents) (m : Meaning) (cap n last : ℕ) → RightVerdict c m last (chart c m cap n)

abbrev pub CalledVerdictsAreRight : Type 0
CalledVerdictsAreRight = (c : Contents) (m : Meaning) (cap last : ℕ) (bs : List ℕ) → RightVerdict c m last (called c m cap bs)
