-- What is proved of charts.
use Rattle.std.specs.Prelude.{◌≡◌, ℕ, ◌+◌, ◌<◌, ◌≤◌, false, List, length}
use Rattle.format.specs.Parts.{Contents}
use Rattle.words.specs.Meaning.{Meaning}
use Rattle.steps.specs.declared.item.Item.{Item}
use Rattle.steps.specs.Items.{item_at}
use Rattle.steps.specs.Conclusions.{conclusions}
use Rattle.steps.specs.Runs.{Working, made, worked}
use Rattle.theory.specs.Members.{Among}
use Rattle.theory.specs.Steps.{Step, Derivable, Below, Justified, Holds, premises}

-- the chart of a grammar and a source, with room for `cap` items, after at most n were processed
abbrev pub chart : Contents → Meaning → ℕ → ℕ → Working
chart c m cap n = worked c m cap n (made c cap)

-- its items, in the order of their numbers
abbrev pub chart_items : Contents → Meaning → ℕ → ℕ → List Item
chart_items c m cap n = (chart c m cap n).state.items

-- no item was refused, and all that are held are processed
abbrev pub AtRest : Working → Type 0
AtRest w = (w.state.full ≡ false) × (length w.state.items ≤ w.processed)

-- An item is derivable exactly if a step concludes it from derivable items.
pub record Concluded (c : Contents) (m : Meaning) (x : Item) : Type 0 where
  pub by_step : Derivable c m x → Step c m (λ _ y. Derivable c m y) x
  pub derived : Step c m (λ _ y. Derivable c m y) x → Derivable c m x

abbrev pub DerivableAreConcluded : Type 0
DerivableAreConcluded = (c : Contents) (m : Meaning) (x : Item) → Concluded c m x

-- The conclusions of processing item t are exactly the steps with item t as a premise and no premise above t.
pub record ExactlySteps (c : Contents) (m : Meaning) (its : List Item) (t : ℕ) (y : Item) : Type 0 where
  pub step : Among Item y (conclusions c m its t) → Step c m (Below its (t + 1)) y
  pub premise : Among Item y (conclusions c m its t) → Among ℕ t (premises y.origin)
  pub concluded : Step c m (Below its (t + 1)) y → Among ℕ t (premises y.origin) → Among Item y (conclusions c m its t)

abbrev pub ConclusionsAreTheSteps : Type 0
ConclusionsAreTheSteps = (c : Contents) (m : Meaning) (its : List Item) (t : ℕ) → t < length its → (y : Item) → ExactlySteps c m its t y

-- Each held item is the conclusion of its step from its premises, which are held with smaller numbers.
abbrev pub HeldAreJustified : Type 0
HeldAreJustified = (c : Contents) (m : Meaning) (cap n : ℕ) → Justified c m (chart_items c m cap n)

-- Whatever a chart holds is derivable.
abbrev pub HeldAreDerivable : Type 0
HeldAreDerivable = (c : Contents) (m : Meaning) (cap n k : ℕ) → k < length (chart_items c m cap n) → Derivable c m (item_at (chart_items c m cap n) k)

-- At rest a chart holds everything derivable, up to the origins.
abbrev pub RestingHoldAll : Type 0
RestingHoldAll = (c : Contents) (m : Meaning) (cap n : ℕ) → AtRest (chart c m cap n) → (y : Item) → Derivable c m y → Holds (chart_items c m cap n) y
