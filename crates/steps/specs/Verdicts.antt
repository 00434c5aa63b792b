-- What a chart says of its sentence.
use Rattle.std.specs.Prelude.{ℕ, Bool, false, cond, ◌&&◌, ◌||◌, List, [], ◌∷◌, ◌==◌}
use Rattle.format.specs.Parts.{Contents}
use Rattle.format.specs.Questions.{may_start}
use Rattle.steps.specs.declared.item.Item.{Item}
use Rattle.steps.specs.declared.verdict.Verdict.{Verdict}
use Rattle.steps.specs.declared.verdict.Verdict.TheVariants.{Yes, No, Full, Open}
use Rattle.steps.specs.Conclusions.{whole}
use Rattle.steps.specs.Runs.{Working, goes_on}

-- an item that says yes: finished at the top of a tree that may start a derivation, from 0 to the last position
abbrev pub says_yes : Contents → ℕ → Item → Bool
says_yes c n x = may_start c x.tree && (whole x && (x.i == 0 && x.j == n))

abbrev pub yes_in : Contents → ℕ → List Item → Bool
yes_in c n [] = false
yes_in c n (x ∷ xs) = says_yes c n x || yes_in c n xs

-- Yes if such an item is held; else no at rest, full when full, open otherwise.
abbrev pub verdict : Contents → ℕ → Working → Verdict
verdict c n w = cond (yes_in c n w.state.items) Yes (cond w.state.full Full (cond (goes_on w) Open No))
