-- Known sentences of the known grammar.
use Rattle.std.specs.Prelude.{◌≡◌, ℕ, Bool, true, false, List, [], ◌∷◌, length, slice_set}
use Rattle.format.specs.declared.node.Kind.TheVariants.{Inner, Word, Foot}
use Rattle.format.specs.declared.node.Form.TheVariants.{Initial, Auxiliary}
use Rattle.format.specs.declared.node.Obligation.TheVariants.{Obligatory}
use Rattle.format.specs.Trees.{plain_node}
use Rattle.format.specs.Parts.{Contents, no_list, constrained}
use Rattle.format.specs.Known.{known_contents}
use Rattle.words.specs.Rows.{row_of}
use Rattle.steps.specs.Runs.{Working, made, worked, goes_on}
use Rattle.steps.specs.Verdicts.{yes_in}

-- the known grammar with an obligatory constraint at the root of its initial tree
abbrev pub obligatory_contents : Contents
obligatory_contents = record {
  labels = 1;
  words = 2;
  trees = record { form = Initial; label = 1; start = 0; size = 2 } ∷ record { form = Auxiliary; label = 1; start = 2; size = 3 } ∷ [];
  nodes =
      constrained (plain_node (Inner 1) 1 2) (record { obligation = Obligatory; listed = slice_set no_list 1 true }) ∷ plain_node (Word 1) 0 2
      ∷ plain_node (Inner 1) 2 3 ∷ plain_node (Word 2) 0 2 ∷ plain_node (Foot 1) 0 3 ∷ [];
}

-- what is seen of a chart: whether a yes item is held, whether it is full, how many items are processed and held
pub record Seen : Type 0 where
  pub yes : Bool
  pub full : Bool
  pub going : Bool
  pub processed : ℕ
  pub held : ℕ

abbrev pub seen : Contents → ℕ → Working → Seen
seen c n w = record { yes = yes_in c n w.state.items; full = w.state.full; going = goes_on w; processed = w.processed; held = length w.state.items }

-- the chart of a sentence, with room for `cap` items, after at most 100 items processed
abbrev pub chart_of : Contents → ℕ → List ℕ → Seen
chart_of c cap ws = seen c (length ws) (worked c (row_of ws) cap 100 (made c cap))

abbrev pub at_rest : Bool → ℕ → ℕ → Seen
at_rest y p h = record { yes = y; full = false; going = false; processed = p; held = h }

abbrev pub KnownSentences : Type 0
KnownSentences =
    (chart_of known_contents 2000 (2 ∷ 1 ∷ []) ≡ at_rest true 12 12)
    × (chart_of known_contents 2000 (1 ∷ []) ≡ at_rest true 6 6)
    × (chart_of known_contents 2000 (2 ∷ []) ≡ at_rest false 7 7)
    × (chart_of known_contents 2000 [] ≡ at_rest false 4 4)
    × (chart_of known_contents 11 (2 ∷ 1 ∷ []) ≡ record { yes = false; full = true; going = false; processed = 11; held = 11 })
    × (chart_of known_contents 12 (2 ∷ 1 ∷ []) ≡ at_rest true 12 12)
    × ((chart_of obligatory_contents 2000 (1 ∷ [])).yes ≡ false)
    × (chart_of obligatory_contents 2000 (2 ∷ 1 ∷ []) ≡ at_rest true 11 11)
