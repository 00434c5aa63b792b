-- The events of a walk that follows the picks of items.
use Rattle.std.specs.Prelude.{ℕ, zero, suc, ◌+◌, Bool, true, false, cond, List, [], ◌∷◌, ◌++◌, length, Some, None, Option, nat_lt}
use Rattle.format.specs.declared.node.Kind.{Kind}
use Rattle.format.specs.declared.node.Kind.TheVariants.{Inner, Word, Empty, Foot}
use Rattle.format.specs.Parts.{Contents}
use Rattle.format.specs.Keeps.{nodes_in, node_in}
use Rattle.steps.specs.declared.item.Item.{Item}
use Rattle.derivation.specs.Derivations.{tree_row}
use Rattle.derivation.specs.Walks.{Event, choice, word, is_choice, walk}
use Rattle.derivation.specs.Readings.{derivation_of}
use Rattle.walk.specs.declared.choice.Choice.{Choice}
use Rattle.walk.specs.declared.choice.Choice.TheVariants.{Stay, Adjoin}
use Rattle.walk.specs.Ahead.{Ahead, nothing, part}
use Rattle.spelling.specs.Picks.{pick_at}

-- Events from a node on, by what is picked there: `content` comes at a foot, `next` from the next node on, `inside` is the node's own content, and `behind` comes behind its subtree. `D` gives the
-- events of a tree that is adjoined. Where nothing is picked the walk goes on in silence.
abbrev pub picked : (ℕ → ℕ → List Event → List Event) → List Event → List Event → List Event → Option Choice → List Event
picked D next inside behind None = next
picked D next inside behind (Some Stay) = choice 0 ∷ next
picked D next inside behind (Some (Adjoin β σ)) = choice (suc β) ∷ (D β σ inside ++ behind)

abbrev pub from_node : (ℕ → ℕ → List Event → List Event) → List Event → List Event → List Event → List Event → Option Choice → Kind → Bool → List Event
from_node D content next inside behind o (Inner l) true = picked D next inside behind o
from_node D content next inside behind o (Inner l) false = next
from_node D content next inside behind o (Word w) b = word w ∷ next
from_node D content next inside behind o Empty b = next
from_node D content next inside behind o (Foot l) true = picked D (content ++ next) content behind o
from_node D content next inside behind o (Foot l) false = content ++ next

-- The events of the nodes from a up to e of tree t, by the picks `C`; with at most k nodes one behind the other.
abbrev pub tour : Contents → (ℕ → ℕ → List Event → List Event) → (ℕ → Option Choice) → ℕ → ℕ → (a e : ℕ) → List Event → List Event
tour c D C t zero a e h = []
tour c D C t (suc k) a e h =
    cond (nat_lt a e)
    (from_node D h (tour c D C t k (suc a) e h) (tour c D C t k (suc a) (node_in c t a).end h) (tour c D C t k (node_in c t a).end e h) (C a) (node_in c t a).kind (is_choice c t a))
    []

-- the events of tree β with this content at its foot, by the derivation read off the item σ
abbrev pub adjoined_events : Contents → List Item → ℕ → ℕ → List Event → List Event
adjoined_events c its β σ h = walk c β (tree_row c β) (derivation_of its σ) h

-- the nodes from a up to e of tree t, by the picks of item τ
unfoldable pub toured : Contents → List Item → (τ t a e : ℕ) → List Event → List Event
toured c its τ t a e h = tour c (adjoined_events c its) (pick_at c its τ) t (length (nodes_in c t) + e) a e h

-- the events of all that is ahead
abbrev pub events_ahead : Contents → List Item → Ahead → List Event
events_ahead c its nothing = []
events_ahead c its (part τ t a e u r) = toured c its τ t a e (events_ahead c its u) ++ events_ahead c its r
