-- A known grammar: one label, two words, an initial tree over word 1, and an auxiliary tree with word 2 before its foot, which may adjoin at the initial tree's root.
use Rattle.std.specs.Prelude.{◌≡◌, ℕ, true, List, [], ◌∷◌, ◌++◌, Ok, slice_set}
use Rattle.format.specs.declared.node.Kind.TheVariants.{Inner, Word, Foot}
use Rattle.format.specs.declared.node.Form.TheVariants.{Initial, Auxiliary}
use Rattle.format.specs.declared.node.Obligation.TheVariants.{Optional}
use Rattle.format.specs.Trees.{plain_node}
use Rattle.format.specs.Parts.{Contents, no_list, constrained}
use Rattle.format.specs.Judge.{judge}

abbrev pub known_bytes : List ℕ
known_bytes =
    (1 ∷ 0 ∷ 3 ∷ 1 ∷ 0 ∷ 2 ∷ [])
    ++ ((2 ∷ 0 ∷ 8 ∷ 0 ∷ 0 ∷ 1 ∷ 1 ∷ 1 ∷ 0 ∷ 1 ∷ 0 ∷ [])
    ++ ((3 ∷ 0 ∷ 12 ∷ 0 ∷ 0 ∷ 1 ∷ 2 ∷ 1 ∷ 0 ∷ 2 ∷ 0 ∷ 3 ∷ 0 ∷ 1 ∷ 0 ∷ [])
    ++ (4 ∷ 0 ∷ 4 ∷ 0 ∷ 0 ∷ 1 ∷ 1 ∷ [])))

abbrev pub known_contents : Contents
known_contents = record {
  labels = 1;
  words = 2;
  trees = record { form = Initial; label = 1; start = 0; size = 2 } ∷ record { form = Auxiliary; label = 1; start = 2; size = 3 } ∷ [];
  nodes =
      constrained (plain_node (Inner 1) 1 2) (record { obligation = Optional; listed = slice_set no_list 1 true }) ∷ plain_node (Word 1) 0 2
      ∷ plain_node (Inner 1) 2 3 ∷ plain_node (Word 2) 0 2 ∷ plain_node (Foot 1) 0 3 ∷ [];
}

abbrev pub KnownRead : Type 0
KnownRead = judge known_bytes ≡ Ok known_contents
