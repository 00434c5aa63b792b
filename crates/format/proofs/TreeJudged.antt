-- A tree field whose body has whole nodes and that finds room is judged by its shape.
use Rattle.std.proofs.Common.{◌≡◌, ℕ, ◌+◌, ◌/◌, ◌%◌, ◌<◌, ◌≤◌, cond, eqb, ltb, leb, List, length, Result, ◌∙◌, lt-ltb, eq-eqb, le-leb}
use Rattle.std.proofs.lemmas.Bool.{and_from, cond-true}
use Rattle.format.specs.declared.node.Form.{Form}
use Rattle.format.specs.declared.fault.Refusal.{Refusal}
use Rattle.format.specs.declared.fault.Rule.TheVariants as broken
use Rattle.format.specs.Trees.{Row}
use Rattle.format.specs.Judge.{State, refuse, entries, judge_shape, judge_tree, added, whole_nodes, room}

module _ (s : State) (f : Form) (body : List ℕ) (some : 0 < length body) (fours : length body % 4 ≡ 0) (few : length s.trees < 64) (fit : length s.nodes + length body / 4 ≤ 256) where
  abbrev pub by_shape : Result Row Refusal
  by_shape = judge_shape f (entries s.labels s.words 0 body)

  pub tree_judged : judge_tree s f body ≡ added s f by_shape
  tree_judged =
      cond-true (whole_nodes body) (cond (room s body) (added s f by_shape) (refuse broken.Room)) (refuse broken.Body)
      (and_from (ltb 0 (length body)) (eqb (length body % 4) 0) (lt-ltb 0 (length body) some) (eq-eqb (length body % 4) 0 fours))
      ∙ cond-true (room s body) (added s f by_shape) (refuse broken.Room)
      (and_from (ltb (length s.trees) 64) (leb (length s.nodes + length body / 4) 256) (lt-ltb (length s.trees) 64 few) (le-leb (length s.nodes + length body / 4) 256 fit))
