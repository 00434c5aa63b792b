-- How deep a node lies in its tree, by the ends of the subtrees that begin before it.
use Rattle.std.specs.Prelude.{ℕ, List, nat_lt, count_by}
use Rattle.format.specs.declared.node.Node.{Node}

-- how many of the nodes have a subtree that reaches past number n
abbrev pub reaching : ℕ → List Node → ℕ
reaching n = count_by (λ v. nat_lt n v.end)
