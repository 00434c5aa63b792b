-- How much is still to walk up to the next choice: it falls by each silent move.
use Rattle.std.specs.Prelude.{ℕ, suc, ◌+◌, ◌-◌, ◌*◌}
use Rattle.walk.specs.Ahead.{Ahead, nothing, part}

-- at each node of a part the content at the foot may come once
abbrev pub size : Ahead → ℕ
size nothing = 0
size (part τ t a e u r) = suc ((e - a) * suc (size u) + size r)
