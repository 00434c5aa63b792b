use Rattle.std.proofs.Common.{◌≡◌, ◌-◌, ◌≤◌, List, ◌++◌, length, take}
use Rattle.showchart.specs.Streams.{Passing, Passed}
use Rattle.showchart.proofs.stream.cut.Given as goal

abbrev pub invariant-loop-field : goal.invariant-loop-field
invariant-loop-field l =
    (length l.rest ≤ length l.bytes) × (l.bytes ≡ take (length l.bytes - length l.rest) l.bytes ++ l.rest) × ((fs : List Passing) × Passed fs l.bytes l.rest)

abbrev pub decreases-loop-field : goal.decreases-loop-field
decreases-loop-field l = length l.rest
