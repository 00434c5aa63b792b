use Rattle.std.proofs.Common.{◌≡◌, ◌-◌, ◌++◌, vec_items}
use Rattle.readcases.specs.Hex.{copies}
use Rattle.readcases.proofs.hex.append.Given as goal

abbrev pub invariant-loop : goal.invariant-loop
invariant-loop l = vec_items l.bytes ++ copies (l.times - l.counter) l.part ≡ vec_items l.initial.bytes ++ copies l.times l.part
