use Rattle.std.proofs.Common.{◌≡◌, length, vec_items}
use Rattle.readcases.specs.Hex.{bytes_of}
use Rattle.readcases.proofs.Decoding.{behind}
use Rattle.readcases.proofs.hex.decode.Given as goal

abbrev pub invariant-loop-rest : goal.invariant-loop-rest
invariant-loop-rest l = bytes_of l.digits ≡ behind (vec_items l.bytes) (bytes_of l.rest)

abbrev pub decreases-loop-rest : goal.decreases-loop-rest
decreases-loop-rest l = length l.rest
