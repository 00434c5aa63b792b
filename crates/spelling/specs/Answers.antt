-- What spelling answers, and what it leaves in the buffer.
use Rattle.std.specs.Prelude.{ℕ, ◌-◌, cond, List, ◌++◌, length, replicate, Some, None, Ok, Err, Option, Result, nat_le, nat_lt}
use Rattle.spelling.specs.declared.refusal.Refusal.{Refusal}
use Rattle.spelling.specs.declared.refusal.Refusal.TheVariants as refusals

-- The length of the certificate that a chart's items give, if they give one and it fits into so many bytes.
abbrev pub fitted : Option (List ℕ) → ℕ → Result ℕ Refusal
fitted None room = Err refusals.NoYes
fitted (Some numbers) room = cond (nat_le (length numbers) room) (Ok (length numbers)) (Err refusals.SmallBuffer)

-- The stack is judged first: it has to have an entry for each byte of the buffer.
abbrev pub answered : Option (List ℕ) → (room entries : ℕ) → Result ℕ Refusal
answered spelled room entries = cond (nat_lt entries room) (Err refusals.SmallStack) (fitted spelled room)

-- the certificate in so many bytes, with zeros behind it
abbrev pub padded : Option (List ℕ) → ℕ → List ℕ
padded None room = replicate room 0
padded (Some numbers) room = numbers ++ replicate (room - length numbers) 0

-- What stands in the buffer: the certificate with zeros behind it, or zeros where spelling is refused.
abbrev pub left_by : Option (List ℕ) → ℕ → Result ℕ Refusal → List ℕ
left_by spelled room (Ok n) = padded spelled room
left_by spelled room (Err e) = replicate room 0

abbrev pub written : Option (List ℕ) → (room entries : ℕ) → List ℕ
written spelled room entries = left_by spelled room (answered spelled room entries)
