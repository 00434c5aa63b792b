-- What the bytes that stand for a tag or an obligation are read as, or the rule that another byte breaks.
use Rattle.std.specs.Prelude.{ℕ, cond, Ok, Err, Result, ok_or, nat_le}
use Rattle.format.specs.declared.stage.Tag.{Tag}
use Rattle.format.specs.declared.node.Obligation.{Obligation}
use Rattle.format.specs.declared.fault.Rule.{Rule}
use Rattle.format.specs.declared.fault.Rule.TheVariants as broken
use Rattle.format.specs.Judge.{tag_of, obligation_of}

abbrev pub tag_read : ℕ → Result Tag Rule
tag_read t = ok_or (tag_of t) broken.Tag

abbrev pub obligation_read : ℕ → Result Obligation Rule
obligation_read p = cond (nat_le p 1) (Ok (obligation_of p)) (Err broken.List)
