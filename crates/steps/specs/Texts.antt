-- The words for steps and verdicts.
use Rattle.std.specs.Prelude.{ℕ, List, [], ◌++◌, codes, decimal}
use Rattle.steps.specs.declared.item.Origin.{Origin}
use Rattle.steps.specs.declared.item.Origin.TheVariants.{Start, Scan, Predict, Complete, AdjoinPredict, FootPredict, FootComplete, AdjoinComplete}
use Rattle.steps.specs.declared.verdict.Verdict.{Verdict}
use Rattle.steps.specs.declared.verdict.Verdict.TheVariants.{Yes, No, Full, Open}

abbrev pub step_name : Origin → List ℕ
step_name Start = codes "start"
step_name (Scan a) = codes "scan"
step_name (Predict a) = codes "predict"
step_name (Complete a b) = codes "complete"
step_name (AdjoinPredict a) = codes "adjoin predict"
step_name (FootPredict a) = codes "foot predict"
step_name (FootComplete a b) = codes "foot complete"
step_name (AdjoinComplete a b c) = codes "adjoin complete"

-- the numbers of one premise, of two and of three
abbrev pub from_one : ℕ → List ℕ
from_one a = codes " from " ++ decimal a

abbrev pub from_two : ℕ → ℕ → List ℕ
from_two a b = codes " from " ++ (decimal a ++ (codes " and " ++ decimal b))

abbrev pub premises_text : Origin → List ℕ
premises_text Start = []
premises_text (Scan a) = from_one a
premises_text (Predict a) = from_one a
premises_text (Complete a b) = from_two a b
premises_text (AdjoinPredict a) = from_one a
premises_text (FootPredict a) = from_one a
premises_text (FootComplete a b) = from_two a b
premises_text (AdjoinComplete a b c) = codes " from " ++ (decimal a ++ (codes ", " ++ (decimal b ++ (codes " and " ++ decimal c))))

-- a step's name, and the numbers of its premises
abbrev pub origin_text : Origin → List ℕ
origin_text o = step_name o ++ premises_text o

abbrev pub verdict_name : Verdict → List ℕ
verdict_name Yes = codes "yes"
verdict_name No = codes "no"
verdict_name Full = codes "full"
verdict_name Open = codes "open"
