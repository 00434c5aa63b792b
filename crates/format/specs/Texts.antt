-- The words for the parts of a grammar.
use Rattle.std.specs.Prelude.{ℕ, suc, Bool, cond, List, [], ◌∷◌, ◌++◌, codes, decimal}
use Rattle.format.specs.declared.node.Form.{Form}
use Rattle.format.specs.declared.node.Form.TheVariants.{Initial, Auxiliary}
use Rattle.format.specs.declared.node.Obligation.{Obligation}
use Rattle.format.specs.declared.node.Obligation.TheVariants.{Optional, Obligatory}
use Rattle.format.specs.declared.node.Kind.{Kind}
use Rattle.format.specs.declared.node.Kind.TheVariants.{Inner, Word, Empty, Foot}
use Rattle.format.specs.declared.node.Constraint.{Constraint}
use Rattle.format.specs.declared.spot.Spot.{Spot}
use Rattle.format.specs.declared.spot.Spot.TheVariants.{Top, At}
use Rattle.format.specs.Keeps.{any}

abbrev pub form_name : Form → List ℕ
form_name Initial = codes "initial"
form_name Auxiliary = codes "auxiliary"

abbrev pub obligation_name : Obligation → List ℕ
obligation_name Optional = codes "optional"
obligation_name Obligatory = codes "obligatory"

abbrev pub kind_text : Kind → List ℕ
kind_text (Inner l) = codes "inner " ++ decimal l
kind_text (Word w) = codes "word " ++ decimal w
kind_text Empty = codes "empty"
kind_text (Foot l) = codes "foot " ++ decimal l

-- the numbers of the trees in a set, from number i on, each behind a space
abbrev pub listed_text : ℕ → List Bool → List ℕ
listed_text i [] = []
listed_text i (b ∷ bs) = cond b (codes " " ++ decimal i) [] ++ listed_text (suc i) bs

-- whether adjoining is optional or obligatory, and the trees that may adjoin
abbrev pub constraint_text : Constraint → List ℕ
constraint_text c = obligation_name c.obligation ++ (codes ":" ++ cond (any c.listed) (listed_text 0 c.listed) (codes " none"))

abbrev pub spot_text : Spot → List ℕ
spot_text Top = codes "top"
spot_text (At n) = codes "node " ++ decimal n
