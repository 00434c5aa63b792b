-- The derivation that is read off an item's step and premises.
use Rattle.std.specs.Prelude.{ℕ, zero, suc, List}
use Rattle.steps.specs.declared.item.Item.{Item}
use Rattle.steps.specs.declared.item.Origin.{Origin}
use Rattle.steps.specs.declared.item.Origin.TheVariants.{Start, Scan, Predict, Complete, AdjoinPredict, FootPredict, FootComplete, AdjoinComplete}
use Rattle.steps.specs.Items.{item_at}
use Rattle.derivation.specs.Derivations.{Derivation, done, stay, adjoin}

infixr 65 ◌beside◌
-- derivations of two rows, side by side
abbrev pub ◌beside◌ : Derivation → Derivation → Derivation
done beside e = e
(stay a f) beside e = stay a (f beside e)
(adjoin β r a f) beside e = adjoin β r a (f beside e)

-- By the step: a fresh item has nothing before its dot, scan adds a leaf, complete a node that stays as it is, foot complete the bottom,
-- and adjoin complete a node with a tree adjoined. What is below that node comes from its second premise. `F` reads off the premises.
abbrev pub by_origin : (ℕ → Derivation) → List Item → Origin → Derivation
by_origin F its Start = done
by_origin F its (Scan a) = F a beside stay done done
by_origin F its (Predict a) = done
by_origin F its (Complete a b) = F a beside stay (F b) done
by_origin F its (AdjoinPredict a) = done
by_origin F its (FootPredict a) = done
by_origin F its (FootComplete a b) = stay done done
by_origin F its (AdjoinComplete a b d) = F d beside adjoin (item_at its a).tree (F a) (F b) done

-- with at most h steps one above the other
abbrev pub read_off : ℕ → List Item → ℕ → Derivation
read_off zero its k = done
read_off (suc h) its k = by_origin (read_off h its) its (item_at its k).origin

-- the derivation of item k, whose premises have smaller numbers
abbrev pub derivation_of : List Item → ℕ → Derivation
derivation_of its k = read_off (suc k) its k
