-- The derivations of the known grammar, with their certificates and yields.
use Rattle.std.specs.Prelude.{◌≡◌, ℕ, List, [], ◌∷◌}
use Rattle.format.specs.Known.{known_contents}
use Rattle.derivation.specs.Derivations.{Derivation, done, stay, adjoin, Derives}
use Rattle.derivation.specs.Walks.{yield, certificate}

-- the row below the root of the initial tree: its word
abbrev pub one_leaf : Derivation
one_leaf = stay done done

-- the initial tree as it is
abbrev pub known_plain : Derivation
known_plain = stay one_leaf done

-- the auxiliary tree: its root stays as it is, and below the root stay the word and the foot, with the foot's bottom
abbrev pub known_auxiliary : Derivation
known_auxiliary = stay (stay done (stay (stay done done) done)) done

-- the initial tree with the auxiliary tree adjoined at its root
abbrev pub known_adjoined : Derivation
known_adjoined = adjoin 1 known_auxiliary one_leaf done

pub record KnownDerivation (f : Derivation) (numbers words : List ℕ) : Type 0 where
  pub derives : Derives known_contents 0 f
  pub spelled : certificate known_contents 0 f ≡ numbers
  pub yields : yield known_contents 0 f ≡ words

abbrev pub KnownDerivations : Type 0
KnownDerivations = KnownDerivation known_plain (0 ∷ 0 ∷ []) (1 ∷ []) × KnownDerivation known_adjoined (0 ∷ 2 ∷ []) (2 ∷ 1 ∷ [])
