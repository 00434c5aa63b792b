-- Paths split and join.
use Rattle.std.proofs.Common.{[], ◌∷◌, sym, refl, subst}
use Rattle.words.specs.Paths.{Path, PathsSplit, PathsSplitAtWord, PathsJoin}

pub split : PathsSplit
split m [] vs from to p = (from, refl, p)
split m (w ∷ ws) vs from to (next, e, p) = let q = split m ws vs next to p in (q.0, (next, e, q.1), q.2)

pub split_at_word : PathsSplitAtWord
split_at_word m ws vs w from to p =
    let q = split m ws (w ∷ vs) from to p in (q.0, q.2.0, q.1, q.2.1, q.2.2)

pub join : PathsJoin
join m [] vs from mid to p q = subst (λ z. Path m z vs to) (sym p) q
join m (w ∷ ws) vs from mid to (next, e, p) q = (next, e, join m ws vs next mid to p q)
