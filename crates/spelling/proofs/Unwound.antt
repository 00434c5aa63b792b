-- What an item's premises give, by one step: the premises of an item that came by its step have smaller numbers.
use Rattle.std.proofs.Common.{◌≡◌, ℕ, zero, suc, ◌<◌, true, ltb, List, length, Some, Option, refl, arith, ltb-true}
use Rattle.format.specs.Parts.{Contents}
use Rattle.steps.specs.declared.item.Item.{Item}
use Rattle.steps.specs.declared.item.Origin.{Origin}
use Rattle.steps.specs.declared.item.Origin.TheVariants.{Start, Scan, Predict, Complete, AdjoinPredict, FootPredict, FootComplete, AdjoinComplete}
use Rattle.steps.specs.Items.{item_at}
use Rattle.theory.specs.Came.{came_by, came, Came}
use Rattle.theory.proofs.Tests.{and_split}
use Rattle.derivation.specs.Derivations.{Derivation}
use Rattle.derivation.specs.Readings.{by_origin, read_off, derivation_of}
use Rattle.walk.specs.declared.choice.Choice.{Choice}
use Rattle.walk.specs.declared.choice.Choice.TheVariants.{Stay}
use Rattle.spelling.specs.Picks.{around, pick_by, pick_in, pick_at}

-- premises stand below
abbrev pub Under : ℕ → Origin → Type 0
Under k Start = Unit {0}
Under k (Scan a) = a < k
Under k (Predict a) = Unit {0}
Under k (Complete a b) = (a < k) × (b < k)
Under k (AdjoinPredict a) = Unit {0}
Under k (FootPredict a) = Unit {0}
Under k (FootComplete a b) = Unit {0}
Under k (AdjoinComplete a b d) = (a < k) × (b < k) × (d < k)

under : (c : Contents) (at : ℕ → Item) (k : ℕ) (x : Item) (o : Origin) → came_by c at k x o ≡ true → Under k o
under c at k x Start h = tt
under c at k x (Scan a) h = ltb-true a k (and_split (ltb a k) _ h).0
under c at k x (Predict a) h = tt
under c at k x (Complete a b) h = let p = and_split (ltb a k) _ h in (ltb-true a k p.0, ltb-true b k (and_split (ltb b k) _ p.1).0)
under c at k x (AdjoinPredict a) h = tt
under c at k x (FootPredict a) h = tt
under c at k x (FootComplete a b) h = tt
under c at k x (AdjoinComplete a b d) h =
    let p = and_split (ltb a k) _ h in
    let q = and_split (ltb b k) _ p.1 in
    (ltb-true a k p.0, ltb-true b k q.0, ltb-true d k (and_split (ltb d k) _ q.1).0)

pub low : (c : Contents) (its : List Item) → Came c its → (k : ℕ) → k < length its → Under k (item_at its k).origin
unfolding came
low c its h k l = under c (item_at its) k (item_at its k) (item_at its k).origin (h k l)

module _ (c : Contents) (its : List Item) (h : Came c its) where
  around_same : (F G : ℕ → Option Choice) (n m : ℕ) (o : Option Choice) (a b : ℕ) → F a ≡ G a → F b ≡ G b → around F n m o a b ≡ around G n m o a b
  around_same F G n m o a b e f = cc

  pick_by_same : (n : ℕ) (F G : ℕ → Option Choice) (k : ℕ) (o : Origin) → Under k o → ((a : ℕ) → a < k → F a ≡ G a) → pick_by c its n F o ≡ pick_by c its n G o
  pick_by_same n F G k Start u e = refl
  pick_by_same n F G k (Scan a) u e = e a u
  pick_by_same n F G k (Predict a) u e = refl
  pick_by_same n F G k (Complete a b) u e = around_same F G n _ (Some Stay) a b (e a u.0) (e b u.1)
  pick_by_same n F G k (AdjoinPredict a) u e = refl
  pick_by_same n F G k (FootPredict a) u e = refl
  pick_by_same n F G k (FootComplete a b) u e = refl
  pick_by_same n F G k (AdjoinComplete a b d) u e = around_same F G n _ _ d b (e d u.2) (e b u.1)

  pick_more : (n i j k : ℕ) → k < i → k < j → k < length its → pick_in c its n i k ≡ pick_in c its n j k
  pick_more n zero j k p q l = absurd (omega arith)
  pick_more n (suc i) zero k p q l = absurd (omega arith)
  pick_more n (suc i) (suc j) k p q l =
      pick_by_same n (pick_in c its n i) (pick_in c its n j) k (item_at its k).origin (low c its h k l) (λ a u. pick_more n i j a (omega arith) (omega arith) (omega arith))

  pub pick_is : (n k : ℕ) → k < length its → pick_at c its k n ≡ pick_by c its n (λ a. pick_at c its a n) (item_at its k).origin
  unfolding pick_at
  pick_is n k l =
      pick_by_same n (pick_in c its n k) (λ a. pick_in c its n (suc a) a) k (item_at its k).origin (low c its h k l)
      (λ a u. pick_more n k (suc a) a u (omega arith) (omega arith))

  reads_same : (F G : ℕ → Derivation) (k : ℕ) (o : Origin) → Under k o → ((a : ℕ) → a < k → F a ≡ G a) → by_origin F its o ≡ by_origin G its o
  reads_same F G k Start u e = refl
  reads_same F G k (Scan a) u e = let x = e a u in cc
  reads_same F G k (Predict a) u e = refl
  reads_same F G k (Complete a b) u e = let x = e a u.0 in let y = e b u.1 in cc
  reads_same F G k (AdjoinPredict a) u e = refl
  reads_same F G k (FootPredict a) u e = refl
  reads_same F G k (FootComplete a b) u e = refl
  reads_same F G k (AdjoinComplete a b d) u e = let x = e a u.0 in let y = e b u.1 in let z = e d u.2 in cc

  read_more : (i j k : ℕ) → k < i → k < j → k < length its → read_off i its k ≡ read_off j its k
  read_more zero j k p q l = absurd (omega arith)
  read_more (suc i) zero k p q l = absurd (omega arith)
  read_more (suc i) (suc j) k p q l =
      reads_same (read_off i its) (read_off j its) k (item_at its k).origin (low c its h k l) (λ a u. read_more i j a (omega arith) (omega arith) (omega arith))

  pub read_is : (k : ℕ) → k < length its → derivation_of its k ≡ by_origin (derivation_of its) its (item_at its k).origin
  read_is k l =
      reads_same (read_off k its) (λ a. read_off (suc a) its a) k (item_at its k).origin (low c its h k l) (λ a u. read_more k (suc a) a u (omega arith) (omega arith))
