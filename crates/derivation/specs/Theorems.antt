-- What is proved of derivations.
use Rattle.std.specs.Prelude.{◌≡◌, ℕ, ◌<◌, true, List, [], ◌++◌, length, drop}
use Rattle.format.specs.Parts.{Contents}
use Rattle.format.specs.Keeps.{Keeps}
use Rattle.words.specs.Meaning.{Meaning, Bounded}
use Rattle.words.specs.Paths.{Admits}
use Rattle.steps.specs.declared.item.Item.{Item}
use Rattle.steps.specs.declared.item.Origin.{Origin}
use Rattle.steps.specs.declared.verdict.Verdict.TheVariants.{Yes, No}
use Rattle.steps.specs.Items.{item_at}
use Rattle.steps.specs.Conclusions.{finished}
use Rattle.steps.specs.Runs.{Working}
use Rattle.steps.specs.Verdicts.{says_yes, verdict}
use Rattle.theory.specs.Steps.{Derivable, Justified}
use Rattle.theory.specs.Theorems.{AtRest}
use Rattle.theory.specs.Calls.{called}
use Rattle.theory.specs.Verdicts.{Accepted}
use Rattle.derivation.specs.Derivations.{Derivation, below, tree_row, Derives}
use Rattle.derivation.specs.Walks.{yield, certificate, Derived}
use Rattle.derivation.specs.Spans.{Spans, Means}
use Rattle.derivation.specs.Readings.{derivation_of}

-- Items and what they span -----------------------------------------------------------------------------------------------------

-- The part of the tree before the dot of a derivable item has a derivation that spans the item's positions, with its gap.
abbrev pub DerivableItemsSpan : Type 0
DerivableItemsSpan = (c : Contents) (m : Meaning) → Keeps c → (x : Item) → Derivable c m x → (f : Derivation) × Means c m f x

-- The item x with its dot moved to d, up to position l.
abbrev pub moved_to : Item → ℕ → ℕ → Origin → Item
moved_to x d l o = record { tree = x.tree; spot = x.spot; dot = d; i = x.i; j = l; p = x.p; q = x.q; origin = o }

-- moved behind the last sibling it is derivable
pub record Finishes (c : Contents) (m : Meaning) (x : Item) (l : ℕ) : Type 0 where
  pub dot : ℕ
  pub origin : Origin
  pub derivable : Derivable c m (moved_to x dot l origin)
  pub last : finished c (moved_to x dot l origin) ≡ true

-- Where the siblings behind the dot of a derivable item have a derivation that spans on to l without a gap, the finished item is derivable.
abbrev pub SpannedItemsDerivable : Type 0
SpannedItemsDerivable = (c : Contents) (m : Meaning) → Keeps c → Bounded m → (x : Item) → Derivable c m x → (f : Derivation) (l : ℕ)
    → Spans c m x.tree (drop x.dot (below c x.tree x.spot)) f x.j l [] → Finishes c m x l

-- Derivations read off a list of items -------------------------------------------------------------------------------------------

-- In a justified list, the derivation read off an item is of its part of the tree, and spans its positions with its gap.
abbrev pub JustifiedItemsSpan : Type 0
JustifiedItemsSpan = (c : Contents) (m : Meaning) → Keeps c → (its : List Item) → Justified c m its → (k : ℕ) → k < length its
    → Means c m (derivation_of its k) (item_at its k)

-- That of an item that says yes is a derivation of the grammar, with a yield that the source admits.
pub record ReadOffYes (c : Contents) (m : Meaning) (t : ℕ) (f : Derivation) : Type 0 where
  pub derives : Derives c t f
  pub admitted : Admits m (yield c t f)

abbrev pub YesItemsReadOff : Contents → Meaning → List Item → Type 0
YesItemsReadOff c m its = (k : ℕ) → k < length its → says_yes c m.last (item_at its k) ≡ true → ReadOffYes c m (item_at its k).tree (derivation_of its k)

abbrev pub YesItemsAreDerived : Type 0
YesItemsAreDerived = (c : Contents) (m : Meaning) → Keeps c → (its : List Item) → Justified c m its → YesItemsReadOff c m its

-- The same of the chart that any calls leave.
abbrev pub CalledYesItemsAreDerived : Type 0
CalledYesItemsAreDerived = (c : Contents) (m : Meaning) → Keeps c → (cap : ℕ) (bs : List ℕ) → YesItemsReadOff c m (called c m cap bs).state.items

-- Yields -------------------------------------------------------------------------------------------------------------------------

-- A derivation spans 0 to the last position without a gap exactly if the source admits its yield.
pub record SpansAsAdmitted (c : Contents) (m : Meaning) (t : ℕ) (f : Derivation) : Type 0 where
  pub admitted : Spans c m t (tree_row c t) f 0 m.last [] → Admits m (yield c t f)
  pub spanned : Admits m (yield c t f) → Spans c m t (tree_row c t) f 0 m.last []

abbrev pub SpansExactlyWhenAdmitted : Type 0
SpansExactlyWhenAdmitted = (c : Contents) (m : Meaning) → Keeps c → (t : ℕ) (f : Derivation) → Derives c t f → SpansAsAdmitted c m t f

-- Certificates -------------------------------------------------------------------------------------------------------------------

-- Two certificates are equal exactly if they spell the same derivation of the same tree. With anything behind it, a certificate tells where it ends.
pub record SpelledApart (c : Contents) (t u : ℕ) (f g : Derivation) : Type 0 where
  pub same : certificate c t f ≡ certificate c u g → (t ≡ u) × (f ≡ g)
  pub spelled : (t ≡ u) × (f ≡ g) → certificate c t f ≡ certificate c u g
  pub ends : (xs ys : List ℕ) → certificate c t f ++ xs ≡ certificate c u g ++ ys → xs ≡ ys

abbrev pub CertificatesDetermine : Type 0
CertificatesDetermine = (c : Contents) → Keeps c → (t u : ℕ) (f g : Derivation) → Derives c t f → Derives c u g → SpelledApart c t u f g

-- Verdicts -----------------------------------------------------------------------------------------------------------------------

-- A derivable item says yes exactly if the source admits the yield of a derivation.
pub record AcceptedAsDerived (c : Contents) (m : Meaning) : Type 0 where
  pub sound : Accepted c m m.last → Derived c m
  pub complete : Derived c m → Accepted c m m.last

abbrev pub AcceptedExactlyWhenDerived : Type 0
AcceptedExactlyWhenDerived = (c : Contents) (m : Meaning) → Keeps c → Bounded m → AcceptedAsDerived c m

-- The verdict is Yes exactly if the source admits the yield of a derivation, and No exactly if it admits none.
pub record VerdictAsDerived (c : Contents) (m : Meaning) (w : Working) : Type 0 where
  pub yes : verdict c m.last w ≡ Yes → Derived c m
  pub derived : Derived c m → verdict c m.last w ≡ Yes
  pub no : verdict c m.last w ≡ No → Derived c m → ⊥
  pub not_derived : (Derived c m → ⊥) → verdict c m.last w ≡ No

-- at rest, after any calls
abbrev pub VerdictsExactlyAsDerived : Type 0
VerdictsExactlyAsDerived = (c : Contents) (m : Meaning) (cap : ℕ) (bs : List ℕ) → Keeps c → Bounded m → AtRest (called c m cap bs)
    → VerdictAsDerived c m (called c m cap bs)
