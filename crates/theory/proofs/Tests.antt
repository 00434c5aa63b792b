-- Tests on items, and the items that agree in all but the origin.
use Rattle.std.proofs.Common.{◌≡◌, ℕ, Bool, true, false, ◌&&◌, refl, ap, ◌∙◌, subst, eq-eqb, eqb-true}
use Rattle.format.specs.declared.node.Kind.{Kind}
use Rattle.format.specs.declared.node.Kind.TheVariants.{Inner, Word, Empty, Foot}
use Rattle.format.specs.declared.spot.Spot.{Spot}
use Rattle.format.specs.declared.spot.Spot.TheVariants.{Top, At}
use Rattle.format.specs.Keeps.{is_foot}
use Rattle.steps.specs.declared.item.Item.{Item}
use Rattle.steps.specs.declared.item.Origin.{Origin}
use Rattle.steps.specs.Items.{same_spot, same_item}
use Rattle.steps.specs.Conclusions.{is_top}

pub and_split : (a b : Bool) → (a && b) ≡ true → (a ≡ true) × (b ≡ true)
and_split true b e = (refl, e)
and_split false b e = (cc, cc)

pub and_both : {a b : Bool} → a ≡ true → b ≡ true → (a && b) ≡ true
and_both {a} {b} e h = ap (λ (v : Bool). v && b) e ∙ h

pub spot_true : (s u : Spot) → same_spot s u ≡ true → s ≡ u
spot_true Top Top e = refl
spot_true Top (At n) e = cc
spot_true (At k) Top e = cc
spot_true (At k) (At n) e = ap At (eqb-true k n e)

pub spot_refl : (s : Spot) → same_spot s s ≡ true
spot_refl Top = refl
spot_refl (At n) = eq-eqb n n refl

pub true_spot : {s u : Spot} → s ≡ u → same_spot s u ≡ true
true_spot {s} e = subst (λ (v : Spot). same_spot s v ≡ true) e (spot_refl s)

pub top_true : (s : Spot) → is_top s ≡ true → s ≡ Top
top_true Top e = refl
top_true (At n) e = cc

pub foot_true : (k : Kind) → is_foot k ≡ true → (l : ℕ) × (k ≡ Foot l)
foot_true (Inner l) e = (0, cc)
foot_true (Word w) e = (0, cc)
foot_true Empty e = (0, cc)
foot_true (Foot l) e = (l, refl)

pub same_refl : (x : Item) → same_item x x ≡ true
same_refl x = and_both (eq-eqb x.tree x.tree refl) (and_both (spot_refl x.spot) (and_both (eq-eqb x.dot x.dot refl)
    (and_both (eq-eqb x.i x.i refl) (and_both (eq-eqb x.j x.j refl) (and_both (eq-eqb x.p x.p refl) (eq-eqb x.q x.q refl))))))

-- an item with another origin
abbrev pub with_origin : Item → Origin → Item
with_origin x o = record { tree = x.tree; spot = x.spot; dot = x.dot; i = x.i; j = x.j; p = x.p; q = x.q; origin = o }

abbrev make : ℕ → Spot → ℕ → ℕ → ℕ → ℕ → ℕ → Origin → Item
make t s d i j p q o = record { tree = t; spot = s; dot = d; i = i; j = j; p = p; q = q; origin = o }

-- the same items differ in their origins only
pub same_is : (x y : Item) → same_item x y ≡ true → x ≡ with_origin y x.origin
same_is x y e =
    let b1 = and_split _ _ e in
    let b2 = and_split _ _ b1.1 in
    let b3 = and_split _ _ b2.1 in
    let b4 = and_split _ _ b3.1 in
    let b5 = and_split _ _ b4.1 in
    let b6 = and_split _ _ b5.1 in
    let e1 = eqb-true x.tree y.tree b1.0 in
    let e2 = spot_true x.spot y.spot b2.0 in
    let e3 = eqb-true x.dot y.dot b3.0 in
    let e4 = eqb-true x.i y.i b4.0 in
    let e5 = eqb-true x.j y.j b5.0 in
    let e6 = eqb-true x.p y.p b6.0 in
    let e7 = eqb-true x.q y.q b6.1 in
    let o = x.origin in
    ap (λ (v : ℕ). make v x.spot x.dot x.i x.j x.p x.q o) e1
    ∙ (ap (λ (v : Spot). make y.tree v x.dot x.i x.j x.p x.q o) e2
    ∙ (ap (λ (v : ℕ). make y.tree y.spot v x.i x.j x.p x.q o) e3
    ∙ (ap (λ (v : ℕ). make y.tree y.spot y.dot v x.j x.p x.q o) e4
    ∙ (ap (λ (v : ℕ). make y.tree y.spot y.dot y.i v x.p x.q o) e5
    ∙ (ap (λ (v : ℕ). make y.tree y.spot y.dot y.i y.j v x.q o) e6
    ∙ ap (λ (v : ℕ). make y.tree y.spot y.dot y.i y.j y.p v o) e7)))))
