-- Each item of a list whose items came by their steps: its picks are those of the derivation read off it.
use Rattle.std.proofs.Common.{◌≡◌, ℕ, zero, suc, ◌+◌, ◌<◌, Bool, true, false, cond, not, eqb, ltb, List, length, take, Some, Option, refl, ap, ◌∙◌, subst, add-one, arith, ltb-true, le-ltb, lt-ltb, eq-eqb, eqb-true}
use Rattle.format.specs.declared.spot.Spot.{Spot}
use Rattle.format.specs.declared.spot.Spot.TheVariants.{Top, At}
use Rattle.format.specs.declared.spot.Next.{Next}
use Rattle.format.specs.declared.spot.Next.TheVariants.{End, Bottom, Child}
use Rattle.format.specs.Parts.{Contents}
use Rattle.format.specs.Judge.{adjoinable}
use Rattle.format.specs.Keeps.{nodes_in, node_in, taken_trees, Keeps}
use Rattle.steps.specs.declared.item.Item.{Item}
use Rattle.steps.specs.declared.item.Origin.{Origin}
use Rattle.steps.specs.declared.item.Origin.TheVariants.{Start, Scan, Predict, Complete, AdjoinPredict, FootPredict, FootComplete, AdjoinComplete}
use Rattle.steps.specs.Items.{same_spot, item_at}
use Rattle.steps.specs.Conclusions.{after, finished, stays, listed, whole}
use Rattle.theory.specs.Came.{moves, leaf_next, ends_at, plain_next, adjoined_next, foot_spot, came_by, came, Came}
use Rattle.theory.proofs.Tests.{and_split, spot_true, foot_true}
use Rattle.derivation.specs.Derivations.{Derivation, done, stay, adjoin, below}
use Rattle.derivation.specs.Walks.{is_choice}
use Rattle.derivation.specs.Readings.{◌beside◌, by_origin, derivation_of}
use Rattle.derivation.proofs.Dots.{dot_last, foot_row}
use Rattle.walk.specs.declared.choice.Choice.{Choice}
use Rattle.walk.specs.declared.choice.Choice.TheVariants.{Stay, Adjoin}
use Rattle.spelling.specs.Picks.{number_next, node_after, around, pick_by, pick_at}
use Rattle.spelling.proofs.Unwound.{pick_is, read_is}
use Rattle.spelling.proofs.Rows.{begin, dot_after}
use Rattle.spelling.proofs.Agree.{any_some, Part, Sibling, past, fresh_part, leaf_sibling, plain_sibling, adjoined_sibling}

-- what a moved item shares with the one before
moved_facts : (x y : Item) → moves x y ≡ true → (y.tree ≡ x.tree) × (y.spot ≡ x.spot) × (y.dot ≡ suc x.dot)
moved_facts x y e =
    let a = and_split (eqb y.tree x.tree) _ e in
    let b = and_split (same_spot y.spot x.spot) _ a.1 in
    (eqb-true y.tree x.tree a.0, spot_true y.spot x.spot b.0, eqb-true y.dot (x.dot + 1) b.1 ∙ add-one x.dot)

module _ (c : Contents) (K : Keeps c) (its : List Item) (C : Came c its) where
  abbrev picks : ℕ → ℕ → Option Choice
  picks k n = pick_at c its k n

  abbrev row : Item → List Next
  row x = take x.dot (below c x.tree x.spot)

  -- the row before the dot of item k
  abbrev pub Agrees : ℕ → Type 0
  Agrees k = Part c K its (item_at its k).tree (picks k) (derivation_of its k) (begin (item_at its k).spot) (row (item_at its k))

  -- Picks around a node
  around_before : (F : ℕ → Option Choice) (n m : ℕ) (o : Option Choice) (a b : ℕ) → n < m → around F n m o a b ≡ F a
  around_before F n m o a b h = rw (lt-ltb n m h) refl

  around_here : (F : ℕ → Option Choice) (m : ℕ) (o : Option Choice) (a b : ℕ) → around F m m o a b ≡ o
  around_here F m o a b = rw (le-ltb m m (omega arith), eq-eqb m m refl) refl

  around_below : (F : ℕ → Option Choice) (n m : ℕ) (o : Option Choice) (a b : ℕ) → m < n → around F n m o a b ≡ F b
  around_below F n m o a b h = ap (λ (x : Bool). cond x (F a) (cond (eqb n m) o (F b))) (le-ltb n m (omega arith)) ∙ by_test (eqb n m) refl
    where
      by_test : (x : Bool) → eqb n m ≡ x → cond x o (F b) ≡ F b
      by_test true e = let z = eqb-true n m e in absurd (omega arith)
      by_test false e = refl

  -- item k is item a with one more node m before its dot
  moved_part : (k a m : ℕ) (g : Derivation) → moves (item_at its a) (item_at its k) ≡ true → after c (item_at its a) ≡ Child m
      → derivation_of its k ≡ derivation_of its a beside g → ((i : ℕ) → i < m → picks k i ≡ picks a i) → Agrees a → Sibling c K its (item_at its a).tree (picks k) g m → Agrees k
  moved_part k a m g e f d same A S =
      let x = item_at its a in
      let y = item_at its k in
      let q = moved_facts x y e in
      let r = past c K its x.tree x.spot x.dot m f (picks a) (picks k) same (derivation_of its a) g A S in
      rw (q.0, q.1, q.2, d) r

  -- an item that is finished at node m of tree t
  pub record Ended (y : Item) (t m : ℕ) : Type 0 where
    pub adjoins : adjoinable (node_in c t m).kind ≡ true
    pub tree : y.tree ≡ t
    pub spot : y.spot ≡ At m
    pub last : finished c y ≡ true

  ended_facts : (y : Item) (t m : ℕ) → ends_at c y t m ≡ true → Ended y t m
  ended_facts y t m e =
      let a = and_split (adjoinable (node_in c t m).kind) _ e in
      let b = and_split (eqb y.tree t) _ a.1 in
      let d = and_split (same_spot y.spot (At m)) _ b.1 in
      record { adjoins = a.0; tree = eqb-true y.tree t b.0; spot = spot_true y.spot (At m) d.0; last = d.1 }

  whole_part : (b t m : ℕ) → Ended (item_at its b) t m → Agrees b → Part c K its t (picks b) (derivation_of its b) (suc m) (below c t (At m))
  whole_part b t m E A =
      let y = item_at its b in
      subst (λ (v : Spot). Part c K its t (picks b) (derivation_of its b) (begin v) (below c t v)) E.spot
      (rw (← E.tree, ← dot_last c y.tree y.spot y.dot E.last) A)

  module _ (k : ℕ) (l : k < length its) (ih : (a : ℕ) → a < k → Agrees a) where
    abbrev x : Item
    x = item_at its k

    read_by : (o : Origin) → x.origin ≡ o → derivation_of its k ≡ by_origin (derivation_of its) its o
    read_by o e = read_is c its C k l ∙ ap (by_origin (derivation_of its) its) e

    picks_by : (o : Origin) → x.origin ≡ o → (n : ℕ) → picks k n ≡ pick_by c its n (λ a. picks a n) o
    picks_by o e n = pick_is c its C n k l ∙ ap (pick_by c its n (λ a. picks a n)) e

    -- nothing before the dot
    fresh_item : (o : Origin) → x.origin ≡ o → by_origin (derivation_of its) its o ≡ done → eqb x.dot 0 ≡ true → Agrees k
    fresh_item o e d z =
        let n = read_by o e ∙ d in
        rw (eqb-true x.dot 0 z, n) (fresh_part c K its x.tree (picks k) (begin x.spot))

    scan_item : (a : ℕ) → x.origin ≡ Scan a → a < k → moves (item_at its a) x ≡ true → (nx : Next) → after c (item_at its a) ≡ nx → leaf_next c (item_at its a).tree nx ≡ true → Agrees k
    scan_item a o u e End f g = absurd (cc)
    scan_item a o u e Bottom f g = absurd (cc)
    scan_item a o u e (Child m) f g =
        let t = (item_at its a).tree in
        moved_part k a m (stay done done) e f (read_by (Scan a) o) (λ i v. picks_by (Scan a) o i) (ih a u)
        (leaf_sibling c K its t (picks k) m (dot_after c K t (item_at its a).spot (item_at its a).dot m f).0 (not_true (adjoinable (node_in c t m).kind) g))
      where
        not_true : (b : Bool) → not b ≡ true → b ≡ false
        not_true true z = absurd (cc)
        not_true false z = refl

    -- a node m with content, by an item with the picks around m
    module _ (o : Origin) (o_is : x.origin ≡ o) (p b m : ℕ) (p-low : p < k) (b-low : b < k) (pick : Option Choice)
        (f : after c (item_at its p) ≡ Child m) (E : Ended (item_at its b) (item_at its p).tree m)
        (around-m : (n : ℕ) → pick_by c its n (λ a. picks a n) o ≡ around (λ a. picks a n) n (node_after c (item_at its p)) pick p b) where
      t : ℕ
      t = (item_at its p).tree

      picks_are : (n : ℕ) → picks k n ≡ around (λ a. picks a n) n m pick p b
      picks_are n = picks_by o o_is n ∙ (around-m n ∙ ap (λ (v : ℕ). around (λ a. picks a n) n v pick p b) (ap number_next f))

      before_m : (i : ℕ) → i < m → picks k i ≡ picks p i
      before_m i u = picks_are i ∙ around_before (λ a. picks a i) i m pick p b u

      at_m : picks k m ≡ pick
      at_m = picks_are m ∙ around_here (λ a. picks a m) m pick p b

      below_m : (i : ℕ) → m < i → i < (node_in c (item_at its p).tree m).end → picks k i ≡ picks b i
      below_m i u v = picks_are i ∙ around_below (λ a. picks a i) i m pick p b u

      there : m < length (nodes_in c (item_at its p).tree)
      there = (dot_after c K (item_at its p).tree (item_at its p).spot (item_at its p).dot m f).0

      plain_item : moves (item_at its p) x ≡ true → pick ≡ Some Stay → by_origin (derivation_of its) its o ≡ derivation_of its p beside stay (derivation_of its b) done → Agrees k
      plain_item e s d =
          moved_part k p m (stay (derivation_of its b) done) e f (read_by o o_is ∙ d) before_m (ih p p-low)
          (plain_sibling c K its (item_at its p).tree (picks k) (picks b) m there (derivation_of its b) (whole_part b (item_at its p).tree m E (ih b b-low)) below_m E.adjoins (at_m ∙ s))

      adjoined_item : (β σ : ℕ) → moves (item_at its p) x ≡ true → pick ≡ Some (Adjoin β σ) → is_choice c (item_at its p).tree m ≡ true
          → by_origin (derivation_of its) its o ≡ derivation_of its p beside adjoin β (derivation_of its σ) (derivation_of its b) done → Agrees k
      adjoined_item β σ e s y d =
          moved_part k p m (adjoin β (derivation_of its σ) (derivation_of its b) done) e f (read_by o o_is ∙ d) before_m (ih p p-low)
          (adjoined_sibling c K its (item_at its p).tree (picks k) (picks b) m there (derivation_of its b) (whole_part b (item_at its p).tree m E (ih b b-low)) below_m β σ E.adjoins y (at_m ∙ s))

    complete_item : (a b : ℕ) → x.origin ≡ Complete a b → a < k → b < k → moves (item_at its a) x ≡ true → (nx : Next) → after c (item_at its a) ≡ nx
        → plain_next c (item_at its a).tree (item_at its b) nx ≡ true → Agrees k
    complete_item a b o u v e End f g = absurd (cc)
    complete_item a b o u v e Bottom f g = absurd (cc)
    complete_item a b o u v e (Child m) f g =
        let s = and_split (stays c (item_at its a).tree m) _ g in
        plain_item (Complete a b) o a b m u v (Some Stay) f (ended_facts (item_at its b) (item_at its a).tree m s.1) (λ n. refl) e refl refl

    adjoin_item : (a b d : ℕ) → x.origin ≡ AdjoinComplete a b d → b < k → d < k → moves (item_at its d) x ≡ true → (nx : Next) → after c (item_at its d) ≡ nx
        → adjoined_next c (item_at its d).tree (item_at its a) (item_at its b) nx ≡ true → Agrees k
    adjoin_item a b d o u v e End f g = absurd (cc)
    adjoin_item a b d o u v e Bottom f g = absurd (cc)
    adjoin_item a b d o u v e (Child m) f g =
        let t = (item_at its d).tree in
        let s = and_split (listed c t m (item_at its a).tree) _ g in
        let r = and_split (whole (item_at its a)) _ s.1 in
        adjoined_item (AdjoinComplete a b d) o d b m v u (Some (Adjoin (item_at its a).tree a)) f (ended_facts (item_at its b) t m r.1) (λ n. refl)
        (item_at its a).tree a e refl (any_some (taken_trees (node_in c t m).constraint) (item_at its a).tree s.0) refl

    foot_item : (a b : ℕ) → x.origin ≡ FootComplete a b → (s : Spot) → x.spot ≡ s → foot_spot c x.tree s ≡ true → eqb x.dot 1 ≡ true → Agrees k
    foot_item a b o Top e f g = absurd (cc)
    foot_item a b o (At n) e f g =
        let z = foot_true (node_in c x.tree n).kind f in
        rw (e, eqb-true x.dot 1 g, foot_row c x.tree n z.0 z.1, read_by (FootComplete a b) o)
        (record { long = refl; walks = λ h. refl; told = λ i p q r. absurd (omega arith) })

    by_step : (o : Origin) → x.origin ≡ o → came_by c (item_at its) k x o ≡ true → Agrees k
    by_step Start e h = fresh_item Start e refl h
    by_step (Scan a) e h =
        let p = and_split (ltb a k) _ h in
        let q = and_split (moves (item_at its a) x) _ p.1 in
        scan_item a e (ltb-true a k p.0) q.0 (after c (item_at its a)) refl q.1
    by_step (Predict a) e h = fresh_item (Predict a) e refl h
    by_step (Complete a b) e h =
        let p = and_split (ltb a k) _ h in
        let q = and_split (ltb b k) _ p.1 in
        let r = and_split (moves (item_at its a) x) _ q.1 in
        complete_item a b e (ltb-true a k p.0) (ltb-true b k q.0) r.0 (after c (item_at its a)) refl r.1
    by_step (AdjoinPredict a) e h = fresh_item (AdjoinPredict a) e refl h
    by_step (FootPredict a) e h = fresh_item (FootPredict a) e refl h
    by_step (FootComplete a b) e h =
        let p = and_split (foot_spot c x.tree x.spot) _ h in
        foot_item a b e x.spot refl p.0 p.1
    by_step (AdjoinComplete a b d) e h =
        let p = and_split (ltb a k) _ h in
        let q = and_split (ltb b k) _ p.1 in
        let r = and_split (ltb d k) _ q.1 in
        let s = and_split (moves (item_at its d) x) _ r.1 in
        adjoin_item a b d e (ltb-true b k q.0) (ltb-true d k r.0) s.0 (after c (item_at its d)) refl s.1

  agree_below : (b k : ℕ) → k < b → k < length its → Agrees k
  unfolding came
  agree_below zero k h l = absurd (omega arith)
  agree_below (suc b) k h l = by_step k l (λ a u. agree_below b a (omega arith) (omega arith)) (item_at its k).origin refl (C k l)

  pub agree : (k : ℕ) → k < length its → Agrees k
  agree k l = agree_below (suc k) k (omega arith) l
