-- What steps conclude came by them.
use Rattle.std.proofs.Common.{◌≡◌, ℕ, zero, suc, ◌+◌, ◌<◌, ◌≤◌, Bool, true, false, cond, not, ◌&&◌, ltb, List, length, sym, refl, ap, ◌∙◌, subst, arith, ltb-true, lt-ltb, eq-eqb}
use native.Mathlib.Decide.{dec_lt}
use Rattle.format.specs.declared.node.Kind.{Kind}
use Rattle.format.specs.declared.node.Kind.TheVariants.{Word, Empty}
use Rattle.format.specs.declared.spot.Spot.TheVariants.{At}
use Rattle.format.specs.declared.spot.Next.{Next}
use Rattle.format.specs.declared.spot.Next.TheVariants.{Child}
use Rattle.format.specs.Parts.{Contents}
use Rattle.format.specs.Judge.{adjoinable}
use Rattle.format.specs.Keeps.{node_in, is_foot}
use Rattle.words.specs.Meaning.{Meaning}
use Rattle.steps.specs.declared.item.Item.{Item}
use Rattle.steps.specs.declared.item.Origin.{Origin}
use Rattle.steps.specs.declared.item.Origin.TheVariants.{Start, Scan, Predict, Complete, AdjoinPredict, FootPredict, FootComplete, AdjoinComplete}
use Rattle.steps.specs.Items.{moved, item_at}
use Rattle.steps.specs.Conclusions.{after, finished, is_top, conclusions, starts}
use Rattle.steps.specs.Runs.{State, Working, draw_all, goes_on, process, worked}
use Rattle.theory.specs.Steps.{Step, start, scan_word, scan_empty, predict, complete, adjoin_predict, foot_predict, foot_complete, adjoin_complete, Below}
use Rattle.theory.specs.Came.{moves, leaf_next, ends_at, plain_next, adjoined_next, foot_spot, came_by, came, Came}
use Rattle.theory.proofs.Tests.{and_split, and_both, spot_refl, true_spot}
use Rattle.theory.proofs.Premises.{more}
use Rattle.theory.proofs.Draws.{Prefix, drawn_all}
use Rattle.theory.proofs.Reading.{from_conclusions}
use Rattle.theory.proofs.Charts.{from_starts}

-- whatever the positions and the origin
moves_moved : (x : Item) → moves x (moved x 0 0 0 Start) ≡ true
moves_moved x = and_both (eq-eqb x.tree x.tree refl) (and_both (spot_refl x.spot) (eq-eqb (x.dot + 1) (x.dot + 1) refl))

module _ (c : Contents) where
  leaf_word : (t n w : ℕ) {s : Next} → s ≡ Child n → (node_in c t n).kind ≡ Word w → leaf_next c t s ≡ true
  leaf_word t n w e k = ap (leaf_next c t) e ∙ ap (λ (v : Kind). not (adjoinable v)) k

  leaf_empty : (t n : ℕ) {s : Next} → s ≡ Child n → (node_in c t n).kind ≡ Empty → leaf_next c t s ≡ true
  leaf_empty t n e k = ap (leaf_next c t) e ∙ ap (λ (v : Kind). not (adjoinable v)) k

  ended : (y : Item) (t n : ℕ) → adjoinable (node_in c t n).kind ≡ true → y.tree ≡ t → y.spot ≡ At n → finished c y ≡ true → ends_at c y t n ≡ true
  ended y t n k e s f = and_both k (and_both (eq-eqb y.tree t e) (and_both (true_spot s) f))

  -- an item that a step concludes from the items that `at` gives below b
  pub step_came : (m : Meaning) (at : ℕ → Item) (b k : ℕ) → b ≤ k → {y : Item} → Step c m (λ a x. (a < b) × (at a ≡ x)) y → came_by c at k y y.origin ≡ true
  step_came m at b k l (start e) = refl
  step_came m at b k l (scan_word {a = a} {n = n} {w = w} {x = x} r e h d g) =
      subst (λ (v : Item). (ltb a k && (moves v (moved x 0 0 0 Start) && leaf_next c v.tree (after c v))) ≡ true) (sym r.1)
      (and_both (lt-ltb a k (let u = r.0 in omega arith)) (and_both (moves_moved x) (leaf_word x.tree n w e h)))
  step_came m at b k l (scan_empty {a = a} {n = n} {x = x} r e h) =
      subst (λ (v : Item). (ltb a k && (moves v (moved x 0 0 0 Start) && leaf_next c v.tree (after c v))) ≡ true) (sym r.1)
      (and_both (lt-ltb a k (let u = r.0 in omega arith)) (and_both (moves_moved x) (leaf_empty x.tree n e h)))
  step_came m at b k l (predict r e h d) = refl
  step_came m at b k l (complete {a = a} {b = b'} {n = n} {x = x} {y = y} r s e h d e1 e2 e3 e4) =
      subst (λ (v : Item). (ltb a k && (ltb b' k && (moves v (moved x 0 0 0 Start) && plain_next c v.tree (at b') (after c v)))) ≡ true) (sym r.1)
      (subst (λ (v : Item). (ltb a k && (ltb b' k && (moves x (moved x 0 0 0 Start) && plain_next c x.tree v (after c x)))) ≡ true) (sym s.1)
      (and_both (lt-ltb a k (let u = r.0 in omega arith)) (and_both (lt-ltb b' k (let u = s.0 in omega arith)) (and_both (moves_moved x)
      (ap (plain_next c x.tree y) e ∙ and_both d (ended y x.tree n h e1 e2 e4))))))
  step_came m at b k l (adjoin_predict r e h g d) = refl
  step_came m at b k l (foot_predict r e1 e2 e3 e4 d) = refl
  step_came m at b k l (foot_complete {f = f} {y = y} r s e1 e2 e3 e4 e5 e6 e7 e8) =
      and_both (ap (foot_spot c y.tree) e4 ∙ ap is_foot e5) refl
  step_came m at b k l (adjoin_complete {a = a} {b = b'} {d = d'} {n = n} {x = x} {y = y} {z = z} r s u e h g e1 e2 e3 e4 e5 e6 e7 e8) =
      subst (λ (v : Item). (ltb a k && (ltb b' k && (ltb d' k && (moves v (moved z 0 0 0 Start) && adjoined_next c v.tree (at a) (at b') (after c v))))) ≡ true) (sym u.1)
      (subst (λ (v : Item). (ltb a k && (ltb b' k && (ltb d' k && (moves z (moved z 0 0 0 Start) && adjoined_next c z.tree v (at b') (after c z))))) ≡ true) (sym r.1)
      (subst (λ (v : Item). (ltb a k && (ltb b' k && (ltb d' k && (moves z (moved z 0 0 0 Start) && adjoined_next c z.tree x v (after c z))))) ≡ true) (sym s.1)
      (and_both (lt-ltb a k (let v = r.0 in omega arith)) (and_both (lt-ltb b' k (let v = s.0 in omega arith)) (and_both (lt-ltb d' k (let v = u.0 in omega arith))
      (and_both (moves_moved z)
      (ap (adjoined_next c z.tree x y) e ∙ and_both g (and_both (and_both (ap is_top e1) (eq-eqb x.dot 1 e2)) (ended y z.tree n h e4 e5 e8)))))))))

  -- premises below k are looked up in another list with the same items there
  pub came_along : (at at' : ℕ → Item) (k : ℕ) → ((a : ℕ) → a < k → at a ≡ at' a) → (x : Item) (o : Origin) → came_by c at k x o ≡ true → came_by c at' k x o ≡ true
  came_along at at' k e x Start h = h
  came_along at at' k e x (Scan a) h =
      let b = and_split (ltb a k) _ h in
      subst (λ (v : Item). (ltb a k && (moves v x && leaf_next c v.tree (after c v))) ≡ true) (e a (ltb-true a k b.0)) h
  came_along at at' k e x (Predict a) h = h
  came_along at at' k e x (Complete a b) h =
      let p = and_split (ltb a k) _ h in
      let q = and_split (ltb b k) _ p.1 in
      subst (λ (v : Item). (ltb a k && (ltb b k && (moves v x && plain_next c v.tree (at' b) (after c v)))) ≡ true) (e a (ltb-true a k p.0))
      (subst (λ (v : Item). (ltb a k && (ltb b k && (moves (at a) x && plain_next c (at a).tree v (after c (at a))))) ≡ true) (e b (ltb-true b k q.0)) h)
  came_along at at' k e x (AdjoinPredict a) h = h
  came_along at at' k e x (FootPredict a) h = h
  came_along at at' k e x (FootComplete a b) h = h
  came_along at at' k e x (AdjoinComplete a b d) h =
      let p = and_split (ltb a k) _ h in
      let q = and_split (ltb b k) _ p.1 in
      let r = and_split (ltb d k) _ q.1 in
      subst (λ (v : Item). (ltb a k && (ltb b k && (ltb d k && (moves v x && adjoined_next c v.tree (at' a) (at' b) (after c v))))) ≡ true) (e d (ltb-true d k r.0))
      (subst (λ (v : Item). (ltb a k && (ltb b k && (ltb d k && (moves (at d) x && adjoined_next c (at d).tree v (at' b) (after c (at d)))))) ≡ true) (e a (ltb-true a k p.0))
      (subst (λ (v : Item). (ltb a k && (ltb b k && (ltb d k && (moves (at d) x && adjoined_next c (at d).tree (at a) v (after c (at d)))))) ≡ true) (e b (ltb-true b k q.0)) h))

  -- items drawn from conclusions
  came_drawn : (m : Meaning) (its : List Item) (b : ℕ) (r : List Item) → b ≤ length its → Prefix its r
      → ((k : ℕ) → length its ≤ k → k < length r → Step c m (Below its b) (item_at r k)) → Came c its → Came c r
  unfolding came
  came_drawn m its b r l p new old k h = by_place (dec_lt k (length its))
    where
      by_place : Dec (k < length its) → came_by c (item_at r) k (item_at r k) (item_at r k).origin ≡ true
      by_place (yes u) =
          subst (λ (v : Item). came_by c (item_at r) k v v.origin ≡ true) (sym (p.agrees k u))
          (came_along (item_at its) (item_at r) k (λ a w. sym (p.agrees a (omega arith))) (item_at its k) (item_at its k).origin (old k u))
      by_place (no u) =
          step_came m (item_at r) b k (omega arith) (more (λ a x v. (v.0, p.agrees a (let z = v.0 in omega arith) ∙ v.1)) (new k (omega arith) h))

  came_process : (m : Meaning) (cap : ℕ) (w : Working) → w.processed < length w.state.items → Came c w.state.items → Came c (process c m cap w).state.items
  came_process m cap w l h =
      let D = drawn_all cap w.state (conclusions c m w.state.items w.processed) in
      came_drawn m w.state.items (w.processed + 1) (process c m cap w).state.items (omega arith) D.grows
      (λ k a b. (from_conclusions c m w.state.items w.processed (D.new k a b)).0) h

  -- Work keeps it, whatever the meaning of its source.
  pub came_worked : (m : Meaning) (cap n : ℕ) (w : Working) → Came c w.state.items → Came c (worked c m cap n w).state.items
  came_worked m cap zero w h = h
  came_worked m cap (suc n) w h = by_test (goes_on w) refl (λ u. came_worked m cap n (process c m cap w) u)
    where
      by_test : (b : Bool) → goes_on w ≡ b → (Came c (process c m cap w).state.items → Came c (worked c m cap n (process c m cap w)).state.items)
          → Came c (cond b (worked c m cap n (process c m cap w)) w).state.items
      by_test true e f = f (came_process m cap w (ltb-true w.processed (length w.state.items) (and_split (not w.state.full) _ e).1) h)
      by_test false e f = h

  pub came_starts : (cap : ℕ) (s : State) → length s.items ≡ 0 → Came c (draw_all cap s (starts c)).items
  came_starts cap s e =
      let D = drawn_all cap s (starts c) in
      came_drawn none s.items 0 (draw_all cap s (starts c)).items (omega arith) D.grows (λ k a b. from_starts c none (D.new k a b)) (λ k h. absurd (omega arith))
    where
      -- no positions and no edges
      none : Meaning
      none = record { last = 0; edge = λ i w j. false }
