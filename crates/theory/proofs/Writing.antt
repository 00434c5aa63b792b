-- Each step with item t as a premise and no premise above t is a conclusion.
use Rattle.std.proofs.Common.{◌≡◌, ℕ, ◌+◌, ◌<◌, ◌≤◌, Bool, true, cond, List, [], ◌++◌, map, length, Some, Option, sym, refl, ap, ◌∙◌, subst, arith, eq-eqb}
use Rattle.std.specs.Option.{option_to_list}
use Rattle.format.specs.declared.node.Kind.{Kind}
use Rattle.format.specs.declared.node.Kind.TheVariants.{Inner, Word, Empty, Foot}
use Rattle.format.specs.declared.spot.Spot.{Spot}
use Rattle.format.specs.declared.spot.Spot.TheVariants.{Top, At}
use Rattle.format.specs.declared.spot.Next.{Next}
use Rattle.format.specs.declared.spot.Next.TheVariants.{Child}
use Rattle.format.specs.Parts.{Contents}
use Rattle.format.specs.Judge.{adjoinable}
use Rattle.format.specs.Keeps.{node_in, is_foot}
use Rattle.format.specs.Questions.{listing}
use Rattle.words.specs.Meaning.{Meaning}
use Rattle.steps.specs.declared.item.Item.{Item}
use Rattle.steps.specs.declared.item.Origin.TheVariants.{Scan, Predict, Complete, AdjoinPredict, FootPredict, FootComplete, AdjoinComplete}
use Rattle.steps.specs.Items.{joined, fresh, moved, item_at}
use Rattle.steps.specs.Orders.{PairStep, TripleStep, pairs, triples}
use Rattle.steps.specs.Conclusions.{after, finished, site_kind, site_next, site_of, stays, listed, scan_edge, scan_kind, scan_next, scan as scans, predict_at, predict as predicts, complete_at, complete as completed, adjoin_tree, adjoin_predict_at, adjoin_predict as adjoin-predicts, at_foot, starts_foot, foot_site, foot_predict as foot-predicts, lists_at, foot_complete as foot-completed, is_top, adjoin_at, adjoin_complete as adjoin-completed, conclusions}
use Rattle.theory.specs.Members.{Among, here}
use Rattle.theory.specs.Steps.{Step, start, scan_word, scan_empty, predict, complete, adjoin_predict, foot_predict, foot_complete, adjoin_complete, Below, premises}
use Rattle.theory.proofs.Members.{among_left, among_right, among_none, among_one, among_two, among_three, to_map, to_when, to_upto}
use Rattle.theory.proofs.Orders.{pair_at, triple_at, to_pairs, to_triples}
use Rattle.theory.proofs.Listings.{to_listing}
use Rattle.theory.proofs.Tests.{and_both, true_spot}

kind_is : (n : ℕ) (k : Kind) → adjoinable k ≡ true → site_kind n k ≡ Some n
kind_is n (Inner l) e = refl
kind_is n (Word w) e = cc
kind_is n Empty e = cc
kind_is n (Foot l) e = refl

site_is : (c : Contents) (x : Item) (n : ℕ) → after c x ≡ Child n → adjoinable (node_in c x.tree n).kind ≡ true → site_of c x ≡ Some n
site_is c x n e k = ap (λ (v : Next). site_next c x.tree v) e ∙ kind_is n (node_in c x.tree n).kind k

foot_starts : (c : Contents) (x : Item) (f l : ℕ) → x.spot ≡ At f → (node_in c x.tree f).kind ≡ Foot l → x.dot ≡ 0 → x.i ≡ x.j → starts_foot c x ≡ true
foot_starts c x f l e k d i =
    ap (λ (v : Spot). at_foot c x v) e ∙ and_both (ap is_foot k) (and_both (eq-eqb x.dot 0 d) (eq-eqb x.i x.j i))

-- Each step's list ----------------------------------------------------------------------------------------------------------

to_scan : (c : Contents) (m : Meaning) (a n : ℕ) (x : Item) (k : Kind) {y : Item} → after c x ≡ Child n → (node_in c x.tree n).kind ≡ k
    → Among Item y (scan_kind m a x k) → Among Item y (scans c m a x)
to_scan c m a n x k {y} e d h =
    subst (λ (v : Next). Among Item y (scan_next c m a x v)) (sym e) (subst (λ (v : Kind). Among Item y (scan_kind m a x v)) (sym d) h)

to_word : (m : Meaning) (a w k : ℕ) (x : Item) → m.edge x.j w k ≡ true → k ≤ m.last
    → Among Item (moved x k x.p x.q (Scan a)) (scan_kind m a x (Word w))
to_word m a w k x e l = to_upto (m.last + 1) (scan_edge m a x w) k (omega arith) (to_when (moved x k x.p x.q (Scan a)) e)

-- where a node stands after the dot
at_site : (c : Contents) (x : Item) (n : ℕ) (F : Option ℕ → List Item) {y : Item} → after c x ≡ Child n → adjoinable (node_in c x.tree n).kind ≡ true
    → Among Item y (F (Some n)) → Among Item y (F (site_of c x))
at_site c x n F {y} e k h = subst (λ (v : Option ℕ). Among Item y (F v)) (sym (site_is c x n e k)) h

to_predict : (c : Contents) (a n : ℕ) (x : Item) → after c x ≡ Child n → adjoinable (node_in c x.tree n).kind ≡ true → stays c x.tree n ≡ true
    → Among Item (fresh x.tree (At n) x.j (Predict a)) (predicts c a x)
to_predict c a n x e k d = at_site c x n (predict_at c a x) e k (to_when (fresh x.tree (At n) x.j (Predict a)) d)

to_complete : (c : Contents) (a b n : ℕ) (x y : Item) → after c x ≡ Child n → adjoinable (node_in c x.tree n).kind ≡ true → stays c x.tree n ≡ true
    → y.tree ≡ x.tree → y.spot ≡ At n → y.i ≡ x.j → finished c y ≡ true
    → Among Item (moved x y.j (joined x.p y.p) (joined x.q y.q) (Complete a b)) (option_to_list (completed c a x b y))
to_complete c a b n x y e k d e1 e2 e3 e4 =
    at_site c x n (λ o. option_to_list (complete_at c a x b y o)) e k
    (to_when (moved x y.j (joined x.p y.p) (joined x.q y.q) (Complete a b))
    (and_both (eq-eqb y.tree x.tree e1) (and_both (true_spot e2) (and_both (eq-eqb y.i x.j e3) (and_both d e4)))))

to_adjoin_predict : (c : Contents) (a n β : ℕ) (x : Item) → after c x ≡ Child n → adjoinable (node_in c x.tree n).kind ≡ true
    → β < length c.trees → listed c x.tree n β ≡ true → Among Item (fresh β Top x.j (AdjoinPredict a)) (adjoin-predicts c a x)
to_adjoin_predict c a n β x e k l d =
    at_site c x n (adjoin_predict_at c a x) e k
    (to_upto (length c.trees) (adjoin_tree c a x n) β l (to_when (fresh β Top x.j (AdjoinPredict a)) d))

to_foot_predict : (c : Contents) (a t n : ℕ) (x : Item) → starts_foot c x ≡ true → listed c t n x.tree ≡ true
    → Among Item (fresh t (At n) x.j (FootPredict a)) (foot-predicts c a x)
to_foot_predict c a t n x e d =
    subst (λ (v : Bool). Among Item (fresh t (At n) x.j (FootPredict a)) (cond v (map (foot_site a x) (listing c x.tree)) [])) (sym e)
    (to_map (foot_site a x) (to_listing c x.tree t n d))

to_foot_complete : (c : Contents) (a b n : ℕ) (x y : Item) → starts_foot c y ≡ true → y.i ≡ x.i → x.spot ≡ At n → listed c x.tree n y.tree ≡ true
    → finished c x ≡ true
    → Among Item (record { tree = y.tree; spot = y.spot; dot = 1; i = x.i; j = x.j; p = x.i; q = x.j; origin = FootComplete a b }) (option_to_list (foot-completed c a x b y))
to_foot_complete c a b n x y e e1 e2 d e3 =
    to_when (record { tree = y.tree; spot = y.spot; dot = 1; i = x.i; j = x.j; p = x.i; q = x.j; origin = FootComplete a b })
    (and_both e (and_both (eq-eqb y.i x.i e1) (and_both (ap (λ (v : Spot). lists_at c x.tree v y.tree) e2 ∙ d) e3)))

to_adjoin_complete : (c : Contents) (a b d n : ℕ) (x y z : Item) → after c z ≡ Child n → adjoinable (node_in c z.tree n).kind ≡ true
    → listed c z.tree n x.tree ≡ true → x.spot ≡ Top → x.dot ≡ 1 → x.i ≡ z.j → y.tree ≡ z.tree → y.spot ≡ At n → y.i ≡ x.p → y.j ≡ x.q
    → finished c y ≡ true
    → Among Item (moved z x.j (joined y.p z.p) (joined y.q z.q) (AdjoinComplete a b d)) (option_to_list (adjoin-completed c a x b y d z))
to_adjoin_complete c a b d n x y z e k h e1 e2 e3 e4 e5 e6 e7 e8 =
    at_site c z n (λ o. option_to_list (adjoin_at c a x b y d z o)) e k
    (to_when (moved z x.j (joined y.p z.p) (joined y.q z.q) (AdjoinComplete a b d))
    (and_both (and_both (and_both (ap is_top e1) (eq-eqb x.dot 1 e2)) (and_both (eq-eqb y.i x.p e6) (eq-eqb y.j x.q e7)))
    (and_both (eq-eqb y.tree z.tree e4) (and_both (true_spot e5) (and_both (eq-eqb x.i z.j e3) (and_both h e8))))))

-- All ----------------------------------------------------------------------------------------------------------------------

module _ (c : Contents) (m : Meaning) (its : List Item) (t : ℕ) where
  abbrev x_t : Item
  x_t = item_at its t

  abbrev r7 : List Item
  r7 = triples (adjoin-completed c) its t

  abbrev r6 : List Item
  r6 = pairs (foot-completed c) its t ++ r7

  abbrev r5 : List Item
  r5 = foot-predicts c t x_t ++ r6

  abbrev r4 : List Item
  r4 = adjoin-predicts c t x_t ++ r5

  abbrev r3 : List Item
  r3 = pairs (completed c) its t ++ r4

  abbrev r2 : List Item
  r2 = predicts c t x_t ++ r3

  in1 : {y : Item} → Among Item y (scans c m t x_t) → Among Item y (conclusions c m its t)
  in1 h = among_left r2 h

  past1 : {y : Item} → Among Item y r2 → Among Item y (conclusions c m its t)
  past1 h = among_right (scans c m t x_t) h

  past2 : {y : Item} → Among Item y r3 → Among Item y (conclusions c m its t)
  past2 h = past1 (among_right (predicts c t x_t) h)

  past3 : {y : Item} → Among Item y r4 → Among Item y (conclusions c m its t)
  past3 h = past2 (among_right (pairs (completed c) its t) h)

  past4 : {y : Item} → Among Item y r5 → Among Item y (conclusions c m its t)
  past4 h = past3 (among_right (adjoin-predicts c t x_t) h)

  past5 : {y : Item} → Among Item y r6 → Among Item y (conclusions c m its t)
  past5 h = past4 (among_right (foot-predicts c t x_t) h)

  past6 : {y : Item} → Among Item y r7 → Among Item y (conclusions c m its t)
  past6 h = past5 (among_right (pairs (foot-completed c) its t) h)

  -- a premise that is item t
  one : (P : ℕ → Item → List Item) {a : ℕ} {x y : Item} → t ≡ a → item_at its a ≡ x → Among Item y (P a x) → Among Item y (P t x_t)
  one P {a} {x} {y} q e h = subst (λ (v : ℕ). Among Item y (P v (item_at its v))) (sym q) (subst (λ (v : Item). Among Item y (P a v)) (sym e) h)

  two : (F : PairStep) (a b : ℕ) {x z y : Item} → item_at its a ≡ x → item_at its b ≡ z → Among Item y (option_to_list (F a x b z)) → Among Item y (pair_at F its a b)
  two F a b {x} {z} {y} e q h =
      subst (λ (v : Item). Among Item y (option_to_list (F a v b (item_at its b)))) (sym e) (subst (λ (v : Item). Among Item y (option_to_list (F a x b v))) (sym q) h)

  three : (F : TripleStep) (a b d : ℕ) {x z w y : Item} → item_at its a ≡ x → item_at its b ≡ z → item_at its d ≡ w
      → Among Item y (option_to_list (F a x b z d w)) → Among Item y (triple_at F its a b d)
  three F a b d {x} {z} {w} {y} e q u h =
      subst (λ (v : Item). Among Item y (option_to_list (F a v b (item_at its b) d (item_at its d)))) (sym e)
      (subst (λ (v : Item). Among Item y (option_to_list (F a x b v d (item_at its d)))) (sym q)
      (subst (λ (v : Item). Among Item y (option_to_list (F a x b z d v))) (sym u) h))

  pub to_conclusions : t < length its → {y : Item} → Step c m (Below its (t + 1)) y → Among ℕ t (premises y.origin) → Among Item y (conclusions c m its t)
  to_conclusions l (start e) u = absurd (among_none u)
  to_conclusions l (scan_word {a = a} {n = n} {w = w} {k = k} {x = x} r e d h f) u =
      in1 (one (scans c m) (among_one u) r.1 (to_scan c m a n x (Word w) e d (to_word m a w k x h f)))
  to_conclusions l (scan_empty {a = a} {n = n} {x = x} r e d) u =
      in1 (one (scans c m) (among_one u) r.1 (to_scan c m a n x Empty e d here))
  to_conclusions l (predict {a = a} {n = n} {x = x} r e k d) u =
      past1 (among_left r3 (one (predicts c) (among_one u) r.1 (to_predict c a n x e k d)))
  to_conclusions l (complete {a = a} {b = b} {n = n} {x = x} {y = y} r s e k d e1 e2 e3 e4) u =
      past2 (among_left r4 (to_pairs (completed c) its t a b l r.0 s.0 (among_two u)
      (two (completed c) a b r.1 s.1 (to_complete c a b n x y e k d e1 e2 e3 e4))))
  to_conclusions l (adjoin_predict {a = a} {n = n} {β = β} {x = x} r e k f d) u =
      past3 (among_left r5 (one (adjoin-predicts c) (among_one u) r.1 (to_adjoin_predict c a n β x e k f d)))
  to_conclusions l (foot_predict {a = a} {f = f} {l = k} {t = v} {n = n} {x = x} r e1 e2 e3 e4 d) u =
      past4 (among_left r6 (one (foot-predicts c) (among_one u) r.1 (to_foot_predict c a v n x (foot_starts c x f k e1 e2 e3 e4) d)))
  to_conclusions l (foot_complete {a = a} {b = b} {n = n} {f = f} {l = k} {x = x} {y = y} r s e1 d e3 e4 e5 e6 e7 e8) u =
      past5 (among_left r7 (to_pairs (foot-completed c) its t a b l r.0 s.0 (among_two u)
      (two (foot-completed c) a b r.1 s.1 (to_foot_complete c a b n x y (foot_starts c y f k e4 e5 e6 e7) e8 e1 d e3))))
  to_conclusions l (adjoin_complete {a = a} {b = b} {d = d} {n = n} {x = x} {y = y} {z = z} r s q e k h e1 e2 e3 e4 e5 e6 e7 e8) u =
      past6 (to_triples (adjoin-completed c) its t a b d l r.0 s.0 q.0 (among_three u)
      (three (adjoin-completed c) a b d r.1 s.1 q.1 (to_adjoin_complete c a b d n x y z e k h e1 e2 e3 e4 e5 e6 e7 e8)))
