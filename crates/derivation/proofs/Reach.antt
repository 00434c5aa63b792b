-- A derivation that spans makes its item derivable.
use Rattle.std.proofs.Common.{◌≡◌, ℕ, zero, suc, ◌<◌, List, [], ◌∷◌, ◌++◌, length, drop, sym, refl, ap, ◌∙◌, subst, arith}
use Rattle.format.specs.declared.node.Kind.TheVariants.{Foot}
use Rattle.format.specs.declared.spot.Spot.{Spot}
use Rattle.format.specs.declared.spot.Spot.TheVariants.{Top, At}
use Rattle.format.specs.declared.spot.Next.{Next}
use Rattle.format.specs.declared.spot.Next.TheVariants.{Bottom}
use Rattle.format.specs.Parts.{Contents}
use Rattle.format.specs.Keeps.{nodes_in, node_in, Keeps}
use Rattle.format.specs.Questions.{after_dot}
use Rattle.words.specs.Meaning.{Meaning, Bounded}
use Rattle.steps.specs.Items.{missing, joined}
use Rattle.derivation.specs.Derivations.{Derivation, below, tree_row}
use Rattle.derivation.specs.Spans.{Gaps, Spans, s_done, s_word, s_empty, s_bottom, s_plain, s_adjoined, starts_of, ends_of}
use Rattle.derivation.proofs.Joins.{joined_missing, joined_comm, joined_assoc, starts_++, ends_++}
use Rattle.derivation.proofs.Gaps.{All, a_nil, a_cons, all_left, all_right, all_++}
use Rattle.derivation.proofs.Feet.{nodes_length}
use Rattle.derivation.proofs.Rows.{past, past_root, after_is, drop_is, past_end, bottom_foot, bottom_first, bottom_not_top}
use Rattle.derivation.proofs.Closed as closed

module _ (c : Contents) (m : Meaning) (K : Keeps c) (B : Bounded m) where
  abbrev Has : ℕ → Spot → ℕ → ℕ → ℕ → ℕ → ℕ → Type 0
  Has t s d i j p q = closed.Has c m K B t s d i j p q

  -- once its first item is derivable, the foot of tree t spans k to l
  abbrev pub FootOk : ℕ → ℕ → ℕ → Type 0
  FootOk t k l = (n x : ℕ) → (node_in c t n).kind ≡ Foot x → Has t (At n) 0 k k missing missing → Has t (At n) 1 k l k l

  -- the first item of the foot of tree t, at k, is derivable
  abbrev pub Reached : ℕ → ℕ → ℕ → Type 0
  Reached t k l = (n : ℕ) × (x : ℕ) × ((node_in c t n).kind ≡ Foot x) × Has t (At n) 0 k k missing missing

  shaped : (t : ℕ) (s : Spot) (i j p q : ℕ) → Has t s 0 i j p q → Has t s 0 j j missing missing
  shaped t s i j p q h =
      let e = closed.c_fresh c m K B t s i j p q h in
      subst (λ (v : ℕ). Has t s 0 j j missing v) e.2 (subst (λ (v : ℕ). Has t s 0 j j v q) e.1 (subst (λ (v : ℕ). Has t s 0 v j p q) e.0 h))

  bottom_step : (t : ℕ) (s : Spot) (d i j p q k : ℕ) → after_dot c t s d ≡ Bottom → FootOk t j k → Has t s d i j p q
      → Has t s (suc d) i k (joined p j) (joined q k) × Reached t j k
  bottom_step t Top d i j p q k e F h = absurd (let z = bottom_not_top c t d e in omega arith)
  bottom_step t (At n) (suc d) i j p q k e F h = absurd (let z = bottom_first c t n d e in omega arith)
  bottom_step t (At n) zero i j p q k e F h =
      let f = bottom_foot c t n 0 e in
      let h0 = shaped t (At n) i j p q h in
      let E = closed.c_fresh c m K B t (At n) i j p q h in (
        subst (λ (v : ℕ). Has t (At n) 1 v k (joined p j) (joined q k)) (sym E.0)
            (subst (λ (v : ℕ). Has t (At n) 1 j k (joined v j) (joined q k)) (sym E.1)
            (subst (λ (v : ℕ). Has t (At n) 1 j k j (joined v k)) (sym E.2) (F n f.0 f.1 h0))),
        (n, f.0, f.1, h0),
      )

  only_reached : {t k l : ℕ} → All (Reached t) ((k, l) ∷ []) → Reached t k l
  only_reached (a_cons r al) = r

  -- foot positions after one more part of a row
  regroup : (t : ℕ) (s : Spot) (d i l p q : ℕ) (gs hs : Gaps)
      → Has t s d i l (joined (joined p (starts_of gs)) (starts_of hs)) (joined (joined q (ends_of gs)) (ends_of hs))
      → Has t s d i l (joined p (starts_of (gs ++ hs))) (joined q (ends_of (gs ++ hs)))
  regroup t s d i l p q gs hs h =
      subst (λ (v : ℕ). Has t s d i l v (joined q (ends_of (gs ++ hs))))
      (joined_assoc p (starts_of gs) (starts_of hs) ∙ ap (λ (r : ℕ). joined p r) (sym (starts_++ gs hs)))
      (subst (λ (v : ℕ). Has t s d i l (joined (joined p (starts_of gs)) (starts_of hs)) v)
      (joined_assoc q (ends_of gs) (ends_of hs) ∙ ap (λ (r : ℕ). joined q r) (sym (ends_++ gs hs))) h)

  -- the row of a tree is its root
  pub root_dot : (t : ℕ) → t < length c.trees → (i l p q : ℕ) → Has t Top (past 0 (tree_row c t)) i l p q → Has t Top 1 i l p q
  root_dot t h i l p q x =
      let w = (K.whole t h).0 in
      let y = nodes_length c K t h in
      subst (λ (v : ℕ). Has t Top v i l p q) (past_root (nodes_in c t) (omega arith)) x

  -- From an item before a row, and a derivation of the row, the item behind it is derivable, if at each gap the foot spans it; and at
  -- each gap the foot is reached.
  pub reach : {t : ℕ} {ks : List Next} {f : Derivation} {j l : ℕ} {gs : Gaps} → Spans c m t ks f j l gs → All (FootOk t) gs
      → (s : Spot) (d i p q : ℕ) → drop d (below c t s) ≡ ks → Has t s d i j p q
      → Has t s (past d ks) i l (joined p (starts_of gs)) (joined q (ends_of gs)) × All (Reached t) gs
  reach {t} {l = l} s_done al s d i p q e h =
      (subst (λ (v : ℕ). Has t s d i l v (joined q missing)) (sym (joined_missing p)) (subst (λ (v : ℕ). Has t s d i l p v) (sym (joined_missing q)) h), a_nil)
  reach {t} {j = j} (s_word {n = n} {w = w} {k = k} e1 e2 u) al s d i p q e h =
      reach u al s (suc d) i p q (drop_is d (below c t s) e) (closed.c_word c m K B t s d i j p q n w k (after_is c t s d e) e1 e2 h)
  reach {t} {j = j} (s_empty {n = n} e1 u) al s d i p q e h =
      reach u al s (suc d) i p q (drop_is d (below c t s) e) (closed.c_empty c m K B t s d i j p q n (after_is c t s d e) e1 h)
  reach {t} {ks} {j = j} {l = l} (s_bottom {ks = ks1} {k = k} {gs = gs} u) (a_cons F al) s d i p q e h =
      let D = bottom_step t s d i j p q k (after_is c t s d e) F h in
      let R = reach u al s (suc d) i (joined p j) (joined q k) (drop_is d (below c t s) e) D.0 in (
        subst (λ (v : ℕ). Has t s (past (suc d) ks1) i l v (joined q (joined k (ends_of gs)))) (joined_assoc p j (starts_of gs))
            (subst (λ (v : ℕ). Has t s (past (suc d) ks1) i l (joined (joined p j) (starts_of gs)) v) (joined_assoc q k (ends_of gs)) R.0),
        a_cons D.1 R.1,
      )
  reach {t} {j = j} {l = l} (s_plain {n = n} {ks = ks1} {k = k} {gs = gs} {hs = hs} e1 e2 a u) al s d i p q e h =
      let nx = after_is c t s d e in
      let P = closed.c_predict c m K B t s d i j p q n nx e1 e2 h in
      let A = reach a (all_left gs hs al) (At n) 0 j missing missing refl P in
      let D = closed.c_complete c m K B t s d i j p q n (past 0 (below c t (At n))) k (starts_of gs) (ends_of gs) nx e1 e2 h A.0
      (past_end c t (At n) 0 (below c t (At n)) refl) in
      let R = reach u (all_right gs al) s (suc d) i (joined p (starts_of gs)) (joined q (ends_of gs)) (drop_is d (below c t s) e) D in
      (regroup t s (past (suc d) ks1) i l p q gs hs R.0, all_++ A.1 R.1)
  reach {t} {j = j} {l = l} (s_adjoined {n = n} {β = β} {ks = ks1} {l = x} {p = y} {q = z} {gs = gs} {hs = hs} e1 e2 r a u) al s d i p q e h =
      let nx = after_is c t s d e in
      let last = past 0 (below c t (At n)) in
      let over = past_end c t (At n) 0 (below c t (At n)) refl in
      let P = closed.c_adjoin_predict c m K B t s d i j p q n β nx e1 e2 h in
      let content : Has t (At n) 0 y y missing missing → Has t (At n) last y z (starts_of gs) (ends_of gs) × All (Reached t) gs
      = λ v. reach a (all_left gs hs al) (At n) 0 y missing missing refl v in
      let F : FootOk β y z
      = λ f b fk hf. closed.c_foot_complete c m K B t n β f b last y z (starts_of gs) (ends_of gs) e2 fk
      (content (closed.c_foot_predict c m K B t n β f b y e2 fk hf)).0 over hf in
      let X = reach r (a_cons F a_nil) Top 0 j missing missing refl P in
      let W = only_reached X.1 in
      let A = content (closed.c_foot_predict c m K B t n β W.0 W.1 y e2 W.2 W.3) in
      let X' : Has β Top 1 j x y z
      = subst (λ (v : ℕ). Has β Top 1 j x y v) (joined_missing z)
      (subst (λ (v : ℕ). Has β Top 1 j x v (joined z missing)) (joined_missing y) (root_dot β (K.listed_there t n (β, e2)) j x (joined y missing) (joined z missing) X.0)) in
      let D = closed.c_adjoin_complete c m K B t s d i j p q n β x y z last (starts_of gs) (ends_of gs) nx e1 e2 X' A.0 over h in
      let D' : Has t s (suc d) i x (joined p (starts_of gs)) (joined q (ends_of gs))
      = subst (λ (v : ℕ). Has t s (suc d) i x (joined p (starts_of gs)) v) (joined_comm (ends_of gs) q)
      (subst (λ (v : ℕ). Has t s (suc d) i x v (joined (ends_of gs) q)) (joined_comm (starts_of gs) p) D) in
      let R = reach u (all_right gs al) s (suc d) i (joined p (starts_of gs)) (joined q (ends_of gs)) (drop_is d (below c t s) e) D' in
      (regroup t s (past (suc d) ks1) i l p q gs hs R.0, all_++ A.1 R.1)
