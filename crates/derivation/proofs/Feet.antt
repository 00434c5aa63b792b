-- The feet of a tree add up, so that a derivation of a row has as many gaps as the row has feet.
use Rattle.std.proofs.Common.{◌≡◌, ℕ, zero, suc, ◌+◌, ◌-◌, ◌<◌, ◌≤◌, true, false, not, ltb, List, [], ◌∷◌, length, get_or, take, drop, sym, refl, ap, ◌∙◌, arith, length-append, length-drop, length-take, ltb-true}
use native.Mathlib.Decide.{dec_lt}
use lib.ListN.{get_or-eq_default}
use Rattle.format.specs.declared.node.Kind.{Kind}
use Rattle.format.specs.declared.node.Kind.TheVariants.{Inner, Word, Empty, Foot}
use Rattle.format.specs.declared.node.Form.{Form}
use Rattle.format.specs.declared.node.Form.TheVariants.{Initial, Auxiliary}
use Rattle.format.specs.declared.node.Node.{Node}
use Rattle.format.specs.declared.spot.Spot.TheVariants.{At}
use Rattle.format.specs.declared.spot.Next.{Next}
use Rattle.format.specs.declared.spot.Next.TheVariants.{End, Bottom, Child}
use Rattle.format.specs.Parts.{Contents, no_node}
use Rattle.format.specs.Judge.{is_auxiliary}
use Rattle.format.specs.Layout.{pass}
use Rattle.format.specs.Keeps.{tree_in, nodes_in, node_in, is_inner, foot_of, foot_count, feet_due, Keeps}
use Rattle.format.specs.Questions.{roots_from, children_of, may_start}
use Rattle.words.specs.Meaning.{Meaning}
use Rattle.steps.specs.Conclusions.{listed}
use Rattle.theory.proofs.Tests.{and_split}
use Rattle.derivation.specs.Derivations.{Derivation, as_children, below_kind, below_top, below, tree_row}
use Rattle.derivation.specs.Spans.{Gaps, Spans, s_done, s_word, s_empty, s_bottom, s_plain, s_adjoined}

-- the feet of a row, by the feet below each node
abbrev pub feet_sum : (ℕ → ℕ) → List Next → ℕ
feet_sum F [] = 0
feet_sum F (End ∷ ks) = feet_sum F ks
feet_sum F (Bottom ∷ ks) = suc (feet_sum F ks)
feet_sum F (Child n ∷ ks) = F n + feet_sum F ks

-- the feet among the first k nodes
abbrev feet_among : List Node → ℕ → ℕ
feet_among vs k = foot_count (take k vs)

among_mono : (vs : List Node) (a b : ℕ) → a ≤ b → feet_among vs a ≤ feet_among vs b
among_mono vs zero b h = omega arith
among_mono [] (suc a) zero h = absurd (omega arith)
among_mono (v ∷ vs) (suc a) zero h = absurd (omega arith)
among_mono [] (suc a) (suc b) h = omega arith
among_mono (v ∷ vs) (suc a) (suc b) h = let r = among_mono vs a b (omega arith) in omega arith

among_all : (vs : List Node) (k : ℕ) → length vs ≤ k → feet_among vs k ≡ foot_count vs
among_all [] zero h = refl
among_all [] (suc k) h = refl
among_all (v ∷ vs) zero h = absurd (omega arith)
among_all (v ∷ vs) (suc k) h = ap (λ (x : ℕ). foot_of v.kind + x) (among_all vs k (omega arith))

among_most : (vs : List Node) (k : ℕ) → feet_among vs k ≤ foot_count vs
among_most [] zero = omega arith
among_most [] (suc k) = omega arith
among_most (v ∷ vs) zero = omega arith
among_most (v ∷ vs) (suc k) = let r = among_most vs k in omega arith

among_suc : (vs : List Node) (k : ℕ) → k < length vs → feet_among vs (suc k) ≡ feet_among vs k + foot_of (get_or vs k no_node).kind
among_suc [] k h = absurd (omega arith)
among_suc (v ∷ vs) zero h = omega arith
among_suc (v ∷ vs) (suc k) h = let r = among_suc vs k (omega arith) in omega arith

-- the feet below node n, with itself
abbrev pub feet_under : Contents → ℕ → ℕ → ℕ
feet_under c t n = feet_among (nodes_in c t) (node_in c t n).end - feet_among (nodes_in c t) n

module _ (c : Contents) (K : Keeps c) where
  -- a row of k subtrees from i on, which ends within the tree
  row_sum : (t k i : ℕ) → ((d : ℕ) → d < k → pass (nodes_in c t) d i < length (nodes_in c t))
      → feet_sum (feet_under c t) (as_children (roots_from (nodes_in c t) k i)) + feet_among (nodes_in c t) i ≡ feet_among (nodes_in c t) (pass (nodes_in c t) k i)
  row_sum t zero i w = let e : 0 + feet_among (nodes_in c t) i ≡ feet_among (nodes_in c t) i = omega arith in e
  row_sum t (suc k) i w =
      let l : i < length (nodes_in c t) = w 0 (omega arith) in
      let b = K.ends t i l in
      let m = among_mono (nodes_in c t) i (node_in c t i).end (let h = b.0 in omega arith) in
      let x = row_sum t k (node_in c t i).end (λ d h. w (suc d) (omega arith)) in
      omega arith

  -- a leaf is all of its subtree
  leaf_end : (t n a : ℕ) → a ≡ 0 → pass (nodes_in c t) a (suc n) ≡ (node_in c t n).end
      → feet_among (nodes_in c t) (suc n) ≡ feet_among (nodes_in c t) (node_in c t n).end
  leaf_end t n a z p = ap (λ (v : ℕ). feet_among (nodes_in c t) v) (ap (λ (v : ℕ). pass (nodes_in c t) v (suc n)) (sym z) ∙ p)

  inside : (t n : ℕ) (k : Kind) (a : ℕ) → foot_of k + feet_among (nodes_in c t) n ≡ feet_among (nodes_in c t) (suc n)
      → (is_inner k ≡ false → a ≡ 0) → pass (nodes_in c t) a (suc n) ≡ (node_in c t n).end
      → ((d : ℕ) → d < a → pass (nodes_in c t) d (suc n) < length (nodes_in c t))
      → feet_under c t n ≡ feet_sum (feet_under c t) (below_kind k (roots_from (nodes_in c t) a (suc n)))
  inside t n (Inner l) a e f p w =
      let x = row_sum t a (suc n) w in
      let y : feet_among (nodes_in c t) (pass (nodes_in c t) a (suc n)) ≡ feet_among (nodes_in c t) (node_in c t n).end
      = ap (λ (v : ℕ). feet_among (nodes_in c t) v) p in
      omega arith
  inside t n (Word v) a e f p w = let y = leaf_end t n a (f refl) p in omega arith
  inside t n Empty a e f p w = let y = leaf_end t n a (f refl) p in omega arith
  inside t n (Foot l) a e f p w = let y = leaf_end t n a (f refl) p in omega arith

  outside : (t n : ℕ) → length (nodes_in c t) ≤ n → feet_under c t n ≡ feet_sum (feet_under c t) (below c t (At n))
  outside t n h =
      let d : node_in c t n ≡ no_node = get_or-eq_default (nodes_in c t) no_node h in
      let a = among_all (nodes_in c t) n h in
      let b = among_most (nodes_in c t) (node_in c t n).end in
      let z : feet_under c t n ≡ 0 = omega arith in
      z ∙ sym (ap (λ (v : Node). feet_sum (feet_under c t) (below_kind v.kind (roots_from (nodes_in c t) v.children (suc n)))) d)

  -- a node has as many feet under it as the row below it
  pub feet_step : (t n : ℕ) → feet_under c t n ≡ feet_sum (feet_under c t) (below c t (At n))
  feet_step t n = pick (dec_lt n (length (nodes_in c t)))
    where
      within : n < length (nodes_in c t) → (d : ℕ) → d < (node_in c t n).children → pass (nodes_in c t) d (suc n) < length (nodes_in c t)
      within h d l = let x = K.child_within t n d (h, l) in let y = (K.ends t n h).1 in omega arith

      pick : Dec (n < length (nodes_in c t)) → feet_under c t n ≡ feet_sum (feet_under c t) (below c t (At n))
      pick (yes h) =
          inside t n (node_in c t n).kind (node_in c t n).children (let x = among_suc (nodes_in c t) n h in omega arith)
          (λ e. K.leaf_arity t n (h, e)) (K.children t n h) (within h)
      pick (no h) = outside t n (omega arith)

  -- the whole tree has the feet of its nodes
  tree_feet_by : (t : ℕ) (vs : List Node) → (0 < length vs → feet_among vs (get_or vs 0 no_node).end ≡ foot_count vs) → (F : ℕ → ℕ)
      → F 0 ≡ feet_among vs (get_or vs 0 no_node).end - feet_among vs 0 → feet_sum F (below_top vs) ≡ foot_count vs
  tree_feet_by t [] h F e = refl
  tree_feet_by t (v ∷ vs) h F e = let x = h (omega arith) in omega arith

  pub nodes_length : (t : ℕ) → t < length c.trees → length (nodes_in c t) ≡ (tree_in c t).size
  nodes_length t l =
      let w = (K.whole t l).1 in
      length-take (tree_in c t).size (drop (tree_in c t).start c.nodes) ∙ (let x = length-drop (tree_in c t).start c.nodes in omega arith)

  tree_feet : (t : ℕ) → t < length c.trees → feet_sum (feet_under c t) (tree_row c t) ≡ feet_due (tree_in c t).form
  tree_feet t l =
      tree_feet_by t (nodes_in c t) (λ _. among_all (nodes_in c t) (node_in c t 0).end (let x = (K.roots t l).2 in let y = nodes_length t l in omega arith))
      (feet_under c t) refl ∙ K.feet t l

  not_auxiliary : (f : Form) → not (is_auxiliary f) ≡ true → feet_due f ≡ 0
  not_auxiliary Initial e = refl
  not_auxiliary Auxiliary e = cc

  auxiliary : (f : Form) → is_auxiliary f ≡ true → feet_due f ≡ 1
  auxiliary Initial e = cc
  auxiliary Auxiliary e = refl

  -- a tree that may start has no foot
  pub no_foot : (t : ℕ) → may_start c t ≡ true → feet_sum (feet_under c t) (tree_row c t) ≡ 0
  no_foot t e =
      let s = and_split (ltb t (length c.trees)) (not (is_auxiliary (tree_in c t).form)) e in
      tree_feet t (ltb-true t (length c.trees) s.0) ∙ not_auxiliary (tree_in c t).form s.1

  -- a listed tree has one
  pub one_foot : (t n β : ℕ) → listed c t n β ≡ true → feet_sum (feet_under c β) (tree_row c β) ≡ 1
  one_foot t n β e = tree_feet β (K.listed_there t n (β, e)) ∙ auxiliary (tree_in c β).form (K.listed_auxiliary t n (β, e))

  word_feet : (t n w : ℕ) → (node_in c t n).kind ≡ Word w → feet_under c t n ≡ 0
  word_feet t n w e = feet_step t n ∙ ap (λ (k : Kind). feet_sum (feet_under c t) (below_kind k (children_of c t n))) e

  empty_feet : (t n : ℕ) → (node_in c t n).kind ≡ Empty → feet_under c t n ≡ 0
  empty_feet t n e = feet_step t n ∙ ap (λ (k : Kind). feet_sum (feet_under c t) (below_kind k (children_of c t n))) e

  -- as many gaps as feet
  pub gaps_feet : {m : Meaning} {t : ℕ} {ks : List Next} {f : Derivation} {i j : ℕ} {gs : Gaps} → Spans c m t ks f i j gs
      → length gs ≡ feet_sum (feet_under c t) ks
  gaps_feet s_done = refl
  gaps_feet {t = t} (s_word {n = n} {w = w} e h s) = let z = word_feet t n w e in let y = gaps_feet s in omega arith
  gaps_feet {t = t} (s_empty {n = n} e s) = let z = empty_feet t n e in let y = gaps_feet s in omega arith
  gaps_feet (s_bottom s) = ap suc (gaps_feet s)
  gaps_feet {t = t} (s_plain {n = n} {gs = gs} {hs = hs} e h a s) =
      let z = feet_step t n in let y = gaps_feet a in let x = gaps_feet s in let l = length-append gs hs in omega arith
  gaps_feet {t = t} (s_adjoined {n = n} {gs = gs} {hs = hs} e h r a s) =
      let z = feet_step t n in let y = gaps_feet a in let x = gaps_feet s in let l = length-append gs hs in omega arith
