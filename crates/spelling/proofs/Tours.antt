-- Tours through the nodes of a tree: how many turns they are given does not matter, only the picks on the way count, and they split where a subtree ends.
use Rattle.std.proofs.Common.{◌≡◌, ℕ, zero, suc, ◌+◌, ◌<◌, ◌≤◌, Bool, true, false, List, [], ◌++◌, length, Some, None, Option, sym, refl, ap, ◌∙◌, append_assoc, arith, le-ltb, lt-ltb}
use native.Mathlib.Decide.{dec_lt}
use lib.ListN.{get_or-eq_default}
use Rattle.format.specs.declared.node.Kind.{Kind}
use Rattle.format.specs.declared.node.Kind.TheVariants.{Inner, Word, Empty, Foot}
use Rattle.format.specs.declared.node.Node.{Node}
use Rattle.format.specs.Parts.{Contents, no_node}
use Rattle.format.specs.Keeps.{nodes_in, node_in, taken_trees, any, Ends, Subtrees}
use Rattle.derivation.specs.Walks.{Event, is_choice}
use Rattle.walk.specs.declared.choice.Choice.{Choice}
use Rattle.walk.specs.declared.choice.Choice.TheVariants.{Stay, Adjoin}
use Rattle.spelling.specs.Tours.{picked, from_node, tour}

-- only a node that is there lists a tree
pub choice_there : (c : Contents) (t n : ℕ) → is_choice c t n ≡ true → n < length (nodes_in c t)
choice_there c t n e = by_place (dec_lt n (length (nodes_in c t)))
  where
    by_place : Dec (n < length (nodes_in c t)) → n < length (nodes_in c t)
    by_place (yes h) = h
    by_place (no h) =
        let d = get_or-eq_default (nodes_in c t) no_node {n = n} (omega arith) in
        let z : false ≡ true = ap (λ (v : Node). any (taken_trees v.constraint)) (sym d) ∙ e in
        absurd (cc)

module _ (D : ℕ → ℕ → List Event → List Event) (h : List Event) where
  -- only at a choice node it counts what is picked, and what comes inside and behind the node
  pub from_same : (n n' i i' b b' : List Event) (o o' : Option Choice) (k : Kind) (x : Bool) → n ≡ n' → (x ≡ true → (i ≡ i') × (b ≡ b') × (o ≡ o'))
      → from_node D h n i b o k x ≡ from_node D h n' i' b' o' k x
  from_same n n' i i' b b' o o' (Inner l) true e f =
      let p = f refl in let e1 = p.0 in let e2 = p.1 in let e3 = p.2 in cc
  from_same n n' i i' b b' o o' (Inner l) false e f = e
  from_same n n' i i' b b' o o' (Word w) x e f = cc
  from_same n n' i i' b b' o o' Empty x e f = e
  from_same n n' i i' b b' o o' (Foot l) true e f =
      let p = f refl in let e1 = p.0 in let e2 = p.1 in let e3 = p.2 in cc
  from_same n n' i i' b b' o o' (Foot l) false e f = cc

  picked_++ : (n i b z : List Event) (o : Option Choice) → picked D (n ++ z) i (b ++ z) o ≡ picked D n i b o ++ z
  picked_++ n i b z None = refl
  picked_++ n i b z (Some Stay) = refl
  picked_++ n i b z (Some (Adjoin β σ)) = rw append_assoc refl

  pub from_++ : (n i b z : List Event) (o : Option Choice) (k : Kind) (x : Bool) → from_node D h (n ++ z) i (b ++ z) o k x ≡ from_node D h n i b o k x ++ z
  from_++ n i b z o (Inner l) true = picked_++ n i b z o
  from_++ n i b z o (Inner l) false = refl
  from_++ n i b z o (Word w) x = refl
  from_++ n i b z o Empty x = refl
  from_++ n i b z o (Foot l) true = rw (← append_assoc h n z, picked_++ (h ++ n) h b z o) refl
  from_++ n i b z o (Foot l) false = sym (append_assoc h n z)

module _ (c : Contents) (E : Ends c) (D : ℕ → ℕ → List Event → List Event) (t : ℕ) (h : List Event) where
  abbrev N : ℕ
  N = length (nodes_in c t)

  abbrev pub here : (ℕ → Option Choice) → ℕ → ℕ → ℕ → List Event
  here C k a e =
      from_node D h (tour c D C t k (suc a) e h) (tour c D C t k (suc a) (node_in c t a).end h) (tour c D C t k (node_in c t a).end e h) (C a) (node_in c t a).kind (is_choice c t a)

  -- behind the end nothing comes
  pub tour_none : (C : ℕ → Option Choice) (k a e : ℕ) → e ≤ a → tour c D C t k a e h ≡ []
  tour_none C zero a e l = refl
  tour_none C (suc k) a e l = rw (le-ltb a e l) refl

  pub tour_some : (C : ℕ → Option Choice) (k a e : ℕ) → a < e → tour c D C t (suc k) a e h ≡ here C k a e
  tour_some C k a e l = rw (lt-ltb a e l) refl

  pub tour_fuel : (C : ℕ → Option Choice) (M : ℕ) → N ≤ M → (k k' a e : ℕ) → e ≤ M → M ≤ k + a → M ≤ k' + a → tour c D C t k a e h ≡ tour c D C t k' a e h
  tour_fuel C M n zero k' a e l p q = sym (tour_none C k' a e (omega arith))
  tour_fuel C M n (suc k) zero a e l p q = tour_none C (suc k) a e (omega arith)
  tour_fuel C M n (suc k) (suc k') a e l p q =
      by_place (dec_lt a e) (λ a' e' u v w. tour_fuel C M n k k' a' e' u v w)
    where
      by_place : Dec (a < e) → ((a' e' : ℕ) → e' ≤ M → M ≤ k + a' → M ≤ k' + a' → tour c D C t k a' e' h ≡ tour c D C t k' a' e' h)
          → tour c D C t (suc k) a e h ≡ tour c D C t (suc k') a e h
      by_place (no u) f = tour_none C (suc k) a e (omega arith) ∙ sym (tour_none C (suc k') a e (omega arith))
      by_place (yes u) f =
          tour_some C k a e u
          ∙ (from_same D h _ _ _ _ _ _ (C a) (C a) (node_in c t a).kind (is_choice c t a) (f (suc a) e l (omega arith) (omega arith))
          (λ x. let y = E t a (choice_there c t a x) in (f (suc a) (node_in c t a).end (omega (arith, y.1)) (omega arith) (omega arith), f (node_in c t a).end e l (omega (arith, y.0)) (omega (arith, y.0)), refl))
          ∙ sym (tour_some C k' a e u))

  -- only the picks on the way count
  pub tour_same : Subtrees c → (C C' : ℕ → Option Choice) (k a e : ℕ) → ((n : ℕ) → a ≤ n → n < e → (node_in c t n).end ≤ e) → ((n : ℕ) → a ≤ n → n < e → C n ≡ C' n)
      → tour c D C t k a e h ≡ tour c D C' t k a e h
  tour_same S C C' zero a e w s = refl
  tour_same S C C' (suc k) a e w s = by_place (dec_lt a e) (λ a' e' u v. tour_same S C C' k a' e' u v)
    where
      by_place : Dec (a < e)
          → ((a' e' : ℕ) → ((n : ℕ) → a' ≤ n → n < e' → (node_in c t n).end ≤ e') → ((n : ℕ) → a' ≤ n → n < e' → C n ≡ C' n) → tour c D C t k a' e' h ≡ tour c D C' t k a' e' h)
          → tour c D C t (suc k) a e h ≡ tour c D C' t (suc k) a e h
      by_place (no u) f = tour_none C (suc k) a e (omega arith) ∙ sym (tour_none C' (suc k) a e (omega arith))
      by_place (yes u) f =
          tour_some C k a e u
          ∙ (from_same D h _ _ _ _ _ _ (C a) (C' a) (node_in c t a).kind (is_choice c t a) (f (suc a) e (λ n x y. w n (omega arith) y) (λ n x y. s n (omega arith) y))
          (λ x.
          let i = choice_there c t a x in
          let y = E t a i in
          let z = w a (omega arith) u in (
            f (suc a) (node_in c t a).end (λ n p q. S t a n (i, omega arith, q)) (λ n p q. s n (omega arith) (omega arith)),
            f (node_in c t a).end e (λ n p q. w n (omega (arith, y.0)) q) (λ n p q. s n (omega (arith, y.0)) q),
            s a (omega arith) u,
          ))
          ∙ sym (tour_some C' k a e u))

  -- a tour splits where all subtrees before have ended
  pub tour_split : (C : ℕ → Option Choice) (M : ℕ) → N ≤ M → (k a b e : ℕ) → e ≤ M → M ≤ k + a → a ≤ b → b ≤ e → ((n : ℕ) → a ≤ n → n < b → (node_in c t n).end ≤ b)
      → tour c D C t k a e h ≡ tour c D C t k a b h ++ tour c D C t k b e h
  tour_split C M n zero a b e l p q r w = refl
  tour_split C M n (suc k) a b e l p q r w = by_place (dec_lt a b) (λ a' u v x. tour_split C M n k a' b e l u v r x)
    where
      by_place : Dec (a < b)
          → ((a' : ℕ) → M ≤ k + a' → a' ≤ b → ((n : ℕ) → a' ≤ n → n < b → (node_in c t n).end ≤ b) → tour c D C t k a' e h ≡ tour c D C t k a' b h ++ tour c D C t k b e h)
          → tour c D C t (suc k) a e h ≡ tour c D C t (suc k) a b h ++ tour c D C t (suc k) b e h
      by_place (no u) f =
          let z : a ≡ b = omega arith in
          ap (λ (x : ℕ). tour c D C t (suc k) x e h) z ∙ sym (ap (λ (x : List Event). x ++ tour c D C t (suc k) b e h) (tour_none C (suc k) a b (omega arith)))
      by_place (yes u) f =
          tour_some C k a e (omega arith)
          ∙ (from_same D h _ _ _ _ _ _ (C a) (C a) (node_in c t a).kind (is_choice c t a) (f (suc a) (omega arith) (omega arith) (λ m x y. w m (omega arith) y))
          (λ x. let i = E t a (choice_there c t a x) in (refl, f (node_in c t a).end (omega (arith, i.0)) (w a (omega arith) u) (λ m y z. w m (omega (arith, i.0)) z), refl))
          ∙ (from_++ D h (tour c D C t k (suc a) b h) (tour c D C t k (suc a) (node_in c t a).end h) (tour c D C t k (node_in c t a).end b h) (tour c D C t k b e h) (C a) (node_in c t a).kind (is_choice c t a)
          ∙ (ap (λ (x : List Event). x ++ tour c D C t k b e h) (sym (tour_some C k a b u))
          ∙ ap (λ (x : List Event). tour c D C t (suc k) a b h ++ x) (tour_fuel C M n k (suc k) b e l (omega arith) (omega arith)))))
