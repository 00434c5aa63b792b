-- The law over whole runs, from what each offer keeps.
use Rattle.std.proofs.Common.{◌≡◌, ℕ, ◌<◌, ◌≤◌, Bool, true, false, cond, ltb, List, [], ◌∷◌, ◌++◌, length, get_or, take, is_some, Some, None, Ok, Option, sym, refl, ap, ◌∙◌, subst, ⊎_elim, arith}
use Rattle.std.proofs.lemmas.List.{length-take, length-take-le, take_all, get_or-take, get_or_at}
use Rattle.std.proofs.lemmas.Bool.{both_ways, false_from_ne_true, cases_order, cond-false, le-ltb, ltb-false}
use Rattle.distinct.specs.declared.Added.TheVariants.{New}
use Rattle.distinct.specs.Adding.{first_same, no_room, answer_at}
use Rattle.distinct.specs.Runs.{held_in, run, begun, has, first_offers, RunsAreLawful}
use Rattle.distinct.proofs.Classes.{has_first, Apart, apart_take, first_append}
use Rattle.distinct.proofs.Offers.{answered, chosen, stored}

no_room_says : (p : Option ℕ) (n cap : ℕ) → answer_at p n cap ≡ no_room → (is_some p ≡ false) × (cap ≤ n)
no_room_says (Some k) n cap e = let z : ◌≡◌ {A = ℕ} 0 1 = cc in absurd (omega arith)
no_room_says None n cap e = (refl, full (ltb n cap) refl e)
  where
    full : (b : Bool) → b ≡ ltb n cap → cond b (Ok (New n)) no_room ≡ no_room → cap ≤ n
    full true u e = let z : ◌≡◌ {A = ℕ} 0 1 = cc in absurd (omega arith)
    full false u e = ltb-false n cap (sym u)

no_room_from : (p : Option ℕ) (n cap : ℕ) → is_some p ≡ false → cap ≤ n → answer_at p n cap ≡ no_room
no_room_from (Some k) n cap e h = let z : ◌≡◌ {A = ℕ} 0 1 = cc in absurd (omega arith)
no_room_from None n cap e h = cond-false (ltb n cap) (Ok (New n)) no_room (le-ltb n cap h)

module _ {R : Type 0} (s : R → R → Bool)
    (sy : (x y : R) → s x y ≡ true → s y x ≡ true)
    (tr : (x y z : R) → s x y ≡ true → s y z ≡ true → s x z ≡ true) where
  both : (xs : List R) → Apart s xs → (d : R) (i j : ℕ) → i < length xs → j < length xs → (i ≡ j → ⊥)
      → s (get_or xs i d) (get_or xs j d) ≡ false
  both xs a d i j il jl ne =
      ⊎_elim (λ e. absurd (ne e))
      (⊎_elim (λ l. a d i j l jl)
      (λ l. false_from_ne_true (s (get_or xs i d) (get_or xs j d)) (λ t. both_ways _ (a d j i l il) (sy (get_or xs i d) (get_or xs j d) t))))
      (cases_order i j)

  -- a first offer where there is room, at its number
  first_stays : (m before later : List R) (x d : R) → has s before x ≡ false
      → length (held_in (run s (begun m) before)) < length m
      → get_or (take (length m) (first_offers s [] (before ++ x ∷ later))) (length (held_in (run s (begun m) before))) d ≡ x
  first_stays m before later x d h lt =
      let F = first_offers s [] before in
      let G = first_offers s (before ++ x ∷ []) later in
      let n = length (held_in (run s (begun m) before)) in
      let e = ap length (stored s tr m before).holds in
      let t = length-take (length m) F in
      let len : length F ≡ n = omega arith in
      let front : first_offers s [] (before ++ x ∷ later) ≡ F ++ x ∷ G =
      first_append s [] before (x ∷ later) ∙ ap (λ z. F ++ z) (cond-false (has s before x) G (x ∷ G) h) in
      get_or-take (length m) (first_offers s [] (before ++ x ∷ later)) n d lt ∙ (ap (λ z. get_or z n d) front ∙ get_or_at F x G d n len)

  pub lawful : RunsAreLawful s
  lawful m xs =
      let l = run s (begun m) xs in
      let st = stored s tr m xs in
      let w = st.within in
      let o = st.long in
      let c : l.count ≤ length l.memory = omega arith in
      record {
        apart = both (held_in l) (subst (λ z. Apart s z) (sym st.holds)
            (apart_take s (length m) (first_offers s [] xs) (chosen s tr xs).apart));
        firsts = st.holds;
        classes = λ lt y.
            let e = ap length st.holds in
            let t = length-take (length m) (first_offers s [] xs) in
            let all : length (first_offers s [] xs) ≤ length m = omega arith in
            ap (λ z. has s z y) (st.holds ∙ take_all (length m) (first_offers s [] xs) all) ∙ sym ((chosen s tr xs).classes y);
        stays = λ d before x later e h lt.
            ap (λ z. get_or z (length (held_in (run s (begun m) before))) d) (st.holds ∙ ap (λ z. take (length m) (first_offers s [] z)) e)
            ∙ first_stays m before later x d h lt;
        no_room_means = λ x e.
            let q = no_room_says (first_same s 0 (held_in l) x) (length (held_in l)) (length l.memory) (sym (answered s l x c) ∙ e) in
            (has_first s 0 (held_in l) x ∙ q.0, omega (arith, q.1));
        no_room_when = λ x h f.
            answered s l x c
            ∙ no_room_from (first_same s 0 (held_in l) x) (length (held_in l)) (length l.memory) (sym (has_first s 0 (held_in l) x) ∙ h) (omega arith);
        inside = (sym (length-take-le l.count l.memory c), o);
        untouched = st.rest;
      }
