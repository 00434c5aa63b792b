-- One offer after another keeps what a run promises.
use Rattle.std.proofs.Common.{◌≡◌, ℕ, ◌+◌, ◌<◌, ◌≤◌, Bool, true, false, cond, ◌||◌, ltb, leb, List, [], ◌∷◌, ◌++◌, length, take, drop, set, is_some, Some, None, Ok, Option, Result, sym, refl, ap, ◌∙◌, subst, arith}
use Rattle.std.proofs.lemmas.List.{append_assoc, append-nil, length-set, length_push, length-take, length-take-le, take_all, take-append-le, take-append-drop, take_more_set, drop-set-lt, drop-drop}
use Rattle.std.proofs.lemmas.List.Folds.{list_any-append}
use Rattle.std.proofs.lemmas.Bool.{or_left, both_ways, cond-true, le-leb, ltb-true, ltb-false}
use Rattle.distinct.specs.declared.Added.{Added}
use Rattle.distinct.specs.declared.Added.TheVariants.{Held, New}
use Rattle.distinct.specs.declared.NoRoom.{NoRoom}
use Rattle.distinct.specs.Adding.{first_same, no_room, answer_at, answer, memory_after}
use Rattle.distinct.specs.Runs.{Listed, held_in, count_after, after_offer, run, begun, has, first_offers}
use Rattle.distinct.proofs.Classes.{has_first, has_through, Apart, apart_push}

-- the list l lies in the memory m, and holds as many of the records F as there is memory for
pub record Stored {R : Type 0} (m F : List R) (l : Listed R) : Type 0 where
  pub within : l.count ≤ length m
  pub long : length l.memory ≡ length m
  pub rest : drop l.count l.memory ≡ drop l.count m
  pub holds : held_in l ≡ take (length m) F

-- F has the first members of the classes offered in `before`
pub record Chosen {R : Type 0} (s : R → R → Bool) (before F : List R) : Type 0 where
  pub classes : (y : R) → has s before y ≡ has s F y
  pub apart : Apart s F

-- the list after an answer
abbrev after : {R : Type 0} → Result Added NoRoom → Listed R → R → Listed R
after a l x = record { memory = memory_after a l.memory x; count = count_after a l.count }

-- where the held records lie in the memory, the answer goes by them alone
pub answered : {R : Type 0} (s : R → R → Bool) (l : Listed R) (x : R) → l.count ≤ length l.memory
    → answer s l.memory l.count x ≡ answer_at (first_same s 0 (held_in l) x) (length (held_in l)) (length l.memory)
answered s l x h = cond-true (leb l.count (length l.memory)) _ _ (le-leb l.count (length l.memory) h)

-- a record that the front has is one of the list
has_take : {R : Type 0} (s : R → R → Bool) (n : ℕ) (F : List R) (x : R) → has s (take n F) x ≡ true → has s F x ≡ true
has_take s n F x h =
    ap (λ z. has s z x) (sym (take-append-drop n F))
    ∙ (list_any-append (λ y. s y x) (take n F) (drop n F) ∙ or_left (has s (take n F) x) (has s (drop n F) x) h)

module _ {R : Type 0} (s : R → R → Bool) (tr : (x y z : R) → s x y ≡ true → s y z ≡ true → s x z ≡ true) where
  chosen_step : (before F : List R) (x : R) (c : Bool) → c ≡ has s before x → Chosen s before F
      → Chosen s (before ++ x ∷ []) (cond c F (F ++ x ∷ []))
  chosen_step before F x true e h = record {
    classes = λ y. list_any-append (λ z. s z y) before (x ∷ []) ∙ (ap (λ z. z || (s x y || false)) (h.classes y)
        ∙ absorb (has s F y) (s x y) (λ q. has_through s tr F x y q (sym (e ∙ h.classes x))));
    apart = h.apart;
  }
    where
      absorb : (p q : Bool) → (q ≡ true → p ≡ true) → (p || (q || false)) ≡ p
      absorb true q f = refl
      absorb false true f = sym (f refl)
      absorb false false f = refl
  chosen_step before F x false e h = record {
    classes = λ y. list_any-append (λ z. s z y) before (x ∷ []) ∙ (ap (λ z. z || (s x y || false)) (h.classes y) ∙ sym (list_any-append (λ z. s z y) F (x ∷ [])));
    apart = apart_push s F x h.apart (sym (e ∙ h.classes x));
  }

  stored_at : (m F : List R) (l : Listed R) (x : R) (p : Option ℕ) (b c : Bool)
      → is_some p ≡ has s (held_in l) x → b ≡ ltb (length (held_in l)) (length l.memory) → c ≡ has s F x
      → Stored m F l → Stored m (cond c F (F ++ x ∷ [])) (after (elim p [ Some k ↦ Ok (Held k) | None ↦ cond b (Ok (New (length (held_in l)))) no_room ]) l x)
  stored_at m F l x (Some k) b true e u v h = h
  stored_at m F l x (Some k) b false e u v h =
      absurd (both_ways (has s F x) (sym v) (has_take s (length m) F x (ap (λ z. has s z x) (sym h.holds) ∙ sym e)))
  stored_at m F l x None true c e u v h = new c v
    where
      lt : length (held_in l) < length l.memory
      lt = ltb-true (length (held_in l)) (length l.memory) (sym u)

      count_is : length (held_in l) ≡ l.count
      count_is = let w = h.within in let o = h.long in length-take-le l.count l.memory (omega arith)

      -- there is memory for all of F
      all_held : held_in l ≡ F
      all_held = let t = length-take (length m) F in let n = ap length h.holds in let o = h.long in
          h.holds ∙ take_all (length m) F (omega (arith, lt))

      new : (c : Bool) → c ≡ has s F x → Stored m (cond c F (F ++ x ∷ [])) (after (Ok (New (length (held_in l)))) l x)
      new true v = absurd (both_ways (has s F x) (ap (λ z. has s z x) (sym all_held) ∙ sym e) (sym v))
      new false v =
          let w = h.within in
          let o = h.long in
          let len = ap length all_held in
          let room : l.count < length l.memory = omega (arith, lt, count_is) in
          let behind : l.count < l.count + 1 = omega arith in
          let put : set l.memory (length (held_in l)) x ≡ set l.memory l.count x = ap (λ z. set l.memory z x) count_is in
          record {
            within = omega arith;
            long = length-set l.memory (length (held_in l)) x ∙ o;
            rest = ap (λ z. drop (l.count + 1) z) put
                ∙ (drop-set-lt (l.count + 1) l.memory l.count x behind
                ∙ (sym (drop-drop 1 l.count l.memory) ∙ (ap (λ z. drop 1 z) h.rest ∙ drop-drop 1 l.count m)));
            holds = ap (λ z. take (l.count + 1) z) put
                ∙ (take_more_set l.memory l.count x room
                ∙ (ap (λ z. z ++ x ∷ []) all_held
                ∙ sym (take_all (length m) (F ++ x ∷ []) (let q = length_push F x in omega (arith, count_is)))));
          }
  stored_at m F l x None false true e u v h = h
  stored_at m F l x None false false e u v h =
      let le = ltb-false (length (held_in l)) (length l.memory) (sym u) in
      let t = length-take (length m) F in
      let n = ap length h.holds in
      let long = h.long in
      let w : length m ≤ length F = omega arith in
      record { within = h.within; long = h.long; rest = h.rest; holds = h.holds ∙ sym (take-append-le (length m) F (x ∷ []) w) }

  stored_step : (m before F : List R) (l : Listed R) (x : R) → Chosen s before F → Stored m F l
      → Stored m (cond (has s before x) F (F ++ x ∷ [])) (after_offer s l x)
  stored_step m before F l x ch st =
      subst (λ z. Stored m (cond (has s before x) F (F ++ x ∷ [])) (after z l x))
      (same_answer (first_same s 0 (held_in l) x) ∙ sym (answered s l x (let w = st.within in let o = st.long in omega arith)))
      (stored_at m F l x (first_same s 0 (held_in l) x) (ltb (length (held_in l)) (length l.memory)) (has s before x)
      (sym (has_first s 0 (held_in l) x)) refl (ch.classes x) st)
    where
      same_answer : (p : Option ℕ)
          → elim p [ Some k ↦ Ok (Held k) | None ↦ cond (ltb (length (held_in l)) (length l.memory)) (Ok (New (length (held_in l)))) no_room ]
          ≡ answer_at p (length (held_in l)) (length l.memory)
      same_answer (Some k) = refl
      same_answer None = refl

  -- the first members chosen so far, and those still to come
  chosen_rest : (c : Bool) (F G : List R) (x : R) → cond c F (F ++ x ∷ []) ++ G ≡ F ++ cond c G (x ∷ G)
  chosen_rest true F G x = refl
  chosen_rest false F G x = append_assoc F (x ∷ []) G

  pub chosen_all : (before F xs : List R) → Chosen s before F → Chosen s (before ++ xs) (F ++ first_offers s before xs)
  chosen_all before F [] h =
      subst (λ z. Chosen s z (F ++ [])) (sym (append-nil before)) (subst (λ z. Chosen s before z) (sym (append-nil F)) h)
  chosen_all before F (x ∷ xs) h =
      subst (λ z. Chosen s z (F ++ first_offers s before (x ∷ xs))) (append_assoc before (x ∷ []) xs)
      (subst (λ z. Chosen s ((before ++ x ∷ []) ++ xs) z) (chosen_rest (has s before x) F (first_offers s (before ++ x ∷ []) xs) x)
      (chosen_all (before ++ x ∷ []) (cond (has s before x) F (F ++ x ∷ [])) xs (chosen_step before F x (has s before x) refl h)))

  pub stored_all : (m before F xs : List R) (l : Listed R) → Chosen s before F → Stored m F l
      → Stored m (F ++ first_offers s before xs) (run s l xs)
  stored_all m before F [] l ch st = subst (λ z. Stored m z l) (sym (append-nil F)) st
  stored_all m before F (x ∷ xs) l ch st =
      subst (λ z. Stored m z (run s l (x ∷ xs))) (chosen_rest (has s before x) F (first_offers s (before ++ x ∷ []) xs) x)
      (stored_all m (before ++ x ∷ []) (cond (has s before x) F (F ++ x ∷ [])) xs (after_offer s l x)
      (chosen_step before F x (has s before x) refl ch) (stored_step m before F l x ch st))

  none_chosen : Chosen s [] []
  none_chosen = record { classes = λ y. refl; apart = λ d i j ij jl. absurd (omega arith) }

  none_stored : (m : List R) → Stored m [] (begun m)
  none_stored m = record { within = omega arith; long = refl; rest = refl; holds = sym (take_all (length m) [] (omega arith)) }

  pub chosen : (xs : List R) → Chosen s xs (first_offers s [] xs)
  chosen xs = chosen_all [] [] xs none_chosen

  pub stored : (m xs : List R) → Stored m (first_offers s [] xs) (run s (begun m) xs)
  stored m xs = stored_all m [] [] xs (begun m) none_chosen (none_stored m)
