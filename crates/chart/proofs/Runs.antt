-- Drawing one conclusion after another, and loops over held items.
use Rattle.std.proofs.Common.{◌≡◌, ℕ, ◌+◌, ◌-◌, ◌<◌, ◌≤◌, Bool, true, cond, min, List, [], ◌∷◌, ◌++◌, length, get_or, take, drop, vec_items, None, Option, sym, refl, ap, ◌∙◌, append_assoc, append-nil, le_trans, add-zero, add-suc, zero-add, add-one, arith}
use Rattle.std.proofs.lemmas.List.{take_more, take_min, get_or-take, length-take-le, take-take, drop-drop, take-append-drop}
use Rattle.std.specs.Option.{option_to_list}
use Rattle.steps.specs.declared.item.Item.{Item}
use Rattle.chart.proofs.Skips.{each_none}
use Rattle.chart.specs.declared.store.Premise.{Premise}
use Rattle.chart.specs.declared.store.Store.{Store}
use Rattle.distinct.specs.Adding.{answer_in}
use Rattle.distinct.specs.Lists.{listed, Extends}
use Rattle.steps.specs.Runs.{State, draw, draw_by, draw_all}
use Rattle.steps.specs.Items.{same_item, blank, item_at}
use Rattle.chart.specs.Drawn.{Grown, Drawn, contents_of, state_of, held_in, room_in}
use Rattle.chart.specs.Lasts.{pairs_with, thirds_with, triples_with}
use Rattle.format.specs.Parts.{Contents}
use Rattle.words.specs.Meaning.{Meaning}
use Rattle.steps.specs.Conclusions.{scan, predict, complete, adjoin_predict, foot_predict, foot_complete, adjoin_complete}
use Rattle.grammar.specs.declared.grammar.Grammar.{Grammar}
use Rattle.grammar.specs.Grammars.{contents_in}
use Rattle.steps.specs.Orders.{each, PairStep, TripleStep, upto}

draw_all_append : (cap : ℕ) (s : State) (xs ys : List Item) → draw_all cap s (xs ++ ys) ≡ draw_all cap (draw_all cap s xs) ys
draw_all_append cap s [] ys = refl
draw_all_append cap s (x ∷ xs) ys = draw_all_append cap (draw cap s x) xs ys

drop_further : {X : Type 0} (a b : ℕ) (xs ys : List X) → a ≤ b → drop a xs ≡ drop a ys → drop b xs ≡ drop b ys
drop_further {X} a b xs ys h e =
    let n : a + (b - a) ≡ b = omega arith in
    ap (λ (k : ℕ). drop k xs) (sym n) ∙ (sym (drop-drop (b - a) a xs) ∙ (ap (λ (z : List X). drop (b - a) z) e ∙ (drop-drop (b - a) a ys ∙ ap (λ (k : ℕ). drop k ys) n)))

take_fewer : {X : Type 0} (a b : ℕ) (xs ys : List X) → a ≤ b → take b xs ≡ take b ys → take a xs ≡ take a ys
take_fewer a b xs ys h e = sym (take-take a b xs h) ∙ (ap (λ z. take a z) e ∙ take-take a b ys h)

extends_none : (s : Store) → Extends (listed s.list) (listed s.list)
extends_none s = record { room = refl; rest = refl; grows = omega arith; front = refl }

pub grown_none : (s : Store) → Grown s s
grown_none s = record { grammar = refl; list = extends_none s }

extends_then : (s t u : Store) → Extends (listed s.list) (listed t.list) → Extends (listed t.list) (listed u.list) → Extends (listed s.list) (listed u.list)
extends_then s t u p q = record {
  room = q.room ∙ p.room;
  rest = q.rest ∙ drop_further t.list.held u.list.held (vec_items t.list.memory) (vec_items s.list.memory) q.grows p.rest;
  grows = le_trans p.grows q.grows;
  front = take_fewer s.list.held t.list.held (vec_items u.list.memory) (vec_items t.list.memory) p.grows q.front ∙ p.front;
}

pub grown_then : (s t u : Store) → Grown s t → Grown t u → Grown s u
grown_then s t u p q = record { grammar = q.grammar ∙ p.grammar; list = extends_then s t u p.list q.list }

-- nothing drawn
pub drawn_none : (s : Store) → Drawn s s []
drawn_none s = record { grown = grown_none s; state = refl }

-- one drawing after another
pub drawn_then : (s t u : Store) (xs ys : List Item) → Drawn s t xs → Drawn t u ys → Drawn s u (xs ++ ys)
drawn_then s t u xs ys p q =
    let cap = room_in s in
    record {
      grown = grown_then s t u p.grown q.grown;
      state = q.state
          ∙ (ap (λ (n : ℕ). draw_all n (state_of t) ys) p.grown.list.room
          ∙ (ap (λ (z : State). draw_all cap z ys) p.state ∙ sym (draw_all_append cap (state_of s) xs ys)));
    }

-- the same, for another way to write the conclusions
pub drawn_as : (s t : Store) (xs ys : List Item) → xs ≡ ys → Drawn s t xs → Drawn s t ys
drawn_as s t xs ys e p = rw (← e) p

each_append : (f : ℕ → Item → List Item) (k : ℕ) (xs ys : List Item) → each f k (xs ++ ys) ≡ each f k xs ++ each f (k + length xs) ys
each_append f k [] ys = ap (λ (n : ℕ). each f n ys) (sym (add-zero k))
each_append f k (x ∷ xs) ys =
    let n : (k + 1) + length xs ≡ k + length (x ∷ xs) = simp add-suc (omega arith) in
    ap (λ z. f k x ++ z) (each_append f (k + 1) xs ys ∙ ap (λ (m : ℕ). each f (k + 1) xs ++ each f m ys) n)
    ∙ sym (append_assoc (f k x) (each f (k + 1) xs) (each f (k + length (x ∷ xs)) ys))

pub each_more : (f : ℕ → Item → List Item) (xs : List Item) (k : ℕ) (d : Item) → k < length xs
    → each f 0 (take (k + 1) xs) ≡ each f 0 (take k xs) ++ f k (get_or xs k d)
each_more f xs k d h =
    let n : 0 + length (take k xs) ≡ k = zero-add _ ∙ length-take-le k xs (omega arith) in
    ap (λ (z : List Item). each f 0 z) (take_more xs k d h)
    ∙ (each_append f 0 (take k xs) (get_or xs k d ∷ [])
    ∙ (ap (λ (m : ℕ). each f 0 (take k xs) ++ (f m (get_or xs k d) ++ [])) n
    ∙ ap (λ (z : List Item). each f 0 (take k xs) ++ z) (append-nil (f k (get_or xs k d)))))

pub held_long : (s : Store) → length (held_in s) ≡ s.list.held
held_long s = length-take-le s.list.held (vec_items s.list.memory) (omega (arith, s.list.room, s.list.memory.ok.0))

-- numbers past the held items have nothing
pub take_held : (s : Store) (n : ℕ) → take (min n s.list.held) (held_in s) ≡ take n (held_in s)
take_held s n = ap (λ (k : ℕ). take (min n k) (held_in s)) (sym (held_long s)) ∙ take_min n (held_in s)

pub take_through : (s : Store) (n k : ℕ) → k ≡ min (n + 1) 18446744073709551615 → take k (held_in s) ≡ take (n + 1) (held_in s)
take_through s n k e =
    let m : min k s.list.held ≡ min (n + 1) s.list.held = omega (arith, s.list.room, s.list.memory.ok.0) in
    sym (take_held s k) ∙ (ap (λ (i : ℕ). take i (held_in s)) m ∙ take_held s (n + 1))

-- what was held stays in front
pub drawn_front : (s t : Store) (xs : List Item) (n : ℕ) → Drawn s t xs → n ≤ s.list.held → take n (held_in t) ≡ take n (held_in s)
drawn_front s t xs n p h =
    take-take n t.list.held (vec_items t.list.memory) (le_trans h p.grown.list.grows)
    ∙ (take_fewer n s.list.held (vec_items t.list.memory) (vec_items s.list.memory) h p.grown.list.front ∙ sym (take-take n s.list.held (vec_items s.list.memory) h))

-- an item that was held stays where it is
pub drawn_item_at : (s t : Store) (xs : List Item) (k : ℕ) → Drawn s t xs → k < s.list.held → item_at (held_in t) k ≡ item_at (held_in s) k
drawn_item_at s t xs k p h =
    sym (get_or-take s.list.held (held_in t) k blank h)
    ∙ (ap (λ (z : List Item). get_or z k blank) (drawn_front s t xs s.list.held p (omega arith)) ∙ get_or-take s.list.held (held_in s) k blank h)

-- one more turn
pub turned : (f : ℕ → Item → List Item) (s t u : Store) (k : ℕ) (o : List Item) → k < s.list.held
    → Drawn s t (each f 0 (take k (held_in s))) → o ≡ f k (item_at (held_in s) k) → Drawn t u o
    → Drawn s u (each f 0 (take (k + 1) (held_in s)))
turned f s t u k o h p w q =
    let xs = held_in s in
    let lt : k < length xs = omega (arith, held_long s) in
    drawn_as s u (each f 0 (take k xs) ++ o) (each f 0 (take (k + 1) xs))
    (ap (λ (z : List Item). each f 0 (take k xs) ++ z) w ∙ sym (each_more f xs k blank lt))
    (drawn_then s t u (each f 0 (take k xs)) o p q)

-- a turn of a sweep
pub swept : (f : ℕ → Item → List Item) (s t u : Store) (k : ℕ) (d : Item) (o : List Item) → k < s.list.held
    → Drawn s t (each f 0 (take k (held_in s))) → d ≡ item_at (held_in t) k → o ≡ f k d → Drawn t u o
    → Drawn s u (each f 0 (take (k + 1) (held_in s)))
swept f s t u k d o h p e w q = turned f s t u k o h p (w ∙ ap (λ (z : Item). f k z) (e ∙ drawn_item_at s t _ k p h)) q

pub each_same : (f g : ℕ → Item → List Item) (k : ℕ) (xs : List Item) → ((a : ℕ) (x : Item) → f a x ≡ g a x) → each f k xs ≡ each g k xs
each_same f g k [] h = refl
each_same f g k (x ∷ xs) h = ap (λ (z : List Item). z ++ each f (k + 1) xs) (h k x) ∙ ap (λ (z : List Item). g k x ++ z) (each_same f g (k + 1) xs h)

-- a place in which a premise gives nothing
pub unpaired : (s : Store) (n : ℕ) (f : ℕ → Item → Option Item) → ((k : ℕ) (x : Item) → f k x ≡ None) → Drawn s s (each (λ k x. option_to_list (f k x)) 0 (take n (held_in s)))
unpaired s n f h = drawn_as s s [] _ (sym (each_none f 0 (take n (held_in s)) h)) (drawn_none s)

pub unpaired_both : (s : Store) (p : Premise) (f : PairStep) → ((a : ℕ) (x : Item) (b : ℕ) (y : Item) → f a x b y ≡ None) → Drawn s s (pairs_with f (held_in s) p)
unpaired_both s p f h = drawn_then s s s _ _
    (unpaired s p.number (λ a x. f a x p.number p.item.now) (λ a x. h a x p.number p.item.now))
    (unpaired s (p.number + 1) (λ b y. f p.number p.item.now b y) (λ b y. h p.number p.item.now b y))

-- the premise p in either place, one sweep after the other
pub paired : (f : PairStep) (s t u : Store) (p : Premise) (n : ℕ) → n ≡ min (min (p.number + 1) 18446744073709551615) s.list.held
    → Drawn s t (each (λ a x. option_to_list (f a x p.number p.item.now)) 0 (take p.number (held_in s)))
    → Drawn t u (each (λ b y. option_to_list (f p.number p.item.now b y)) 0 (take n (held_in t)))
    → Drawn s u (pairs_with f (held_in s) p)
paired f s t u p n e d q =
    let g = λ (b : ℕ) (y : Item). option_to_list (f p.number p.item.now b y) in
    let m : n ≡ min (p.number + 1) s.list.held = omega (arith, s.list.room, s.list.memory.ok.0) in
    let l : take n (held_in t) ≡ take (p.number + 1) (held_in s) =
    drawn_front s t _ n d (omega arith) ∙ (ap (λ (k : ℕ). take k (held_in s)) m ∙ take_held s (p.number + 1)) in
    drawn_then s t u _ _ d (drawn_as t u _ _ (ap (λ z. each g 0 z) l) q)

-- what a step gives with a premise depends on the items up to it alone
pub pairs_front : (f : PairStep) (s t : Store) (xs : List Item) (p : Premise) → Drawn s t xs → p.number < s.list.held
    → pairs_with f (held_in t) p ≡ pairs_with f (held_in s) p
pairs_front f s t xs p d h =
    let a = drawn_front s t xs p.number d (omega arith) in
    let b = drawn_front s t xs (p.number + 1) d (omega arith) in
    cc

pub thirds_front : (f : TripleStep) (s t : Store) (xs : List Item) (p : Premise) (b : ℕ) (y : Item) → Drawn s t xs → p.number < s.list.held
    → thirds_with f (held_in t) p b y ≡ thirds_with f (held_in s) p b y
thirds_front f s t xs p b y d h =
    let e = drawn_front s t xs (p.number + 1) d (omega arith) in
    cc

pub firsts_front : (f : TripleStep) (s t : Store) (xs : List Item) (p : Premise) → Drawn s t xs → p.number < s.list.held
    → each (thirds_with f (held_in t) p) 0 (take (p.number + 1) (held_in t)) ≡ each (thirds_with f (held_in s) p) 0 (take (p.number + 1) (held_in s))
firsts_front f s t xs p d h =
    let e = drawn_front s t xs (p.number + 1) d (omega arith) in
    let w = each_same (thirds_with f (held_in t) p) (thirds_with f (held_in s) p) 0 (take (p.number + 1) (held_in s)) (λ k y. thirds_front f s t xs p k y d h) in
    cc

pub triples_front : (f : TripleStep) (s t : Store) (xs : List Item) (p : Premise) → Drawn s t xs → p.number < s.list.held
    → triples_with f (held_in t) p ≡ triples_with f (held_in s) p
triples_front f s t xs p d h =
    let e = drawn_front s t xs p.number d (omega arith) in
    let u = each_same (λ k y. pairs_with (f k y) (held_in t) p) (λ k y. pairs_with (f k y) (held_in s) p) 0 (take p.number (held_in s)) (λ k y. pairs_front (f k y) s t xs p d h) in
    let w = firsts_front f s t xs p d h in
    cc

-- what a step draws, as the grammar and the items before it give it
pub drawn_on : (f : Contents → List Item → List Item) (s t u : Store) (xs : List Item) → Drawn s t xs → ((c : Contents) → f c (held_in t) ≡ f c (held_in s))
    → Drawn t u (f (contents_of t) (held_in t)) → Drawn s u (xs ++ f (contents_of s) (held_in s))
drawn_on f s t u xs p h q =
    drawn_then s t u xs _ p (drawn_as t u _ _ (ap (λ (g : Grammar). f (contents_in g) (held_in t)) p.grown.grammar ∙ h (contents_of s)) q)

-- seven steps one by one
pub one_by_one : (a b c d e f g : List Item) → (((((a ++ b) ++ c) ++ d) ++ e) ++ f) ++ g ≡ a ++ (b ++ (c ++ (d ++ (e ++ (f ++ g)))))
one_by_one a b c d e f g = simp append_assoc

-- the conclusions at a premise whose item is x: at a held item they are `conclusions`
abbrev pub conclusions_at : Contents → Meaning → List Item → Premise → Item → List Item
conclusions_at c m its r x =
    let p : Premise = record { number = r.number; item = record r.item { now = x } } in
    scan c m p.number x
    ++ (predict c p.number x
    ++ (pairs_with (complete c) its p
    ++ (adjoin_predict c p.number x
    ++ (foot_predict c p.number x
    ++ (pairs_with (foot_complete c) its p
    ++ triples_with (adjoin_complete c) its p)))))

-- one more number
pub stepped : (f : ℕ → List Item) (s t u : Store) (k : ℕ) (o : List Item) → Drawn s t (upto k f) → o ≡ f k → Drawn t u o → Drawn s u (upto (k + 1) f)
stepped f s t u k o p e q =
    drawn_as s u (upto k f ++ o) (upto (k + 1) f)
    (ap (λ (z : List Item). upto k f ++ z) e ∙ ap (λ (n : ℕ). upto n f) (sym (add-one k)))
    (drawn_then s t u (upto k f) o p q)

-- a full store stays as it is
pub full_stays : (cap : ℕ) (s : State) (xs : List Item) → s.full ≡ true → draw_all cap s xs ≡ s
full_stays cap s [] e = refl
full_stays cap s (x ∷ xs) e =
    let d : draw cap s x ≡ s = ap (λ (b : Bool). cond b s (draw_by s.items x (answer_in same_item cap s.items x))) e in
    ap (λ (z : State). draw_all cap z xs) d ∙ full_stays cap s xs e

pub drawn_full : (s : Store) (xs : List Item) → s.full ≡ true → Drawn s s xs
drawn_full s xs e = record { grown = grown_none s; state = sym (full_stays (room_in s) (state_of s) xs e) }

-- a sweep that stops where the store is full
pub swept_full : (f : ℕ → Item → List Item) (s t : Store) (k n : ℕ) → k ≤ n → t.full ≡ true
    → Drawn s t (each f 0 (take k (held_in s))) → Drawn s t (each f 0 (take n (held_in s)))
swept_full f s t k n h e p =
    let xs = take n (held_in s) in
    let cut : take k xs ≡ take k (held_in s) = take-take k n (held_in s) h in
    drawn_as s t (each f 0 (take k (held_in s)) ++ each f (0 + length (take k xs)) (drop k xs)) (each f 0 xs)
    (ap (λ (z : List Item). each f 0 z ++ each f (0 + length (take k xs)) (drop k xs)) (sym cut)
    ∙ (sym (each_append f 0 (take k xs) (drop k xs)) ∙ ap (λ (z : List Item). each f 0 z) (take-append-drop k xs)))
    (drawn_then s t t _ _ p (drawn_full t _ e))
