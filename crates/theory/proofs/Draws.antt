-- Conclusions drawn: what a chart holds after them.
use Rattle.std.proofs.Common.{◌≡◌, ℕ, suc, ◌+◌, ◌<◌, ◌≤◌, Bool, true, false, cond, ltb, List, [], ◌∷◌, ◌++◌, length, Some, None, Ok, Option, sym, refl, ap, ◌∙◌, subst, arith}
use native.Mathlib.Decide.{dec_lt}
use lib.ListN.{get_or-append}
use Rattle.std.proofs.lemmas.List.{length_push, get_or_push}
use Rattle.std.proofs.lemmas.Bool.{true≢false}
use Rattle.std.proofs.lemmas.Option.{none-some}
use Rattle.distinct.specs.declared.Added.TheVariants.{New}
use Rattle.distinct.specs.Adding.{first_same, no_room, answer_at}
use Rattle.steps.specs.declared.item.Item.{Item}
use Rattle.steps.specs.Items.{same_item, blank, item_at}
use Rattle.steps.specs.Runs.{State, draw_by, draw, draw_all}
use Rattle.theory.specs.Members.{Among, here, there}
use Rattle.theory.specs.Steps.{Holds}
use Rattle.theory.proofs.Members.{among_one}
use Rattle.theory.proofs.Tests.{same_refl}

-- a list goes on from another
pub record Prefix (its more : List Item) : Type 0 where
  pub longer : length its ≤ length more
  pub agrees : (a : ℕ) → a < length its → item_at more a ≡ item_at its a

prefix_refl : (its : List Item) → Prefix its its
prefix_refl its = record { longer = omega arith; agrees = λ a h. refl }

prefix_trans : {a b c : List Item} → Prefix a b → Prefix b c → Prefix a c
prefix_trans {a} {b} {c} p q = record { longer = longer'; agrees = λ k h. q.agrees k (inside k h) ∙ p.agrees k h }
  where
    longer' : length a ≤ length c
    longer' = let x = p.longer in let y = q.longer in omega arith

    inside : (k : ℕ) → k < length a → k < length b
    inside k h = let x = p.longer in omega arith

prefix_push : (its : List Item) (x : Item) → Prefix its (its ++ (x ∷ []))
prefix_push its x = record { longer = (let l = length_push its x in omega arith); agrees = λ a h. get_or-append its (x ∷ []) blank a h }

pub holds_on : {its more : List Item} → Prefix its more → (y : Item) → Holds its y → Holds more y
holds_on {its} {more} p y h = (h.0, longer', ap (λ (v : Item). same_item v y) (p.agrees h.0 h.1) ∙ h.2)
  where
    longer' : h.0 < length more
    longer' = let x = p.longer in let y = h.1 in omega arith

-- what a chart in state s, offered the items xs, becomes
pub record Drawn (s : State) (xs : List Item) (r : State) : Type 0 where
  pub grows : Prefix s.items r.items
  -- each new item is one of those offered
  pub new : (k : ℕ) → length s.items ≤ k → k < length r.items → Among Item (item_at r.items k) xs
  -- a full chart stays full
  pub was_open : r.full ≡ false → s.full ≡ false
  -- unless it is full, it holds all that was offered
  pub held : r.full ≡ false → (y : Item) → Among Item y xs → Holds r.items y

-- the number of the first same item
first_held : (k : ℕ) (its : List Item) (x : Item) (n : ℕ) → first_same same_item k its x ≡ Some n → Holds its x
first_held k [] x n e = absurd (none-some n e)
first_held k (y ∷ ys) x n e = pick (same_item y x) refl e (λ u. first_held (k + 1) ys x n u)
  where
    pick : (b : Bool) → same_item y x ≡ b → cond b (Some k) (first_same same_item (k + 1) ys x) ≡ Some n
        → (first_same same_item (k + 1) ys x ≡ Some n → Holds ys x) → Holds (y ∷ ys) x
    pick true h u f = (0, omega arith, h)
    pick false h u f = let r = f u in (suc r.0, (let l = r.1 in omega arith), r.2)

drawn_held : (s : State) (x : Item) → s.full ≡ false → Holds s.items x → Drawn s (x ∷ []) (record { items = s.items; full = false })
drawn_held s x e h = record {
  grows = prefix_refl s.items;
  new = λ k l u. absurd (omega arith);
  was_open = λ v. e;
  held = λ v y u. subst (λ (i : Item). Holds s.items i) (sym (among_one u)) h;
}

drawn_new : (its : List Item) (x : Item) → Drawn (record { items = its; full = false }) (x ∷ []) (record { items = its ++ (x ∷ []); full = false })
drawn_new its x = record {
  grows = prefix_push its x;
  new = λ k l u. (let q : length its ≡ k = omega (arith, len) in subst (λ (i : Item). Among Item i (x ∷ [])) (sym (get_or_push its x blank k q)) here);
  was_open = λ v. refl;
  held = λ v y u. (
    length its,
    omega (arith, len),
    ap (λ (i : Item). same_item i y) (get_or_push its x blank (length its) refl) ∙ subst (λ (i : Item). same_item x i ≡ true) (sym (among_one u)) (same_refl x),
  );
}
  where
    len : length (its ++ (x ∷ [])) ≡ length its + 1
    len = length_push its x

drawn_full : (s : State) (xs : List Item) → Drawn s xs (record { items = s.items; full = true })
drawn_full s xs = record {
  grows = prefix_refl s.items;
  new = λ k l u. absurd (omega arith);
  was_open = λ v. absurd (true≢false v);
  held = λ v y u. absurd (true≢false v);
}

drawn_one : (cap : ℕ) (s : State) (x : Item) → Drawn s (x ∷ []) (draw cap s x)
drawn_one cap s x = by_full s.full refl
  where
    room : (b : Bool) → s.full ≡ false → Drawn s (x ∷ []) (draw_by s.items x (cond b (Ok (New (length s.items))) no_room))
    room true e = subst (λ (v : Bool). Drawn (record { items = s.items; full = v }) (x ∷ []) (record { items = s.items ++ (x ∷ []); full = false })) (sym e) (drawn_new s.items x)
    room false e = drawn_full s (x ∷ [])

    by_first : (o : Option ℕ) → first_same same_item 0 s.items x ≡ o → s.full ≡ false
        → Drawn s (x ∷ []) (draw_by s.items x (answer_at o (length s.items) cap))
    by_first (Some k) q e = drawn_held s x e (first_held 0 s.items x k q)
    by_first None q e = room (ltb (length s.items) cap) e

    by_full : (b : Bool) → s.full ≡ b
        → Drawn s (x ∷ []) (cond b s (draw_by s.items x (answer_at (first_same same_item 0 s.items x) (length s.items) cap)))
    by_full true e = subst (λ (v : Bool). Drawn s (x ∷ []) (record { items = s.items; full = v })) (sym e) (drawn_full s (x ∷ []))
    by_full false e = by_first (first_same same_item 0 s.items x) refl e

drawn_then : (s : State) (x : Item) (u : State) (xs : List Item) (r : State) → Drawn s (x ∷ []) u → Drawn u xs r → Drawn s (x ∷ xs) r
drawn_then s x u xs r D E = record {
  grows = prefix_trans D.grows E.grows;
  new = λ k l h. place k l h (dec_lt k (length u.items));
  was_open = λ v. D.was_open (E.was_open v);
  held = λ v y h. pick v y h;
}
  where
    place : (k : ℕ) → length s.items ≤ k → k < length r.items → Dec (k < length u.items) → Among Item (item_at r.items k) (x ∷ xs)
    place k l h (yes q) =
        subst (λ (i : Item). Among Item i (x ∷ xs)) (sym (E.grows.agrees k q ∙ among_one (D.new k l q))) here
    place k l h (no q) = there (E.new k (omega arith) h)

    pick : r.full ≡ false → (y : Item) → Among Item y (x ∷ xs) → Holds r.items y
    pick v y here = holds_on E.grows y (D.held (E.was_open v) y here)
    pick v y (there h) = E.held v y h

pub drawn_all : (cap : ℕ) (s : State) (xs : List Item) → Drawn s xs (draw_all cap s xs)
drawn_all cap s [] = record { grows = prefix_refl s.items; new = λ k l u. absurd (omega arith); was_open = λ v. v; held = λ v y u. elim u [ ] }
drawn_all cap s (x ∷ xs) = drawn_then s x (draw cap s x) xs (draw_all cap (draw cap s x) xs) (drawn_one cap s x) (drawn_all cap (draw cap s x) xs)
