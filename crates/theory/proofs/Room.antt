-- No chart holds more items than it has room for.
use Rattle.std.proofs.Common.{◌≡◌, ℕ, zero, suc, ◌≤◌, Bool, true, false, cond, ltb, List, [], ◌∷◌, length, Some, None, Ok, Option, refl, arith, ltb-true}
use Rattle.std.proofs.lemmas.List.{length_push}
use Rattle.distinct.specs.declared.Added.TheVariants.{New}
use Rattle.distinct.specs.Adding.{first_same, no_room, answer_at}
use Rattle.format.specs.Parts.{Contents}
use Rattle.words.specs.Meaning.{Meaning}
use Rattle.steps.specs.declared.item.Item.{Item}
use Rattle.steps.specs.Items.{same_item}
use Rattle.steps.specs.Conclusions.{starts, conclusions}
use Rattle.steps.specs.Runs.{State, draw_by, draw, draw_all, nothing_drawn, Working, goes_on, process, worked, made}
use Rattle.theory.specs.Theorems.{chart}

draw_room : (cap : ℕ) (s : State) (x : Item) → length s.items ≤ cap → length (draw cap s x).items ≤ cap
draw_room cap s x h = by_full s.full
  where
    room : (b : Bool) → ltb (length s.items) cap ≡ b → length (draw_by s.items x (cond b (Ok (New (length s.items))) no_room)).items ≤ cap
    room true e = omega (arith, length_push s.items x, ltb-true (length s.items) cap e)
    room false e = h

    by_first : (o : Option ℕ) → length (draw_by s.items x (answer_at o (length s.items) cap)).items ≤ cap
    by_first (Some k) = h
    by_first None = room (ltb (length s.items) cap) refl

    by_full : (b : Bool) → length (cond b s (draw_by s.items x (answer_at (first_same same_item 0 s.items x) (length s.items) cap))).items ≤ cap
    by_full true = h
    by_full false = by_first (first_same same_item 0 s.items x)

draw_all_room : (cap : ℕ) (s : State) (xs : List Item) → length s.items ≤ cap → length (draw_all cap s xs).items ≤ cap
draw_all_room cap s [] h = h
draw_all_room cap s (x ∷ xs) h = draw_all_room cap (draw cap s x) xs (draw_room cap s x h)

worked_room : (c : Contents) (m : Meaning) (cap n : ℕ) (w : Working) → length w.state.items ≤ cap
    → length (worked c m cap n w).state.items ≤ cap
worked_room c m cap zero w h = h
worked_room c m cap (suc n) w h =
    pick (goes_on w) (worked_room c m cap n (process c m cap w) (draw_all_room cap w.state (conclusions c m w.state.items w.processed) h))
  where
    pick : (b : Bool) → length (worked c m cap n (process c m cap w)).state.items ≤ cap
        → length (cond b (worked c m cap n (process c m cap w)) w).state.items ≤ cap
    pick true u = u
    pick false u = h

pub chart_room : (c : Contents) (m : Meaning) (cap n : ℕ) → length (chart c m cap n).state.items ≤ cap
chart_room c m cap n = worked_room c m cap n (made c cap) (draw_all_room cap nothing_drawn (starts c) (omega arith))
