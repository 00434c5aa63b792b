-- A turn of the work.
use Rattle.std.proofs.Common.{◌≡◌, ℕ, zero, suc, ◌+◌, ◌-◌, ◌<◌, Bool, true, false, cond, sym, refl, ap, ◌∙◌, subst, arith}
use Rattle.format.specs.Parts.{Contents}
use Rattle.words.specs.Meaning.{Meaning}
use Rattle.steps.specs.Conclusions.{conclusions}
use Rattle.steps.specs.Runs.{State, draw_all, Working, goes_on, process, worked}
use Rattle.theory.specs.Came.{Came}
use Rattle.theory.proofs.Came.{came_worked}
use Rattle.chart.specs.declared.store.Store.{Store}
use Rattle.grammar.specs.declared.grammar.Grammar.{Grammar}
use Rattle.grammar.specs.Grammars.{contents_in}
use Rattle.chart.specs.Drawn.{Grown, Drawn, contents_of, state_of, held_in, room_in}
use Rattle.chart.specs.Works.{working}
use Rattle.chart.proofs.Runs.{grown_then, drawn_as}

pub worked_stop : (c : Contents) (m : Meaning) (cap n : ℕ) (w : Working) → goes_on w ≡ false → worked c m cap n w ≡ w
worked_stop c m cap zero w e = refl
worked_stop c m cap (suc n) w e = ap (λ (b : Bool). cond b (worked c m cap n (process c m cap w)) w) e

worked_go : (c : Contents) (m : Meaning) (cap n l : ℕ) (w : Working) → n ≡ suc l → goes_on w ≡ true → worked c m cap n w ≡ worked c m cap l (process c m cap w)
worked_go c m cap n l w q e = ap (λ (k : ℕ). worked c m cap k w) q ∙ ap (λ (b : Bool). cond b (worked c m cap l (process c m cap w)) w) e

abbrev with_processed : State → ℕ → Working
with_processed s n = record { state = s; processed = n }

processes_one : (c : Contents) (m : Meaning) (cap : ℕ) (s t : Store) (n : ℕ) → room_in s ≡ cap → Drawn s t (conclusions c m (held_in s) n)
    → working t (n + 1) ≡ process c m cap (working s n)
processes_one c m cap s t n e p = ap (λ (z : State). with_processed z (n + 1)) (p.state ∙ ap (λ (k : ℕ). draw_all k (state_of s) (conclusions c m (held_in s) n)) e)

-- s at the start, t before the turn with n items processed, u after it
pub work_on : (m : Meaning) (s t u : Store) (a n all k : ℕ) → k < all → Grown s t
    → worked (contents_of s) m (room_in s) all (working s a) ≡ worked (contents_of s) m (room_in s) (all - k) (working t n)
    → goes_on (working t n) ≡ true → Drawn t u (conclusions (contents_of t) m (held_in t) n)
    → Grown s u
    × (worked (contents_of s) m (room_in s) all (working s a) ≡ worked (contents_of s) m (room_in s) (all - (k + 1)) (working u (n + 1)))
work_on m s t u a n all k h p e go d =
    let c = contents_of s in
    let same : Drawn t u (conclusions c m (held_in t) n) = drawn_as t u _ _ (ap (λ (g : Grammar). conclusions (contents_in g) m (held_in t) n) p.grammar) d in
    let cap = room_in s in
    let q : all - k ≡ suc (all - (k + 1)) = omega arith in (
      grown_then s t u p d.grown,
      e ∙ (worked_go c m cap (all - k) (all - (k + 1)) (working t n) q go ∙ ap (λ (w : Working). worked (contents_of s) m cap (all - (k + 1)) w) (sym (processes_one c m cap t u n p.list.room same))),
    )

-- A turn keeps that items came by their steps: it is work with a budget of one.
pub came_on : (m : Meaning) (t u : Store) (n : ℕ) → goes_on (working t n) ≡ true → Drawn t u (conclusions (contents_of t) m (held_in t) n)
    → Came (contents_of t) (held_in t) → Came (contents_of u) (held_in u)
came_on m t u n go d h =
    let c = contents_of t in
    let cap = room_in t in
    let e : working u (n + 1) ≡ worked c m cap 1 (working t n) = processes_one c m cap t u n refl d ∙ sym (worked_go c m cap 1 0 (working t n) refl go) in
    subst (λ (g : Grammar). Came (contents_in g) (held_in u)) (sym d.grown.grammar)
    (subst (λ (w : Working). Came c w.state.items) (sym e) (came_worked c m cap 1 (working t n) h))
