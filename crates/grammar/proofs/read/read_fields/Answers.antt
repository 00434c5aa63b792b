use Rattle.std.proofs.Common.{◌≡◌, true, Ok, Result, is_ok, MatchResult, rules, arith, ℕ, ◌-◌, ◌≤◌, List, length, Err, sym, ◌∙◌, subst}
use Rattle.format.specs.declared.fault.Refusal.{Refusal}
use Rattle.grammar.specs.declared.read.ReadError.{ReadError}
use Rattle.grammar.specs.declared.draft.Draft.{Draft}
use Rattle.fields.specs.declared.stop.Stop.{Stop}
use Rattle.fields.specs.declared.stop.Stop.TheVariants as stops
use Rattle.fields.specs.Cuts.{CutField}
use Rattle.std.proofs.lemmas.Result.{err_from_is_err_and, MatchResult-weaker}
use Rattle.format.specs.Fields.{Whole}
use Rattle.grammar.specs.Read.{Reads, error_at}
use Rattle.format.specs.Judge.{State, judge, judge_field}
use Rattle.grammar.specs.Drafts.{state, Judged}
use Rattle.format.proofs.Walks.{Walked, walked_on, shorter_now, refused_here, in_size}
use Rattle.grammar.proofs.read.read_fields.Goals as goal

stops_here : (bytes : List ℕ) (s : State) (d : Draft) (rest : List ℕ) (tag : ℕ) (body later : List ℕ) (stop : Stop) → length bytes ≤ 16384 → Walked bytes s rest → Whole rest tag body later
    → Judged {X = Unit {0}} (judge_field s tag body) d (Err stop) → Reads (judge bytes) (Err (error_at (length bytes - length rest) stop))
stops_here bytes s d rest tag body later (stops.Broken r) in_bounds w h e =
    in_size bytes in_bounds ∙ (sym w.same ∙ refused_here (length bytes - length rest) s rest tag body later r h e)
stops_here bytes s d rest tag body later stops.OutOfMemory in_bounds w h e = tt

-- the error of a field that was refused, and the draft behind one that was not
stopped : (bytes : List ℕ) (s : State) (d : Draft) (rest : List ℕ) (tag : ℕ) (body later : List ℕ) (r : Result (Unit {0}) Stop) (y : ReadError)
    → length bytes ≤ 16384 → Walked bytes s rest → Whole rest tag body later → Judged (judge_field s tag body) d r
    → MatchResult r (λ x. ◌≡◌ {A = Result (Unit {0}) ReadError} (Err y) (Ok x)) (λ e. y ≡ error_at (length bytes - length rest) e) → Reads (judge bytes) (Err y)
stopped bytes s d rest tag body later (Ok u) y in_bounds w h j m = absurd cc
stopped bytes s d rest tag body later (Err e) y in_bounds w h j m = rw m (stops_here bytes s d rest tag body later e in_bounds w h j)

went_on : (j : Result State Refusal) (d : Draft) (r : Result (Unit {0}) Stop) → true ≡ is_ok r → Judged j d r → j ≡ Ok (state d)
went_on j d (Ok u) e h = h
went_on j d (Err s) e h = cc

pub returns-in_err-map_err : goal.returns-in_err-map_err
returns-in_err-map_err c =
    let p = err_from_is_err_and c.from_residual-in_err-map_err.result c.from_residual-in_err-map_err.ensures.1 in
    let cut = subst (CutField c.loop-rest.rest.now) c.in_ok-field.ensures.ok_part c.next_field.ensures in
    let m : MatchResult c.field.result (λ x. ◌≡◌ {A = Result (Unit {0}) ReadError} (Err c.in_err-map_err.field-0.0) (Ok x)) (λ e. c.in_err-map_err.field-0.0 ≡ error_at (length c.args.bytes.now - length c.loop-rest.rest.now) e)
    = MatchResult-weaker c.field.result c.in_err-map_err.ensures.cases (λ x h. h) (λ e h. search rules) in
    rw (p.1, p.2)
    (stopped c.args.bytes.now (state c.loop-rest.draft) c.field.new.self c.loop-rest.rest.now
    c.in_ok-field.field.tag c.in_ok-field.field.body.now c.in_ok-field.field.rest.now c.field.result c.in_err-map_err.field-0.0 (omega arith) c.loop-rest.invariant cut c.field.ensures m)

pub loop-rest-smaller : goal.loop-rest-smaller
loop-rest-smaller c =
    let cut = subst (CutField c.loop-rest.rest.now) c.in_ok-field.ensures.ok_part c.next_field.ensures in
    shorter_now c.loop-rest.rest.now c.in_ok-field.field.tag c.in_ok-field.field.body.now c.in_ok-field.field.rest.now cut

pub loop-rest-preserved : goal.loop-rest-preserved
loop-rest-preserved c =
    let cut = subst (CutField c.loop-rest.rest.now) c.in_ok-field.ensures.ok_part c.next_field.ensures in
    walked_on c.args.bytes.now (state c.loop-rest.draft) (state c.field.new.self) c.loop-rest.rest.now
    c.in_ok-field.field.tag c.in_ok-field.field.body.now c.in_ok-field.field.rest.now c.loop-rest.invariant cut
    (went_on (judge_field (state c.loop-rest.draft) c.in_ok-field.field.tag c.in_ok-field.field.body.now) c.field.new.self c.field.result c.in_ok-map_err.ensures.variant c.field.ensures)
