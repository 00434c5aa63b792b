-- Field after field: what is left of the bytes is judged as the whole was.
use Rattle.std.proofs.Common.{◌≡◌, ℕ, zero, suc, ◌+◌, ◌-◌, ◌<◌, ◌≤◌, leb, List, [], ◌∷◌, length, take, drop, Ok, Err, Result, sym, refl, ap, ◌∙◌, arith, length-drop, le-leb}
use borrow.Author.Tests.{lt-leb}
use Rattle.std.proofs.lemmas.Bool.{cond-true, cond-false}
use Rattle.format.specs.declared.fault.Refusal.{Refusal}
use Rattle.format.specs.declared.fault.Rule.TheVariants as broken
use Rattle.format.specs.Judge.{State, nothing_read, fault, judge, judge_from, judge_end, judge_field, at_place}
use Rattle.format.specs.Fields.{Short, Whole}
use Rattle.format.specs.Parts.{pair}

pub record Walked (bytes : List ℕ) (s : State) (rest : List ℕ) : Type 0 where
  pub short : length rest ≤ length bytes
  pub same : judge_from 0 (length bytes - length rest) (Ok s) rest ≡ judge_from 0 0 (Ok nothing_read) bytes

-- bytes that belong to the field before are passed over
pub skipped : (k place : ℕ) (s : State) (bytes : List ℕ) → k ≤ length bytes → judge_from k place (Ok s) bytes ≡ judge_from 0 (k + place) (Ok s) (drop k bytes)
skipped zero place s bytes h = ap (λ (p : ℕ). judge_from 0 p (Ok s) bytes) (let e : place ≡ 0 + place = omega arith in e)
skipped (suc k) place s [] h = absurd (omega arith)
skipped (suc k) place s (b ∷ bytes) h =
    skipped k (suc place) s bytes (omega arith) ∙ ap (λ (p : ℕ). judge_from 0 p (Ok s) (drop k bytes)) (let e : k + suc place ≡ suc k + place = omega arith in e)

pub nothing_walked : (bytes : List ℕ) (s : State) → s ≡ nothing_read → Walked bytes s bytes
nothing_walked bytes s h = record {
  short = omega arith;
  same = ap (λ (p : ℕ). judge_from 0 p (Ok s) bytes) (let e : length bytes - length bytes ≡ 0 = omega arith in e) ∙ ap (λ (t : State). judge_from 0 0 (Ok t) bytes) h;
}

pub cut_here : (place : ℕ) (s : State) (rest : List ℕ) → 0 < length rest → Short rest → judge_from 0 place (Ok s) rest ≡ Err (fault broken.Cut place 0)
cut_here place s [] some h = absurd (omega arith)
cut_here place s (t ∷ []) some h = refl
cut_here place s (t ∷ (a ∷ [])) some h = refl
cut_here place s (t ∷ (a ∷ (b ∷ more))) some h =
    cond-false (leb (pair a b) (length more))
    (judge_from (pair a b) (3 + place) (at_place place (judge_field s t (take (pair a b) more))) more)
    (Err (fault broken.Cut place 0)) (lt-leb (pair a b) (length more) h)

-- a whole field is judged, and then what is behind it
pub whole_field : (place : ℕ) (s : State) (rest : List ℕ) (tag : ℕ) (body later : List ℕ) (j : Result State Refusal) → Whole rest tag body later → judge_field s tag body ≡ j
    → (n : ℕ) × (more : List ℕ) × (n ≤ length more) × (later ≡ drop n more) × (length rest ≡ 3 + length more) × (judge_from 0 place (Ok s) rest ≡ judge_from n (3 + place) (at_place place j) more)
whole_field place s [] tag body later j w e = elim w [ ]
whole_field place s (t ∷ []) tag body later j w e = elim w [ ]
whole_field place s (t ∷ (a ∷ [])) tag body later j w e = elim w [ ]
whole_field place s (t ∷ (a ∷ (b ∷ more))) tag body later j w e = (
  pair a b,
  more,
  w.0,
  w.3,
  omega arith,
  cond-true (leb (pair a b) (length more))
      (judge_from (pair a b) (3 + place) (at_place place (judge_field s t (take (pair a b) more))) more)
      (Err (fault broken.Cut place 0)) (le-leb (pair a b) (length more) w.0)
      ∙ ap (λ (r : Result State Refusal). judge_from (pair a b) (3 + place) (at_place place r) more)
      (ap (λ (u : ℕ). judge_field s u (take (pair a b) more)) (sym w.1) ∙ (ap (judge_field s tag) (sym w.2) ∙ e)),
)

pub walked_on : (bytes : List ℕ) (s t : State) (rest : List ℕ) (tag : ℕ) (body later : List ℕ) → Walked bytes s rest → Whole rest tag body later → judge_field s tag body ≡ Ok t → Walked bytes t later
walked_on bytes s t rest tag body later w h e =
    let place = length bytes - length rest in
    let f = whole_field place s rest tag body later (Ok t) h e in
    let n = f.0 in
    let more = f.1 in
    let long : length later ≡ length more - n = ap length f.3 ∙ length-drop n more in
    let shorter = w.short in
    let fits = f.2 in
    let all = f.4 in
    record {
      short = omega arith;
      same = ap (λ (p : ℕ). judge_from 0 p (Ok t) later) (let q : length bytes - length later ≡ n + (3 + place) = omega arith in q)
          ∙ (ap (judge_from 0 (n + (3 + place)) (Ok t)) f.3
          ∙ (sym (skipped n (3 + place) t more f.2) ∙ (sym f.5 ∙ w.same)));
    }

pub shorter_now : (rest : List ℕ) (tag : ℕ) (body later : List ℕ) → Whole rest tag body later → length later < length rest
shorter_now [] tag body later w = elim w [ ]
shorter_now (t ∷ []) tag body later w = elim w [ ]
shorter_now (t ∷ (a ∷ [])) tag body later w = elim w [ ]
shorter_now (t ∷ (a ∷ (b ∷ more))) tag body later w = omega (arith, ap length w.3 ∙ length-drop (pair a b) more)

pub refused_here : (place : ℕ) (s : State) (rest : List ℕ) (tag : ℕ) (body later : List ℕ) (r : Refusal) → Whole rest tag body later → judge_field s tag body ≡ Err r
    → judge_from 0 place (Ok s) rest ≡ Err (fault r.rule place r.node)
refused_here place s rest tag body later r h e = (whole_field place s rest tag body later (Err r) h e).5

pub all_walked : (bytes : List ℕ) (s : State) (rest : List ℕ) → length rest ≡ 0 → Walked bytes s rest → judge_end s.phase s (length bytes) ≡ judge_from 0 0 (Ok nothing_read) bytes
all_walked bytes s [] h w = ap (judge_end s.phase s) (let e : length bytes ≡ length bytes - 0 = omega arith in e) ∙ w.same
all_walked bytes s (b ∷ rest) h w = absurd (omega arith)

pub in_size : (bytes : List ℕ) → length bytes ≤ 16384 → judge bytes ≡ judge_from 0 0 (Ok nothing_read) bytes
in_size bytes h = cond-true (leb (length bytes) 16384) (judge_from 0 0 (Ok nothing_read) bytes) (Err (fault broken.Size 16384 0)) (le-leb (length bytes) 16384 h)

pub over_size : (bytes : List ℕ) → 16384 < length bytes → judge bytes ≡ Err (fault broken.Size 16384 0)
over_size bytes h = cond-false (leb (length bytes) 16384) (judge_from 0 0 (Ok nothing_read) bytes) (Err (fault broken.Size 16384 0)) (lt-leb (length bytes) 16384 h)
