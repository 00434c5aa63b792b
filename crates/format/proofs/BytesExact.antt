-- Bytes are read exactly when they are fields that lead to the table.
use Rattle.std.proofs.Common.{◌≡◌, ℕ, zero, suc, ◌+◌, ◌≤◌, Bool, true, false, cond, leb, List, [], ◌∷◌, ◌++◌, length, take, drop, Ok, Err, Result, sym, refl, ap, ◌∙◌, arith, length-append, length-drop, take-append-drop, length-take-le, take_at, drop_at, leb-true}
use Rattle.std.proofs.lemmas.Bool.{cond-true}
use Rattle.format.specs.declared.stage.Phase.{Phase}
use Rattle.format.specs.declared.stage.Phase.TheVariants.{Start, Trees, Adjoinings}
use Rattle.format.specs.declared.fault.Refusal.{Refusal}
use Rattle.format.specs.declared.fault.Fault.{Fault}
use Rattle.format.specs.declared.fault.Rule.TheVariants as broken
use Rattle.format.specs.Judge.{State, contents, fault, judge_from, judge_end, judge_field, at_place, nothing_read, some_initial}
use Rattle.format.specs.Fields.{Whole}
use Rattle.format.proofs.Cases.{nothing, never}
use Rattle.format.proofs.FieldExact.{field_exact}
use Rattle.format.proofs.Walks.{skipped, whole_field, in_size}
use Rattle.format.specs.Parts.{Contents, pair}
use Rattle.format.proofs.Chains.{FieldOf, Chain, Begun, GrammarBytes, BytesExact}

ends : (s : State) (place : ℕ) (u : Contents) → judge_end s.phase s place ≡ Ok u → (contents s ≡ u) × Begun s.phase × (some_initial s.trees ≡ true)
ends s place u h = at s.phase h
  where
    done : (b : Bool) (e : Fault) → some_initial s.trees ≡ b → cond b (Ok (contents s)) (Err e) ≡ Ok u → (contents s ≡ u) × (some_initial s.trees ≡ true)
    done true e q h = (cc, q)
    done false e q h = never e u h

    at : (p : Phase) → judge_end p s place ≡ Ok u → (contents s ≡ u) × Begun p × (some_initial s.trees ≡ true)
    at Start h = never (fault broken.Order place 0) u h
    at Trees h = let d = done (some_initial s.trees) (fault broken.NoInitial place 0) refl h in (d.0, tt, d.1)
    at Adjoinings h = let d = done (some_initial s.trees) (fault broken.NoInitial place 0) refl h in (d.0, tt, d.1)

ended : (p : Phase) (s : State) (place : ℕ) → Begun p → some_initial s.trees ≡ true → judge_end p s place ≡ Ok (contents s)
ended Start s place b i = elim b [ ]
ended Trees s place b i = cond-true (some_initial s.trees) (Ok (contents s)) (Err (fault broken.NoInitial place 0)) i
ended Adjoinings s place b i = cond-true (some_initial s.trees) (Ok (contents s)) (Err (fault broken.NoInitial place 0)) i

abbrev ReadOn : State → List ℕ → Contents → Type 0
ReadOn s bytes c = (fs : List FieldOf) × (u : State) × Chain s fs bytes u × Begun u.phase × (some_initial u.trees ≡ true) × (contents u ≡ c)

-- what was read came by fields; n bounds the bytes that are left
only_fields : (n place : ℕ) (s : State) (u : Contents) (bytes : List ℕ) → length bytes ≤ n → judge_from 0 place (Ok s) bytes ≡ Ok u → ReadOn s bytes u
only_fields n place s u [] h e =
    let d = ends s place u e in
    ([], s, (refl, refl), d.1, d.2, d.0)
only_fields n place s u (t ∷ []) h e = never (fault broken.Cut place 0) u e
only_fields n place s u (t ∷ (a ∷ [])) h e = never (fault broken.Cut place 0) u e
only_fields zero place s u (t ∷ (a ∷ (b ∷ more))) h e = nothing (omega arith)
only_fields (suc n) place s u (t ∷ (a ∷ (b ∷ more))) h e =
    at (leb (pair a b) (length more)) refl (judge_field s t (take (pair a b) more)) refl e (λ mid. only_fields n (pair a b + (3 + place)) mid u (drop (pair a b) more) (omega (arith, length-drop (pair a b) more)))
  where
    at : (q : Bool) → leb (pair a b) (length more) ≡ q → (j : Result State Refusal) → judge_field s t (take (pair a b) more) ≡ j
        → cond q (judge_from (pair a b) (3 + place) (at_place place j) more) (Err (fault broken.Cut place 0)) ≡ Ok u
        → ((mid : State) → judge_from 0 (pair a b + (3 + place)) (Ok mid) (drop (pair a b) more) ≡ Ok u → ReadOn mid (drop (pair a b) more) u)
        → ReadOn s (t ∷ (a ∷ (b ∷ more))) u
    at false q j g e again = never (fault broken.Cut place 0) u e
    at true q (Err r) g e again = never (fault r.rule place r.node) u e
    at true q (Ok mid) g e again =
        let fits = leb-true (pair a b) (length more) q in
        let r = again mid (sym (skipped (pair a b) (3 + place) mid more fits) ∙ e) in (
          record { tag = t; body = take (pair a b) more } ∷ r.0,
          r.1,
          (
            drop (pair a b) more,
            mid,
            (a, b, sym (length-take-le (pair a b) more fits), ap (λ (l : List ℕ). t ∷ (a ∷ (b ∷ l))) (sym (take-append-drop (pair a b) more))),
            (field_exact s mid t (take (pair a b) more)).0 g,
            r.2,
          ),
          r.3,
          r.4,
          r.5,
        )

whole : (f : FieldOf) (later : List ℕ) (high low : ℕ) → pair high low ≡ length f.body → Whole (f.tag ∷ (high ∷ (low ∷ (f.body ++ later)))) f.tag f.body later
whole f later high low e =
    (omega (arith, length-append f.body later), refl, sym (take_at f.body later (pair high low) (sym e)), sym (drop_at f.body later (pair high low) (sym e)))

all_fields : (fs : List FieldOf) (place : ℕ) (s u : State) (bytes : List ℕ) → Chain s fs bytes u → Begun u.phase → some_initial u.trees ≡ true → judge_from 0 place (Ok s) bytes ≡ Ok (contents u)
all_fields [] place s u bytes h b i =
    ap (judge_from 0 place (Ok s)) h.0 ∙ (ap (λ (t : State). judge_from 0 place (Ok t) []) h.1 ∙ ended u.phase u place b i)
all_fields (f ∷ fs) place s u bytes h b i =
    let later = h.0 in
    let mid = h.1 in
    let is = h.2 in
    let w = whole_field place s (f.tag ∷ (is.0 ∷ (is.1 ∷ (f.body ++ later)))) f.tag f.body later (Ok mid) (whole f later is.0 is.1 is.2) ((field_exact s mid f.tag f.body).1 h.3) in
    ap (judge_from 0 place (Ok s)) is.3
    ∙ (w.5 ∙ (skipped w.0 (3 + place) mid w.1 w.2
    ∙ (ap (judge_from 0 (w.0 + (3 + place)) (Ok mid)) (sym w.3) ∙ all_fields fs (w.0 + (3 + place)) mid u later h.4 b i)))

pub bytes_exact : BytesExact
bytes_exact bytes u = (λ h. only (leb (length bytes) 16384) refl h, λ g. in_size bytes g.few ∙ (all_fields g.fields 0 nothing_read g.last bytes g.chain g.begun g.initial ∙ ap Ok g.holds))
  where
    only : (q : Bool) → leb (length bytes) 16384 ≡ q → cond q (judge_from 0 0 (Ok nothing_read) bytes) (Err (fault broken.Size 16384 0)) ≡ Ok u → GrammarBytes bytes u
    only true q h =
        let r = only_fields (length bytes) 0 nothing_read u bytes (omega arith) h in
        record { few = leb-true (length bytes) 16384 q; fields = r.0; last = r.1; chain = r.2; begun = r.3; initial = r.4; holds = r.5 }
    only false q h = never (fault broken.Size 16384 0) u h
