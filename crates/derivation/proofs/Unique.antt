-- A certificate determines its derivation: two derivations of a row whose choices are the same list, each with something behind it, are the same.
use Rattle.std.proofs.Common.{◌≡◌, ℕ, zero, suc, ◌<◌, Bool, true, false, List, [], ◌∷◌, ◌++◌, get_or, sym, refl, ap, ◌∙◌, subst, arith}
use native.Mathlib.Decide.{dec_lt}
use Rattle.format.specs.declared.node.Kind.{Kind}
use Rattle.format.specs.declared.node.Kind.TheVariants.{Inner, Word, Empty, Foot}
use Rattle.format.specs.declared.spot.Spot.TheVariants.{At}
use Rattle.format.specs.declared.spot.Next.{Next}
use Rattle.format.specs.declared.spot.Next.TheVariants.{End, Bottom, Child}
use Rattle.format.specs.Parts.{Contents}
use Rattle.format.specs.Judge.{adjoinable}
use Rattle.format.specs.Keeps.{node_in, taken_trees, any, Keeps}
use Rattle.format.specs.Questions.{children_of}
use Rattle.steps.specs.Conclusions.{listed}
use Rattle.derivation.specs.Derivations.{Derivation, done, stay, adjoin, below_kind, below, tree_row, Derives, Valid, v_done, v_word, v_empty, v_bottom, v_plain, v_adjoined}
use Rattle.derivation.specs.Walks.{Event, choice, word, is_choice, met_kind, met, first_in, later_in, below_next, walk, choices_met, certificate}
use Rattle.derivation.specs.Theorems.{CertificatesDetermine}
use Rattle.derivation.proofs.Feet.{feet_sum, feet_under, feet_step, one_foot}

-- Choices of events one after the other -----------------------------------------------------------------------------------------

choices_++ : (xs ys : List Event) (rest : List ℕ) → choices_met (xs ++ ys) ++ rest ≡ choices_met xs ++ (choices_met ys ++ rest)
choices_++ [] ys rest = refl
choices_++ (choice k ∷ xs) ys rest = ap (λ (l : List ℕ). k ∷ l) (choices_++ xs ys rest)
choices_++ (word w ∷ xs) ys rest = choices_++ xs ys rest

choices_three : (xs ys zs : List Event) (rest : List ℕ)
    → choices_met (xs ++ (ys ++ zs)) ++ rest ≡ choices_met xs ++ (choices_met ys ++ (choices_met zs ++ rest))
choices_three xs ys zs rest = choices_++ xs (ys ++ zs) rest ∙ ap (λ (l : List ℕ). choices_met xs ++ l) (choices_++ ys zs rest)

cons_head : {x y : ℕ} {xs ys : List ℕ} → x ∷ xs ≡ y ∷ ys → x ≡ y
cons_head e = cc

cons_tail : {x y : ℕ} {xs ys : List ℕ} → x ∷ xs ≡ y ∷ ys → xs ≡ ys
cons_tail e = cc

cancel : (xs : List ℕ) {ys zs : List ℕ} → xs ++ ys ≡ xs ++ zs → ys ≡ zs
cancel [] e = e
cancel (x ∷ xs) e = cancel xs (cons_tail e)

-- What a valid derivation has below and behind its first sibling ------------------------------------------------------------------

pub record Staying (c : Contents) (t : ℕ) (ks : List Next) (a f : Derivation) : Type 0 where
  pub under : Valid c t (below_next c t (first_in ks)) a
  pub later : Valid c t (later_in ks) f

leaf_under : (c : Contents) (t n : ℕ) (k : Kind) → below_kind k (children_of c t n) ≡ [] → (node_in c t n).kind ≡ k → Valid c t (below c t (At n)) done
leaf_under c t n k e h = subst (λ (l : List Next). Valid c t l done) (sym (ap (λ (v : Kind). below_kind v (children_of c t n)) h ∙ e)) v_done

staying : {c : Contents} {t : ℕ} {ks : List Next} {a f : Derivation} → Valid c t ks (stay a f) → Staying c t ks a f
staying {c} {t} (v_word {n = n} {w = w} e v) = record { under = leaf_under c t n (Word w) refl e; later = v }
staying {c} {t} (v_empty {n = n} e v) = record { under = leaf_under c t n Empty refl e; later = v }
staying (v_bottom v) = record { under = v_done; later = v }
staying (v_plain e s u v) = record { under = u; later = v }

pub record Adjoining (c : Contents) (t : ℕ) (ks : List Next) (β : ℕ) (r a f : Derivation) : Type 0 where
  pub node : ℕ
  pub here : first_in ks ≡ Child node
  pub site : adjoinable (node_in c t node).kind ≡ true
  pub taken : listed c t node β ≡ true
  pub tree : Valid c β (tree_row c β) r
  pub under : Valid c t (below_next c t (first_in ks)) a
  pub later : Valid c t (later_in ks) f

adjoining : {c : Contents} {t : ℕ} {ks : List Next} {β : ℕ} {r a f : Derivation} → Valid c t ks (adjoin β r a f) → Adjoining c t ks β r a f
adjoining (v_adjoined {n = n} e l b u v) = record { node = n; here = refl; site = e; taken = l; tree = b; under = u; later = v }

nil_of : {c : Contents} {t : ℕ} {ks : List Next} → Valid c t ks done → ks ≡ []
nil_of v_done = refl

abbrev SomeFirst : List Next → Type 0
SomeFirst ks = (k : Next) × (ls : List Next) × (ks ≡ k ∷ ls)

first_of_stay : {c : Contents} {t : ℕ} {ks : List Next} {a f : Derivation} → Valid c t ks (stay a f) → SomeFirst ks
first_of_stay (v_word e v) = (_, _, refl)
first_of_stay (v_empty e v) = (_, _, refl)
first_of_stay (v_bottom v) = (_, _, refl)
first_of_stay (v_plain e s u v) = (_, _, refl)

first_of_adjoin : {c : Contents} {t : ℕ} {ks : List Next} {β : ℕ} {r a f : Derivation} → Valid c t ks (adjoin β r a f) → SomeFirst ks
first_of_adjoin (v_adjoined e l b u v) = (_, _, refl)

-- anything follows from what cannot be
pub never : {Q : Type 0} → ◌≡◌ {A = ℕ} 0 1 → Q
never e = absurd (omega arith)

no_first : (ks : List Next) → ks ≡ [] → SomeFirst ks → ◌≡◌ {A = ℕ} 0 1
no_first ks e h = let z = h.2 in cc

-- A node that lists a tree is a choice node, and so something is met there.
any_listed : (bs : List Bool) (k : ℕ) → get_or bs k false ≡ true → any bs ≡ true
any_listed [] zero e = cc
any_listed [] (suc k) e = cc
any_listed (true ∷ bs) k e = refl
any_listed (false ∷ bs) zero e = cc
any_listed (false ∷ bs) (suc k) e = any_listed bs k e

met_zero : (k : Kind) (b : Bool) → adjoinable k ≡ true → b ≡ true → choices_met (met_kind k b) ≡ 0 ∷ []
met_zero (Inner l) true e h = refl
met_zero (Inner l) false e h = cc
met_zero (Word w) b e h = cc
met_zero Empty b e h = cc
met_zero (Foot l) true e h = refl
met_zero (Foot l) false e h = cc

-- Two lists of events, each with choices behind it, begin alike: then Q holds, and what is behind them is the same.
abbrev BeginAlike : List Event → List Event → Type 0 → Type 0
BeginAlike E E' Q = (S S' : List ℕ) → choices_met E ++ S ≡ choices_met E' ++ S' → Q × (S ≡ S')

pub record SameReading (f g : Derivation) (R R' : List ℕ) (feet : ℕ) (Q : Type 0) : Type 0 where
  pub same : f ≡ g
  pub rest : R ≡ R'
  -- the content at the foot is read where there is a foot
  pub content : 0 < feet → Q

module _ (c : Contents) (K : Keeps c) where
  abbrev feet : ℕ → List Next → ℕ
  feet t ks = feet_sum (feet_under c t) ks

  -- at the first sibling
  met_alike : (t : ℕ) (k : Next) (E E' : List Event) (Q : Type 0) → BeginAlike E E' Q → (S S' : List ℕ)
      → choices_met (met c t k E) ++ S ≡ choices_met (met c t k E') ++ S' → (k ≡ Bottom → Q) × (S ≡ S')
  met_alike t End E E' Q h S S' e = ((λ z. never cc), e)
  met_alike t Bottom E E' Q h S S' e = let r = h S S' e in ((λ _. r.0), r.1)
  met_alike t (Child n) E E' Q h S S' e = ((λ z. never cc), cancel (choices_met (met_kind (node_in c t n).kind (is_choice c t n))) e)

  -- a foot of a row is its first sibling, or below it, or behind it
  by_feet : (t : ℕ) (ks : List Next) (Q : Type 0) → (first_in ks ≡ Bottom → Q) → (0 < feet t (below_next c t (first_in ks)) → Q)
      → (0 < feet t (later_in ks) → Q) → 0 < feet t ks → Q
  by_feet t [] Q x y z h = absurd (omega arith)
  by_feet t (End ∷ ks) Q x y z h = z h
  by_feet t (Bottom ∷ ks) Q x y z h = x refl
  by_feet t (Child n ∷ ks) Q x y z h = pick (dec_lt 0 (feet t (below c t (At n))))
    where
      pick : Dec (0 < feet t (below c t (At n))) → Q
      pick (yes l) = y l
      pick (no l) = z (let s = feet_step c K t n in omega arith)

  clash : (t : ℕ) (ks : List Next) (E tail : List Event) (R S : List ℕ) {β : ℕ} {r a f : Derivation} → Adjoining c t ks β r a f
      → choices_met (met c t (first_in ks) E ++ tail) ++ R ≡ suc β ∷ S → ◌≡◌ {A = ℕ} 0 1
  clash t ks E tail R S {β} A e =
      let m : choices_met (met c t (first_in ks) E) ≡ 0 ∷ []
      = ap (λ (k : Next). choices_met (met c t k E)) A.here
      ∙ met_zero (node_in c t A.node).kind (is_choice c t A.node) A.site (any_listed (taken_trees (node_in c t A.node).constraint) β A.taken) in
      let z : 0 ≡ suc β
      = cons_head (ap (λ (l : List ℕ). l ++ (choices_met tail ++ R)) (sym m) ∙ (sym (choices_++ (met c t (first_in ks) E) tail R) ∙ e)) in
      omega arith

  -- Two derivations of a row with the same choices, up to what stands behind them, are the same, if the contents at the foot begin alike.
  read_alike : (f g : Derivation) (t : ℕ) (ks : List Next) → Valid c t ks f → Valid c t ks g → (E E' : List Event) (Q : Type 0) → BeginAlike E E' Q
      → (R R' : List ℕ) → choices_met (walk c t ks f E) ++ R ≡ choices_met (walk c t ks g E') ++ R' → SameReading f g R R' (feet t ks) Q
  read_alike done done t ks v w E E' Q h R R' e =
      record { same = refl; rest = e; content = λ z. absurd (let y = ap (feet t) (nil_of v) in omega arith) }
  read_alike done (stay b g) t ks v w E E' Q h R R' e = never (no_first ks (nil_of v) (first_of_stay w))
  read_alike done (adjoin γ s b g) t ks v w E E' Q h R R' e = never (no_first ks (nil_of v) (first_of_adjoin w))
  read_alike (stay a f) done t ks v w E E' Q h R R' e = never (no_first ks (nil_of w) (first_of_stay v))
  read_alike (adjoin β r a f) done t ks v w E E' Q h R R' e = never (no_first ks (nil_of w) (first_of_adjoin v))
  read_alike (stay a f) (adjoin γ s b g) t ks v w E E' Q h R R' e =
      never (clash t ks E (walk c t (below_next c t (first_in ks)) a E ++ walk c t (later_in ks) f E) R _ (adjoining w) e)
  read_alike (adjoin β r a f) (stay b g) t ks v w E E' Q h R R' e =
      never (clash t ks E' (walk c t (below_next c t (first_in ks)) b E' ++ walk c t (later_in ks) g E') R' _ (adjoining v) (sym e))
  read_alike (stay a f) (stay b g) t ks v w E E' Q h R R' e =
      let k = first_in ks in
      let x = staying v in
      let y = staying w in
      let m = met_alike t k E E' Q h _ _
      (sym (choices_three (met c t k E) (walk c t (below_next c t k) a E) (walk c t (later_in ks) f E) R)
      ∙ (e ∙ choices_three (met c t k E') (walk c t (below_next c t k) b E') (walk c t (later_in ks) g E') R')) in
      let u = read_alike a b t (below_next c t k) x.under y.under E E' Q h _ _ m.1 in
      let l = read_alike f g t (later_in ks) x.later y.later E E' Q h R R' u.rest in
      record { same = let p = u.same in let q = l.same in cc; rest = l.rest; content = by_feet t ks Q m.0 u.content l.content }
  read_alike (adjoin β r a f) (adjoin γ s b g) t ks v w E E' Q h R R' e =
      let k = first_in ks in
      let x = adjoining v in
      let y = adjoining w in
      let W = walk c t (below_next c t k) a E in
      let W' = walk c t (below_next c t k) b E' in
      let p : β ≡ γ = let z = cons_head e in omega arith in
      let i = sym (choices_++ (walk c β (tree_row c β) r W) (walk c t (later_in ks) f E) R)
      ∙ (cons_tail e ∙ choices_++ (walk c γ (tree_row c γ) s W') (walk c t (later_in ks) g E') R') in
      let z = read_alike r s β (tree_row c β) x.tree (subst (λ (o : ℕ). Valid c o (tree_row c o) s) (sym p) y.tree) W W'
      ((a ≡ b) × (0 < feet t (below_next c t k) → Q))
      (λ S S' j. let u = read_alike a b t (below_next c t k) x.under y.under E E' Q h S S' j in ((u.same, u.content), u.rest)) _ _
      (i ∙ ap (λ (o : ℕ). choices_met (walk c o (tree_row c o) s W') ++ (choices_met (walk c t (later_in ks) g E') ++ R')) (sym p)) in
      let d = z.content (let o = one_foot c K t x.node β x.taken in omega arith) in
      let l = read_alike f g t (later_in ks) x.later y.later E E' Q h R R' z.rest in
      record {
        same = let p1 = z.same in let p2 = d.0 in let p3 = l.same in cc;
        rest = l.rest;
        content = by_feet t ks Q (λ o. never (let q = x.here in cc)) d.1 l.content;
      }

  -- of two certificates with something behind them
  apart : (t u : ℕ) (f g : Derivation) → Derives c t f → Derives c u g → (xs ys : List ℕ)
      → certificate c t f ++ xs ≡ certificate c u g ++ ys → (t ≡ u) × (f ≡ g) × (xs ≡ ys)
  apart t u f g d b xs ys e =
      let p = cons_head e in
      let r = read_alike f g t (tree_row c t) d.valid (subst (λ (o : ℕ). Valid c o (tree_row c o) g) (sym p) b.valid) [] [] (Unit {0})
      (λ S S' j. (tt, j)) xs ys (cons_tail e ∙ ap (λ (o : ℕ). choices_met (walk c o (tree_row c o) g []) ++ ys) (sym p)) in
      (p, r.same, r.rest)

pub certificates_determine : CertificatesDetermine
certificates_determine c K t u f g d b =
    record {
      same = λ e. let r = apart c K t u f g d b [] [] (ap (λ (l : List ℕ). l ++ []) e) in (r.0, r.1);
      spelled = λ e. let p = e.0 in let q = e.1 in cc;
      ends = λ xs ys e. (apart c K t u f g d b xs ys e).2;
    }
