-- A derivable item says yes exactly if the source admits the yield of a derivation.
use Rattle.std.proofs.Common.{◌≡◌, ℕ, ◌<◌, true, not, ◌&&◌, eqb, ltb, ◌⊎◌, [], ◌∷◌, length, drop, sym, refl, ◌∙◌, subst, inl, inr, arith, ltb-true, eq-eqb, eqb-true}
use Rattle.format.specs.declared.spot.Spot.TheVariants.{Top}
use Rattle.format.specs.Parts.{Contents}
use Rattle.format.specs.Judge.{is_auxiliary}
use Rattle.format.specs.Keeps.{tree_in, Keeps}
use Rattle.format.specs.Questions.{may_start}
use Rattle.words.specs.Meaning.{Meaning, Bounded}
use Rattle.words.specs.Paths.{Admits}
use Rattle.steps.specs.declared.item.Item.{Item}
use Rattle.steps.specs.declared.verdict.Verdict.TheVariants.{Yes, No}
use Rattle.steps.specs.Items.{missing, joined, item_at}
use Rattle.steps.specs.Conclusions.{is_top, whole}
use Rattle.steps.specs.Runs.{Working, made}
use Rattle.steps.specs.Verdicts.{says_yes, verdict}
use Rattle.theory.specs.Verdicts.{Accepted, RightVerdict}
use Rattle.theory.specs.Theorems.{chart_items}
use Rattle.theory.specs.Calls.{called, budgets}
use Rattle.theory.proofs.Tests.{and_split, and_both, top_true}
use Rattle.theory.proofs.Derived.{held_are_justified}
use Rattle.theory.proofs.Budgets.{calls_sum}
use Rattle.theory.proofs.Verdicts.{called_verdicts_are_right}
use Rattle.derivation.specs.Derivations.{Derivation, below, tree_row}
use Rattle.derivation.specs.Walks.{Derived, events, yield}
use Rattle.derivation.specs.Spans.{Gaps, Spans, starts_of, ends_of, Part, Means}
use Rattle.derivation.specs.Readings.{derivation_of}
use Rattle.derivation.specs.Theorems.{SpannedItemsDerivable, ReadOffYes, YesItemsReadOff, YesItemsAreDerived, CalledYesItemsAreDerived, SpansExactlyWhenAdmitted, AcceptedExactlyWhenDerived, VerdictsExactlyAsDerived}
use Rattle.derivation.proofs.Joins.{joined_missing}
use Rattle.derivation.proofs.Gaps.{a_nil, no_gaps}
use Rattle.derivation.proofs.Feet.{no_foot, gaps_feet}
use Rattle.derivation.proofs.Walks.{Leads, leads→path, path→leads, valid_of, leads_of, spans_of}
use Rattle.derivation.proofs.Sound.{top_part, derivable_items_span}
use Rattle.derivation.proofs.ReadOff.{justified_items_span}
use Rattle.derivation.proofs.Rows.{past, past_end}
use Rattle.derivation.proofs.Closed.{make, Has, c_start}
use Rattle.derivation.proofs.Reach.{FootOk, root_dot, reach}

-- what an item that says yes is
pub record SaysYes (c : Contents) (n : ℕ) (x : Item) : Type 0 where
  pub starts : may_start c x.tree ≡ true
  pub spot : x.spot ≡ Top
  pub dot : x.dot ≡ 1
  pub from : x.i ≡ 0
  pub to : x.j ≡ n

yes_parts : (c : Contents) (n : ℕ) (x : Item) → says_yes c n x ≡ true → SaysYes c n x
yes_parts c n x e =
    let a = and_split (may_start c x.tree) (whole x && (eqb x.i 0 && eqb x.j n)) e in
    let b = and_split (whole x) (eqb x.i 0 && eqb x.j n) a.1 in
    let w = and_split (is_top x.spot) (eqb x.dot 1) b.0 in
    let d = and_split (eqb x.i 0) (eqb x.j n) b.1 in
    record {
      starts = a.0;
      spot = top_true x.spot w.0;
      dot = eqb-true x.dot 1 w.1;
      from = eqb-true x.i 0 d.0;
      to = eqb-true x.j n d.1;
    }

-- what an item that says yes has before its dot is a derivation with an admitted yield
yes_derives : (c : Contents) (m : Meaning) → Keeps c → (x : Item) (f : Derivation) → Means c m f x → says_yes c m.last x ≡ true → ReadOffYes c m x.tree f
yes_derives c m K x f M e =
    let Y = yes_parts c m.last x e in
    let P : Part c m f x.tree (tree_row c x.tree) 0 x.j x.p x.q = top_part c m Y.spot Y.dot Y.from M in
    let n = no_gaps (Leads m []) P.0 (gaps_feet c K P.1 ∙ no_foot c K x.tree Y.starts) in
    record {
      derives = record { starts = Y.starts; valid = valid_of P.1 };
      admitted = leads→path (subst (λ (v : ℕ). Leads m (events c x.tree f) 0 v) Y.to (leads_of P.1 [] n));
    }

pub yes_items_are_derived : YesItemsAreDerived
yes_items_are_derived c m K its J k l e = yes_derives c m K (item_at its k) (derivation_of its k) (justified_items_span c m K its J k l) e

pub called_yes_items_are_derived : CalledYesItemsAreDerived
called_yes_items_are_derived c m K cap bs =
    subst (λ (w : Working). YesItemsReadOff c m w.state.items) (sym (calls_sum c m cap (made c cap) bs))
    (yes_items_are_derived c m K (chart_items c m cap (budgets c m cap bs)) (held_are_justified c m cap (budgets c m cap bs)))

accepted_derived : (c : Contents) (m : Meaning) → Keeps c → Accepted c m m.last → Derived c m
accepted_derived c m K (x, d, e) =
    let M = derivable_items_span c m K x d in
    let R = yes_derives c m K x M.0 M.1 e in
    record { tree = x.tree; derivation = M.0; derives = R.derives; admitted = R.admitted }

-- no gaps at all
nil_gaps : (gs : Gaps) → length gs ≡ 0 → gs ≡ []
nil_gaps [] e = refl
nil_gaps (g ∷ gs) e = absurd (omega arith)

pub spans_exactly_when_admitted : SpansExactlyWhenAdmitted
spans_exactly_when_admitted c m K t f D = record {
  admitted = λ s. leads→path (leads_of s [] a_nil);
  spanned = λ p. spanned p;
}
  where
    spanned : Admits m (yield c t f) → Spans c m t (tree_row c t) f 0 m.last []
    spanned p =
        let S = spans_of c K D.valid [] (path→leads (events c t f) p) in
        subst (λ (gs : Gaps). Spans c m t (tree_row c t) f 0 m.last gs) (nil_gaps S.0 (gaps_feet c K S.1 ∙ no_foot c K t D.starts)) S.1

pub spanned_items_derivable : SpannedItemsDerivable
spanned_items_derivable c m K B x d f l s =
    let ks = drop x.dot (below c x.tree x.spot) in
    let R = reach c m K B s a_nil x.spot x.dot x.i x.p x.q refl (x.origin, d) in
    let X : Has c m K B x.tree x.spot (past x.dot ks) x.i l x.p x.q
    = subst (λ (v : ℕ). Has c m K B x.tree x.spot (past x.dot ks) x.i l x.p v) (joined_missing x.q)
    (subst (λ (v : ℕ). Has c m K B x.tree x.spot (past x.dot ks) x.i l v (joined x.q missing)) (joined_missing x.p) R.0) in
    record { dot = past x.dot ks; origin = X.0; derivable = X.1; last = past_end c x.tree x.spot x.dot ks refl }

-- a derivation with an admitted yield makes an item derivable that says yes
derived_accepted : (c : Contents) (m : Meaning) → Keeps c → Bounded m → Derived c m → Accepted c m m.last
derived_accepted c m K B D =
    let t = D.tree in
    let e = D.derives.starts in
    let S = spans_of c K D.derives.valid [] (path→leads (events c t D.derivation) D.admitted) in
    let n = no_gaps (FootOk c m K B t) S.0 (gaps_feet c K S.1 ∙ no_foot c K t e) in
    let R = reach c m K B S.1 n Top 0 0 missing missing refl (c_start c m K B t e) in
    let p = joined missing (starts_of S.0) in
    let q = joined missing (ends_of S.0) in
    let l : t < length c.trees = ltb-true t (length c.trees) (and_split (ltb t (length c.trees)) (not (is_auxiliary (tree_in c t).form)) e).0 in
    let X = root_dot c m K B t l 0 m.last p q R.0 in (
      make t Top 1 0 m.last p q X.0,
      X.1,
      and_both e (eq-eqb m.last m.last refl),
    )

pub accepted_exactly_when_derived : AcceptedExactlyWhenDerived
accepted_exactly_when_derived c m K B = record { sound = accepted_derived c m K; complete = derived_accepted c m K B }

pub verdicts_exactly_as_derived : VerdictsExactlyAsDerived
verdicts_exactly_as_derived c m cap bs K B rest =
    record {
      yes = λ e. accepted_derived c m K (V.yes_rightly e);
      derived = λ D. when_yes (V.decides rest) D;
      no = λ e D. V.no_rightly e (derived_accepted c m K B D);
      not_derived = λ n. when_no (V.decides rest) n;
    }
  where
    V : RightVerdict c m m.last (called c m cap bs)
    V = called_verdicts_are_right c m cap m.last bs

    when_yes : (verdict c m.last (called c m cap bs) ≡ Yes) ⊎ (verdict c m.last (called c m cap bs) ≡ No) → Derived c m
        → verdict c m.last (called c m cap bs) ≡ Yes
    when_yes (inl e) D = e
    when_yes (inr e) D = absurd (V.no_rightly e (derived_accepted c m K B D))

    when_no : (verdict c m.last (called c m cap bs) ≡ Yes) ⊎ (verdict c m.last (called c m cap bs) ≡ No) → (Derived c m → ⊥)
        → verdict c m.last (called c m cap bs) ≡ No
    when_no (inl e) n = absurd (n (accepted_derived c m K (V.yes_rightly e)))
    when_no (inr e) n = e
