-- A derivation spans exactly the positions that its events lead over.
use Rattle.std.proofs.Common.{◌≡◌, ℕ, Bool, true, false, cond, List, [], ◌∷◌, ◌++◌, sym, refl, ◌∙◌, subst}
use Rattle.format.specs.declared.node.Kind.{Kind}
use Rattle.format.specs.declared.node.Kind.TheVariants.{Inner, Word, Empty, Foot}
use Rattle.format.specs.declared.spot.Spot.TheVariants.{At}
use Rattle.format.specs.declared.spot.Next.{Next}
use Rattle.format.specs.Parts.{Contents}
use Rattle.format.specs.Judge.{adjoinable}
use Rattle.format.specs.Keeps.{node_in, Keeps}
use Rattle.words.specs.Meaning.{Meaning}
use Rattle.words.specs.Paths.{Path}
use Rattle.derivation.specs.Derivations.{Derivation, below, tree_row, Valid, v_done, v_word, v_empty, v_bottom, v_plain, v_adjoined}
use Rattle.derivation.specs.Walks.{Event, choice, word, is_choice, met_kind, walk, words_met}
use Rattle.derivation.specs.Spans.{Gaps, Spans, s_done, s_word, s_empty, s_bottom, s_plain, s_adjoined}
use Rattle.derivation.proofs.Gaps.{All, a_nil, a_cons, all_left, all_right, all_++, one_gap}
use Rattle.derivation.proofs.Feet.{one_foot, gaps_feet}

-- the words of these events lead from one position to another
pub data Leads (m : Meaning) : List Event → ℕ → ℕ → Type 0 where
  l_stop : {i : ℕ} → Leads m [] i i
  l_choice : {k : ℕ} {es : List Event} {i j : ℕ} → Leads m es i j → Leads m (choice k ∷ es) i j
  l_word : {w : ℕ} {es : List Event} {i k j : ℕ} → m.edge i w k ≡ true → Leads m es k j → Leads m (word w ∷ es) i j

leads_++ : {m : Meaning} {xs ys : List Event} {i k j : ℕ} → Leads m xs i k → Leads m ys k j → Leads m (xs ++ ys) i j
leads_++ l_stop v = v
leads_++ (l_choice u) v = l_choice (leads_++ u v)
leads_++ (l_word e u) v = l_word e (leads_++ u v)

leads_split : {m : Meaning} (xs : List Event) {ys : List Event} {i j : ℕ} → Leads m (xs ++ ys) i j → (k : ℕ) × Leads m xs i k × Leads m ys k j
leads_split [] {i} h = (i, l_stop, h)
leads_split (choice c ∷ xs) (l_choice h) = let r = leads_split xs h in (r.0, l_choice r.1, r.2)
leads_split (word w ∷ xs) (l_word e h) = let r = leads_split xs h in (r.0, l_word e r.1, r.2)

pub leads→path : {m : Meaning} {es : List Event} {i j : ℕ} → Leads m es i j → Path m i (words_met es) j
leads→path l_stop = refl
leads→path (l_choice h) = leads→path h
leads→path (l_word {k = k} e h) = (k, e, leads→path h)

pub path→leads : {m : Meaning} (es : List Event) {i j : ℕ} → Path m i (words_met es) j → Leads m es i j
path→leads {m} [] {i} {j} e = subst (λ (v : ℕ). Leads m [] i v) e l_stop
path→leads (choice c ∷ es) h = l_choice (path→leads es h)
path→leads (word w ∷ es) h = l_word h.1 (path→leads es h.2)

-- past what is met at an inner node or a foot
over_choice : {m : Meaning} (b : Bool) {es : List Event} {i j : ℕ} → Leads m es i j → Leads m (cond b (choice 0 ∷ []) [] ++ es) i j
over_choice true h = l_choice h
over_choice false h = h

past_choice : {m : Meaning} {k : ℕ} {es : List Event} {i j : ℕ} → Leads m (choice k ∷ es) i j → Leads m es i j
past_choice (l_choice h) = h

past_any : {m : Meaning} (b : Bool) {es : List Event} {i j : ℕ} → Leads m (cond b (choice 0 ∷ []) [] ++ es) i j → Leads m es i j
past_any true h = past_choice h
past_any false h = h

past_word : {m : Meaning} {w : ℕ} {es : List Event} {i j : ℕ} → Leads m (word w ∷ es) i j → (k : ℕ) × (m.edge i w k ≡ true) × Leads m es k j
past_word (l_word {k = k} e h) = (k, e, h)

met_site : (k : Kind) (b : Bool) → adjoinable k ≡ true → met_kind k b ≡ cond b (choice 0 ∷ []) []
met_site (Inner l) b e = refl
met_site (Word w) b e = cc
met_site Empty b e = cc
met_site (Foot l) b e = refl

pub valid_of : {c : Contents} {m : Meaning} {t : ℕ} {ks : List Next} {f : Derivation} {i j : ℕ} {gs : Gaps} → Spans c m t ks f i j gs → Valid c t ks f
valid_of s_done = v_done
valid_of (s_word e h s) = v_word e (valid_of s)
valid_of (s_empty e s) = v_empty e (valid_of s)
valid_of (s_bottom s) = v_bottom (valid_of s)
valid_of (s_plain e h a s) = v_plain e h (valid_of a) (valid_of s)
valid_of (s_adjoined e h r a s) = v_adjoined e h (valid_of r) (valid_of a) (valid_of s)

-- The events lead over what is spanned, if the content at the foot leads over the gaps.
pub leads_of : {c : Contents} {m : Meaning} {t : ℕ} {ks : List Next} {f : Derivation} {i j : ℕ} {gs : Gaps} → Spans c m t ks f i j gs
    → (content : List Event) → All (Leads m content) gs → Leads m (walk c t ks f content) i j
leads_of s_done content al = l_stop
leads_of {c} {m} {t} (s_word {n = n} {ks = ks} {f = f} {i = i} {j = j} e h s) content al =
    subst (λ (k : Kind). Leads m (met_kind k (is_choice c t n) ++ walk c t ks f content) i j) (sym e) (l_word h (leads_of s content al))
leads_of {c} {m} {t} (s_empty {n = n} {ks = ks} {f = f} {i = i} {j = j} e s) content al =
    subst (λ (k : Kind). Leads m (met_kind k (is_choice c t n) ++ walk c t ks f content) i j) (sym e) (leads_of s content al)
leads_of (s_bottom s) content (a_cons p al) = leads_++ p (leads_of s content al)
leads_of {c} {m} {t} (s_plain {n = n} {ks = ks} {a = a1} {f = f} {i = i} {j = j} {gs = gs} {hs = hs} e h a s) content al =
    subst (λ (o : List Event). Leads m (o ++ (walk c t (below c t (At n)) a1 content ++ walk c t ks f content)) i j)
    (sym (met_site (node_in c t n).kind (is_choice c t n) e))
    (over_choice (is_choice c t n) (leads_++ (leads_of a content (all_left gs hs al)) (leads_of s content (all_right gs al))))
leads_of {c} {m} {t} (s_adjoined {n = n} {a = a} {gs = gs} {hs = hs} e h r b s) content al =
    l_choice
    (leads_++ (leads_of r (walk c t (below c t (At n)) a content) (a_cons (leads_of b content (all_left gs hs al)) a_nil)) (leads_of s content (all_right gs al)))

abbrev Found : Contents → Meaning → ℕ → List Next → Derivation → List Event → ℕ → ℕ → Type 0
Found c m t ks f content i j = (gs : Gaps) × Spans c m t ks f i j gs × All (Leads m content) gs

-- A derivation whose events lead from i to j spans i to j, with gaps that the content at the foot leads over.
pub spans_of : (c : Contents) (K : Keeps c) {m : Meaning} {t : ℕ} {ks : List Next} {f : Derivation} → Valid c t ks f
    → (content : List Event) {i j : ℕ} → Leads m (walk c t ks f content) i j → Found c m t ks f content i j
spans_of c K v_done content l_stop = ([], s_done, a_nil)
spans_of c K {m} {t} (v_word {n = n} {w = w} {ks = ks} {f = f} e v) content {i} {j} h =
    let r = past_word (subst (λ (k : Kind). Leads m (met_kind k (is_choice c t n) ++ walk c t ks f content) i j) e h) in
    let x = spans_of c K v content r.2 in
    (x.0, s_word e r.1 x.1, x.2)
spans_of c K {m} {t} (v_empty {n = n} {ks = ks} {f = f} e v) content {i} {j} h =
    let r = spans_of c K v content (subst (λ (k : Kind). Leads m (met_kind k (is_choice c t n) ++ walk c t ks f content) i j) e h) in
    (r.0, s_empty e r.1, r.2)
spans_of c K {m} {t} (v_bottom {ks = ks} {f = f} v) content {i} {j} h =
    let r = leads_split content h in
    let s = spans_of c K v content r.2 in
    (_, s_bottom s.1, a_cons r.1 s.2)
spans_of c K {m} {t} (v_plain {n = n} {ks = ks} {a = a} {f = f} e p v u) content {i} {j} h =
    let r = leads_split (walk c t (below c t (At n)) a content)
    (past_any (is_choice c t n) (subst (λ (o : List Event). Leads m (o ++ (walk c t (below c t (At n)) a content ++ walk c t ks f content)) i j)
    (met_site (node_in c t n).kind (is_choice c t n) e) h)) in
    let x = spans_of c K v content r.1 in
    let y = spans_of c K u content r.2 in
    (_, s_plain e p x.1 y.1, all_++ x.2 y.2)
spans_of c K {m} {t} (v_adjoined {n = n} {β = β} {r = d} {a = a} e p b v u) content {i} h =
    let inside = walk c t (below c t (At n)) a content in
    let r = leads_split (walk c β (tree_row c β) d inside) (past_choice h) in
    let x = spans_of c K b inside r.1 in
    let y = spans_of c K u content r.2 in
    let o = one_gap (λ (gs : Gaps). Spans c m β (tree_row c β) d i r.0 gs) (Leads m inside) x.0
    (gaps_feet c K x.1 ∙ one_foot c K t n β p) x.1 x.2 in
    let z = spans_of c K v content o.3 in
    (_, s_adjoined e p o.2 z.1 y.1, all_++ z.2 y.2)
