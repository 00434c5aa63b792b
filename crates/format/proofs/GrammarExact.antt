-- The judgement takes exactly the bytes that are a grammar, and every list of bytes is one grammar or has one fault.
use Rattle.std.proofs.Common.{◌≡◌, ℕ, zero, suc, ◌+◌, ◌<◌, ◌≤◌, true, not, ◌||◌, ◌⊎◌, List, [], ◌∷◌, ◌++◌, length, Ok, Err, Result, sym, refl, ap, ◌∙◌, subst, inl, inr, append_assoc, append-nil, arith, length-append}
use Rattle.std.specs.List.{AllByRecursion}
use Rattle.format.specs.declared.fault.Fault.{Fault}
use Rattle.format.specs.declared.stage.Phase.{Phase}
use Rattle.format.specs.declared.stage.Phase.TheVariants.{Start, Trees, Adjoinings}
use Rattle.format.specs.declared.stage.Tag.{Tag}
use Rattle.format.specs.declared.stage.Tag.TheVariants as tags
use Rattle.format.specs.declared.node.Form.{Form}
use Rattle.format.specs.declared.node.Form.TheVariants.{Initial, Auxiliary}
use Rattle.format.specs.declared.node.Tree.{Tree}
use Rattle.format.specs.declared.node.Node.{Node}
use Rattle.format.specs.Trees.{size, lay}
use Rattle.format.specs.Parts.{Contents, pair}
use Rattle.format.specs.Judge.{State, contents, nothing_read, judge, some_initial, is_auxiliary, add_tree}
use Rattle.format.specs.Format.{Elementary, as_row, preorder, TreeRules, tree_at, sizes, trees_from, laid_out, Adjoining, AdjoiningRules, Apart, Once, Description, Rules, IsField, Spells, tree_tag, TreeFields, AdjoiningFields, Spelled, contents_of, IsGrammar}
use Rattle.format.specs.Exactness.{JudgedExactly, OneGrammar, OneFault, OneOrOther}
use Rattle.format.proofs.Cases.{nothing}
use Rattle.format.proofs.Taken.{TreeBody, ConstraintTaken}
use Rattle.format.proofs.Chains.{number_of, BodyTaken, FieldTaken, FieldOf, Chain, Begun}
use Rattle.format.proofs.BytesExact.{bytes_exact}
use Rattle.format.proofs.Placed.{placed, length_trees_from, length_laid_out, trees_from_more, laid_out_more, sizes_more}
use Rattle.format.proofs.AdjoiningSteps.{reached, body_of, one_more, taken_more}

-- Lists that grow at their end ----------------------------------------------------------------------------------------

all_more : {X : Type 0} (P : X → Type 0) (xs : List X) (x : X) → AllByRecursion P xs → P x → AllByRecursion P (xs ++ (x ∷ []))
all_more P [] x h p = (p, tt)
all_more P (y ∷ ys) x h p = (h.0, all_more P ys x h.1 p)

all_first : {X : Type 0} (P : X → Type 0) (xs ys : List X) → AllByRecursion P (xs ++ ys) → AllByRecursion P xs
all_first P [] ys h = tt
all_first P (x ∷ xs) ys h = (h.0, all_first P xs ys h.1)

all_here : {X : Type 0} (P : X → Type 0) (xs : List X) (x : X) (ys : List X) → AllByRecursion P (xs ++ (x ∷ ys)) → P x
all_here P [] x ys h = h.0
all_here P (y ∷ xs) x ys h = all_here P xs x ys h.1

once_more : (xs : List Adjoining) (a : Adjoining) → Once xs → AllByRecursion (λ x. Apart x a) xs → Once (xs ++ (a ∷ []))
once_more [] a o h = (tt, tt)
once_more (x ∷ xs) a o h = (all_more (Apart x) xs a o.0 h.0, once_more xs a o.1 h.1)

once_here : (xs : List Adjoining) (a : Adjoining) (ys : List Adjoining) → Once (xs ++ (a ∷ ys)) → AllByRecursion (λ x. Apart x a) xs
once_here [] a ys o = tt
once_here (x ∷ xs) a ys o = (all_here (Apart x) xs a ys o.0, once_here xs a ys o.1)

shift : {X : Type 0} (xs : List X) (x : X) (ys : List X) → (xs ++ (x ∷ [])) ++ ys ≡ xs ++ (x ∷ ys)
shift xs x ys = append_assoc xs (x ∷ []) ys

-- One more tree -------------------------------------------------------------------------------------------------------

tree_added : (l w : ℕ) (ts : List Elementary) (t : Elementary) (f : Form) → t.form ≡ f → add_tree (reached Trees l w ts []) f (as_row t) ≡ reached Trees l w (ts ++ (t ∷ [])) []
tree_added l w ts t f e =
    let S : List Tree → List Node → State = λ us ns. record { phase = Trees; labels = l; words = w; trees = us; nodes = ns } in
    ap (λ (g : Form). add_tree (reached Trees l w ts []) g (as_row t)) (sym e)
    ∙ (ap (λ (n : ℕ). S (trees_from 0 ts ++ (placed n t ∷ [])) (laid_out ts ++ lay 0 (as_row t))) (length_laid_out ts ∙ (let q : sizes ts ≡ 0 + sizes ts = omega arith in q))
    ∙ (ap (λ (us : List Tree). S us (laid_out ts ++ lay 0 (as_row t))) (sym (trees_from_more 0 ts t))
    ∙ ap (λ (ns : List Node). S (trees_from 0 (ts ++ (t ∷ []))) ns) (sym (laid_out_more ts t))))

tag_is : (f : Form) → number_of (tags.Tree f) ≡ tree_tag f
tag_is Initial = refl
tag_is Auxiliary = refl

-- From fields to a description ----------------------------------------------------------------------------------------

retag : (tag tag' : ℕ) (body body' bytes later : List ℕ) → tag ≡ tag' → body ≡ body' → IsField tag body bytes later → IsField tag' body' bytes later
retag tag tag' body body' bytes later t b h = subst (λ (n : ℕ). IsField n body' bytes later) t (subst (λ (q : List ℕ). IsField tag q bytes later) b h)

-- what is left of the fields are constraints of the description
record ConstraintsLeft (l w : ℕ) (ts : List Elementary) (xs : List Adjoining) (bytes : List ℕ) (u : State) : Type 0 where
  more : List Adjoining
  spelled : AdjoiningFields more bytes
  rules : AllByRecursion (AdjoiningRules ts) (xs ++ more)
  once : Once (xs ++ more)
  holds : contents u ≡ contents_of (record { labels = l; words = w; trees = ts; adjoinings = xs ++ more })
  begun : Begun u.phase

constraints_end : (ph : Phase) (l w : ℕ) (ts : List Elementary) (xs : List Adjoining) (bytes : List ℕ) (u : State) → Begun ph → AllByRecursion (AdjoiningRules ts) xs → Once xs
    → bytes ≡ [] → reached ph l w ts xs ≡ u → ConstraintsLeft l w ts xs bytes u
constraints_end ph l w ts xs bytes u b rs o e s =
    record {
      more = [];
      spelled = e;
      rules = subst (AllByRecursion (AdjoiningRules ts)) (sym (append-nil xs)) rs;
      once = subst Once (sym (append-nil xs)) o;
      holds = ap contents (sym s) ∙ ap (λ (ys : List Adjoining). contents_of (record { labels = l; words = w; trees = ts; adjoinings = ys })) (sym (append-nil xs));
      begun = subst (λ (v : State). Begun v.phase) s b;
    }

constraints_first : (l w : ℕ) (ts : List Elementary) (xs : List Adjoining) (a : Adjoining) (bytes later : List ℕ) (u : State) → IsField 4 (body_of a) bytes later
    → ConstraintsLeft l w ts (xs ++ (a ∷ [])) later u → ConstraintsLeft l w ts xs bytes u
constraints_first l w ts xs a bytes later u f r =
    let e = shift xs a r.more in
    record {
      more = a ∷ r.more;
      spelled = (later, f, r.spelled);
      rules = subst (AllByRecursion (AdjoiningRules ts)) e r.rules;
      once = subst Once e r.once;
      holds = r.holds ∙ ap (λ (ys : List Adjoining). contents_of (record { labels = l; words = w; trees = ts; adjoinings = ys })) e;
      begun = r.begun;
    }

constraints_only : (fs : List FieldOf) (l w : ℕ) (ts : List Elementary) (xs : List Adjoining) (bytes : List ℕ) (u : State) → AllByRecursion (AdjoiningRules ts) xs → Once xs
    → Chain (reached Adjoinings l w ts xs) fs bytes u → ConstraintsLeft l w ts xs bytes u
constraints_only [] l w ts xs bytes u rs o c = constraints_end Adjoinings l w ts xs bytes u tt rs o c.0 c.1
constraints_only (f ∷ fs) l w ts xs bytes u rs o c = by c.3.0 c.3.1 c.3.2 (λ ys. constraints_only fs l w ts ys c.0 u)
  where
    by : (g : Tag) → f.tag ≡ number_of g → BodyTaken Adjoinings (reached Adjoinings l w ts xs) g f.body c.1
        → ((ys : List Adjoining) → AllByRecursion (AdjoiningRules ts) ys → Once ys → Chain (reached Adjoinings l w ts ys) fs c.0 u → ConstraintsLeft l w ts ys c.0 u)
        → ConstraintsLeft l w ts xs bytes u
    by tags.Header e h again = elim h [ ]
    by (tags.Tree m) e h again = elim h [ ]
    by tags.Adjoining e h again =
        let s = one_more Adjoinings l w ts xs rs f.body c.1 h in
        let a = s.0 in
        constraints_first l w ts xs a bytes c.0 u (retag f.tag 4 f.body (body_of a) bytes c.0 e s.1 c.2)
        (again (xs ++ (a ∷ [])) (all_more (AdjoiningRules ts) xs a rs s.2) (once_more xs a o s.3)
        (subst (λ (m : State). Chain m fs c.0 u) s.4 c.4))

-- what is left of the fields are trees and constraints of the description
record TreesLeft (l w : ℕ) (ts : List Elementary) (bytes : List ℕ) (u : State) : Type 0 where
  more : List Elementary
  later : List ℕ
  spelled : TreeFields more bytes later
  rules : AllByRecursion (TreeRules l w) (ts ++ more)
  few_trees : length (ts ++ more) ≤ 64
  few_nodes : sizes (ts ++ more) ≤ 256
  constraints : ConstraintsLeft l w (ts ++ more) [] later u

trees_end : (l w : ℕ) (ts : List Elementary) (bytes : List ℕ) (u : State) → AllByRecursion (TreeRules l w) ts → length ts ≤ 64 → sizes ts ≤ 256 → ConstraintsLeft l w ts [] bytes u → TreesLeft l w ts bytes u
trees_end l w ts bytes u rs few small c =
    let e = sym (append-nil ts) in
    record {
      more = [];
      later = bytes;
      spelled = refl;
      rules = subst (AllByRecursion (TreeRules l w)) e rs;
      few_trees = subst (λ (us : List Elementary). length us ≤ 64) e few;
      few_nodes = subst (λ (us : List Elementary). sizes us ≤ 256) e small;
      constraints = subst (λ (us : List Elementary). ConstraintsLeft l w us [] bytes u) e c;
    }

trees_first : (l w : ℕ) (ts : List Elementary) (t : Elementary) (body bytes later : List ℕ) (u : State) → IsField (tree_tag t.form) body bytes later → Spells (preorder t) body
    → TreesLeft l w (ts ++ (t ∷ [])) later u → TreesLeft l w ts bytes u
trees_first l w ts t body bytes later u f s r =
    let e = shift ts t r.more in
    record {
      more = t ∷ r.more;
      later = r.later;
      spelled = (body, later, f, s, r.spelled);
      rules = subst (AllByRecursion (TreeRules l w)) e r.rules;
      few_trees = subst (λ (us : List Elementary). length us ≤ 64) e r.few_trees;
      few_nodes = subst (λ (us : List Elementary). sizes us ≤ 256) e r.few_nodes;
      constraints = subst (λ (us : List Elementary). ConstraintsLeft l w us [] r.later u) e r.constraints;
    }

trees_only : (fs : List FieldOf) (l w : ℕ) (ts : List Elementary) (bytes : List ℕ) (u : State) → AllByRecursion (TreeRules l w) ts → length ts ≤ 64 → sizes ts ≤ 256
    → Chain (reached Trees l w ts []) fs bytes u → TreesLeft l w ts bytes u
trees_only [] l w ts bytes u rs few small c = trees_end l w ts bytes u rs few small (constraints_end Trees l w ts [] bytes u tt tt tt c.0 c.1)
trees_only (f ∷ fs) l w ts bytes u rs few small c = by c.3.0 c.3.1 c.3.2 (λ us. trees_only fs l w us c.0 u)
  where
    by : (g : Tag) → f.tag ≡ number_of g → BodyTaken Trees (reached Trees l w ts []) g f.body c.1
        → ((us : List Elementary) → AllByRecursion (TreeRules l w) us → length us ≤ 64 → sizes us ≤ 256 → Chain (reached Trees l w us []) fs c.0 u → TreesLeft l w us c.0 u)
        → TreesLeft l w ts bytes u
    by tags.Header e h again = elim h [ ]
    by (tags.Tree m) e h again =
        let t = h.0 in
        let b = h.2 in
        let room = b.trees_fit in
        let space = b.nodes_fit in
        trees_first l w ts t f.body bytes c.0 u
        (retag f.tag (tree_tag t.form) f.body f.body bytes c.0 (e ∙ (tag_is m ∙ ap tree_tag (sym h.1))) refl c.2) b.bytes
        (again (ts ++ (t ∷ [])) (all_more (TreeRules l w) ts t rs b.rules)
        (omega (arith, length-append ts (t ∷ []), length_trees_from 0 ts, room)) (omega (arith, sizes_more ts t, length_laid_out ts, space))
        (subst (λ (q : State). Chain q fs c.0 u) (h.3 ∙ tree_added l w ts t m h.1) c.4))
    by tags.Adjoining e h again =
        let s = one_more Trees l w ts [] tt f.body c.1 h in
        let a = s.0 in
        trees_end l w ts bytes u rs few small
        (constraints_first l w ts [] a bytes c.0 u (retag f.tag 4 f.body (body_of a) bytes c.0 e s.1 c.2)
        (constraints_only fs l w ts (a ∷ []) c.0 u (s.2, tt) (tt, tt) (subst (λ (m : State). Chain m fs c.0 u) s.4 c.4)))

-- some tree of the table is initial, some tree of the description is
some_is : (i : ℕ) (ts : List Elementary) → some_initial (trees_from i ts) ≡ true → (t : ℕ) × (t < length ts) × ((tree_at ts t).form ≡ Initial)
some_is i [] h = nothing (let z : ◌≡◌ {A = ℕ} 0 1 = cc in z)
some_is i (t ∷ ts) h = by t.form refl h (some_is (i + size (as_row t)) ts)
  where
    by : (f : Form) → t.form ≡ f → (not (is_auxiliary f) || some_initial (trees_from (i + size (as_row t)) ts)) ≡ true
        → (some_initial (trees_from (i + size (as_row t)) ts) ≡ true → (k : ℕ) × (k < length ts) × ((tree_at ts k).form ≡ Initial))
        → (k : ℕ) × (k < length (t ∷ ts)) × ((tree_at (t ∷ ts) k).form ≡ Initial)
    by Initial e q again = (0, omega arith, e)
    by Auxiliary e q again = let r = again q in (suc r.0, omega (arith, r.1), r.2)

pub is_some : (i : ℕ) (ts : List Elementary) (t : ℕ) → t < length ts → (tree_at ts t).form ≡ Initial → some_initial (trees_from i ts) ≡ true
is_some i [] t l h = absurd (omega arith)
is_some i (x ∷ ts) zero l h = ap (λ (f : Form). not (is_auxiliary f) || some_initial (trees_from (i + size (as_row x)) ts)) h
is_some i (x ∷ ts) (suc t) l h = by x.form (is_some (i + size (as_row x)) ts t (omega arith) h)
  where
    by : (f : Form) → some_initial (trees_from (i + size (as_row x)) ts) ≡ true → (not (is_auxiliary f) || some_initial (trees_from (i + size (as_row x)) ts)) ≡ true
    by Initial q = refl
    by Auxiliary q = q

-- A chain of fields begins with the header.
header_only : (fs : List FieldOf) (bytes : List ℕ) (u : State) → Chain nothing_read fs bytes u → Begun u.phase → some_initial u.trees ≡ true
    → (d : Description) × Rules d × Spelled d bytes × (contents_of d ≡ contents u)
header_only [] bytes u c b i = elim (subst (λ (v : State). Begun v.phase) (sym c.1) b) [ ]
header_only (f ∷ fs) bytes u c b i = by c.3.0 c.3.1 c.3.2
  where
    by : (g : Tag) → f.tag ≡ number_of g → BodyTaken Start nothing_read g f.body c.1 → (d : Description) × Rules d × Spelled d bytes × (contents_of d ≡ contents u)
    by (tags.Tree m) e h = elim h [ ]
    by tags.Adjoining e h = elim h [ ]
    by tags.Header e h =
        let l = h.0 in
        let w = pair h.1 h.2 in
        let r = trees_only fs l w [] c.0 u tt (omega arith) (omega arith) (subst (λ (q : State). Chain q fs c.0 u) h.6 c.4) in
        let k = r.constraints in
        let d : Description = record { labels = l; words = w; trees = r.more; adjoinings = k.more } in
        let first = some_is 0 r.more (ap (λ (q : Contents). some_initial q.trees) (sym k.holds) ∙ i) in (
          d,
          record { some_labels = h.4; some_words = h.5; trees = r.rules; few_trees = r.few_trees; few_nodes = r.few_nodes; initial = first; adjoinings = k.rules; once = k.once },
          (c.0, r.later, (h.1, h.2, refl, retag f.tag 1 f.body (l ∷ (h.1 ∷ (h.2 ∷ []))) bytes c.0 e h.3 c.2), r.spelled, k.spelled),
          sym k.holds,
        )

-- From a description to fields ----------------------------------------------------------------------------------------

-- fields that lead from one state to one that holds the contents
abbrev Leads : State → List ℕ → Contents → Type 0
Leads s bytes c = (fs : List FieldOf) × (u : State) × Chain s fs bytes u × Begun u.phase × (contents u ≡ c)

one_field : (s mid : State) (tag : ℕ) (body bytes later : List ℕ) (c : Contents) → IsField tag body bytes later → FieldTaken s tag body mid → Leads mid later c → Leads s bytes c
one_field s mid tag body bytes later c f t r = (record { tag = tag; body = body } ∷ r.0, r.1, (later, mid, f, t, r.2), r.3, r.4)

taken_in : (ph : Phase) (s u : State) (body : List ℕ) → Begun ph → ConstraintTaken s body u → BodyTaken ph s tags.Adjoining body u
taken_in Start s u body b h = elim b [ ]
taken_in Trees s u body b h = h
taken_in Adjoinings s u body b h = h

all_constraints : (more : List Adjoining) (ph : Phase) (l w : ℕ) (ts : List Elementary) (xs : List Adjoining) (bytes : List ℕ) → Begun ph → AllByRecursion (AdjoiningRules ts) (xs ++ more) → Once (xs ++ more)
    → AdjoiningFields more bytes → Leads (reached ph l w ts xs) bytes (contents_of (record { labels = l; words = w; trees = ts; adjoinings = xs ++ more }))
all_constraints [] ph l w ts xs bytes b rs o h =
    ([], reached ph l w ts xs, (h, refl), b, ap (λ (ys : List Adjoining). contents_of (record { labels = l; words = w; trees = ts; adjoinings = ys })) (sym (append-nil xs)))
all_constraints (a ∷ more) ph l w ts xs bytes b rs o h =
    let e = shift xs a more in
    let r = all_constraints more Adjoinings l w ts (xs ++ (a ∷ [])) h.0 tt (subst (AllByRecursion (AdjoiningRules ts)) (sym e) rs) (subst Once (sym e) o) h.2 in
    let t = taken_more ph l w ts xs (all_first (AdjoiningRules ts) xs (a ∷ more) rs) a (all_here (AdjoiningRules ts) xs a more rs) (once_here xs a more o) in
    one_field (reached ph l w ts xs) (reached Adjoinings l w ts (xs ++ (a ∷ []))) 4 (body_of a) bytes h.0
    (contents_of (record { labels = l; words = w; trees = ts; adjoinings = xs ++ (a ∷ more) })) h.1 (tags.Adjoining, refl, taken_in ph (reached ph l w ts xs) _ (body_of a) b t)
    (subst (λ (ys : List Adjoining). Leads (reached Adjoinings l w ts (xs ++ (a ∷ []))) h.0 (contents_of (record { labels = l; words = w; trees = ts; adjoinings = ys }))) e r)

sizes_++ : (ts us : List Elementary) → sizes (ts ++ us) ≡ sizes ts + sizes us
sizes_++ [] us = omega arith
sizes_++ (t ∷ ts) us = let e = sizes_++ ts us in omega arith

all_trees : (more : List Elementary) (l w : ℕ) (ts : List Elementary) (xs : List Adjoining) (bytes later : List ℕ) → AllByRecursion (TreeRules l w) more → length (ts ++ more) ≤ 64 → sizes (ts ++ more) ≤ 256
    → AllByRecursion (AdjoiningRules (ts ++ more)) xs → Once xs → TreeFields more bytes later → AdjoiningFields xs later
    → Leads (reached Trees l w ts []) bytes (contents_of (record { labels = l; words = w; trees = ts ++ more; adjoinings = xs }))
all_trees [] l w ts xs bytes later rs few small ra o h k =
    let e = append-nil ts in
    subst (λ (us : List Elementary). Leads (reached Trees l w ts []) bytes (contents_of (record { labels = l; words = w; trees = us; adjoinings = xs }))) (sym e)
    (all_constraints xs Trees l w ts [] bytes tt (subst (λ (us : List Elementary). AllByRecursion (AdjoiningRules us) xs) e ra) o (subst (AdjoiningFields xs) (sym h) k))
all_trees (t ∷ more) l w ts xs bytes later rs few small ra o h k =
    let e = shift ts t more in
    let r = all_trees more l w (ts ++ (t ∷ [])) xs h.1 later rs.1 (subst (λ (us : List Elementary). length us ≤ 64) (sym e) few) (subst (λ (us : List Elementary). sizes us ≤ 256) (sym e) small)
    (subst (λ (us : List Elementary). AllByRecursion (AdjoiningRules us) xs) (sym e) ra) o h.4 k in
    let b : TreeBody (reached Trees l w ts []) t h.0 = record {
      rules = rs.0;
      bytes = h.3;
      trees_fit = omega (arith, length_trees_from 0 ts, length-append ts (t ∷ more), few);
      nodes_fit = omega (arith, length_laid_out ts, sizes_++ ts (t ∷ more), small);
    } in
    one_field (reached Trees l w ts []) (reached Trees l w (ts ++ (t ∷ [])) []) (tree_tag t.form) h.0 bytes h.1
    (contents_of (record { labels = l; words = w; trees = ts ++ (t ∷ more); adjoinings = xs })) h.2
    (tags.Tree t.form, sym (tag_is t.form), (t, refl, b, sym (tree_added l w ts t t.form refl)))
    (subst (λ (us : List Elementary). Leads (reached Trees l w (ts ++ (t ∷ [])) []) h.1 (contents_of (record { labels = l; words = w; trees = us; adjoinings = xs }))) e r)

from_description : (d : Description) (bytes : List ℕ) → Rules d → Spelled d bytes → Leads nothing_read bytes (contents_of d)
from_description d bytes r s =
    let h = s.2 in
    let w-is = h.2 in
    one_field nothing_read (reached Trees d.labels d.words [] []) 1 (d.labels ∷ (h.0 ∷ (h.1 ∷ []))) bytes s.0 (contents_of d) h.3
    (tags.Header, refl, (d.labels, h.0, h.1, refl, r.some_labels, subst (λ (n : ℕ). 0 < n) (sym w-is) r.some_words, ap (λ (n : ℕ). reached Trees d.labels n [] []) (sym w-is)))
    (all_trees d.trees d.labels d.words [] d.adjoinings s.0 s.1 r.trees r.few_trees r.few_nodes r.adjoinings r.once s.3 s.4)

-- The theorems --------------------------------------------------------------------------------------------------------

pub judged_exactly : JudgedExactly
judged_exactly bytes c = (is, all)
  where
    is : judge bytes ≡ Ok c → IsGrammar bytes c
    is h =
        let g = (bytes_exact bytes c).0 h in
        let d = header_only g.fields bytes g.last g.chain g.begun g.initial in
        record { few = g.few; description = d.0; rules = d.1; spelled = d.2; holds = d.3 ∙ g.holds }

    all : IsGrammar bytes c → judge bytes ≡ Ok c
    all g =
        let r = from_description g.description bytes g.rules g.spelled in
        let first = g.rules.initial in
        let i = is_some 0 g.description.trees first.0 first.1 first.2 in
        (bytes_exact bytes c).1
        (record { few = g.few; fields = r.0; last = r.1; chain = r.2; begun = r.3; initial = ap (λ (q : Contents). some_initial q.trees) r.4 ∙ i; holds = r.4 ∙ g.holds })

pub one_or_other : OneOrOther
one_or_other bytes = by (judge bytes) refl
  where
    by : (j : Result Contents Fault) → judge bytes ≡ j → OneGrammar bytes ⊎ OneFault bytes
    by (Ok c) e = inl (record {
      contents = c;
      is = (judged_exactly bytes c).0 e;
      only = λ k g. let h = (judged_exactly bytes k).1 g in let q : k ≡ c = cc in q;
      no_fault = λ f h. nothing (let z : ◌≡◌ {A = ℕ} 0 1 = cc in z);
    })
    by (Err f) e = inr (record {
      fault = f;
      has = e;
      only = λ g h. let q : g ≡ f = cc in q;
      no_grammar = λ c g. let h = (judged_exactly bytes c).1 g in nothing (let z : ◌≡◌ {A = ℕ} 0 1 = cc in z);
    })
