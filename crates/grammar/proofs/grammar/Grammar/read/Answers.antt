use Rattle.std.proofs.Common.{◌≡◌, ℕ, List, Ok, Err}
use Rattle.std.proofs.lemmas.Result.{err_from_is_err_and}
use Rattle.format.specs.declared.fault.Fault.{Fault}
use Rattle.format.specs.Parts.{Contents}
use Rattle.format.specs.Judge.{judge, contents}
use Rattle.format.specs.Format.{IsGrammar}
use Rattle.format.proofs.GrammarExact.{judged_exactly}
use Rattle.format.proofs.Kept.{keeps}
use Rattle.grammar.specs.declared.read.ReadError.{ReadError}
use Rattle.grammar.specs.declared.read.ReadError.TheVariants.{Faulty, OutOfMemory}
use Rattle.grammar.specs.Drafts.{state}
use Rattle.grammar.specs.Read.{Reads}
use Rattle.grammar.specs.Whole.{GrammarExact}
use Rattle.grammar.proofs.grammar.Grammar.read.Goals as goal

never_both : (bytes : List ℕ) (f : Fault) (c : Contents) → judge bytes ≡ Err f → IsGrammar bytes c → ⊥
never_both bytes f c h g =
    let k : judge bytes ≡ Ok c = (judged_exactly bytes c).1 g in
    cc

pub invariant_of-result : goal.invariant_of-result
invariant_of-result c =
    let g = (judged_exactly c.args.bytes.now (contents (state c.in_ok-draft.draft))).0 c.in_ok-draft.ensures in
    let k = keeps (contents (state c.in_ok-draft.draft)) (g.description, g.rules, g.holds) in
    record {
      rules = ∣ (g.description, g.rules, g.holds) ∣₁;
      few = k.few;
      initial = k.initial;
      whole = k.whole;
      roots = k.roots;
      ends = k.ends;
      subtrees = k.subtrees;
      children = k.children;
      within = k.child_within;
      inner = k.inner_arity;
      leaves = k.leaf_arity;
      names = k.names;
      feet = k.feet;
      footing = k.foot_labels;
      constraints = k.constraints;
      listed = k.listed_there;
      auxiliary = k.listed_auxiliary;
      agreeing = k.listed_labels;
      obligations = k.obligations;
    }

pub returns-clause-exact : goal.returns-clause-exact
returns-clause-exact c = (judged_exactly c.args.bytes.now (contents (state c.in_ok-draft.draft))).0 c.in_ok-draft.ensures

-- bytes with a fault are no grammar
faults : (bytes : List ℕ) (e : ReadError) → Reads (judge bytes) (Err e) → GrammarExact bytes (Err e)
faults bytes (Faulty f) h = λ c g. never_both bytes f c h g
faults bytes OutOfMemory h = tt

pub returns-in_err-draft-clause-exact : goal.returns-in_err-draft-clause-exact
returns-in_err-draft-clause-exact c =
    let p = err_from_is_err_and c.from_residual.result c.from_residual.ensures.1 in
    rw (p.1, p.2) (faults c.args.bytes.now c.in_err-draft.field-0.0 c.in_err-draft.ensures)
