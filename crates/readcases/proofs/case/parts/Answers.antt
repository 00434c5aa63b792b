use Rattle.std.proofs.Common.{◌≡◌, ℕ, List, [], ◌∷◌, ◌++◌, Some, None, Option, MatchOption, unwrap_or, Bor, sym, refl, subst, inl, inr, lit<}
use Rattle.std.proofs.lemmas.Str.Pattern.{split_parts}
use Rattle.readcases.specs.Cases.{FreeOf, Parted}
use Rattle.readcases.proofs.case.parts.Goals as goal

abbrev Parts : Type 0
Parts = Bor (List ℕ) × Bor (List ℕ)

-- the parts where the line has a space, and else the whole line and nothing
parted : (line : List ℕ) (o : Option Parts) (whole r : Parts) → MatchOption o (FreeOf 32 line) (λ x. (line ≡ x.0.now ++ (32 ∷ x.1.now)) × FreeOf 32 x.0.now)
    → r ≡ unwrap_or o whole → whole.0.now ≡ line → whole.1.now ≡ [] → Parted line r.0.now r.1.now
parted line None whole r h e f g = subst (λ (p : Parts). Parted line p.0.now p.1.now) (sym e) (subst (FreeOf 32) (sym f) h, inr (sym f, g))
parted line (Some x) whole r h e f g = subst (λ (p : Parts). Parted line p.0.now p.1.now) (sym e) (h.1, inl h.0)

pub returns : goal.returns
returns c =
    parted c.args.line.now c.split_once.result _ c.unwrap_or.result (split_parts 32 c.args.line.now c.split_once.result c.split_once.ensures.cases (lit< tt)) c.unwrap_or.ensures refl refl
