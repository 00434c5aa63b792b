-- Silent moves leave less ahead.
use Rattle.std.proofs.Common.{◌≡◌, ℕ, suc, ◌+◌, ◌-◌, ◌*◌, ◌<◌, ap, ◌∙◌, suc-mul, arith}
use Rattle.format.specs.declared.node.Kind.{Kind}
use Rattle.format.specs.declared.node.Kind.TheVariants.{Inner, Word, Empty, Foot}
use Rattle.format.specs.Parts.{Contents}
use Rattle.format.specs.Keeps.{node_in}
use Rattle.walk.specs.Ahead.{Ahead, nothing, part, ◌then◌, entered_kind, entered}
use Rattle.walk.specs.Sizes.{size}

size_then : (a b : Ahead) → size (a then b) ≡ size a + size b
size_then nothing b = omega arith
size_then (part τ t n e u r) b = let h = size_then r b in omega arith

module _ (τ t n e : ℕ) (u r : Ahead) (h : n < e) where
  one_less : (e - n) * suc (size u) ≡ (e - suc n) * suc (size u) + suc (size u)
  one_less =
      let k : e - n ≡ suc (e - suc n) = omega arith in
      ap (λ (x : ℕ). x * suc (size u)) k ∙ suc-mul (e - suc n) (suc (size u))

  size_entered_kind : (k : Kind) → size (entered_kind k τ t n e u r) < size (part τ t n e u r)
  size_entered_kind (Inner l) = omega (arith, one_less)
  size_entered_kind (Word w) = omega (arith, one_less)
  size_entered_kind Empty = omega (arith, one_less)
  size_entered_kind (Foot l) = omega (arith, one_less, size_then u (part τ t (suc n) e u r))

  pub size_entered : (c : Contents) → size (entered c τ t n e u r) < size (part τ t n e u r)
  size_entered c = size_entered_kind (node_in c t n).kind
