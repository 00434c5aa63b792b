-- What the guide keeps from move to move.
use Rattle.std.proofs.Common.{◌≡◌, ℕ, ◌<◌, false, sym, refl, ap, ◌∙◌, subst}
use Rattle.format.specs.declared.node.Kind.{Kind}
use Rattle.format.specs.declared.node.Kind.TheVariants.{Inner, Word, Empty, Foot}
use Rattle.format.specs.declared.node.Node.{Node}
use Rattle.format.specs.Parts.{Contents}
use Rattle.format.specs.Keeps.{node_in, taken_trees, any}
use Rattle.walk.specs.declared.choice.Choice.{Choice}
use Rattle.walk.specs.declared.stack.Piece.{Piece}
use Rattle.walk.specs.declared.walking.Walking.{Walking}
use Rattle.walk.specs.Ahead.{Ahead, part, entered, followed}
use Rattle.walk.specs.Stacks.{content, paused}
use Rattle.walk.specs.Moves.{contents_of, ahead_of, entered_here, Moved}
use Rattle.walk.specs.Guided.{is_word, Silent, Asks, Led, Reached}

wordless : (k : Kind) → ((w : ℕ) → k ≡ Word w → ⊥) → is_word k ≡ false
wordless (Inner l) n = refl
wordless (Word w) n = absurd (n w refl)
wordless Empty n = refl
wordless (Foot l) n = refl

module _ {S : Type 0} (H : S → S → Contents → Ahead → Type 0) {d : Contents} {a : Ahead} {x s : S} where
  -- a node passed in silence, after other moves
  pub silent_on : Silent H → (w w' : Walking) (v : Node) → contents_of w ≡ d → Led H d a (ahead_of w) x s → w.here.node < w.here.end
      → v ≡ node_in (contents_of w) w.here.tree w.here.node → ((y : ℕ) → v.kind ≡ Word y → ⊥) → any (taken_trees v.constraint) ≡ false
      → Moved w.depth (entered_here w) w w' → Led H d a (ahead_of w') x s
  silent_on silent w w' v e l lt v-is n f m =
      record {
        holds = λ s₀ h. subst (H s₀ s d)
            (sym (m.ahead ∙ ap (λ (c : Contents). entered c w.here.tag w.here.tree w.here.node w.here.end (content w.stack.now w.here.frame) (paused w.stack.now w.waits)) e))
            (silent s₀ s d w.here.tag w.here.tree w.here.node w.here.end (content w.stack.now w.here.frame) (paused w.stack.now w.waits) lt
            (ap (λ (c : Contents). is_word (node_in c w.here.tree w.here.node).kind) (sym e) ∙ (ap (λ (u : Node). is_word u.kind) (sym v-is) ∙ wordless v.kind n))
            (ap (λ (c : Contents). any (taken_trees (node_in c w.here.tree w.here.node).constraint)) (sym e) ∙ (ap (λ (u : Node). any (taken_trees u.constraint)) (sym v-is) ∙ f))
            (l.holds s₀ h));
      }

  -- a choice followed, after other moves
  pub chosen_on : (L : S → ℕ) (v w w' : Walking) (p : Piece) (y : Choice) {s' t : S} {n : ℕ} → contents_of v ≡ d → Led H d a (ahead_of v) x s → Reached H L s t v w p
      → ((s₀ : S) (e : ℕ) (u r : Ahead) → Asks d p.tree p.node e → H s₀ t d (part p.tag p.tree p.node e u r) → H s₀ s' d (followed d y p.tag p.tree p.node e u r))
      → Moved n (followed (contents_of w) y w.here.tag w.here.tree w.here.node w.here.end (content w.stack.now w.here.frame) (paused w.stack.now w.waits)) w w'
      → Led H d a (ahead_of w') x s'
  chosen_on L v w w' p y {s'} {t} e l r k m =
      let q : contents_of w ≡ d = r.grammar ∙ e in
      let on : Led H d (ahead_of v) (ahead_of w) s t = subst (λ (c : Contents). Led H c (ahead_of v) (ahead_of w) s t) e r.led in
      let asks : Asks d p.tree p.node p.end = subst (λ (c : Contents). Asks c p.tree p.node p.end) e r.asks in
      record {
        holds = λ s₀ h.
            let kept : (z : Piece) → p ≡ z → H s₀ t d (part z.tag z.tree z.node z.end (content w.stack.now z.frame) (paused w.stack.now w.waits))
            → H s₀ s' d (followed d y z.tag z.tree z.node z.end (content w.stack.now z.frame) (paused w.stack.now w.waits)) = λ z i.
            subst (λ (z : Piece). H s₀ t d (part z.tag z.tree z.node z.end (content w.stack.now z.frame) (paused w.stack.now w.waits))
            → H s₀ s' d (followed d y z.tag z.tree z.node z.end (content w.stack.now z.frame) (paused w.stack.now w.waits))) i
            (k s₀ p.end (content w.stack.now p.frame) (paused w.stack.now w.waits) asks) in
            rw (m.ahead, q) (kept w.here r.here (on.holds s₀ (l.holds s₀ h)));
      }
