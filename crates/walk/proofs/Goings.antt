-- A walk stays under way by each of its moves.
use Rattle.std.proofs.Common.{◌≡◌, ℕ, suc, ◌+◌, ◌-◌, ◌*◌, ◌<◌, ◌≤◌, ◌≢◌, List, length, Some, None, Option, sym, refl, ap, ◌∙◌, subst, add-one, arith}
use native.Mathlib.Decide.{dec_lt}
use Rattle.format.specs.declared.node.Kind.{Kind}
use Rattle.format.specs.declared.node.Kind.TheVariants.{Inner, Word, Empty, Foot}
use Rattle.format.specs.declared.node.Node.{Node}
use Rattle.format.specs.Parts.{Contents}
use Rattle.format.specs.Keeps.{nodes_in, node_in, Ends, Subtrees}
use Rattle.walk.specs.declared.stack.Piece.{Piece}
use Rattle.walk.specs.declared.stack.Frame.{Frame}
use Rattle.walk.specs.Ahead.{Ahead, nothing, part, entered, content_kind, content_of, adjoined}
use Rattle.walk.specs.Stacks.{frame_at, waiting_at, of_piece, content_piece, content_by, content_in, content, paused, nest, level, Fine, FineContent, Going}
use Rattle.walk.proofs.Contents.{Before, Low, content_is, content_kept, paused_kept}

before : (c : Contents) (i : ℕ) (o : Option Piece) → FineContent c i o → Before i o
before c i None f = tt
before c i (Some p) f = (f p refl).begun

pub low_frames : (c : Contents) (s : List Frame) (d : ℕ) → ((i : ℕ) → i < d → FineContent c i (frame_at s i).content) → Low s d
low_frames c s d f i h = before c i (frame_at s i).content (f i h)

fine_more : {c : Contents} {d d' : ℕ} {p : Piece} → d ≤ d' → Fine c d p → Fine c d' p
fine_more h f = record { begun = (let b = f.begun in omega arith); order = f.order; inside = f.inside; whole = f.whole }

pub going_resume : {c : Contents} {s : List Frame} {d k : ℕ} {p : Piece} → Going c s d k p → 0 < k → Going c s d (k - 1) (waiting_at s (k - 1))
going_resume {c} {s} {d} {k} {p} g h =
    record {
      room = g.room;
      here = g.waits (k - 1) (omega arith);
      waits = λ j a. g.waits j (omega arith);
      frames = g.frames;
      top = λ a.
          let o : suc (k - 1 - 1) ≡ k - 1 = omega arith in
          subst (λ (i : ℕ). level s (waiting_at s (k - 1 - 1)) ≤ suc (level s (waiting_at s i))) o (g.chain (k - 1 - 1) (omega arith));
      chain = λ j a. g.chain j (omega arith);
      bound = omega (arith, g.top h, g.bound);
    }

-- what waits at places below k, and the contents of the first d entries, are in s' as they are in s
pub record Kept (s s' : List Frame) (d k : ℕ) : Type 0 where
  pub long : length s' ≡ length s
  pub others : (j : ℕ) → j < k → waiting_at s' j ≡ waiting_at s j
  pub contents : (i : ℕ) → i < d → (frame_at s' i).content ≡ (frame_at s i).content

-- a piece that waits at k leaves what waits before it
pub kept_pause : (s s' : List Frame) (d k : ℕ) → length s' ≡ length s → ((j : ℕ) → (j ≢ k) → waiting_at s' j ≡ waiting_at s j)
    → ((i : ℕ) → (frame_at s' i).content ≡ (frame_at s i).content) → Kept s s' d k
kept_pause s s' d k long others contents = record { long = long; others = λ j h. others j (λ z. omega arith); contents = λ i h. contents i }

module _ {c : Contents} {s : List Frame} {d k : ℕ} {p : Piece} (g : Going c s d k p) where
  low : Low s d
  low = low_frames c s d g.frames

  -- what comes at the foot of the tree that is being walked
  pub content_here : content s p.frame ≡ content_by (content s) (frame_at s p.frame).content
  content_here = content_is s d low p.frame g.here.begun

  module _ (s' : List Frame) (q : Kept s s' d k) where
    pub same_content : (i : ℕ) → i < d → content s' i ≡ content s i
    same_content i b = content_kept s d low s' q.contents i b

    same_level : (j : ℕ) → j < k → level s' (waiting_at s' j) ≡ level s (waiting_at s j)
    same_level j b = ap (level s') (q.others j b) ∙ ap nest (same_content (waiting_at s j).frame (g.waits j b).begun)

    level_same : level s' p ≡ level s p
    level_same = ap nest (same_content p.frame g.here.begun)

    pub going_kept : Going c s' d k p
    going_kept =
        record {
          room = (let l = q.long in let r = g.room in omega arith);
          here = g.here;
          waits = λ j x. subst (Fine c d) (sym (q.others j x)) (g.waits j x);
          frames = λ i x. subst (FineContent c i) (sym (q.contents i x)) (g.frames i x);
          top = λ x. omega (arith, same_level (k - 1) (omega arith), level_same, g.top x);
          chain = λ j x. omega (arith, same_level j (omega arith), same_level (suc j) x, g.chain j x);
          bound = omega (arith, level_same, g.bound);
        }

module _ {c : Contents} {s : List Frame} {d k : ℕ} {p : Piece} (g : Going c s d k p) (h : p.node < p.end) where
  -- the piece with another first node
  abbrev pub from : ℕ → Piece
  from n = record { frame = p.frame; tag = p.tag; tree = p.tree; node = n; end = p.end }

  pub fine_from : (n : ℕ) → p.node ≤ n → n ≤ p.end → Fine c d (from n)
  fine_from n a b = record { begun = g.here.begun; order = b; inside = g.here.inside; whole = λ m x y. g.here.whole m (omega arith) y }

  module _ (s' : List Frame) (n : ℕ) (n-from : p.node ≤ n) (n-to : n ≤ p.end) (q : Kept s s' d k) (new : waiting_at s' k ≡ from n) where
    level_here : level s' (waiting_at s' k) ≡ level s p
    level_here = ap (level s') new ∙ level_same g s' q

    pub paused_more : paused s' (suc k) ≡ of_piece (from n) (content s p.frame) (paused s k)
    unfolding paused
    paused_more = rw (new, same_content g s' q p.frame g.here.begun, paused_kept s d (low g) s' q.contents k q.others (λ j b. (g.waits j b).begun)) refl

    -- The walk goes on with another piece, of a tree no more than one content less deep.
    pub going_next : (d' : ℕ) (p' : Piece) → d ≤ d' → d' ≤ length s → Fine c d' p' → ((i : ℕ) → d ≤ i → i < d' → FineContent c i (frame_at s' i).content)
        → level s p ≤ suc (level s' p') → suc k + level s' p' + 2 ≤ 2 * d' → Going c s' d' (suc k) p'
    going_next d' p' a b f more up bound =
        record {
          room = (let l = q.long in omega arith);
          here = f;
          waits = λ j x. waits' j x (dec_lt j k);
          frames = λ i x. frames' i x (dec_lt i d);
          top = λ x.
              let o : suc k - 1 ≡ k = omega arith in
              let l = level_here in
              subst (λ (j : ℕ). level s' (waiting_at s' j) ≤ suc (level s' p')) (sym o) (omega arith);
          chain = λ j x. chain' j x (dec_lt (suc j) k);
          bound = bound;
        }
      where
        waits' : (j : ℕ) → j < suc k → Dec (j < k) → Fine c d' (waiting_at s' j)
        waits' j x (yes y) = subst (Fine c d') (sym (q.others j y)) (fine_more a (g.waits j y))
        waits' j x (no y) =
            let o : k ≡ j = omega arith in
            subst (λ (i : ℕ). Fine c d' (waiting_at s' i)) o (subst (Fine c d') (sym new) (fine_more a (fine_from n n-from n-to)))

        frames' : (i : ℕ) → i < d' → Dec (i < d) → FineContent c i (frame_at s' i).content
        frames' i x (yes y) = subst (FineContent c i) (sym (q.contents i y)) (g.frames i y)
        frames' i x (no y) = more i (omega arith) x

        chain' : (j : ℕ) → suc j < suc k → Dec (suc j < k) → level s' (waiting_at s' j) ≤ suc (level s' (waiting_at s' (suc j)))
        chain' j x (yes y) = omega (arith, same_level g s' q j (omega arith), same_level g s' q (suc j) y, g.chain j y)
        chain' j x (no y) =
            let o : suc j ≡ k = omega arith in
            let o' : k - 1 ≡ j = omega arith in
            let t = subst (λ (i : ℕ). level s (waiting_at s i) ≤ suc (level s p)) o' (g.top (omega arith)) in
            let l = ap (λ (i : ℕ). level s' (waiting_at s' i)) o ∙ level_here in
            omega (arith, same_level g s' q j (omega arith))

  -- a foot at which nothing comes
  pub enter_bare : (l : ℕ) → (node_in c p.tree p.node).kind ≡ Foot l → (frame_at s p.frame).content ≡ None
      → part p.tag p.tree (p.node + 1) p.end (content s p.frame) (paused s k) ≡ entered c p.tag p.tree p.node p.end (content s p.frame) (paused s k)
  enter_bare l e n =
      let u : content s p.frame ≡ nothing = content_here g ∙ ap (content_by (content s)) n in
      rw (add-one, e, u) refl

  -- a foot at which a content comes
  module _ (l : ℕ) (e : (node_in c p.tree p.node).kind ≡ Foot l) (o : Piece) (some : (frame_at s p.frame).content ≡ Some o) (s' : List Frame) (q : Kept s s' d k) (at : waiting_at s' k ≡ from (p.node + 1)) where
    fine_o : Fine c p.frame o
    fine_o = g.frames p.frame g.here.begun o some

    o_begun : o.frame < d
    o_begun = let a = fine_o.begun in let b = g.here.begun in omega arith

    -- the content is one less deep
    deeper : level s p ≡ suc (level s o)
    deeper = ap nest (content_here g ∙ ap (content_by (content s)) some)

    kept_o : content s' o.frame ≡ content s o.frame
    kept_o = same_content g s' q o.frame o_begun

    pub going_foot : Going c s' d (k + 1) o
    going_foot =
        let a = fine_o.begun in
        let b = g.here.begun in
        let x = deeper in
        let y = ap nest kept_o in
        rw add-one
        (going_next s' (p.node + 1) (omega arith) (omega arith) q at d o (omega arith) g.room (fine_more (omega arith) fine_o)
        (λ i u v. absurd (omega arith)) (omega arith) (omega (arith, g.bound)))

    pub enter_foot : of_piece o (content s' o.frame) (paused s' (k + 1)) ≡ entered c p.tag p.tree p.node p.end (content s p.frame) (paused s k)
    enter_foot =
        let u : content s p.frame ≡ content_by (content s) (Some o) = content_here g ∙ ap (content_by (content s)) some in
        let m = paused_more s' (p.node + 1) (omega arith) (omega arith) q at in
        rw (add-one, m, kept_o, add-one, e, u) refl

  -- the content of the first node, where it is no foot
  abbrev pub inner : Piece
  inner = record { frame = p.frame; tag = p.tag; tree = p.tree; node = p.node + 1; end = (node_in c p.tree p.node).end }

  fine_inner : Ends c → Subtrees c → Fine c d inner
  fine_inner E S =
      let i = g.here.inside in
      let e = E p.tree p.node (omega arith) in
      record {
        begun = g.here.begun;
        order = omega (arith, e.0);
        inside = e.1;
        whole = λ n a b. S p.tree p.node n (omega arith, omega arith, b);
      }

  -- the content of the first node is fine
  fine_content : Ends c → Subtrees c → (x : Kind) → FineContent c d (content_piece x inner (frame_at s p.frame).content)
  fine_content E S (Inner l) o e = subst (Fine c d) (cc) (fine_inner E S)
  fine_content E S (Word w) o e = subst (Fine c d) (cc) (fine_inner E S)
  fine_content E S Empty o e = subst (Fine c d) (cc) (fine_inner E S)
  fine_content E S (Foot l) o e = fine_more (let b = g.here.begun in omega arith) (g.frames p.frame g.here.begun o e)

  content_by_kind : (x : Kind) → content_by (content s) (content_piece x inner (frame_at s p.frame).content) ≡ content_kind x p.tag p.tree p.node (node_in c p.tree p.node).end (content s p.frame)
  content_by_kind (Inner l) = rw add-one refl
  content_by_kind (Word w) = rw add-one refl
  content_by_kind Empty = rw add-one refl
  content_by_kind (Foot l) = sym (content_here g)

  -- a content is at most one less deep than its tree, and at most one deeper
  nest_content : (x : Kind) → (level s p ≤ nest (content_kind x p.tag p.tree p.node (node_in c p.tree p.node).end (content s p.frame)))
      × (nest (content_kind x p.tag p.tree p.node (node_in c p.tree p.node).end (content s p.frame)) ≤ suc (level s p))
  nest_content (Inner l) = (omega arith, omega arith)
  nest_content (Word w) = (omega arith, omega arith)
  nest_content Empty = (omega arith, omega arith)
  nest_content (Foot l) = (omega arith, omega arith)

  -- a tree is adjoined: a new entry d
  module _ (E : Ends c) (S : Subtrees c) (β σ m : ℕ) (m-is : m ≡ length (nodes_in c β)) (v : Node) (v-is : v ≡ node_in c p.tree p.node) (o : Option Piece)
      (is : o ≡ content_piece v.kind (record { frame = p.frame; tag = p.tag; tree = p.tree; node = p.node + 1; end = v.end }) (frame_at s p.frame).content)
      (s' : List Frame) (q : Kept s s' d k) (waits : waiting_at s' k ≡ from v.end) (new : (frame_at s' d).content ≡ o) (room : d < length s) where
    abbrev t : Piece
    t = record { frame = d; tag = σ; tree = β; node = 0; end = m }

    at : waiting_at s' k ≡ from (node_in c p.tree p.node).end
    at = waits ∙ ap (λ (u : Node). from u.end) v-is

    piece : o ≡ content_piece (node_in c p.tree p.node).kind inner (frame_at s p.frame).content
    piece =
        is ∙ ap (λ (u : Node). content_piece u.kind (record { frame = p.frame; tag = p.tag; tree = p.tree; node = p.node + 1; end = u.end }) (frame_at s p.frame).content) v-is

    fine_new : FineContent c d o
    fine_new = subst (FineContent c d) (sym piece) (fine_content E S (node_in c p.tree p.node).kind)

    is-o : content_by (content s) o ≡ content_of c p.tag p.tree p.node (content s p.frame)
    is-o = ap (content_by (content s)) piece ∙ content_by_kind (node_in c p.tree p.node).kind

    ends_here : (p.node < (node_in c p.tree p.node).end) × ((node_in c p.tree p.node).end ≤ p.end)
    ends_here = ((E p.tree p.node (let i = g.here.inside in omega arith)).0, g.here.whole p.node (omega arith) h)

    frames_new : (i : ℕ) → i < suc d → Dec (i < d) → FineContent c i (frame_at s' i).content
    frames_new i x (yes y) = subst (FineContent c i) (sym (q.contents i y)) (g.frames i y)
    frames_new i x (no y) =
        let z : d ≡ i = omega arith in
        subst (λ (j : ℕ). FineContent c j (frame_at s' j).content) z (subst (FineContent c d) (sym new) fine_new)

    low_new : Low s' (suc d)
    low_new = low_frames c s' (suc d) (λ i x. frames_new i x (dec_lt i d))

    same_by_o : (x : Option Piece) → FineContent c d x → content_by (content s') x ≡ content_by (content s) x
    same_by_o None f = refl
    same_by_o (Some y) f =
        ap (λ (u : Ahead). of_piece y u nothing) (same_content g s' q y.frame (f y refl).begun)

    new_content : content s' d ≡ content_of c p.tag p.tree p.node (content s p.frame)
    new_content = content_is s' (suc d) low_new d (omega arith) ∙ (ap (content_by (content s')) new ∙ (same_by_o o fine_new ∙ is-o))

    pub going_adjoin : Going c s' (d + 1) (k + 1) t
    going_adjoin =
        let e = ends_here.0 in
        let l = ap nest new_content in
        let b = nest_content (node_in c p.tree p.node).kind in
        rw (add-one d, add-one k)
        (going_next s' (node_in c p.tree p.node).end (omega arith) ends_here.1 q at (suc d) t (omega arith) (omega arith)
        (record { begun = omega arith; order = omega arith; inside = omega arith; whole = λ n x y. omega (arith, (E β n (omega arith)).1) })
        (λ i x y. frames_new i y (dec_lt i d)) (omega arith) (omega (arith, g.bound)))

    pub walk_adjoin : of_piece t (content s' d) (paused s' (k + 1)) ≡ adjoined c β σ p.tag p.tree p.node p.end (content s p.frame) (paused s k)
    walk_adjoin =
        let e = ends_here.0 in
        rw (new_content, add-one, paused_more s' (node_in c p.tree p.node).end (omega arith) ends_here.1 q at, m-is) refl

-- a tree that is adjoined nowhere, in the first entry
module _ (c : Contents) (E : Ends c) (s : List Frame) (τ t e : ℕ) (none : (frame_at s 0).content ≡ None) (room : 0 < length s) (whole : e ≡ length (nodes_in c t)) where
  abbrev first : Piece
  first = record { frame = 0; tag = τ; tree = t; node = 0; end = e }

  pub no_content : content s 0 ≡ nothing
  unfolding content
  no_content = ap (content_by (content_in s 0)) none

  pub going_start : Going c s 1 0 first
  going_start =
      record {
        room = omega arith;
        here = record { begun = omega arith; order = omega arith; inside = omega arith; whole = λ n a b. omega (arith, (E t n (omega arith)).1) };
        waits = λ j h. absurd (omega arith);
        frames = λ i h x y. (let z : 0 ≡ i = omega arith in absurd (cc));
        top = λ h. absurd (omega arith);
        chain = λ j h. absurd (omega arith);
        bound = omega (arith, ap nest no_content);
      }

  pub start_ahead : of_piece first (content s 0) (paused s 0) ≡ part τ t 0 (length (nodes_in c t)) nothing nothing
  unfolding paused
  start_ahead = rw (no_content, whole) refl
