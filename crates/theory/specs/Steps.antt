-- The deduction system: eight steps that conclude items from items, over a grammar and the meaning of a source.
--
-- An item [N, dot, i, j, p, q] of a tree says: at the place N of the tree, its top or a node, the children before the dot span the positions
-- i to j, and if the tree's foot lies among them it spans p to q. `-` stands for a missing foot position, p ⊔ p' for the join of two. The
-- dot is first, last, before the node M or after it. A node M after the dot is an inner node or a foot, unless a step says that it is a leaf.
use Rattle.std.specs.Prelude.{◌≡◌, ℕ, zero, suc, ◌<◌, ◌≤◌, true, List, [], ◌∷◌, length}
use Rattle.format.specs.declared.node.Kind.TheVariants.{Word, Empty, Foot}
use Rattle.format.specs.declared.spot.Spot.TheVariants.{Top, At}
use Rattle.format.specs.declared.spot.Next.TheVariants.{Child}
use Rattle.format.specs.Parts.{Contents}
use Rattle.format.specs.Judge.{adjoinable}
use Rattle.format.specs.Keeps.{node_in}
use Rattle.format.specs.Questions.{may_start}
use Rattle.words.specs.Meaning.{Meaning}
use Rattle.steps.specs.declared.item.Item.{Item}
use Rattle.steps.specs.declared.item.Origin.{Origin}
use Rattle.steps.specs.declared.item.Origin.TheVariants.{Start, Scan, Predict, Complete, AdjoinPredict, FootPredict, FootComplete, AdjoinComplete}
use Rattle.steps.specs.Items.{same_item, joined, fresh, moved, item_at}
use Rattle.steps.specs.Conclusions.{after, finished, stays, listed}

-- The item is the conclusion of a step. `Ref a x` says that the item x, with the number a, may be a premise. The conclusion's origin names
-- the step and the numbers of its premises. No step looks at the origin of a premise.
pub data Step (c : Contents) (m : Meaning) (Ref : ℕ → Item → Type 0) : Item → Type 0 where
  -- Start. Each initial tree gives [top, dot first, 0, 0, -, -].
  start : {t : ℕ} → may_start c t ≡ true → Step c m Ref (fresh t Top 0 Start)
  -- Scan a word. [N, dot before the leaf w, i, j, p, q] and an edge with the word w from j to a position k give
  -- [N, dot after it, i, k, p, q].
  scan_word : {a n w k : ℕ} {x : Item} → Ref a x → after c x ≡ Child n → (node_in c x.tree n).kind ≡ Word w
      → m.edge x.j w k ≡ true → k ≤ m.last → Step c m Ref (moved x k x.p x.q (Scan a))
  -- Scan an empty leaf. [N, dot before an empty leaf, i, j, p, q] gives [N, dot after it, i, j, p, q].
  scan_empty : {a n : ℕ} {x : Item} → Ref a x → after c x ≡ Child n → (node_in c x.tree n).kind ≡ Empty
      → Step c m Ref (moved x x.j x.p x.q (Scan a))
  -- Predict. [N, dot before M, i, j, p, q], where M may stay as it is, gives [M, dot first, j, j, -, -] in the same tree.
  predict : {a n : ℕ} {x : Item} → Ref a x → after c x ≡ Child n → adjoinable (node_in c x.tree n).kind ≡ true
      → stays c x.tree n ≡ true → Step c m Ref (fresh x.tree (At n) x.j (Predict a))
  -- Complete. [N, dot before M, i, j, p, q] and [M, dot last, j, k, p', q'] in the same tree, where M may stay as it is, give
  -- [N, dot after M, i, k, p ⊔ p', q ⊔ q'].
  complete : {a b n : ℕ} {x y : Item} → Ref a x → Ref b y → after c x ≡ Child n → adjoinable (node_in c x.tree n).kind ≡ true
      → stays c x.tree n ≡ true → y.tree ≡ x.tree → y.spot ≡ At n → y.i ≡ x.j → finished c y ≡ true
      → Step c m Ref (moved x y.j (joined x.p y.p) (joined x.q y.q) (Complete a b))
  -- Adjoin predict. [N, dot before M, i, j, p, q], where M lists the tree β of the grammar, gives [top, dot first, j, j, -, -] in β.
  adjoin_predict : {a n β : ℕ} {x : Item} → Ref a x → after c x ≡ Child n → adjoinable (node_in c x.tree n).kind ≡ true
      → β < length c.trees → listed c x.tree n β ≡ true → Step c m Ref (fresh β Top x.j (AdjoinPredict a))
  -- Foot predict. [F, dot first, j, j, p, q] at the foot F of β, and a node M of any tree that lists β, give [M, dot first, j, j, -, -] in
  -- that tree.
  foot_predict : {a f l t n : ℕ} {x : Item} → Ref a x → x.spot ≡ At f → (node_in c x.tree f).kind ≡ Foot l → x.dot ≡ 0 → x.i ≡ x.j
      → listed c t n x.tree ≡ true → Step c m Ref (fresh t (At n) x.j (FootPredict a))
  -- Foot complete. [M, dot last, i, j, p, q] at a node M that lists β, and [F, dot first, i, i, p', q'] at the foot F of β, give
  -- [F, dot last, i, j, i, j].
  foot_complete : {a b n f l : ℕ} {x y : Item} → Ref a x → Ref b y → x.spot ≡ At n → listed c x.tree n y.tree ≡ true
      → finished c x ≡ true → y.spot ≡ At f → (node_in c y.tree f).kind ≡ Foot l → y.dot ≡ 0 → y.i ≡ y.j → y.i ≡ x.i
      → Step c m Ref (record { tree = y.tree; spot = y.spot; dot = 1; i = x.i; j = x.j; p = x.i; q = x.j; origin = FootComplete a b })
  -- Adjoin complete. [top, dot after the root, j, k, p, q] in β, [M, dot last, p, q, p', q'] at a node M that lists β, and
  -- [N, dot before M, i, j, p'', q''] in the tree of M give [N, dot after M, i, k, p' ⊔ p'', q' ⊔ q''].
  adjoin_complete : {a b d n : ℕ} {x y z : Item} → Ref a x → Ref b y → Ref d z → after c z ≡ Child n
      → adjoinable (node_in c z.tree n).kind ≡ true → listed c z.tree n x.tree ≡ true → x.spot ≡ Top → x.dot ≡ 1 → x.i ≡ z.j
      → y.tree ≡ z.tree → y.spot ≡ At n → y.i ≡ x.p → y.j ≡ x.q → finished c y ≡ true
      → Step c m Ref (moved z x.j (joined y.p z.p) (joined y.q z.q) (AdjoinComplete a b d))

-- the numbers of the premises, in the order of the step
abbrev pub premises : Origin → List ℕ
premises Start = []
premises (Scan a) = a ∷ []
premises (Predict a) = a ∷ []
premises (Complete a b) = a ∷ b ∷ []
premises (AdjoinPredict a) = a ∷ []
premises (FootPredict a) = a ∷ []
premises (FootComplete a b) = a ∷ b ∷ []
premises (AdjoinComplete a b d) = a ∷ b ∷ d ∷ []

-- derivable, with at most h steps one above the other
abbrev pub DerivableIn : Contents → Meaning → ℕ → Item → Type 0
DerivableIn c m zero x = ⊥
DerivableIn c m (suc h) x = Step c m (λ _ y. DerivableIn c m h y) x

-- An item is derivable if a step concludes it from derivable items. Of its origin only the step counts: the numbers there may be any.
abbrev pub Derivable : Contents → Meaning → Item → Type 0
Derivable c m x = (h : ℕ) × DerivableIn c m h x

-- the items of a list with numbers below b
abbrev pub Below : List Item → ℕ → ℕ → Item → Type 0
Below its b a x = (a < b) × (item_at its a ≡ x)

-- Each item of a list is the conclusion of the step that its origin names, from the items with the numbers that its origin names, and these
-- numbers are smaller than its own.
abbrev pub Justified : Contents → Meaning → List Item → Type 0
Justified c m its = (k : ℕ) → k < length its → Step c m (Below its k) (item_at its k)

-- a list holds an item, up to its origin
abbrev pub Holds : List Item → Item → Type 0
Holds its y = (k : ℕ) × (k < length its) × (same_item (item_at its k) y ≡ true)
