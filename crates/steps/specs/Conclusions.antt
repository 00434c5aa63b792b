-- What each step concludes from its premises, over a grammar and the meaning of a source.
use Rattle.std.specs.Prelude.{ℕ, ◌+◌, Bool, true, false, cond, ◌&&◌, List, [], ◌∷◌, ◌++◌, map, length, Some, None, Option, ◌==◌}
use Rattle.std.specs.Option.{option_to_list}
use Rattle.format.specs.declared.node.Kind.{Kind}
use Rattle.format.specs.declared.node.Kind.TheVariants.{Inner, Word, Empty, Foot}
use Rattle.format.specs.declared.spot.Spot.{Spot}
use Rattle.format.specs.declared.spot.Spot.TheVariants.{Top, At}
use Rattle.format.specs.declared.spot.Next.{Next}
use Rattle.format.specs.declared.spot.Next.TheVariants.{End, Bottom, Child}
use Rattle.format.specs.declared.spot.Site.{Site}
use Rattle.format.specs.Parts.{Contents}
use Rattle.format.specs.Keeps.{node_in, is_foot, may_stay, lists}
use Rattle.format.specs.Questions.{after_dot, may_start, listing}
use Rattle.words.specs.Meaning.{Meaning}
use Rattle.steps.specs.declared.item.Item.{Item}
use Rattle.steps.specs.declared.item.Origin.TheVariants.{Start, Scan, Predict, Complete, AdjoinPredict, FootPredict, FootComplete, AdjoinComplete}
use Rattle.steps.specs.Items.{same_spot, joined, fresh, moved, item_at}
use Rattle.steps.specs.Orders.{upto, PairStep, TripleStep, pairs, triples}

-- Where an item stands --------------------------------------------------------------------------------------------------------

-- what comes after an item's dot
abbrev pub after : Contents → Item → Next
after c x = after_dot c x.tree x.spot x.dot

abbrev pub is_end : Next → Bool
is_end End = true
is_end Bottom = false
is_end (Child n) = false

-- the dot is last
abbrev pub finished : Contents → Item → Bool
finished c x = is_end (after c x)

-- an inner node or a foot right after the dot
abbrev pub site_kind : ℕ → Kind → Option ℕ
site_kind n (Inner l) = Some n
site_kind n (Word w) = None
site_kind n Empty = None
site_kind n (Foot l) = Some n

abbrev pub site_next : Contents → ℕ → Next → Option ℕ
site_next c t End = None
site_next c t Bottom = None
site_next c t (Child n) = site_kind n (node_in c t n).kind

abbrev pub site_of : Contents → Item → Option ℕ
site_of c x = site_next c x.tree (after c x)

-- node n of tree t may stay as it is; it lists tree b
abbrev pub stays : Contents → ℕ → ℕ → Bool
stays c t n = may_stay (node_in c t n).constraint

abbrev pub listed : Contents → ℕ → ℕ → ℕ → Bool
listed c t n b = lists (node_in c t n).constraint b

abbrev pub when : Bool → Item → Option Item
when b x = cond b (Some x) None

-- 0, start: each tree that may start a derivation ---------------------------------------------------------------------------------

abbrev pub start_tree : Contents → ℕ → List Item
start_tree c t = option_to_list (when (may_start c t) (fresh t Top 0 Start))

abbrev pub starts : Contents → List Item
starts c = upto (length c.trees) (start_tree c)

-- 1, scan: a word after the dot moves the dot over each edge with that word, an empty leaf only moves the dot -----------------------

abbrev pub scan_edge : Meaning → ℕ → Item → ℕ → ℕ → List Item
scan_edge m t x w k = option_to_list (when (m.edge x.j w k) (moved x k x.p x.q (Scan t)))

abbrev pub scan_word : Meaning → ℕ → Item → ℕ → List Item
scan_word m t x w = upto (m.last + 1) (scan_edge m t x w)

abbrev pub scan_kind : Meaning → ℕ → Item → Kind → List Item
scan_kind m t x (Inner l) = []
scan_kind m t x (Word w) = scan_word m t x w
scan_kind m t x Empty = moved x x.j x.p x.q (Scan t) ∷ []
scan_kind m t x (Foot l) = []

abbrev pub scan_next : Contents → Meaning → ℕ → Item → Next → List Item
scan_next c m t x End = []
scan_next c m t x Bottom = []
scan_next c m t x (Child n) = scan_kind m t x (node_in c x.tree n).kind

abbrev pub scan : Contents → Meaning → ℕ → Item → List Item
scan c m t x = scan_next c m t x (after c x)

-- 2, predict: the node after the dot, where it may stay as it is ---------------------------------------------------------------------

abbrev pub predict_at : Contents → ℕ → Item → Option ℕ → List Item
predict_at c t x None = []
predict_at c t x (Some n) = option_to_list (when (stays c x.tree n) (fresh x.tree (At n) x.j (Predict t)))

abbrev pub predict : Contents → ℕ → Item → List Item
predict c t x = predict_at c t x (site_of c x)

-- 3, complete: x before a node that may stay as it is, and y finished at that node ----------------------------------------------------

abbrev pub completes : Contents → Item → Item → ℕ → Bool
completes c x y n = y.tree == x.tree && (same_spot y.spot (At n) && (y.i == x.j && (stays c x.tree n && finished c y)))

abbrev pub complete_at : Contents → ℕ → Item → ℕ → Item → Option ℕ → Option Item
complete_at c a x b y None = None
complete_at c a x b y (Some n) = when (completes c x y n) (moved x y.j (joined x.p y.p) (joined x.q y.q) (Complete a b))

abbrev pub complete : Contents → PairStep
complete c a x b y = complete_at c a x b y (site_of c x)

-- 4, adjoin predict: each tree that the node after the dot lists ----------------------------------------------------------------------

abbrev pub adjoin_tree : Contents → ℕ → Item → ℕ → ℕ → List Item
adjoin_tree c t x n b = option_to_list (when (listed c x.tree n b) (fresh b Top x.j (AdjoinPredict t)))

abbrev pub adjoin_predict_at : Contents → ℕ → Item → Option ℕ → List Item
adjoin_predict_at c t x None = []
adjoin_predict_at c t x (Some n) = upto (length c.trees) (adjoin_tree c t x n)

abbrev pub adjoin_predict : Contents → ℕ → Item → List Item
adjoin_predict c t x = adjoin_predict_at c t x (site_of c x)

-- 5, foot predict: each node of the grammar that lists the tree of a foot ---------------------------------------------------------------

-- x is at the first dot of a foot
abbrev pub at_foot : Contents → Item → Spot → Bool
at_foot c x Top = false
at_foot c x (At n) = is_foot (node_in c x.tree n).kind && (x.dot == 0 && x.i == x.j)

abbrev pub starts_foot : Contents → Item → Bool
starts_foot c x = at_foot c x x.spot

abbrev pub foot_site : ℕ → Item → Site → Item
foot_site t x s = fresh s.tree (At s.node) x.j (FootPredict t)

abbrev pub foot_predict : Contents → ℕ → Item → List Item
foot_predict c t x = cond (starts_foot c x) (map (foot_site t x) (listing c x.tree)) []

-- 6, foot complete: x finished at a node that lists the tree of a foot, and f at the first dot of that foot ----------------------------

abbrev pub lists_at : Contents → ℕ → Spot → ℕ → Bool
lists_at c t Top b = false
lists_at c t (At n) b = listed c t n b

abbrev pub foots : Contents → Item → Item → Bool
foots c x f = starts_foot c f && (f.i == x.i && (lists_at c x.tree x.spot f.tree && finished c x))

abbrev pub foot_complete : Contents → PairStep
foot_complete c a x b f =
    when (foots c x f) (record { tree = f.tree; spot = f.spot; dot = 1; i = x.i; j = x.j; p = x.i; q = x.j; origin = FootComplete a b })

-- 7, adjoin complete: x finished at the top of a tree, y finished at the node adjoined to, between the foot positions of x, z before that node ----

abbrev pub is_top : Spot → Bool
is_top Top = true
is_top (At n) = false

-- finished at the top of its tree
abbrev pub whole : Item → Bool
whole x = is_top x.spot && x.dot == 1

-- y lies between the foot positions of x
abbrev pub fills : Item → Item → Bool
fills x y = whole x && (y.i == x.p && y.j == x.q)

abbrev pub adjoins : Contents → Item → Item → Item → ℕ → Bool
adjoins c x y z n = fills x y && (y.tree == z.tree && (same_spot y.spot (At n) && (x.i == z.j && (listed c z.tree n x.tree && finished c y))))

abbrev pub adjoin_at : Contents → ℕ → Item → ℕ → Item → ℕ → Item → Option ℕ → Option Item
adjoin_at c a x b y k z None = None
adjoin_at c a x b y k z (Some n) = when (adjoins c x y z n) (moved z x.j (joined y.p z.p) (joined y.q z.q) (AdjoinComplete a b k))

abbrev pub adjoin_complete : Contents → TripleStep
adjoin_complete c a x b y k z = adjoin_at c a x b y k z (site_of c z)

-- All conclusions with item t as a premise and none above t, by step and then by the premises' numbers -----------------------------------

abbrev pub conclusions : Contents → Meaning → List Item → ℕ → List Item
conclusions c m its t =
    scan c m t (item_at its t)
    ++ (predict c t (item_at its t)
    ++ (pairs (complete c) its t
    ++ (adjoin_predict c t (item_at its t)
    ++ (foot_predict c t (item_at its t)
    ++ (pairs (foot_complete c) its t
    ++ triples (adjoin_complete c) its t)))))
