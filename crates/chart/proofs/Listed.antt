-- Drawing the first items of the nodes that list a tree, node by node and tree by tree.
use Rattle.std.proofs.Common.{◌≡◌, ℕ, zero, suc, ◌+◌, ◌<◌, Bool, true, false, cond, List, [], ◌∷◌, ◌++◌, map, length, get_or, take, sym, refl, ap, ◌∙◌, append_assoc, append-nil, arith}
use Rattle.std.proofs.lemmas.List.{take_more, length-take-le}
use Rattle.format.specs.declared.node.Node.{Node}
use Rattle.format.specs.declared.spot.Site.{Site}
use Rattle.format.specs.Parts.{Contents, no_node}
use Rattle.format.specs.Keeps.{nodes_in, lists}
use Rattle.format.specs.Questions.{listing_nodes, listing_trees}
use Rattle.steps.specs.declared.item.Item.{Item}

map_++ : {X Y : Type 0} (f : X → Y) (xs ys : List X) → map f (xs ++ ys) ≡ map f xs ++ map f ys
map_++ f [] ys = refl
map_++ {X} {Y} f (x ∷ xs) ys = ap (λ (l : List Y). f x ∷ l) (map_++ f xs ys)

-- the nodes that list b among some, and one more
abbrev pub site_if : ℕ → ℕ → ℕ → Node → List Site
site_if b t n v = cond (lists v.constraint b) (record { tree = t; node = n } ∷ []) []

cond_++ : (q : Bool) (s : Site) (xs : List Site) → cond q (s ∷ xs) xs ≡ cond q (s ∷ []) [] ++ xs
cond_++ true s xs = refl
cond_++ false s xs = refl

nodes_++ : (b t n : ℕ) (vs ws : List Node) → listing_nodes b t n (vs ++ ws) ≡ listing_nodes b t n vs ++ listing_nodes b t (n + length vs) ws
nodes_++ b t n [] ws = ap (λ (k : ℕ). listing_nodes b t k ws) (let e : n ≡ n + 0 = omega arith in e)
nodes_++ b t n (v ∷ vs) ws = by (lists v.constraint b)
    (nodes_++ b t (suc n) vs ws ∙ ap (λ (k : ℕ). listing_nodes b t (suc n) vs ++ listing_nodes b t k ws) (let e : suc n + length vs ≡ n + suc (length vs) = omega arith in e))
  where
    by : (q : Bool) → listing_nodes b t (suc n) (vs ++ ws) ≡ listing_nodes b t (suc n) vs ++ listing_nodes b t (n + suc (length vs)) ws
        → cond q (record { tree = t; node = n } ∷ listing_nodes b t (suc n) (vs ++ ws)) (listing_nodes b t (suc n) (vs ++ ws))
        ≡ cond q (record { tree = t; node = n } ∷ listing_nodes b t (suc n) vs) (listing_nodes b t (suc n) vs) ++ listing_nodes b t (n + suc (length vs)) ws
    by true e = ap (λ (l : List Site). record { tree = t; node = n } ∷ l) e
    by false e = e

-- one more node
pub one_more_node : (f : Site → Item) (b t k : ℕ) (vs : List Node) → k < length vs
    → map f (listing_nodes b t 0 (take (k + 1) vs)) ≡ map f (listing_nodes b t 0 (take k vs)) ++ map f (site_if b t k (get_or vs k no_node))
one_more_node f b t k vs h =
    let long = length-take-le k vs (omega arith) in
    ap (λ (ws : List Node). map f (listing_nodes b t 0 ws)) (take_more vs k no_node h)
    ∙ (ap (map f) (nodes_++ b t 0 (take k vs) (get_or vs k no_node ∷ [])
    ∙ ap (λ (n : ℕ). listing_nodes b t 0 (take k vs) ++ listing_nodes b t n (get_or vs k no_node ∷ [])) (let e : 0 + length (take k vs) ≡ k = omega arith in e))
    ∙ map_++ f (listing_nodes b t 0 (take k vs)) (site_if b t k (get_or vs k no_node)))

-- the listing of the first k trees, and of one more
trees_more : (c : Contents) (b k t : ℕ) → listing_trees c b (k + 1) t ≡ listing_trees c b k t ++ listing_nodes b (t + k) 0 (nodes_in c (t + k))
trees_more c b zero t = append-nil (listing_nodes b t 0 (nodes_in c t)) ∙ ap (λ (u : ℕ). listing_nodes b u 0 (nodes_in c u)) (let e : t ≡ t + 0 = omega arith in e)
trees_more c b (suc k) t =
    ap (λ (n : ℕ). listing_trees c b n t) (let e : suc k + 1 ≡ suc (k + 1) = omega arith in e)
    ∙ (ap (λ (l : List Site). listing_nodes b t 0 (nodes_in c t) ++ l)
    (trees_more c b k (suc t) ∙ ap (λ (u : ℕ). listing_trees c b k (suc t) ++ listing_nodes b u 0 (nodes_in c u)) (let e : suc t + k ≡ t + suc k = omega arith in e))
    ∙ sym (append_assoc (listing_nodes b t 0 (nodes_in c t)) (listing_trees c b k (suc t)) (listing_nodes b (t + suc k) 0 (nodes_in c (t + suc k)))))

pub one_more_tree : (f : Site → Item) (c : Contents) (b k : ℕ) → map f (listing_trees c b (k + 1) 0) ≡ map f (listing_trees c b k 0) ++ map f (listing_nodes b k 0 (nodes_in c k))
one_more_tree f c b k =
    ap (map f) (trees_more c b k 0 ∙ ap (λ (u : ℕ). listing_trees c b k 0 ++ listing_nodes b u 0 (nodes_in c u)) (let e : 0 + k ≡ k = omega arith in e))
    ∙ map_++ f (listing_trees c b k 0) (listing_nodes b k 0 (nodes_in c k))
