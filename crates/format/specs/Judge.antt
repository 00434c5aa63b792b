-- The one fault of bytes that are no grammar, and the table of those that are one, by the order of judgement:
-- the number of bytes first, then field by field the first of the rules that is broken, and last that there is an initial tree.
use Rattle.std.specs.Prelude.{ℕ, zero, suc, ◌+◌, ◌/◌, ◌%◌, Bool, true, false, cond, not, ◌&&◌, ◌||◌, List, [], ◌∷◌, ◌++◌, length, get_or, take, is_some, Some, None, Ok, Err, Option, Result, ◌==◌, nat_le, nat_lt, slice_index_or, slice_set}
use Rattle.format.specs.declared.node.Kind.{Kind}
use Rattle.format.specs.declared.node.Kind.TheVariants.{Inner, Word, Empty, Foot}
use Rattle.format.specs.declared.node.Node.{Node}
use Rattle.format.specs.declared.node.Tree.{Tree}
use Rattle.format.specs.declared.node.Obligation.{Obligation}
use Rattle.format.specs.declared.node.Obligation.TheVariants.{Optional, Obligatory}
use Rattle.format.specs.declared.node.Constraint.{Constraint}
use Rattle.format.specs.declared.node.Form.{Form}
use Rattle.format.specs.declared.node.Form.TheVariants.{Initial, Auxiliary}
use Rattle.format.specs.declared.stage.Tag.{Tag}
use Rattle.format.specs.declared.stage.Tag.TheVariants as tags
use Rattle.format.specs.declared.stage.Phase.{Phase}
use Rattle.format.specs.declared.stage.Phase.TheVariants.{Start, Trees, Adjoinings}
use Rattle.format.specs.declared.fault.Rule.{Rule}
use Rattle.format.specs.declared.fault.Rule.TheVariants as broken
use Rattle.format.specs.declared.fault.Refusal.{Refusal}
use Rattle.format.specs.declared.fault.Fault.{Fault}
use Rattle.format.specs.Parts.{Contents, no_tree, no_node, pair, label_of_kind, feet, no_list, mark, constrained, slot}
use Rattle.format.specs.Trees.{Row, none, node, size, Entry, entry, plant, alone, lay}

-- What has been read so far.
pub record State : Type 0 where
  pub phase : Phase
  pub labels : ℕ
  pub words : ℕ
  pub trees : List Tree
  pub nodes : List Node

abbrev pub contents : State → Contents
contents s = record { labels = s.labels; words = s.words; trees = s.trees; nodes = s.nodes }

abbrev pub nothing_read : State
nothing_read = record { phase = Start; labels = 0; words = 0; trees = []; nodes = [] }

abbrev pub refusal : Rule → ℕ → Refusal
refusal r n = record { rule = r; node = n }

abbrev pub refuse : {X : Type 0} → Rule → Result X Refusal
refuse r = Err (refusal r 0)

abbrev pub tag_of : ℕ → Option Tag
tag_of t = cond (t == 1) (Some tags.Header) (cond (t == 2) (Some (tags.Tree Initial)) (cond (t == 3) (Some (tags.Tree Auxiliary)) (cond (t == 4) (Some tags.Adjoining) None)))

-- names run from 1 to the number of labels or words
abbrev pub named : ℕ → ℕ → Bool
named most n = nat_lt 0 n && nat_le n most

abbrev pub kind_of : ℕ → ℕ → ℕ → ℕ → Option Kind
kind_of labels words k n =
    cond (k == 0) (cond (named labels n) (Some (Inner n)) None)
    (cond (k == 1) (cond (named words n) (Some (Word n)) None)
    (cond (k == 2) (cond (n == 0) (Some Empty) None)
    (cond (k == 3) (cond (named labels n) (Some (Foot n)) None) None)))

-- The header: one byte of labels and two of words, neither zero.
abbrev pub judge_header : State → List ℕ → Result State Refusal
judge_header s [] = refuse broken.Body
judge_header s (a ∷ []) = refuse broken.Body
judge_header s (a ∷ (b ∷ [])) = refuse broken.Body
judge_header s (a ∷ (b ∷ (c ∷ []))) =
    cond (nat_lt 0 a && nat_lt 0 (pair b c)) (Ok (record { phase = Trees; labels = a; words = pair b c; trees = s.trees; nodes = s.nodes })) (refuse broken.Body)
judge_header s (a ∷ (b ∷ (c ∷ (d ∷ more)))) = refuse broken.Body

-- four bytes a node
abbrev pub whole_nodes : List ℕ → Bool
whole_nodes body = nat_lt 0 (length body) && length body % 4 == 0

abbrev pub entry_before : Kind → ℕ → Result (List Entry) ℕ → Result (List Entry) ℕ
entry_before k c (Ok es) = Ok (entry k c ∷ es)
entry_before k c (Err n) = Err n

abbrev pub entry_or : ℕ → Option Kind → ℕ → Result (List Entry) ℕ → Result (List Entry) ℕ
entry_or i None c later = Err i
entry_or i (Some k) c later = entry_before k c later

-- the nodes of a body, from node i on, or the first whose kind or name is bad
abbrev pub entries : ℕ → ℕ → ℕ → List ℕ → Result (List Entry) ℕ
entries labels words i [] = Ok []
entries labels words i (a ∷ []) = Ok []
entries labels words i (a ∷ (b ∷ [])) = Ok []
entries labels words i (a ∷ (b ∷ (c ∷ []))) = Ok []
entries labels words i (k ∷ (high ∷ (low ∷ (c ∷ more)))) = entry_or i (kind_of labels words k (pair high low)) c (entries labels words (suc i) more)

-- an inner node has 1 to 8 children, a leaf none
abbrev pub arity : Kind → ℕ → Bool
arity (Inner l) c = nat_lt 0 c && nat_le c 8
arity (Word w) c = c == 0
arity Empty c = c == 0
arity (Foot l) c = c == 0

abbrev pub arities : List Entry → Bool
arities [] = true
arities (e ∷ es) = arity e.kind e.children && arities es

-- the root is an inner node
abbrev pub inner_root : Option Row → Option Row
inner_root None = None
inner_root (Some none) = None
inner_root (Some (node (Inner l) kids rest)) = Some (node (Inner l) kids rest)
inner_root (Some (node (Word w) kids rest)) = None
inner_root (Some (node Empty kids rest)) = None
inner_root (Some (node (Foot l) kids rest)) = None

-- exactly one tree by the child counts, with an inner root
abbrev pub one_tree : List Entry → Option Row
one_tree es = cond (arities es) (inner_root (alone (plant es))) None

abbrev pub root_label : Row → ℕ
root_label none = 0
root_label (node k kids rest) = label_of_kind k

-- no foot in an initial tree, exactly one in an auxiliary tree, with its root's label
abbrev pub feet_right : Form → ℕ → List ℕ → Bool
feet_right Initial l [] = true
feet_right Initial l (f ∷ fs) = false
feet_right Auxiliary l [] = false
feet_right Auxiliary l (f ∷ []) = f == l
feet_right Auxiliary l (f ∷ (e ∷ fs)) = false

abbrev pub tree_of : Form → State → Row → Tree
tree_of f s r = record { form = f; label = root_label r; start = length s.nodes; size = size r }

abbrev pub add_tree : State → Form → Row → State
add_tree s f r = record { phase = s.phase; labels = s.labels; words = s.words; trees = s.trees ++ (tree_of f s r ∷ []); nodes = s.nodes ++ lay 0 r }

-- one tree with the right feet
abbrev pub judge_feet : Form → List Entry → Option Row → Result Row Refusal
judge_feet f es None = refuse broken.Shape
judge_feet f es (Some r) = cond (feet_right f (root_label r) (feet es)) (Ok r) (refuse broken.Foot)

abbrev pub judge_shape : Form → Result (List Entry) ℕ → Result Row Refusal
judge_shape f (Err n) = Err (refusal broken.Name n)
judge_shape f (Ok es) = judge_feet f es (one_tree es)

abbrev pub added : State → Form → Result Row Refusal → Result State Refusal
added s f (Ok r) = Ok (add_tree s f r)
added s f (Err e) = Err e

abbrev pub room : State → List ℕ → Bool
room s body = nat_lt (length s.trees) 64 && nat_le (length s.nodes + length body / 4) 256

abbrev pub judge_tree : State → Form → List ℕ → Result State Refusal
judge_tree s f body =
    cond (whole_nodes body)
    (cond (room s body) (added s f (judge_shape f (entries s.labels s.words 0 body))) (refuse broken.Room))
    (refuse broken.Body)

abbrev pub adjoinable : Kind → Bool
adjoinable (Inner l) = true
adjoinable (Word w) = false
adjoinable Empty = false
adjoinable (Foot l) = true

abbrev pub open_target : Node → Bool
open_target v = adjoinable v.kind && not (is_some v.constraint)

-- where node n of tree t stands in the table, if there is such a node and it may be given a constraint
abbrev pub target : List Tree → List Node → ℕ → ℕ → Option ℕ
target ts ns t n =
    cond (nat_lt t (length ts) && (nat_lt n (get_or ts t no_tree).size && open_target (slice_index_or ns (slot ts t n) no_node))) (Some (slot ts t n)) None

abbrev pub is_auxiliary : Form → Bool
is_auxiliary Initial = false
is_auxiliary Auxiliary = true

-- tree b may be listed at a node with the label
abbrev pub suits : List Tree → ℕ → ℕ → Bool
suits ts l b = nat_lt b (length ts) && (is_auxiliary (get_or ts b no_tree).form && (get_or ts b no_tree).label == l)

-- rising tree numbers, all from `least` on, each of an auxiliary tree with the label
abbrev pub listable : List Tree → ℕ → ℕ → List ℕ → Bool
listable ts l least [] = true
listable ts l least (b ∷ bs) = nat_le least b && (suits ts l b && listable ts l (suc b) bs)

-- a byte that is 1 for optional and 0 for obligatory, with a tree to adjoin
abbrev pub needs_met : ℕ → List ℕ → Bool
needs_met p [] = p == 1
needs_met p (b ∷ bs) = nat_le p 1

abbrev pub obligation_of : ℕ → Obligation
obligation_of p = cond (p == 1) Optional Obligatory

abbrev pub constraint_of : ℕ → List ℕ → Constraint
constraint_of p bs = record { obligation = obligation_of p; listed = mark bs no_list }

-- The nodes of a table after the constraint of one of them is set, or the rule that is broken; every other node is as it was.
abbrev pub set_constraint : List Tree → List Node → ℕ → List ℕ → Option ℕ → Result (List Node) Rule
set_constraint ts ns p bs None = Err broken.Target
set_constraint ts ns p bs (Some i) =
    cond (needs_met p bs && listable ts (label_of_kind (get_or ns i no_node).kind) 0 bs) (Ok (slice_set ns i (constrained (slice_index_or ns i no_node) (constraint_of p bs)))) (Err broken.List)

abbrev pub adjoin : List Tree → List Node → ℕ → ℕ → ℕ → List ℕ → Result (List Node) Rule
adjoin ts ns t n p bs = set_constraint ts ns p bs (target ts ns t n)

-- a draft with other nodes, past the first adjoining field
abbrev pub with_nodes : State → List Node → State
with_nodes s ns = record { phase = Adjoinings; labels = s.labels; words = s.words; trees = s.trees; nodes = ns }

abbrev pub adjoined : State → Result (List Node) Rule → Result State Refusal
adjoined s (Ok ns) = Ok (with_nodes s ns)
adjoined s (Err r) = refuse r

abbrev pub judge_adjoining : State → List ℕ → Result State Refusal
judge_adjoining s [] = refuse broken.Body
judge_adjoining s (t ∷ []) = refuse broken.Body
judge_adjoining s (t ∷ (n ∷ [])) = refuse broken.Body
judge_adjoining s (t ∷ (n ∷ (p ∷ bs))) = adjoined s (adjoin s.trees s.nodes t n p bs)

-- the header comes first and once, no tree after an adjoining field
abbrev pub judge_body : Phase → State → Tag → List ℕ → Result State Refusal
judge_body Start s tags.Header body = judge_header s body
judge_body Trees s tags.Header body = refuse broken.Order
judge_body Adjoinings s tags.Header body = refuse broken.Order
judge_body Start s (tags.Tree f) body = refuse broken.Order
judge_body Trees s (tags.Tree f) body = judge_tree s f body
judge_body Adjoinings s (tags.Tree f) body = refuse broken.Order
judge_body Start s tags.Adjoining body = refuse broken.Order
judge_body Trees s tags.Adjoining body = judge_adjoining s body
judge_body Adjoinings s tags.Adjoining body = judge_adjoining s body

abbrev pub judge_tagged : State → Option Tag → List ℕ → Result State Refusal
judge_tagged s None body = refuse broken.Tag
judge_tagged s (Some t) body = judge_body s.phase s t body

abbrev pub judge_field : State → ℕ → List ℕ → Result State Refusal
judge_field s t body = judge_tagged s (tag_of t) body

abbrev pub some_initial : List Tree → Bool
some_initial [] = false
some_initial (t ∷ ts) = not (is_auxiliary t.form) || some_initial ts

abbrev pub fault : Rule → ℕ → ℕ → Fault
fault r p n = record { rule = r; place = p; node = n }

-- at the end: there was a header, and there is an initial tree
abbrev pub judge_end : Phase → State → ℕ → Result Contents Fault
judge_end Start s place = Err (fault broken.Order place 0)
judge_end Trees s place = cond (some_initial s.trees) (Ok (contents s)) (Err (fault broken.NoInitial place 0))
judge_end Adjoinings s place = cond (some_initial s.trees) (Ok (contents s)) (Err (fault broken.NoInitial place 0))

abbrev pub at_place : ℕ → Result State Refusal → Result State Fault
at_place place (Ok s) = Ok s
at_place place (Err f) = Err (fault f.rule place f.node)

-- The fields of the bytes from `place` on; the first `skip` bytes belong to the field before. What was refused stays refused.
abbrev pub judge_from : ℕ → ℕ → Result State Fault → List ℕ → Result Contents Fault
judge_from skip place (Err f) bytes = Err f
judge_from zero place (Ok s) [] = judge_end s.phase s place
judge_from (suc k) place (Ok s) [] = judge_end s.phase s place
judge_from (suc k) place (Ok s) (b ∷ bytes) = judge_from k (suc place) (Ok s) bytes
judge_from zero place (Ok s) (t ∷ []) = Err (fault broken.Cut place 0)
judge_from zero place (Ok s) (t ∷ (high ∷ [])) = Err (fault broken.Cut place 0)
judge_from zero place (Ok s) (t ∷ (high ∷ (low ∷ more))) =
    cond (nat_le (pair high low) (length more))
    (judge_from (pair high low) (3 + place) (at_place place (judge_field s t (take (pair high low) more))) more)
    (Err (fault broken.Cut place 0))

abbrev pub judge : List ℕ → Result Contents Fault
judge bytes = cond (nat_le (length bytes) 16384) (judge_from 0 0 (Ok nothing_read) bytes) (Err (fault broken.Size 16384 0))
