-- What a lattice and a window over it are to answer.
use Rattle.std.specs.Prelude.{◌≡◌, ℕ, Bool, true, false, List, ◌++◌, replicate, codes, decimal, Some, None, Ok, Err, Option, Result}
use Rattle.std.specs.Option.{option_map}
use Rattle.std.specs.Fmt.{◌++?◌}
use Rattle.distinct.specs.Runs.{Listed, begun}
use Rattle.words.specs.declared.edge.Edge as edge
use Rattle.words.specs.declared.refusal.Refusal.{Refusal}
use Rattle.words.specs.Meaning.{Meaning}
use Rattle.words.specs.Edges.{edge_of, judged_lattice, empty_lattice}
use Rattle.words.specs.Lattices.{list_of, list_after, lattice_meaning, edge_answer}
use Rattle.words.specs.Windows.{judged_window, window_meaning}
use Rattle.askwords.specs.declared.command.Command.{Command}
use Rattle.askwords.specs.declared.command.Command.TheVariants as command
use Rattle.askwords.specs.declared.desk.Desk.{Desk}
use Rattle.askwords.specs.declared.desk.Span.{Span}
use Rattle.askwords.specs.declared.reply.Answer.{Answer}
use Rattle.askwords.specs.declared.reply.Answer.TheVariants.{Taken, Number, Edge, Last}
use Rattle.askwords.specs.declared.reply.Both.{Both}
use Rattle.askwords.specs.declared.reply.HasEdge.{HasEdge}

-- an answer, or why a line is refused
abbrev pub Reply : Type 0
Reply = Result Answer Refusal

-- a lattice or a window is taken unless its judge refuses it
abbrev pub judged_reply : Result Unit Refusal → Reply
judged_reply (Ok u) = Ok Taken
judged_reply (Err refusal) = Err refusal

-- an edge is answered by its number unless it is refused
abbrev pub number_reply : Result ℕ Refusal → Reply
number_reply (Ok number) = Ok (Number number)
number_reply (Err refusal) = Err refusal

-- what the window means, where one was opened
abbrev pub opened : Desk → Option Meaning
opened d = option_map (λ s. window_meaning (lattice_meaning d.lattice) s.from s.to) d.span

-- the answers of both to a question for an edge
abbrev pub edge_answers : Desk → ℕ → ℕ → ℕ → Both HasEdge
edge_answers d from word to = record {
  lattice = has_edge ((lattice_meaning d.lattice).edge from word to);
  window = option_map (λ m. has_edge (m.edge from word to)) (opened d);
}
  where
    has_edge : Bool → HasEdge
    has_edge b = record { 0 = b }

-- the answers of both to a question for the last position
abbrev pub last_answers : Desk → Both ℕ
last_answers d = record { lattice = (lattice_meaning d.lattice).last; window = option_map (λ m. m.last) (opened d) }

-- the answer to a line
abbrev pub reply_to : Desk → Command → Reply
reply_to d (command.Lattice last capacity) = judged_reply (judged_lattice last)
reply_to d (command.Edge from word to) = number_reply (edge_answer d.lattice from word to)
reply_to d (command.Window from to) = judged_reply (judged_window (lattice_meaning d.lattice).last from to)
reply_to d (command.Ask from word to) = Ok (Edge (edge_answers d from word to))
reply_to d command.Last = Ok (Last (last_answers d))

-- the window after a line: a new lattice has none
abbrev pub span_after : Desk → Command → Option Span
span_after d (command.Lattice last capacity) = None
span_after d (command.Edge from word to) = d.span
span_after d (command.Window from to) = Some (record { from = from; to = to })
span_after d (command.Ask from word to) = d.span
span_after d command.Last = d.span

-- the edges after a line
abbrev pub edges_after : Desk → Command → Listed edge.Edge
edges_after d (command.Lattice last capacity) = begun (replicate capacity (edge_of 0 0 0))
edges_after d (command.Edge from word to) = list_after d.lattice from word to
edges_after d (command.Window from to) = list_of d.lattice
edges_after d (command.Ask from word to) = list_of d.lattice
edges_after d command.Last = list_of d.lattice

-- the last position after a line
abbrev pub last_after : Desk → Command → ℕ
last_after d (command.Lattice last capacity) = (empty_lattice last).last
last_after d (command.Edge from word to) = d.lattice.last
last_after d (command.Window from to) = d.lattice.last
last_after d (command.Ask from word to) = d.lattice.last
last_after d command.Last = d.lattice.last

-- a line is answered, and leaves the desk as it should be
pub record Answered (before : Desk) (c : Command) (r : Reply) (after : Desk) : Type 0 where
  pub reply : r ≡ reply_to before c
  pub span : after.span ≡ span_after before c
  pub edges : list_of after.lattice ≡ edges_after before c
  pub last : after.lattice.last ≡ last_after before c

-- yes or no
abbrev pub has_edge_text : HasEdge → List ℕ
has_edge_text h = yes_or_no h.0
  where
    yes_or_no : Bool → List ℕ
    yes_or_no true = codes "yes"
    yes_or_no false = codes "no"

module _ {T : Type 0} where
  -- the window's answer behind the lattice's, if there is a window, where the first argument is the text of `T`
  abbrev pub window_text : (T → Option (List ℕ)) → Option T → Option (List ℕ)
  window_text output (Some window) = Some (codes ", window ") ++? output window
  window_text output None = Some (codes "")

  -- the lattice's answer, and the window's
  abbrev pub both_text : (T → Option (List ℕ)) → Both T → Option (List ℕ)
  both_text output both = Some (codes "lattice ") ++? output both.lattice ++? window_text output both.window

-- the text of an answer
abbrev pub answer_text : Answer → Option (List ℕ)
answer_text Taken = Some (codes "taken")
answer_text (Number number) = Some (codes "number " ++ decimal number)
answer_text (Edge both) = both_text (λ h. Some (has_edge_text h)) both
answer_text (Last both) = both_text (λ n. Some (decimal n)) both
