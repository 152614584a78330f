-- What the ends of a queue know, what each step adds to it, and the rule over all ends.
use Rattle.std.specs.Prelude.{◌≡◌, ℕ, Bool, true, false, List, [], ◌∷◌, ◌++◌, length, drop}
use mathlib.Core.Option.{some}
use lib.ListN.{get_elem?}
use Rattle.frame_queue.specs.declared.row.Row.{Row}
use Rattle.frame_queue.specs.declared.rule.QueueView.{QueueView}

abbrev pub queue_view : Bool → Bool → List Row → List Row → QueueView
queue_view sends takes sent taken = record {
  sends = sends;
  takes = takes;
  sent = sent;
  taken = taken;
}

-- an end with both rights, before any row
abbrev pub beginning : QueueView
beginning = queue_view true true [] []

-- an end with no right
abbrev pub no_rights : QueueView
no_rights = queue_view false false [] []

-- an end that keeps only the right to send
abbrev pub as_sender : QueueView → QueueView
as_sender v = queue_view true false v.sent []

-- an end that keeps only the right to take
abbrev pub as_receiver : QueueView → QueueView
as_receiver v = queue_view false true [] v.taken

-- a sender that was joined with a receiver
abbrev pub with_receiver : QueueView → QueueView → QueueView
with_receiver v w = queue_view true true v.sent w.taken

-- the end sent this row
abbrev pub Sent : QueueView → Row → QueueView → Type 0
Sent v row w = w ≡ queue_view v.sends v.takes (v.sent ++ row ∷ []) v.taken

-- the end took this row
abbrev pub Taken : QueueView → Row → QueueView → Type 0
Taken v row w = w ≡ queue_view v.sends v.takes v.sent (v.taken ++ row ∷ [])

-- the rows sent are those that the end took, followed by these
abbrev pub IsTotal : QueueView → List Row → Type 0
IsTotal v rows = v.sent ≡ v.taken ++ rows

-- the end took the first row that was left
abbrev pub Drained : QueueView → Row → QueueView → Type 0
Drained v row w = Taken v row w × (rest : List Row) × IsTotal v (row ∷ rest)

-- the rows that were sent and not taken
abbrev pub left_of : QueueView → List Row
left_of v = drop (length v.taken) v.sent

-- if this end may send, it is end `sender` and sent these rows; if it may take, it is end
-- `receiver` and took these rows
abbrev pub Fits : ℕ → ℕ → List Row → List Row → ℕ → QueueView → Type 0
Fits sender receiver sent taken number v =
    (v.sends ≡ true → (number ≡ sender) × (v.sent ≡ sent))
    × (v.takes ≡ true → (number ≡ receiver) × (v.taken ≡ taken))

-- the rows taken, followed by the rows in the queue, are the rows sent
abbrev pub IsInOrder : List Row → List QueueView → Type 0
IsInOrder held views = (sender : ℕ) × (receiver : ℕ) × (sent : List Row) × (taken : List Row)
    × (sent ≡ taken ++ held)
    × ((number : ℕ) (v : QueueView) → get_elem? views number ≡ some v
    → Fits sender receiver sent taken number v)
