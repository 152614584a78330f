-- How a command meets its outcome over the records under names.
use Rattle.std.specs.Prelude.{ℕ, List, [], ◌∷◌, map}
use Rattle.det_io.specs.Count.{Rose}
use Rattle.det_io.specs.Shelf.{ShelfState}
use Rattle.det_io.specs.Traffic.{SinkRun}
use Rattle.cli_answers.specs.declared.answer.Answer.{Answer}
use Rattle.cli_answers.specs.Outcome.{Outcome, Meets, KnowsBytes, known_bytes}

-- the outcome of one record, by its bytes
abbrev pub MeetsRecord : (List ℕ → Outcome) → (first last : ShelfState) → (name : List ℕ) → SinkRun
    → Answer → Type 0
MeetsRecord outcome first last name out answer =
    Meets (outcome (known_bytes first name)) (KnowsBytes first (name ∷ []))
    (Rose first.faults last.faults) out answer

-- the outcome of copies of a record, by the bytes of each
abbrev pub MeetsCopies : (List (List ℕ) → Outcome) → (first last : ShelfState)
    → (names : List (List ℕ)) → SinkRun → Answer → Type 0
MeetsCopies outcome first last names out answer =
    Meets (outcome (map (known_bytes first) names)) (KnowsBytes first names)
    (Rose first.faults last.faults) out answer
