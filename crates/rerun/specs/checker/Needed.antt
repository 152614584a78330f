-- No byte of a record is read after those that show its fault or its departure.
use Rattle.std.specs.Prelude.{◌≡◌, ℕ, List, ◌++◌, None}
use Rattle.det_values.specs.Values.{ProfileValue}
use Rattle.job.specs.Meaning.{Meaning}
use Rattle.record_grammar.specs.Record.{fault_so_far}
use Rattle.record_reader.specs.item_reader.Needed.{ReadsWhile}
use Rattle.rerun.specs.checker.Departure.{departure}

-- some bytes were read before the call; until the last of these were read, no frame departed and
-- there was no fault
abbrev pub IsNeeded : {S G E L P : Type 0} → Meaning S G E L P → ProfileValue
    → (before more : List ℕ) → Type 0
IsNeeded m profile before more = ReadsWhile
    (λ first. (departure m profile (before ++ first) ≡ None)
    × (fault_so_far (before ++ first) ≡ None)) more
