-- What the calls answer.
use Rattle.std.specs.Prelude.{◌≡◌, ◌<◌, ℕ, ◌⊎◌, List, [], length, Result, Ok, Err}
use Rattle.std.specs.Prelude.{Option, Some, None, ◌==◌, if◌then◌else◌}
use Rattle.record_grammar.specs.Record.{fault as fault_in}
use Rattle.record_grammar.specs.declared.record_fault.Reason.{Reason}
use Rattle.record_grammar.specs.declared.record_fault.Reason.TheVariants as reasons
use Rattle.record_grammar.specs.declared.record_fault.RecordFault.{RecordFault}
use Rattle.probes.specs.Reports.{AudienceState}
use Rattle.record_text.specs.declared.show_part.ShowPart.{ShowPart}
use Rattle.record_text.specs.declared.show_part.ShowPart.TheVariants.{All, Cycle}
use Rattle.cmd_records.specs.declared.record_show.show_form.Notation.TheVariants.{Lines}
use Rattle.cmd_records.specs.declared.record_show.show_form.ShowForm.{ShowForm}
use Rattle.cmd_records.specs.declared.record_show.shown.Shown.{Shown}
use Rattle.cmd_records.specs.record_show.Text.{text_of}
use Rattle.copies.specs.declared.verdict.BadCopy.{BadCopy}
use Rattle.copies.specs.declared.verdict.Verdict.{Verdict}
use Rattle.copies.specs.declared.verdict.Verdict.TheVariants.{Agree, Differ}
use Rattle.det_io.specs.declared.failure.Failure.TheVariants.{Write, OutOfMemory}
use Rattle.det_io.specs.declared.failure.Stopped.{Stopped}
use Rattle.det_io.specs.declared.failure.Stopped.TheVariants.{Refused, Failed}
use Rattle.det_io.specs.Prefix.{IsProperPrefix}
use Rattle.page.specs.declared.export.PageFault.{PageFault}

-- a result is this verdict, or memory was short
abbrev pub IsVerdict : Result Verdict (Stopped BadCopy) → Result Verdict BadCopy → Type 0
IsVerdict (Ok found) expected = expected ≡ Ok found
IsVerdict (Err (Refused bad)) expected = expected ≡ Err bad
IsVerdict (Err (Failed OutOfMemory)) expected = Unit {0}
IsVerdict (Err (Failed failure)) expected = ⊥

abbrev pub verdict_number : Verdict → ℕ
verdict_number (Agree cycles) = 0
verdict_number (Differ copy at) = 1

-- fewer than 2 copies, or more than 8
abbrev pub IsBadCount : List ℕ → Type 0
IsBadCount lengths = (length lengths < 2) ⊎ (8 < length lengths)

abbrev pub reason_number : Reason → ℕ
reason_number reasons.Magic = 0
reason_number reasons.Version = 1
reason_number reasons.Range = 2
reason_number reasons.Order = 3
reason_number reasons.TooMany = 4
reason_number reasons.Truncated = 5
reason_number reasons.Trailing = 6

-- a fault of a copy as numbers
abbrev pub fault_of : ℕ → RecordFault → PageFault
fault_of copy fault =
    record { offset = fault.offset; copy = copy; reason = reason_number fault.reason }

-- 0 for a whole record, and 2 for one with a fault, which is given out
abbrev pub IsFaultAnswer : ℕ → Option RecordFault → PageFault → PageFault → Type 0
IsFaultAnswer answer None old new = (answer ≡ 0) × (new ≡ old)
IsFaultAnswer answer (Some fault) old new = (answer ≡ 2) × (new ≡ fault_of 0 fault)

-- ---- texts

-- no probe looks
abbrev pub nobody : AudienceState
nobody = record { seeing = []; left = [] }

-- 0 stands for the whole record, any other number for that cycle
abbrev pub part_of : ℕ → ShowPart
part_of cycle = if cycle == 0 then All else Cycle cycle

-- the text of that part in lines
abbrev pub form_of : ℕ → ShowForm
form_of cycle = record { part = part_of cycle; notation = Lines }

-- what a result says of a record, and of the text that was printed
abbrev pub IsPrinted : Result Shown (Stopped RecordFault) → ShowForm → List ℕ → List ℕ → Type 0
IsPrinted (Ok shown) form bytes out = (fault_in bytes ≡ None) × (out ≡ text_of form nobody bytes)
IsPrinted (Err (Refused fault)) form bytes out =
    (fault_in bytes ≡ Some fault) × (out ≡ text_of form nobody bytes)
IsPrinted (Err (Failed Write)) form bytes out = IsProperPrefix out (text_of form nobody bytes)
IsPrinted (Err (Failed failure)) form bytes out = Unit {0}
