-- What is true when the printing of a record ends.
use Rattle.std.specs.Prelude.{◌≡◌, ◌⊎◌, ℕ, List, [], ◌++◌, length, Some, None, Result, Ok, Err}
use Rattle.std.specs.Prelude.{OnOk}
use Rattle.det_values.specs.declared.frames.RunFrame.{RunFrame}
use Rattle.det_io.specs.declared.failure.Failure.TheVariants.{Read, Write, OutOfMemory}
use Rattle.det_io.specs.declared.failure.Stopped.{Stopped}
use Rattle.det_io.specs.declared.failure.Stopped.TheVariants.{Refused, Failed}
use Rattle.det_io.specs.Prefix.{IsPrefix}
use Rattle.det_io.specs.Shelf.{IsAtEnd}
use Rattle.det_io.specs.Sink.{Grew, GrewByPrefix, GrewShort}
use Rattle.det_io.specs.Traffic.{ShelfRun, SinkRun}
use Rattle.record_grammar.specs.declared.record_fault.RecordFault.{RecordFault}
use Rattle.record_grammar.specs.declared.item.Item.{Item}
use Rattle.record_grammar.specs.Record.{items as items_in, fault as fault_in, fault_so_far}
use Rattle.record_text.specs.declared.show_part.ShowPart.{ShowPart}
use Rattle.record_text.specs.declared.show_part.ShowPart.TheVariants.{All, Reports, Cycle}
use Rattle.record_reader.specs.item_reader.Needed.{ReadsWhile}
use Rattle.record_reader.specs.ItemTaker.{OfSlot}
use Rattle.probes.specs.Reports.{AudienceState, reported}
use Rattle.probes.specs.Shows.{SawRuns}
use Rattle.cmd_records.specs.declared.record_show.show_form.ShowForm.{ShowForm}
use Rattle.cmd_records.specs.declared.record_show.shown.Shown.{Shown}
use Rattle.cmd_records.specs.record_show.PrintedItems.{Kept}
use Rattle.cmd_records.specs.record_show.Text.{lines_of, reports_of, text_of}
use Rattle.record_reader.specs.InItems.{runs_in}
use Rattle.cmd_records.specs.command_ends.Results.{UnlessNoMemory}

-- ---- the text

-- the record is whole, and all of its text was taken
pub record IsShown (shown : Shown) (form : ShowForm) (audience : AudienceState)
    (record_bytes : List ℕ) (out : SinkRun) : Type 0 where
  pub whole : fault_in record_bytes ≡ None
  pub grew : Grew out.before out.after (text_of form audience record_bytes)
  pub cycles : shown.cycles ≡ length (runs_in (items_in record_bytes))

-- what a result says of a record, and of what the sink took
abbrev pub Answers : Result Shown (Stopped RecordFault) → ShowForm → AudienceState → List ℕ
    → SinkRun → Type 0
Answers (Ok shown) form audience record_bytes out = IsShown shown form audience record_bytes out
Answers (Err (Refused fault)) form audience record_bytes out = (fault_in record_bytes ≡ Some fault)
    × Grew out.before out.after (text_of form audience record_bytes)
Answers (Err (Failed Read)) form audience record_bytes out =
    GrewByPrefix out.before out.after (text_of form audience record_bytes)
Answers (Err (Failed Write)) form audience record_bytes out =
    GrewShort out.before out.after (text_of form audience record_bytes)
Answers (Err (Failed OutOfMemory)) form audience record_bytes out =
    GrewByPrefix out.before out.after (text_of form audience record_bytes)

-- ---- the audience

-- the audience has seen the runs of the first items of a record, whose lines a sink took
pub record SawFirst (form : ShowForm) (old now : AudienceState) (record_bytes : List ℕ)
    (out : SinkRun) : Type 0 where
  pub seen : List Item
  pub first : IsPrefix seen (items_in record_bytes)
  pub saw : SawRuns old now (runs_in seen)
  pub taken : List ℕ
  pub lines : IsPrefix (lines_of form seen) taken
  pub grew : Grew out.before out.after taken

-- all reports are given and no probe is left, unless only one run is printed
abbrev pub Finished : ShowPart → AudienceState → AudienceState → List RunFrame → Type 0
Finished All old now runs = now ≡ record { seeing = []; left = reported old runs }
Finished Reports old now runs = now ≡ record { seeing = []; left = reported old runs }
Finished (Cycle number) old now runs = now ≡ old

-- no probe is left, unless only one run is printed
abbrev pub IsGone : ShowPart → AudienceState → Type 0
IsGone (Cycle number) now = Unit {0}
IsGone part now = now.seeing ≡ []

-- the reports, if there are any, were printed, or the audience or the sink failed
abbrev pub FinishIs : Result Shown (Stopped RecordFault) → ShowForm → ℕ → AudienceState
    → AudienceState → SinkRun → Type 0
FinishIs (Ok shown) form cycles old now out = (shown.cycles ≡ cycles)
    × Finished form.part old now [] × Grew out.before out.after (reports_of form old [])
FinishIs (Err (Failed Write)) form cycles old now out = Finished form.part old now []
    × GrewShort out.before out.after (reports_of form old [])
FinishIs (Err (Failed OutOfMemory)) form cycles old now out =
    GrewByPrefix out.before out.after (reports_of form old [])
FinishIs (Err stop) form cycles old now out = ⊥

-- ---- the whole

-- how far a record was read: to its end, or until its fault is certain whatever follows
abbrev pub ReadsTo : Result Shown (Stopped RecordFault) → List ℕ → Type 0 → Type 0
ReadsTo (Ok shown) read at_end = at_end
ReadsTo (Err (Refused fault)) read at_end =
    ((rest : List ℕ) → fault_in (read ++ rest) ≡ Some fault) ⊎ at_end
ReadsTo (Err (Failed Read)) read at_end = fault_so_far read ≡ None
ReadsTo (Err stop) read at_end = Unit {0}

-- if a read failed, the lines of all items in the bytes that were read were taken
abbrev pub WroteRead : Result Shown (Stopped RecordFault) → ShowForm → List ℕ → SinkRun → Type 0
WroteRead (Err (Failed Read)) form read out =
    Grew out.before out.after (lines_of form (items_in read))
WroteRead result form read out = Unit {0}

-- the result after these bytes were read
pub record Ended (result : Result Shown (Stopped RecordFault)) (form : ShowForm)
    (old now : AudienceState) (read : List ℕ) (shelf : ShelfRun) (slot : ℕ) (out : SinkRun)
    : Type 0 where
  pub reads_to : ReadsTo result read (IsAtEnd shelf.last slot)
  pub needed : ReadsWhile (λ first. fault_so_far first ≡ None) read
  pub wrote : WroteRead result form read out
  pub answers : OfSlot shelf slot read (λ bytes. Answers result form old bytes out)
  -- after "out of memory" some probes may have seen one run more, or have left
  pub sees : OfSlot shelf slot read
      (λ bytes. UnlessNoMemory result (SawFirst form old now bytes out))
  pub gone : OnOk result (IsGone form.part now)
  pub kept : Kept form.part old now
