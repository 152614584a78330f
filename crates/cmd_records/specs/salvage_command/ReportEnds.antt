-- What is true when salvaging ends: of the outcome, and of what an audience has seen.
use Rattle.std.specs.Prelude.{◌≡◌, ℕ, List, [], Result, Err, OnOk}
use Rattle.det_io.specs.declared.failure.Failure.TheVariants.{Read}
use Rattle.det_io.specs.declared.failure.Stopped.{Stopped}
use Rattle.det_io.specs.declared.failure.Stopped.TheVariants.{Failed}
use Rattle.det_io.specs.Prefix.{IsPrefix}
use Rattle.det_io.specs.Sink.{Grew}
use Rattle.det_io.specs.Traffic.{ShelfRun, SinkRun}
use Rattle.record_grammar.specs.declared.record_fault.RecordFault.{RecordFault}
use Rattle.record_grammar.specs.declared.item.Item.{Item}
use Rattle.record_grammar.specs.Record.{items as items_in}
use Rattle.record_reader.specs.ItemTaker.{OfSlot}
use Rattle.record_reader.specs.InItems.{runs_in}
use Rattle.probes.specs.Reports.{AudienceState}
use Rattle.probes.specs.Shows.{SawRuns}
use Rattle.cli_answers.specs.declared.answer.Answer.TheVariants.{BadRecord}
use Rattle.cmd_records.specs.command_ends.Results.{Gives, UnlessNoMemory}
use Rattle.cmd_records.specs.salvage_command.Salvage.{salvage_reports_outcome}

-- the audience has seen the runs of the first items of a record
pub record SawFirst (old now : AudienceState) (record_bytes : List ℕ) : Type 0 where
  pub seen : List Item
  pub first : IsPrefix seen (items_in record_bytes)
  pub saw : SawRuns old now (runs_in seen)

-- The result after these bytes were read. If it is Ok, no probe is left. If a read failed, nothing
-- was written.
pub record Ended (result : Result (Unit {0}) (Stopped RecordFault)) (old now : AudienceState)
    (read : List ℕ) (shelf : ShelfRun) (slot : ℕ) (out : SinkRun) : Type 0 where
  pub gives : OfSlot shelf slot read
      (λ bytes. Gives (BadRecord 0) result (salvage_reports_outcome old bytes) out)
  -- after "out of memory" some probes may have seen one run more, or have left
  pub sees : OfSlot shelf slot read (λ bytes. UnlessNoMemory result (SawFirst old now bytes))
  pub gone : OnOk result (now.seeing ≡ [])
  pub broken : result ≡ Err (Failed Read) → Grew out.before out.after []
