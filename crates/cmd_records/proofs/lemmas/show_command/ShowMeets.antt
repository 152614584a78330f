-- What the printing of a record gives of the outcome.
use Rattle.std.proofs.Common.{ℕ, List, ap}
use Rattle.std.specs.Prelude.{Result, Ok, Err}
use Rattle.det_io.specs.declared.failure.Failure.TheVariants.{Read, Write, OutOfMemory}
use Rattle.det_io.specs.declared.failure.Stopped.{Stopped}
use Rattle.det_io.specs.declared.failure.Stopped.TheVariants.{Refused, Failed}
use Rattle.det_io.specs.Traffic.{ShelfRun, SinkRun}
use Rattle.det_io.proofs.Growth.{short-part}
use Rattle.record_grammar.specs.declared.record_fault.RecordFault.{RecordFault}
use Rattle.record_reader.specs.ItemTaker.{OfSlot}
use Rattle.record_reader.proofs.ItemTaker.{of-slot}
use Rattle.probes.specs.Reports.{AudienceState}
use Rattle.cli_answers.specs.declared.answer.Answer.TheVariants.{BadRecord}
use Rattle.cli_answers.specs.Answers.{by_fault}
use Rattle.cmd_records.specs.declared.record_show.show_form.ShowForm.{ShowForm}
use Rattle.cmd_records.specs.declared.record_show.shown.Shown.{Shown}
use Rattle.cmd_records.specs.command_ends.Results.{Gives}
use Rattle.cmd_records.specs.record_show.ShowEnds.{Answers}
use Rattle.cmd_records.specs.show_command.Show.{show_outcome}

module _ (form : ShowForm) (audience : AudienceState) (out : SinkRun) where
  text-gives : (bytes : List ℕ) (result : Result Shown (Stopped RecordFault)) → Answers result form audience bytes out
      → Gives (BadRecord 0) result (show_outcome form audience bytes) out
  text-gives bytes (Ok shown) h = (ap by_fault h.whole, h.grew)
  text-gives bytes (Err (Refused f)) h = (ap by_fault h.0, h.1)
  text-gives bytes (Err (Failed Read)) h = h
  text-gives bytes (Err (Failed Write)) h = short-part out.before out.after _ h
  text-gives bytes (Err (Failed OutOfMemory)) h = h

  pub show-gives : (result : Result Shown (Stopped RecordFault)) {read : List ℕ} {shelf : ShelfRun} {slot : ℕ}
      → OfSlot shelf slot read (λ bytes. Answers result form audience bytes out)
      → OfSlot shelf slot read (λ bytes. Gives (BadRecord 0) result (show_outcome form audience bytes) out)
  show-gives result h =
      of-slot (λ bytes. Answers result form audience bytes out)
      (λ bytes. Gives (BadRecord 0) result (show_outcome form audience bytes) out) (λ bytes a. text-gives bytes result a) h
