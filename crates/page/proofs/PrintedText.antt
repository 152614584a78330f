-- What a sink in memory has after a record was printed into it.
use Rattle.std.proofs.Common.{◌≡◌, ℕ, List, [], Option, Some, Result, Ok, Err, sym, subst}
use Rattle.std.specs.Prelude.{IfSome}
use Rattle.det_io.specs.declared.failure.Failure.TheVariants.{Read, Write, OutOfMemory}
use Rattle.det_io.specs.declared.failure.Stopped.{Stopped}
use Rattle.det_io.specs.declared.failure.Stopped.TheVariants.{Refused, Failed}
use Rattle.det_io.specs.declared.mem_sink.MemSink.{MemSink}
use Rattle.det_io.specs.MemSink.{sink_bytes, SinkTook, sink_faults}
use Rattle.det_io.specs.Prefix.{IsProperPrefix}
use Rattle.det_io.specs.Traffic.{ShelfRun, SinkRun, sink_run}
use Rattle.probes.specs.Reports.{AudienceState}
use Rattle.record_grammar.specs.declared.record_fault.RecordFault.{RecordFault}
use Rattle.record_reader.specs.ItemTaker.{OfSlot}
use Rattle.record_reader.proofs.ItemTaker.{told}
use Rattle.cmd_records.specs.declared.record_show.show_form.ShowForm.{ShowForm}
use Rattle.cmd_records.specs.declared.record_show.shown.Shown.{Shown}
use Rattle.cmd_records.specs.record_show.ShowEnds.{Answers}
use Rattle.cmd_records.specs.record_show.Text.{text_of}
use Rattle.page.specs.Answers.{nobody, IsPrinted}

module _ (form : ShowForm) (old new : MemSink) (empty : sink_bytes old ≡ []) where
  abbrev printed : SinkRun
  printed = sink_run SinkTook sink_faults old new

  answer-printed : (bytes : List ℕ) (result : Result Shown (Stopped RecordFault)) → Answers result form nobody bytes printed
      → IsPrinted result form bytes (sink_bytes new)
  answer-printed bytes (Ok shown) h = (h.whole, sym (h.grew.each [] (sym empty)))
  answer-printed bytes (Err (Refused fault)) h = (h.0, sym (h.1.each [] (sym empty)))
  answer-printed bytes (Err (Failed Read)) h = tt
  answer-printed bytes (Err (Failed Write)) h =
      subst (λ (out : List ℕ). IsProperPrefix out (text_of form nobody bytes)) (h.2.each [] (sym empty)) h.1
  answer-printed bytes (Err (Failed OutOfMemory)) h = tt

  -- the slot had these bytes left before, and no probe looked
  pub is-printed : (bytes : List ℕ) (result : Result Shown (Stopped RecordFault)) (shelf : ShelfRun) (slot : ℕ) (read : List ℕ)
      (audience : AudienceState) → shelf.first.left slot ≡ Some bytes → audience ≡ nobody
      → OfSlot shelf slot read (λ all. Answers result form audience all printed) → IsPrinted result form bytes (sink_bytes new)
  is-printed bytes result shelf slot read audience known none of =
      answer-printed bytes result
      (subst (λ (probes : AudienceState). Answers result form probes bytes printed) none
      (subst (λ (left : Option (List ℕ)). IfSome left (λ all. Answers result form audience all printed)) known
      (told (λ all. Answers result form audience all printed) of)))
