-- What follows for the text where the shelf knows it.
use Rattle.std.proofs.Common.{◌≡◌, ℕ, List, [], ◌++◌, sym, ap, subst, ◌∙◌, append-nil, length}
use Rattle.std.specs.Prelude.{Option, Some, None, Result, Ok, Err, IfSome, IfOk, OnOk}
use Rattle.std.specs.Option.{option_map}
use Rattle.det_values.specs.Values.{ProfileValue}
use Rattle.det_io.specs.Sink.{GrewByPrefix}
use Rattle.det_io.specs.Shelf.{ShelfState, Reads, IsAtEnd}
use Rattle.det_io.specs.Traffic.{ShelfRun, SinkRun}
use Rattle.det_io.specs.declared.failure.Failure.TheVariants.{Read, Write, OutOfMemory}
use Rattle.det_io.specs.declared.failure.Stopped.{Stopped}
use Rattle.det_io.specs.declared.failure.Stopped.TheVariants.{Refused, Failed}
use Rattle.det_io.proofs.Growth.{part-whole, short-part}
use Rattle.job.specs.Meaning.{Meaning}
use Rattle.cycle_engine.specs.Frames.{runs}
use Rattle.stimulus.specs.declared.stimulus_item.StimulusFault.{StimulusFault}
use Rattle.stimulus.specs.Reading.{blocks}
use Rattle.probes.specs.Reports.{AudienceState, reported}
use Rattle.probes.specs.Shows.{Shows}
use Rattle.probes.proofs.Shown.{all-reports}
use Rattle.recorder.specs.declared.run_writer.counts.Counts.{Counts}
use Rattle.recorder.specs.Record.{record_of}
use Rattle.recorder.specs.RunEnds.{Finishes, Stops, Answers, Ended}
use Rattle.recorder.specs.RecordRun.{HasRun, IsRecorded, UnlessCut}

-- a fact about the text, where a shelf knows it, from what was read and what is left
told-left : (read : List ℕ) (P : List ℕ → Type 0) (left : Option (List ℕ))
    → ((rest : List ℕ) → (IfSome left (λ r. r ≡ []) → rest ≡ []) → P (read ++ rest))
    → IfSome (option_map (λ rest. read ++ rest) left) P
told-left read P (Some rest) each = each rest (λ end. end)
told-left read P None each = tt

pub told : (before after : ShelfState) (slot : ℕ) (read : List ℕ) (P : List ℕ → Type 0) → Reads before after slot read
    → ((rest : List ℕ) → (IsAtEnd after slot → rest ≡ []) → P (read ++ rest)) → IfSome (before.left slot) P
told before after slot read P reads each = subst (λ left. IfSome left P) (sym reads.left) (told-left read P (after.left slot) each)

module _ {S G E L P : Type 0} (m : Meaning S G E L P) (profile : ProfileValue) where
  finished : (result : Result Counts (Stopped StimulusFault)) (text : List ℕ) (before after : List ℕ → Type 0)
      → Answers m profile result text before after
      → IfOk result (λ counts. Finishes m profile text counts before after)
  finished (Ok counts) text before after answer = answer
  finished (Err end) text before after answer = tt

  stopped : (result : Result Counts (Stopped StimulusFault)) (text : List ℕ) (before after : List ℕ → Type 0) (fault : StimulusFault)
      → result ≡ Err (Refused fault)
      → Answers m profile result text before after → Stops m profile text fault.line before after
  stopped result text before after fault is answer =
      let answers : Answers m profile (Err (Refused fault)) text before after = subst (λ r. Answers m profile r text before after) is answer
      in answers

  part : (result : Result Counts (Stopped StimulusFault)) (text : List ℕ) (before after : List ℕ → Type 0)
      → Answers m profile result text before after
      → GrewByPrefix before after (record_of m profile text)
  part (Ok counts) text before after answer = part-whole before after _ answer.grew
  part (Err (Refused fault)) text before after answer = part-whole before after _ answer.grew
  part (Err (Failed Read)) text before after answer = answer
  part (Err (Failed Write)) text before after answer = short-part before after _ answer
  part (Err (Failed OutOfMemory)) text before after answer = answer

  reports : (result : Result Counts (Stopped StimulusFault)) (read rest : List ℕ) (at_end : Type 0) (before after : List ℕ → Type 0)
      (audience last : AudienceState)
      → Ended m profile result read at_end before after → (at_end → rest ≡ [])
      → UnlessCut result (Shows audience last (runs m profile (blocks (length profile.events) read)))
      → OnOk result (reported last [] ≡ reported audience (runs m profile (blocks (length profile.events) (read ++ rest))))
  reports (Ok counts) read rest at_end before after audience last ended none shows =
      let all : read ≡ read ++ rest = sym (ap (λ l. read ++ l) (none ended.reads_to) ∙ append-nil read) in
      all-reports shows ∙ ap (λ text. reported audience (runs m profile (blocks (length profile.events) text))) all
  reports (Err end) read rest at_end before after audience last ended none shows = tt

  pub recorded : (slot : ℕ) (shelf : ShelfRun) (sink : SinkRun) (audience last : AudienceState) (result : Result Counts (Stopped StimulusFault))
      → HasRun m profile slot shelf sink audience last result → IsRecorded m profile slot shelf sink audience last result
  recorded slot shelf sink audience last result (read, reads, ended, shown) = record {
    ok = told shelf.first shelf.last slot read _ reads
        (λ rest none. finished result (read ++ rest) sink.before sink.after (ended.answers rest none));
    stimulus = told shelf.first shelf.last slot read _ reads
        (λ rest none fault is. stopped result (read ++ rest) sink.before sink.after fault is (ended.answers rest none));
    part = told shelf.first shelf.last slot read _ reads
        (λ rest none. part result (read ++ rest) sink.before sink.after (ended.answers rest none));
    reports = told shelf.first shelf.last slot read _ reads
        (λ rest none. reports result read rest (IsAtEnd shelf.last slot) sink.before sink.after audience last ended none shown.whole);
    run = (read, reads, ended, shown);
  }
