-- How a run over a whole text in memory ends, and what is known of it.
use Rattle.std.proofs.Common.{◌≡◌, ℕ, List, [], length, refl, ap}
use Rattle.std.specs.Prelude.{Option, Some, Result, Ok, Err, IfSome, IfOk, IfErr, OnOk}
use Rattle.sha2.specs.Sha256.{sha256}
use Rattle.det_io.specs.Count.{Rose}
use Rattle.det_values.specs.Values.{ProfileValue}
use Rattle.det_values.specs.declared.job_kind.JobKind.{JobKind}
use Rattle.job.specs.Meaning.{Meaning}
use Rattle.stimulus.specs.Reading.{Terminated, ending}
use Rattle.det_io.specs.Traffic.{ShelfRun, SinkRun, failure_in}
use Rattle.det_io.specs.declared.failure.Failure.TheVariants.{Read, Write, OutOfMemory}
use Rattle.det_io.specs.declared.failure.Stopped.{Stopped}
use Rattle.det_io.specs.declared.failure.Stopped.TheVariants.{Refused, Failed}
use Rattle.stimulus.specs.declared.stimulus_item.StimulusFault.{StimulusFault}
use Rattle.recorder.specs.declared.run_writer.counts.Counts.{Counts}
use Rattle.probes.specs.Reports.{AudienceState, reported}
use Rattle.recorder.specs.Record.{record_of}
use Rattle.recorder.specs.RunEnds.{Finishes, Stops}
use Rattle.record_text.specs.declared.summary_lines.Summary.{Summary}
use Rattle.jobs.specs.Kinds.{by_kind, of_kind}
use Rattle.jobs.proofs.ByKinds.{by_kind-then, of_kind-gives}
use Rattle.cmd_run.specs.StimulusVisit.{HasRecorded}
use Rattle.cmd_run.specs.sim_command.Sim.{runs_over, summary_over}

told-at : (left : Option (List ℕ)) (text : List ℕ) (P : List ℕ → Type 0) → left ≡ Some text → IfSome left P → P text
told-at left text P is p = rw is at p

at-ok : (run : Result Counts (Stopped StimulusFault)) (counts : Counts) (P : Counts → Type 0) → run ≡ Ok counts → IfOk run P → P counts
at-ok run counts P is p = rw is at p

done : (run : Result Counts (Stopped StimulusFault)) (counts : Counts) {P : Type 0} → run ≡ Ok counts → OnOk run P → P
done (Ok other) counts is p = p
done (Err end) counts is p = absurd (cc)

module _ {S G E L P : Type 0} (m : Meaning S G E L P) (profile : ProfileValue) (text : List ℕ) (left : Option (List ℕ))
    (run : Result Counts (Stopped StimulusFault)) where
  -- what the probes report is that of the run's cycles
  all-reported : (counts : Counts) (old last : AudienceState) → left ≡ Some text → run ≡ Ok counts
      → IfSome left (λ t. OnOk run (reported last [] ≡ reported old (runs_over m profile t)))
      → reported last [] ≡ reported old (runs_over m profile text)
  all-reported counts old last told is shown =
      done run counts is (told-at left text (λ t. OnOk run (reported last [] ≡ reported old (runs_over m profile t))) told shown)

module _ {S G E L P : Type 0} (m : Meaning S G E L P) (profile : ProfileValue) (text : List ℕ) (left : Option (List ℕ))
    (before after : List ℕ → Type 0) (run : Result Counts (Stopped StimulusFault)) where
  -- no line is bad, and neither shelf nor sink counts a fault
  record CannotStop : Type 0 where
    whole : ending (length profile.events) text ≡ Terminated
    stops : (fault : StimulusFault) → run ≡ Err (Refused fault) → Stops m profile text fault.line before after
    read : failure_in run ≡ Some Read → ⊥
    write : failure_in run ≡ Some Write → ⊥

  ends : (why : Stopped StimulusFault) → run ≡ Err why → CannotStop → why ≡ Failed OutOfMemory
  ends (Refused fault) is h = absurd (let bad = (h.stops fault is).bad in let whole = h.whole in cc)
  ends (Failed Read) is h = absurd (h.read (ap failure_in is))
  ends (Failed Write) is h = absurd (h.write (ap failure_in is))
  ends (Failed OutOfMemory) is h = refl

  -- a run over a whole text, from a shelf and into a sink that count no fault, ends early only if memory runs out
  only-memory : left ≡ Some text → ending (length profile.events) text ≡ Terminated
      → IfSome left (λ t. (fault : StimulusFault) → run ≡ Err (Refused fault) → Stops m profile t fault.line before after)
      → (failure_in run ≡ Some Read → ⊥) → (failure_in run ≡ Some Write → ⊥) → IfErr run (λ why. why ≡ Failed OutOfMemory)
  only-memory told whole stops read write = at_err run refl where
    at_err : (r : Result Counts (Stopped StimulusFault)) → run ≡ r → IfErr r (λ why. why ≡ Failed OutOfMemory)
    at_err (Ok counts) is = tt
    at_err (Err why) is = ends why is (record {
      whole = whole;
      stops = told-at left text (λ t. (fault : StimulusFault) → run ≡ Err (Refused fault) → Stops m profile t fault.line before after) told
          stops;
      read = read;
      write = write;
    })

  finishes : (counts : Counts) → left ≡ Some text → run ≡ Ok counts
      → IfSome left (λ t. IfOk run (λ counts. Finishes m profile t counts before after)) → Finishes m profile text counts before after
  finishes counts told is ok = at-ok run counts (λ counts. Finishes m profile text counts before after) is
      (told-at left text (λ t. IfOk run (λ counts. Finishes m profile t counts before after)) told ok)

  -- its counts and the digest of what the sink took are the summary
  summed : (number : ℕ) (counts : Counts) (digest : List ℕ) → left ≡ Some text → run ≡ Ok counts
      → IfSome left (λ t. IfOk run (λ counts. Finishes m profile t counts before after))
      → before [] → ((bytes : List ℕ) → after bytes → digest ≡ sha256 bytes)
      → record { number = number; cycles = counts.cycles; refused = counts.refused; bytes = counts.bytes; digest = digest } ≡ summary_over m
      profile text number
  summed number counts digest told is ok none digests =
      let f = finishes counts told is ok in
      let same = digests (record_of m profile text) (f.grew.each [] none) in
      λ i. record {
        number = number;
        cycles = f.counted.cycles i;
        refused = f.counted.refused i;
        bytes = f.counted.bytes i;
        digest = same i;
      }

-- ---- the same of a job by its kind

module _ (kind : JobKind) (profile : ProfileValue) (text : List ℕ) (shelf : ShelfRun) (sink : SinkRun) (old last : AudienceState)
    (run : Result Counts (Stopped StimulusFault))
    (recorded : of_kind (λ S G E L P m. HasRecorded m profile 0 shelf sink old last run) kind)
    (told : shelf.first.left 0 ≡ Some text) where
  pub only-memory-by : ending (length profile.events) text ≡ Terminated
      → (Rose shelf.first.faults shelf.last.faults → ⊥) → (Rose sink.faults_before sink.faults_after → ⊥)
      → IfErr run (λ why. why ≡ Failed OutOfMemory)
  only-memory-by whole calm_shelf calm_sink =
      of_kind-gives (λ S G E L P m. HasRecorded m profile 0 shelf sink old last run) (IfErr run (λ why. why ≡ Failed OutOfMemory))
      (λ S G E L P m r. only-memory m profile text (shelf.first.left 0) sink.before sink.after run told whole r.recorded.stimulus
      (λ e. calm_shelf (r.shelf_traffic.cause e)) (λ e. calm_sink (r.sink_traffic.cause e)))
      kind recorded

  pub summed-by : (number : ℕ) (counts : Counts) (digest : List ℕ) → run ≡ Ok counts
      → sink.before [] → ((bytes : List ℕ) → sink.after bytes → digest ≡ sha256 bytes)
      → record { number = number; cycles = counts.cycles; refused = counts.refused; bytes = counts.bytes; digest = digest }
      ≡ by_kind (λ S G E L P m. summary_over m profile text number) kind
  summed-by number counts digest is none digests =
      let told_of : Summary =
      record { number = number; cycles = counts.cycles; refused = counts.refused; bytes = counts.bytes; digest = digest } in
      by_kind-then (λ S G E L P m. summary_over m profile text number)
      (λ S G E L P m. HasRecorded m profile 0 shelf sink old last run) (λ summary. told_of ≡ summary)
      (λ S G E L P m r. summed m profile text (shelf.first.left 0) sink.before sink.after run number counts digest told is
      r.recorded.ok none digests)
      kind recorded

  pub all-reported-by : (counts : Counts) → run ≡ Ok counts
      → reported last [] ≡ reported old (by_kind (λ S G E L P m. runs_over m profile text) kind)
  all-reported-by counts is =
      by_kind-then (λ S G E L P m. runs_over m profile text)
      (λ S G E L P m. HasRecorded m profile 0 shelf sink old last run) (λ runs. reported last [] ≡ reported old runs)
      (λ S G E L P m r. all-reported m profile text (shelf.first.left 0) run counts old last told is r.recorded.reports) kind recorded
