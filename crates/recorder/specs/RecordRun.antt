-- What `record_run` ensures of the text that a slot had left, of the sink and of the audience.
use Rattle.std.specs.Prelude.{◌≡◌, ◌⊎◌, ℕ, List, [], length, false, Result, Ok, Err, IfSome, IfOk}
use Rattle.std.specs.Prelude.{OnOk}
use Rattle.det_values.specs.Values.{ProfileValue}
use Rattle.det_values.specs.declared.frames.CycleInput.{CycleInput}
use Rattle.det_io.specs.Prefix.{IsPrefix}
use Rattle.det_io.specs.Shelf.{Reads, IsAtEnd}
use Rattle.det_io.specs.Sink.{Grew, GrewByPrefix}
use Rattle.det_io.specs.Traffic.{ShelfRun, SinkRun}
use Rattle.det_io.specs.declared.failure.Failure.TheVariants.{Read, Write, OutOfMemory}
use Rattle.det_io.specs.declared.failure.Stopped.{Stopped}
use Rattle.det_io.specs.declared.failure.Stopped.TheVariants.{Refused, Failed}
use Rattle.job.specs.Meaning.{Meaning}
use Rattle.cycle_engine.specs.Frames.{runs}
use Rattle.stimulus.specs.declared.stimulus_item.StimulusFault.{StimulusFault}
use Rattle.stimulus.specs.Reading.{blocks}
use Rattle.probes.specs.Reports.{AudienceState, reported}
use Rattle.probes.specs.Shows.{Shows, ShowsFirst}
use Rattle.recorder.specs.declared.run_writer.counts.Counts.{Counts}
use Rattle.recorder.specs.run_writer.Record.{record_with}
use Rattle.recorder.specs.Record.{record_of}
use Rattle.recorder.specs.RunEnds.{Finishes, Stops, Ended}

-- this holds unless a write failed or memory ran out
abbrev pub UnlessCut : Result Counts (Stopped StimulusFault) → Type 0 → Type 0
UnlessCut (Ok counts) fact = fact
UnlessCut (Err (Refused fault)) fact = fact
UnlessCut (Err (Failed Read)) fact = fact
UnlessCut (Err (Failed Write)) fact = Unit {0}
UnlessCut (Err (Failed OutOfMemory)) fact = Unit {0}

module _ {S G E L P : Type 0} (m : Meaning S G E L P) (profile : ProfileValue) where
  -- there are no inputs, or the sink took at least the record of their runs without Terminate
  abbrev pub TookAll : List CycleInput → (List ℕ → Type 0) → (List ℕ → Type 0) → Type 0
  TookAll inputs before after = (inputs ≡ [])
      ⊎ ((bytes : List ℕ) × IsPrefix (record_with m profile inputs false) bytes
      × Grew before after bytes)

  -- the first runs were shown, after the sink took their frames, and all runs unless the record was
  -- cut off
  pub record IsShown (read : List ℕ) (before after : List ℕ → Type 0)
      (audience last : AudienceState)
      (result : Result Counts (Stopped StimulusFault)) : Type 0 where
    pub inputs : List CycleInput
    pub first : IsPrefix inputs (blocks (length profile.events) read)
    pub taken : TookAll inputs before after
    pub shown : ShowsFirst audience last (runs m profile inputs)
    pub whole : UnlessCut result
        (Shows audience last (runs m profile (blocks (length profile.events) read)))

  -- what was read of the text, and what the sink took and the audience was shown
  abbrev pub HasRun : ℕ → ShelfRun → SinkRun → AudienceState → AudienceState
      → Result Counts (Stopped StimulusFault) → Type 0
  HasRun slot shelf sink audience last result =
      (read : List ℕ) × Reads shelf.first shelf.last slot read
      × Ended m profile result read (IsAtEnd shelf.last slot) sink.before sink.after
      × IsShown read sink.before sink.after audience last result

  pub record IsRecorded (slot : ℕ) (shelf : ShelfRun) (sink : SinkRun)
      (audience last : AudienceState)
      (result : Result Counts (Stopped StimulusFault)) : Type 0 where
    -- where the rest of the text is known: it was recorded whole, or up to its bad line, or in part
    pub ok : IfSome (shelf.first.left slot) (λ text. IfOk result (λ counts.
        Finishes m profile text counts sink.before sink.after))
    pub stimulus : IfSome (shelf.first.left slot) (λ text. (fault : StimulusFault)
        → result ≡ Err (Refused fault)
        → Stops m profile text fault.line sink.before sink.after)
    pub part : IfSome (shelf.first.left slot) (λ text.
        GrewByPrefix sink.before sink.after (record_of m profile text))
    pub reports : IfSome (shelf.first.left slot) (λ text. OnOk result (reported last []
        ≡ reported audience (runs m profile (blocks (length profile.events) text))))
    -- what was read, also where the rest of the text is unknown
    pub run : HasRun slot shelf sink audience last result
