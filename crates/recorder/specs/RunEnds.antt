-- How `record_run` ends: what its result says of the text and of what the sink took.
use Rattle.std.specs.Prelude.{◌≡◌, ◌⊎◌, ℕ, List, [], ◌++◌, length, true, false, Result, Ok, Err}
use Rattle.det_values.specs.Values.{ProfileValue}
use Rattle.det_io.specs.Sink.{Grew, GrewByPrefix, GrewShort}
use Rattle.det_io.specs.declared.failure.Failure.TheVariants.{Read, Write, OutOfMemory}
use Rattle.det_io.specs.declared.failure.Stopped.{Stopped}
use Rattle.det_io.specs.declared.failure.Stopped.TheVariants.{Refused, Failed}
use Rattle.job.specs.Meaning.{Meaning}
use Rattle.cycle_engine.specs.Frames.{runs}
use Rattle.stimulus.specs.declared.stimulus_item.StimulusFault.{StimulusFault}
use Rattle.stimulus.specs.Reading.{Terminated, BadLine, blocks, ending, has_bad}
use Rattle.recorder.specs.declared.run_writer.counts.Counts.{Counts}
use Rattle.recorder.specs.run_writer.Record.{Counted, record_with}
use Rattle.recorder.specs.Record.{record_of}

module _ {S G E L P : Type 0} (m : Meaning S G E L P) (profile : ProfileValue) where
  -- the text is a whole stimulus, and all of its record was taken
  pub record Finishes (text : List ℕ) (counts : Counts) (before after : List ℕ → Type 0)
      : Type 0 where
    pub good : ending (length profile.events) text ≡ Terminated
    pub grew : Grew before after (record_of m profile text)
    pub counted : Counted counts (runs m profile (blocks (length profile.events) text))
        (record_of m profile text)

  -- the text has this bad line, and all of the record before it was taken
  pub record Stops (text : List ℕ) (line : ℕ) (before after : List ℕ → Type 0) : Type 0 where
    pub bad : ending (length profile.events) text ≡ BadLine line
    pub grew : Grew before after (record_of m profile text)

  -- what a result says of a text and of what the sink took
  abbrev pub Answers : Result Counts (Stopped StimulusFault) → List ℕ → (List ℕ → Type 0)
      → (List ℕ → Type 0) → Type 0
  Answers (Ok counts) text before after = Finishes text counts before after
  Answers (Err (Refused fault)) text before after = Stops text fault.line before after
  Answers (Err (Failed Read)) text before after =
      GrewByPrefix before after (record_of m profile text)
  Answers (Err (Failed Write)) text before after = GrewShort before after (record_of m profile text)
  Answers (Err (Failed OutOfMemory)) text before after =
      GrewByPrefix before after (record_of m profile text)

  -- How far a text was read: to its end, or as far as its bad line counts as fed. And what was
  -- written where a read failed.
  abbrev pub ReadsTo : Result Counts (Stopped StimulusFault) → List ℕ → Type 0 → (List ℕ → Type 0)
      → (List ℕ → Type 0) → Type 0
  ReadsTo (Ok counts) read at_end before after = at_end
  ReadsTo (Err (Refused fault)) read at_end before after =
      (has_bad (length profile.events) read ≡ true) ⊎ at_end
  ReadsTo (Err (Failed Read)) read at_end before after =
      (has_bad (length profile.events) read ≡ false)
      × Grew before after (record_with m profile (blocks (length profile.events) read) false)
  ReadsTo (Err (Failed Write)) read at_end before after = Unit {0}
  ReadsTo (Err (Failed OutOfMemory)) read at_end before after = Unit {0}

  -- The result after these bytes were read. It holds of every text that begins with them. At the
  -- end of the text it holds only of the bytes themselves.
  pub record Ended (result : Result Counts (Stopped StimulusFault)) (read : List ℕ)
      (at_end : Type 0) (before after : List ℕ → Type 0) : Type 0 where
    pub reads_to : ReadsTo result read at_end before after
    pub answers : (rest : List ℕ) → (at_end → rest ≡ [])
        → Answers result (read ++ rest) before after
