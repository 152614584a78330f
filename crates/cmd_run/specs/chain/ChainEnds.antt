-- How `chain_run` ends: what its result says of the text and of what the two sinks took.
use Rattle.std.specs.Prelude.{◌≡◌, ◌⊎◌, ℕ, List, [], ◌++◌, length, true, false, IfSome, Result}
use Rattle.std.specs.Prelude.{Ok, Err}
use Rattle.std.specs.List.{count_by}
use Rattle.det_values.specs.Values.{ProfileValue}
use Rattle.det_values.specs.declared.frames.CycleInput.{CycleInput}
use Rattle.det_io.specs.Shelf.{Reads, IsAtEnd}
use Rattle.det_io.specs.Sink.{Grew, GrewByPrefix}
use Rattle.det_io.specs.Traffic.{ShelfRun, SinkRun, sink_run}
use Rattle.det_io.specs.declared.failure.Failure.TheVariants.{Read, Write, OutOfMemory}
use Rattle.det_io.specs.declared.failure.Stopped.{Stopped}
use Rattle.det_io.specs.declared.failure.Stopped.TheVariants.{Refused, Failed}
use Rattle.job.specs.Meaning.{Meaning}
use Rattle.cycle_engine.specs.Frames.{runs}
use Rattle.probes.specs.Shipped.{is_refused}
use Rattle.stimulus.specs.declared.stimulus_item.StimulusFault.{StimulusFault}
use Rattle.stimulus.specs.Reading.{Terminated, BadLine, blocks, ending, has_bad}
use Rattle.recorder.specs.run_writer.Record.{record_with}
use Rattle.recorder.specs.Record.{record_of}
use Rattle.cmd_run.specs.declared.chain.chain_counts.ChainCounts.{ChainCounts}
use Rattle.cmd_run.specs.chain.SecondClient.{passed_on, second_with, second_of}

-- what the two sinks of a chain took
pub record Sinks : Type 1 where
  pub first : SinkRun
  pub second : SinkRun

-- the runs of both, from the members of their types
abbrev pub sink_runs : {K L : Type 0} → (K → List ℕ → Type 0) → (K → ℕ) → K → K
    → (L → List ℕ → Type 0) → (L → ℕ) → L → L → Sinks
sink_runs took faults old new took2 faults2 old2 new2 =
    record { first = sink_run took faults old new; second = sink_run took2 faults2 old2 new2 }

-- each took all of a list, or a prefix of it
pub record BothGrew (sinks : Sinks) (bytes others : List ℕ) : Type 0 where
  pub first : Grew sinks.first.before sinks.first.after bytes
  pub second : Grew sinks.second.before sinks.second.after others

pub record BothGrewByPrefix (sinks : Sinks) (bytes others : List ℕ) : Type 0 where
  pub first : GrewByPrefix sinks.first.before sinks.first.after bytes
  pub second : GrewByPrefix sinks.second.before sinks.second.after others

module _ {S G E L P : Type 0} (m : Meaning S G E L P) (first : ProfileValue)
    {T H F M Q : Type 0} (n : Meaning T H F M Q) (second : ProfileValue) where
  -- the counts of the runs over these inputs
  pub record Counted (counts : ChainCounts) (inputs : List CycleInput) : Type 0 where
    pub cycles : counts.cycles ≡ length inputs
    pub refused_first : counts.refused_first ≡ count_by is_refused (runs m first inputs)
    pub refused_second : counts.refused_second
        ≡ count_by is_refused (runs n second (passed_on m first n second inputs))

  -- the text is a whole stimulus, and all of both records was taken
  pub record Finishes (text : List ℕ) (counts : ChainCounts) (sinks : Sinks) : Type 0 where
    pub good : ending (length first.events) text ≡ Terminated
    pub grew : BothGrew sinks (record_of m first text) (second_of m first n second text)
    pub counted : Counted counts (blocks (length first.events) text)

  -- the text has this bad line, and all of both records before it was taken
  pub record Stops (text : List ℕ) (line : ℕ) (sinks : Sinks) : Type 0 where
    pub bad : ending (length first.events) text ≡ BadLine line
    pub grew : BothGrew sinks (record_of m first text) (second_of m first n second text)

  -- what a result says of a text and of what the sinks took
  abbrev pub Answers : Result ChainCounts (Stopped StimulusFault) → List ℕ → Sinks → Type 0
  Answers (Ok counts) text sinks = Finishes text counts sinks
  Answers (Err (Refused fault)) text sinks = Stops text fault.line sinks
  Answers (Err (Failed failure)) text sinks =
      BothGrewByPrefix sinks (record_of m first text) (second_of m first n second text)

  -- How far a text was read: to its end, or as far as its bad line counts as fed. And what was
  -- written where a read failed.
  abbrev pub ReadsTo : Result ChainCounts (Stopped StimulusFault) → List ℕ → Type 0 → Sinks → Type 0
  ReadsTo (Ok counts) read at_end sinks = at_end
  ReadsTo (Err (Refused fault)) read at_end sinks =
      (has_bad (length first.events) read ≡ true) ⊎ at_end
  ReadsTo (Err (Failed Read)) read at_end sinks = (has_bad (length first.events) read ≡ false)
      × BothGrew sinks (record_with m first (blocks (length first.events) read) false)
      (second_with m first n second (blocks (length first.events) read) false)
  ReadsTo (Err (Failed Write)) read at_end sinks = Unit {0}
  ReadsTo (Err (Failed OutOfMemory)) read at_end sinks = Unit {0}

  -- The result after these bytes were read. It holds of every text that begins with them. At the
  -- end of the text it holds only of the bytes themselves.
  pub record Ended (result : Result ChainCounts (Stopped StimulusFault)) (read : List ℕ)
      (at_end : Type 0) (sinks : Sinks) : Type 0 where
    pub reads_to : ReadsTo result read at_end sinks
    pub answers : (rest : List ℕ) → (at_end → rest ≡ []) → Answers result (read ++ rest) sinks

  pub record IsChained (slot : ℕ) (shelf : ShelfRun) (sinks : Sinks)
      (result : Result ChainCounts (Stopped StimulusFault)) : Type 0 where
    -- of the text that the slot had left, where that is known
    pub answers : IfSome (shelf.first.left slot) (λ text. Answers result text sinks)
    -- what was read, also where the rest of the text is unknown
    pub run : (read : List ℕ) × Reads shelf.first shelf.last slot read
        × Ended result read (IsAtEnd shelf.last slot) sinks
