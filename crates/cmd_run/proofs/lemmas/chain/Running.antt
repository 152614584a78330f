-- A chain on its way: the stimulus read, its blocks run by the first client, their outputs by the second, and both records written.
use Rattle.std.proofs.Common.{◌≡◌, ◌≤◌, ◌<◌, ℕ, List, [], ◌∷◌, ◌++◌, length, sym, ap, subst, arith, length-append}
use Rattle.std.specs.Prelude.{false, Option, Some, None, Result, Ok, Err}
use Rattle.det_values.specs.Values.{ProfileValue}
use Rattle.det_values.specs.declared.frames.CycleInput.{CycleInput}
use Rattle.det_io.specs.Sink.{Grew}
use Rattle.det_io.specs.Shelf.{ShelfState, Reads, IsAtEnd}
use Rattle.det_io.specs.Traffic.{ShelfRun, ShelfTraffic, shelf_run, failure_in}
use Rattle.det_io.specs.declared.failure.Failure.{Failure}
use Rattle.det_io.specs.declared.failure.Failure.TheVariants.{Read, Write, OutOfMemory}
use Rattle.det_io.specs.declared.failure.Stopped.{Stopped}
use Rattle.det_io.specs.declared.failure.Stopped.TheVariants.{Refused, Failed}
use Rattle.det_io.proofs.Counts.{rose-before}
use Rattle.det_io.proofs.Growth.{grew-then}
use Rattle.det_io.proofs.SlotReads.{reads-none, reads-then}
use Rattle.job.specs.Meaning.{Meaning}
use Rattle.stimulus.specs.declared.stimulus_item.StimulusFault.{StimulusFault}
use Rattle.recorder.specs.declared.run_writer.recording.Recording.{Recording}
use Rattle.recorder.specs.run_writer.Record.{record_with, opening}
use Rattle.recorder.specs.run_writer.Recording.{IsRecordingAfter}
use Rattle.recorder.proofs.Running.{Answered}
use Rattle.recorder.proofs.lemmas.run_writer.Growing.{record-opened, record-next}
use Rattle.stimulus.specs.declared.slot_reader.stimulus_reader.StimulusReader.{StimulusReader}
use Rattle.stimulus.specs.slot_reader.StandsFor.{StandsFor, InputIs, IsNext, IsWhole, slot_of, events_of}
use Rattle.cmd_run.specs.declared.chain.chain_counts.ChainCounts.{ChainCounts}
use Rattle.cmd_run.specs.chain.SecondClient.{second_with}
use Rattle.cmd_run.specs.chain.ChainEnds.{Sinks, BothGrew}
use Rattle.cmd_run.specs.chain.ChainCycle.{IsCut, AreBothAfter, BothTraffic, first_frame, second_frame}
use Rattle.cmd_run.proofs.lemmas.chain.Linking.{derived-none, second-opened, second-next}

-- what sinks took over two steps
abbrev pub joined : Sinks → Sinks → Sinks
joined a b = record {
  first = record {
    before = a.first.before;
    after = b.first.after;
    faults_before = a.first.faults_before;
    faults_after = b.first.faults_after;
  };
  second = record {
    before = a.second.before;
    after = b.second.after;
    faults_before = a.second.faults_before;
    faults_after = b.second.faults_after;
  };
}

module _ {S G E L P : Type 0} (m : Meaning S G E L P) (first : ProfileValue) {T H F M Q : Type 0} (n : Meaning T H F M Q)
    (second : ProfileValue) where
  -- these bytes were read, and these inputs run
  pub record Running (start now : ShelfState) (slot : ℕ) (sinks : Sinks) (reader : StimulusReader) (recording : Recording S G E L P)
      (other : Recording T H F M Q) (read : List ℕ) (given : List CycleInput) : Type 0 where
    pub reads : Reads start now slot read
    pub fed : StandsFor reader read given
    pub stands : AreBothAfter m n recording other given
    pub grew : BothGrew sinks (record_with m first given false) (second_with m first n second given false)

module _ {S G E L P : Type 0} {m : Meaning S G E L P} {first : ProfileValue} {T H F M Q : Type 0} {n : Meaning T H F M Q}
    {second : ProfileValue} where
  pub running-opened : (shelf : ShelfState) (slot : ℕ) (sinks : Sinks) (reader : StimulusReader) (recording : Recording S G E L P)
      (other : Recording T H F M Q)
      → StandsFor reader [] [] → IsRecordingAfter m recording [] → IsRecordingAfter n other []
      → BothGrew sinks (opening m first) (opening n second)
      → Running m first n second shelf shelf slot sinks reader recording other [] []
  running-opened shelf slot sinks reader recording other stands one two grew = record {
    reads = reads-none shelf slot;
    fed = stands;
    stands = record {
      first = one;
      second = subst (IsRecordingAfter n other) (sym (derived-none m recording.profile (length other.profile.events))) two;
    };
    grew = record {
      first = subst (Grew sinks.first.before sinks.first.after) (sym (record-opened m first)) grew.first;
      second = subst (Grew sinks.second.before sinks.second.after) (sym (second-opened m first n second)) grew.second;
    };
  }

  -- the reader's result, for all that was read
  pub next-read : {start mid now : ShelfState} {slot : ℕ} {sinks : Sinks} {reader : StimulusReader} {recording : Recording S G E L P}
      {other : Recording T H F M Q} {read : List ℕ} {given : List CycleInput} (next : StimulusReader)
      (answer : Result (Option CycleInput) (Stopped StimulusFault))
      → Running m first n second start mid slot sinks reader recording other read given
      → Answered answer mid now reader next → slot_of reader ≡ slot
      → (all : List ℕ) × Reads start now slot all × InputIs answer next (IsAtEnd now slot) all given
  next-read {mid = mid} {now = now} {read = read} {given = given} next answer running h same = (
    read ++ h.0,
    reads-then running.reads (subst (λ s. Reads mid now s h.0) same h.1),
    subst (λ s. InputIs answer next (IsAtEnd now s) (read ++ h.0) given) same (h.2 read given running.fed).1,
  )

  module _ {start mid now : ShelfState} {slot : ℕ} {sinks : Sinks} {reader : StimulusReader} {recording : Recording S G E L P}
      {other : Recording T H F M Q} {read : List ℕ} {given : List CycleInput} {events : ℕ} (answer : Option CycleInput)
      (next : StimulusReader) (running : Running m first n second start mid slot sinks reader recording other read given)
      (answered : Answered (Ok answer) mid now reader next) (same : slot_of reader ≡ slot) (named : events_of next ≡ events) where
    -- an input was read
    pub next-input : (input : CycleInput) → answer ≡ Some input
        → (all : List ℕ) × Reads start now slot all × StandsFor next all (given ++ input ∷ []) × IsNext input events all given
    next-input input is =
        let told = subst (λ x. Answered (Ok x) mid now reader next) is answered in
        let got = next-read next (Ok (Some input)) running told same in
        (got.0, got.1, got.2.0, subst (λ k. IsNext input k got.0 given) named got.2.1)

    -- the end was read
    pub next-end : answer ≡ None → (all : List ℕ) × Reads start now slot all × IsWhole events (IsAtEnd now slot) all given
    next-end is =
        let told = subst (λ x. Answered (Ok x) mid now reader next) is answered in
        let got = next-read next (Ok None) running told same in
        (got.0, got.1, subst (λ k. IsWhole k (IsAtEnd now slot) got.0 given) named got.2.1)

  -- one cycle more was run by both
  pub running-next : {start mid now : ShelfState} {slot : ℕ} {reader : StimulusReader} {recording : Recording S G E L P}
      {other : Recording T H F M Q} {read all : List ℕ} {given : List CycleInput} (sinks step : Sinks) (next : StimulusReader)
      (ran : Recording S G E L P) (followed : Recording T H F M Q) (input : CycleInput)
      → Running m first n second start mid slot sinks reader recording other read given
      → Reads start now slot all → StandsFor next all (given ++ input ∷ [])
      → AreBothAfter m n ran followed (given ++ input ∷ [])
      → Grew sinks.first.after step.first.after (first_frame m n first second given input)
      → Grew sinks.second.after step.second.after (second_frame m n first second given input)
      → Running m first n second start now slot (joined sinks step) next ran followed all (given ++ input ∷ [])
  running-next {given = given} sinks step next ran followed input running reads fed stands one two = record {
    reads = reads;
    fed = fed;
    stands = stands;
    grew = record {
      first = subst (Grew sinks.first.before step.first.after) (sym (record-next m first given input)) (grew-then running.grew.first one);
      second = subst (Grew sinks.second.before step.second.after) (sym (second-next m first n second given input))
          (grew-then running.grew.second two);
    };
  }

  -- fewer than 1,000,000 cycles were run before the next one
  pub few-cycles : {start mid : ShelfState} {slot : ℕ} {sinks : Sinks} {reader : StimulusReader} {recording : Recording S G E L P}
      {other : Recording T H F M Q} {read : List ℕ} {given : List CycleInput} (input : CycleInput)
      → Running m first n second start mid slot sinks reader recording other read given
      → length (given ++ input ∷ []) ≤ 1000000 → recording.engine.cycles < 1000000
  few-cycles {given = given} input running few =
      let cycles = running.stands.first.engine.cycles in let one = length-append given (input ∷ []) in omega arith

-- no write failed where the reader stopped
pub no-write : (why : Stopped StimulusFault) (next : StimulusReader) (at_end : Type 0) (read : List ℕ) (given : List CycleInput)
    → InputIs (Err why) next at_end read given → failure_in {A = ChainCounts} (Err why) ≡ Some Write → ⊥
no-write (Refused fault) next at_end read given h is = cc
no-write (Failed Read) next at_end read given h is = cc
no-write (Failed Write) next at_end read given h is = absurd h
no-write (Failed OutOfMemory) next at_end read given h is = cc

-- no read failed where a record was cut off
pub no-read : (failure : Failure) (shelf : ShelfRun) → IsCut failure → ShelfTraffic shelf None → ShelfTraffic shelf (Some failure)
no-read Read shelf h t = absurd h
no-read Write shelf h t = record { cause = λ e. cc; counted = t.counted; stays = t.stays }
no-read OutOfMemory shelf h t = record { cause = λ e. cc; counted = t.counted; stays = t.stays }

-- ---- counts of faults over two calls

-- nothing failed
pub unfailed-shelf : (shelf : ShelfRun) → shelf.first.faults ≤ shelf.last.faults → shelf.stays → ShelfTraffic shelf None
unfailed-shelf shelf counted stays = record { cause = λ e. cc; counted = counted; stays = stays }

pub unfailed-sinks : (sinks : Sinks) → sinks.first.faults_before ≤ sinks.first.faults_after
    → sinks.second.faults_before ≤ sinks.second.faults_after
    → BothTraffic sinks None
unfailed-sinks sinks one two = record { cause = λ e. cc; first = one; second = two }

-- nothing failed before
pub shelf-then : {S : Type 0} (sees : S → ShelfState) (stays : S → S → Type 0)
    → ((one two three : S) → stays one two → stays two three → stays one three) → (first mid last : S) (failure : Option Failure)
    → ShelfTraffic (shelf_run sees stays first mid) None → ShelfTraffic (shelf_run sees stays mid last) failure
    → ShelfTraffic (shelf_run sees stays first last) failure
shelf-then sees stays on first mid last failure a b = record {
  cause = λ e. rose-before (sees first).faults (sees mid).faults (sees last).faults a.counted (b.cause e);
  counted = let one = a.counted in let two = b.counted in omega arith;
  stays = on first mid last a.stays b.stays;
}
