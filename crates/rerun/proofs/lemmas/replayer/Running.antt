-- A record on its way: its inputs read, their cycles run again, and the frames written.
use Rattle.std.proofs.Common.{◌≡◌, ◌≤◌, ◌<◌, ℕ, List, [], ◌∷◌, ◌++◌, length, refl, sym, ap, subst, ◌∙◌, arith, append_assoc, append-nil}
use Rattle.std.proofs.Common.{inl, length-append}
use Rattle.std.specs.Prelude.{false, Option, Some, None, Result, Ok, Err}
use Rattle.det_values.specs.Values.{ProfileValue}
use Rattle.det_values.specs.declared.frames.CycleInput.{CycleInput}
use Rattle.det_values.specs.declared.frames.RunFrame.{RunFrame}
use Rattle.det_values.specs.declared.frames.Frame.TheVariants.{Run}
use Rattle.det_io.specs.Prefix.{IsPrefix}
use Rattle.det_io.specs.Sink.{Grew}
use Rattle.det_io.specs.Shelf.{ShelfState, Reads, IsAtEnd}
use Rattle.det_io.specs.Traffic.{ShelfRun, SinkRun, ShelfTraffic, SinkTraffic, failure_in}
use Rattle.det_io.specs.declared.failure.Failure.{Failure}
use Rattle.det_io.specs.declared.failure.Failure.TheVariants.{Read, Write, OutOfMemory}
use Rattle.det_io.specs.declared.failure.Stopped.{Stopped}
use Rattle.det_io.specs.declared.failure.Stopped.TheVariants.{Refused, Failed}
use Rattle.det_io.proofs.Growth.{grew-then}
use Rattle.det_io.proofs.SlotReads.{reads-none, reads-then}
use Rattle.job.specs.Meaning.{Meaning}
use Rattle.cycle_engine.specs.Frames.{frame_of, state_of}
use Rattle.record_grammar.specs.declared.record_fault.RecordFault.{RecordFault}
use Rattle.record_grammar.specs.declared.item.Item.TheVariants as items
use Rattle.record_grammar.specs.Record.{fault_so_far}
use Rattle.record_grammar.specs.Spelling.{spelled_frame}
use Rattle.record_reader.specs.item_reader.Needed.{ReadsWhile}
use Rattle.record_reader.proofs.lemmas.item_reader.Needed.{while-weaker, while-then}
use Rattle.record_reader.specs.declared.frame_reader.FrameReader.{FrameReader}
use Rattle.record_reader.specs.Frames.{StandsFor, slot_of}
use Rattle.recorder.specs.declared.run_writer.counts.Counts.{Counts}
use Rattle.recorder.specs.declared.run_writer.recording.Recording.{Recording}
use Rattle.recorder.specs.run_writer.Record.{record_with, opening}
use Rattle.recorder.specs.run_writer.Recording.{Cuts, IsRecordingAfter, Ran}
use Rattle.recorder.proofs.lemmas.run_writer.Growing.{record-opened, record-next}
use Rattle.rerun.specs.replayer.ReplayRecord.{inputs}
use Rattle.rerun.specs.replayer.NextInput.{HasGiven, HasAll, ReadsOn, InputIs}
use Rattle.rerun.proofs.lemmas.replayer.Giving.{inputs-first}

-- what the reader returns, for every record whose header it gave
abbrev pub Answered : Result (Option CycleInput) (Stopped RecordFault) → ShelfState → ShelfState → FrameReader → FrameReader → Type 0
Answered answer mid now old new = ReadsOn mid now old (λ profile. InputIs answer profile new (IsAtEnd now (slot_of old)))

-- bytes were read while those before them had no fault
abbrev pub IsNeeded : List ℕ → List ℕ → Type 0
IsNeeded before more = ReadsWhile (λ first. fault_so_far (before ++ first) ≡ None) more

module _ {S G E L P : Type 0} (m : Meaning S G E L P) (profile : ProfileValue) where
  -- after what `old` had read these bytes were read, and these inputs run again
  pub record Running (first now : ShelfState) (slot : ℕ) (before took : List ℕ → Type 0) (old reader : FrameReader)
      (recording : Recording S G E L P) (more : List ℕ) (given : List CycleInput) : Type 0 where
    pub reads : Reads first now slot more
    pub needed : (read : List ℕ) → StandsFor old read (items.Header profile ∷ []) → IsNeeded read more
    pub gave : (read : List ℕ) → StandsFor old read (items.Header profile ∷ []) → HasGiven profile reader (read ++ more) given
    pub stands : IsRecordingAfter m recording given
    pub grew : Grew before took (record_with m profile given false)

  -- the frame of the run after these inputs
  abbrev pub next_run : List CycleInput → CycleInput → RunFrame
  next_run given input = frame_of m profile given (state_of m profile given) input

  pub running-opened : (shelf : ShelfState) (before took : List ℕ → Type 0) (reader : FrameReader) (recording : Recording S G E L P)
      → IsRecordingAfter m recording [] → Grew before took (opening m profile)
      → Running shelf shelf (slot_of reader) before took reader reader recording [] []
  running-opened shelf before took reader recording opened grew = record {
    reads = reads-none shelf (slot_of reader);
    needed = λ read stands. inl refl;
    gave = λ read stands. subst (λ (bytes : List ℕ). HasGiven profile reader bytes []) (sym (append-nil read))
        (record { behind = []; stands = stands; inputs = refl });
    stands = opened;
    grew = subst (Grew before took) (sym (record-opened m profile)) grew;
  }

  -- the reader's result, for all that was read after what `old` had read
  pub record Next (first now : ShelfState) (slot : ℕ) (old next : FrameReader) (given : List CycleInput)
      (answer : Result (Option CycleInput) (Stopped RecordFault)) : Type 0 where
    pub all : List ℕ
    pub reads : Reads first now slot all
    pub needed : (read : List ℕ) → StandsFor old read (items.Header profile ∷ []) → IsNeeded read all
    -- the inputs given before come first, whatever follows
    pub front : (read : List ℕ) → StandsFor old read (items.Header profile ∷ [])
        → (rest : List ℕ) → IsPrefix given (inputs ((read ++ all) ++ rest))
    pub is : (read : List ℕ) → StandsFor old read (items.Header profile ∷ [])
        → InputIs answer profile next (IsAtEnd now slot) (read ++ all) given

module _ {S G E L P : Type 0} {m : Meaning S G E L P} {profile : ProfileValue} {first mid now : ShelfState} {slot : ℕ}
    {before took : List ℕ → Type 0} {old reader : FrameReader} {recording : Recording S G E L P} {more : List ℕ} {given : List CycleInput}
    (running : Running m profile first mid slot before took old reader recording more given) where
  pub next-read : {answer other : Result (Option CycleInput) (Stopped RecordFault)} (next : FrameReader) → answer ≡ other
      → Answered answer mid now reader next → slot_of reader ≡ slot → Next m profile first now slot old next given other
  next-read {other = other} next is gave same = let h = subst (λ a. Answered a mid now reader next) is gave in record {
    all = more ++ h.0;
    reads = reads-then running.reads (subst (λ s. Reads mid now s h.0) same h.1);
    needed = λ read stands. while-then (λ first. fault_so_far (read ++ first) ≡ None) more h.0 (running.needed read stands)
        (while-weaker (λ first. HasAll ((read ++ more) ++ first) given) (λ first. fault_so_far (read ++ (more ++ first)) ≡ None) h.0
        (λ first all. subst (λ (bytes : List ℕ). fault_so_far bytes ≡ None) (append_assoc read more first) all.sound)
        (h.2 profile (read ++ more) given (running.gave read stands)).0);
    front = λ read stands rest. subst (λ (bytes : List ℕ). IsPrefix given (inputs bytes))
        (sym (append_assoc (read ++ more) h.0 rest) ∙ ap (λ (bytes : List ℕ). bytes ++ rest) (append_assoc read more h.0))
        (inputs-first (running.gave read stands) (h.0 ++ rest));
    is = λ read stands. subst (λ s. InputIs other profile next (IsAtEnd now s) (read ++ (more ++ h.0)) given) same
        (subst (λ (bytes : List ℕ). InputIs other profile next (IsAtEnd now (slot_of reader)) bytes given)
        (append_assoc read more h.0)
        (h.2 profile (read ++ more) given (running.gave read stands)).1);
  }

  -- one input more was run
  pub running-next : (next : FrameReader) (ran : Recording S G E L P) (input : CycleInput) (run : RunFrame) {after : List ℕ → Type 0}
      → (n : Next m profile first now slot old next given (Ok (Some input))) → Ran m profile given input ran run took after
      → Running m profile first now slot before after old next ran n.all (given ++ input ∷ [])
  running-next next ran input run {after} n one = record {
    reads = n.reads;
    needed = n.needed;
    gave = λ read stands. (n.is read stands).0;
    stands = one.stands;
    grew = subst (Grew before after)
        (ap (λ r. record_with m profile given false ++ spelled_frame profile.format (Run r)) one.run
        ∙ sym (record-next m profile given input))
        (grew-then running.grew one.took);
  }

module _ {S G E L P : Type 0} {m : Meaning S G E L P} {profile : ProfileValue} where
  -- no write failed where the reader stopped
  pub no-write : {first now : ShelfState} {slot : ℕ} {old next : FrameReader} {given : List CycleInput} (why : Stopped RecordFault)
      (read : List ℕ) → StandsFor old read (items.Header profile ∷ []) → Next m profile first now slot old next given (Err why)
      → (sink : SinkRun) → SinkTraffic sink None → SinkTraffic sink (failure_in {A = Counts} (Err why))
  no-write (Refused fault) read stands n sink t = t
  no-write (Failed Read) read stands n sink t = record { cause = λ e. cc; counted = t.counted }
  no-write (Failed Write) read stands n sink t = absurd (n.is read stands)
  no-write (Failed OutOfMemory) read stands n sink t = record { cause = λ e. cc; counted = t.counted }

-- fewer than 1,000,000 cycles were run before the next one
pub few-cycles : {S G E L P : Type 0} {m : Meaning S G E L P} {recording : Recording S G E L P} {given : List CycleInput}
    (input : CycleInput) → IsRecordingAfter m recording given → length (given ++ input ∷ []) ≤ 1000000
    → recording.engine.cycles < 1000000
few-cycles {given = given} input stands few =
    let cycles = stands.engine.cycles in let one = length-append given (input ∷ []) in omega arith

-- no read failed where a frame wasn't written
pub no-read : (failure : Failure) (before after : List ℕ → Type 0) (bytes : List ℕ) (shelf : ShelfRun)
    → Cuts failure before after bytes → ShelfTraffic shelf None → ShelfTraffic shelf (Some failure)
no-read Read before after bytes shelf h t = absurd h
no-read Write before after bytes shelf h t = record { cause = λ e. cc; counted = t.counted; stays = t.stays }
no-read OutOfMemory before after bytes shelf h t = record { cause = λ e. cc; counted = t.counted; stays = t.stays }
