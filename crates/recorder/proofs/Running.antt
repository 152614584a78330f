-- A run on its way: the stimulus read, its blocks run, and their frames written and shown.
use Rattle.std.proofs.Common.{◌≡◌, ◌≤◌, ◌<◌, ℕ, List, [], ◌∷◌, ◌++◌, length, sym, ap, subst, ◌∙◌, arith, length-append}
use Rattle.std.specs.List.{All}
use Rattle.std.specs.Prelude.{false, Option, Some, None, Result, Ok, Err}
use Rattle.det_values.specs.Values.{ProfileValue, SampleValue}
use Rattle.det_values.specs.declared.frames.CycleInput.{CycleInput}
use Rattle.det_values.specs.declared.frames.RunFrame.{RunFrame}
use Rattle.det_values.specs.declared.frames.Frame.TheVariants.{Run}
use Rattle.det_io.specs.Sink.{Grew}
use Rattle.det_io.specs.Shelf.{ShelfState, Reads, IsAtEnd}
use Rattle.det_io.specs.Traffic.{ShelfRun, SinkRun, ShelfTraffic, SinkTraffic, failure_in}
use Rattle.det_io.specs.declared.failure.Failure.{Failure}
use Rattle.det_io.specs.declared.failure.Failure.TheVariants.{Read, Write, OutOfMemory}
use Rattle.det_io.specs.declared.failure.Stopped.{Stopped}
use Rattle.det_io.specs.declared.failure.Stopped.TheVariants.{Refused, Failed}
use Rattle.det_io.proofs.Growth.{grew-then}
use Rattle.det_io.proofs.SlotReads.{reads-none, reads-then}
use Rattle.job.specs.Meaning.{Meaning}
use Rattle.cycle_engine.specs.Frames.{runs, frame_of, state_of}
use Rattle.cycle_engine.proofs.Standing.{runs-append}
use Rattle.record_grammar.specs.Spelling.{spelled_frame}
use Rattle.stimulus.specs.declared.stimulus_item.StimulusFault.{StimulusFault}
use Rattle.probes.specs.Reports.{AudienceState}
use Rattle.probes.specs.Shows.{Shows}
use Rattle.probes.proofs.Shown.{shows-none, shows-then}
use Rattle.recorder.specs.declared.run_writer.counts.Counts.{Counts}
use Rattle.recorder.specs.declared.run_writer.recording.Recording.{Recording}
use Rattle.recorder.specs.run_writer.Record.{record_with, opening}
use Rattle.recorder.specs.run_writer.Recording.{Cuts, IsRecordingAfter, Ran}
use Rattle.recorder.proofs.lemmas.run_writer.Growing.{runs-none, record-opened, record-next}
use Rattle.stimulus.specs.declared.slot_reader.stimulus_reader.StimulusReader.{StimulusReader}
use Rattle.stimulus.specs.slot_reader.StandsFor.{StandsFor, InputIs, ReadsIfNeeded, IsNext, IsWhole, slot_of, events_of}

-- what the reader returns, for all bytes that it can have read
abbrev pub Answered : Result (Option CycleInput) (Stopped StimulusFault) → ShelfState → ShelfState → StimulusReader → StimulusReader
    → Type 0
Answered answer mid now old new = (more : List ℕ) × Reads mid now (slot_of old) more
    × ((read : List ℕ) (given : List CycleInput) → StandsFor old read given
    → ReadsIfNeeded (events_of old) read given more × InputIs answer new (IsAtEnd now (slot_of old)) (read ++ more) given)

-- the next input, and all that was read before it
pub record HasNext (input : CycleInput) (first now : ShelfState) (slot events : ℕ) (reader : StimulusReader) (given : List CycleInput)
    : Type 0 where
  pub all : List ℕ
  pub reads : Reads first now slot all
  pub fed : StandsFor reader all (given ++ input ∷ [])
  pub is : IsNext input events all given
  pub same_slot : slot_of reader ≡ slot
  pub same_events : events_of reader ≡ events

module _ {S G E L P : Type 0} (m : Meaning S G E L P) (profile : ProfileValue) where
  -- these bytes were read, and these inputs run
  pub record Running (first now : ShelfState) (slot : ℕ) (before took : List ℕ → Type 0) (audience seeing : AudienceState)
      (reader : StimulusReader) (recording : Recording S G E L P) (read : List ℕ) (given : List CycleInput) : Type 0 where
    pub reads : Reads first now slot read
    pub fed : StandsFor reader read given
    pub same_slot : slot_of reader ≡ slot
    pub same_events : events_of reader ≡ length profile.events
    pub stands : IsRecordingAfter m recording given
    pub same_profile : recording.profile ≡ profile
    pub grew : Grew before took (record_with m profile given false)
    pub shown : Shows audience seeing (runs m profile given)

  -- the frame of the run after these inputs
  abbrev pub next_run : List CycleInput → CycleInput → RunFrame
  next_run given input = frame_of m profile given (state_of m profile given) input

  pub running-opened : (shelf : ShelfState) (slot : ℕ) (before took : List ℕ → Type 0) (audience : AudienceState) (reader : StimulusReader)
      (recording : Recording S G E L P)
      → StandsFor reader [] [] → slot_of reader ≡ slot → events_of reader ≡ length profile.events
      → IsRecordingAfter m recording [] → recording.profile ≡ profile → Grew before took (opening m profile)
      → Running shelf shelf slot before took audience audience reader recording [] []
  running-opened shelf slot before took audience reader recording stands at events opened same grew = record {
    reads = reads-none shelf slot;
    fed = stands;
    same_slot = at;
    same_events = events;
    stands = opened;
    same_profile = same;
    grew = subst (Grew before took) (sym (record-opened m profile)) grew;
    shown = subst (Shows audience audience) (sym (runs-none m profile)) (shows-none audience);
  }

  pub runs-next : (given : List CycleInput) (input : CycleInput) (run : RunFrame) → run ≡ next_run given input → runs m profile given
      ++ run ∷ [] ≡ runs m profile (given ++ input ∷ [])
  runs-next given input run is = ap (λ r. runs m profile given ++ r ∷ []) is ∙ sym (runs-append m profile given input)

module _ {S G E L P : Type 0} {m : Meaning S G E L P} {profile : ProfileValue} {first mid now : ShelfState} {slot : ℕ}
    {before took : List ℕ → Type 0} {audience seeing : AudienceState} {reader : StimulusReader} {recording : Recording S G E L P}
    {read : List ℕ} {given : List CycleInput} where
  -- the reader's result, for all that was read
  pub next-read : (next : StimulusReader) (answer : Result (Option CycleInput) (Stopped StimulusFault))
      → Running m profile first mid slot before took audience seeing reader recording read given
      → Answered answer mid now reader next
      → (all : List ℕ) × Reads first now slot all × InputIs answer next (IsAtEnd now slot) all given
  next-read next answer running h = (
    read ++ h.0,
    reads-then running.reads (subst (λ s. Reads mid now s h.0) running.same_slot h.1),
    subst (λ s. InputIs answer next (IsAtEnd now s) (read ++ h.0) given) running.same_slot (h.2 read given running.fed).1,
  )

  pub next-given : (next : StimulusReader) (item : Option CycleInput) (input : CycleInput)
      → Running m profile first mid slot before took audience seeing reader recording read given
      → Answered (Ok item) mid now reader next → item ≡ Some input → slot_of next ≡ slot_of reader → events_of next ≡ events_of reader
      → HasNext input first now slot (length profile.events) next given
  next-given next item input running h is at events =
      let n = next-read next (Ok (Some input)) running (subst (λ x. Answered (Ok x) mid now reader next) is h) in
      record {
        all = n.0;
        reads = n.1;
        fed = n.2.0;
        is = subst (λ k. IsNext input k n.0 given) (events ∙ running.same_events) n.2.1;
        same_slot = at ∙ running.same_slot;
        same_events = events ∙ running.same_events;
      }

  -- the reader has no more inputs
  pub none-given : (next : StimulusReader) (item : Option CycleInput)
      → Running m profile first mid slot before took audience seeing reader recording read given
      → Answered (Ok item) mid now reader next → item ≡ None → events_of next ≡ events_of reader
      → (all : List ℕ) × Reads first now slot all × IsWhole (length profile.events) (IsAtEnd now slot) all given
  none-given next item running h is events =
      let n = next-read next (Ok None) running (subst (λ x. Answered (Ok x) mid now reader next) is h) in
      (n.0, n.1, subst (λ k. IsWhole k (IsAtEnd now slot) n.0 given) (events ∙ running.same_events) n.2.1)

  module _ {next : StimulusReader} {input : CycleInput} (running : Running m profile first mid slot before took audience seeing reader recording
      read given)
      (n : HasNext input first now slot (length profile.events) next given) where
    -- fewer than 1,000,000 cycles were run before the next one
    pub few-cycles : recording.engine.cycles < 1000000
    few-cycles =
        let cycles = running.stands.engine.cycles in
        let few = n.is.few in let one = length-append given (input ∷ []) in omega arith

    -- the recording knows the events of the input
    pub next-known : All (λ (s : SampleValue). s.event < length recording.profile.events) input.samples
    next-known = subst (λ (p : ProfileValue). All (λ (s : SampleValue). s.event < length p.events) input.samples) (sym running.same_profile)
        n.is.within.known

    module _ {ran : Recording S G E L P} {run : RunFrame} {after : List ℕ → Type 0}
        (went : (given : List CycleInput) → IsRecordingAfter m recording given → Ran m recording.profile given input ran run took after) where
      -- its run, by the profile at the start
      pub next-ran : Ran m profile given input ran run took after
      next-ran = subst (λ (p : ProfileValue). Ran m p given input ran run took after) running.same_profile (went given running.stands)

      pub frames-next : Grew before after (record_with m profile (given ++ input ∷ []) false)
      frames-next = subst (Grew before after)
          (ap (λ r. record_with m profile given false ++ spelled_frame profile.format (Run r)) next-ran.run
          ∙ sym (record-next m profile given input)) (grew-then running.grew next-ran.took)

      -- and shown
      pub running-next : {last : AudienceState} → ran.profile ≡ recording.profile → Shows seeing last (run ∷ [])
          → Running m profile first now slot before after audience last next ran n.all (given ++ input ∷ [])
      running-next {last = last} same shows = record {
        reads = n.reads;
        fed = n.fed;
        same_slot = n.same_slot;
        same_events = n.same_events;
        stands = next-ran.stands;
        same_profile = same ∙ running.same_profile;
        grew = frames-next;
        shown = subst (Shows audience last) (runs-next m profile given input run next-ran.run) (shows-then running.shown shows);
      }

-- no write failed where the reader stopped
pub no-write : (why : Stopped StimulusFault) (next : StimulusReader) (at_end : Type 0) (read : List ℕ) (given : List CycleInput)
    (sink : SinkRun)
    → InputIs (Err why) next at_end read given → SinkTraffic sink None → SinkTraffic sink (failure_in {A = Counts} (Err why))
no-write (Refused fault) next at_end read given sink h t = t
no-write (Failed Read) next at_end read given sink h t = record { cause = λ e. cc; counted = t.counted }
no-write (Failed Write) next at_end read given sink h t = absurd h
no-write (Failed OutOfMemory) next at_end read given sink h t = record { cause = λ e. cc; counted = t.counted }

-- no read failed where a frame wasn't written
pub no-read : (failure : Failure) (before after : List ℕ → Type 0) (bytes : List ℕ) → Cuts failure before after bytes
    → Some failure ≡ Some Read → ⊥
no-read Read before after bytes h e = h
no-read Write before after bytes h e = cc
no-read OutOfMemory before after bytes h e = cc

-- two calls read in turn, and no read failed
pub read-on : {shelf : ShelfRun} {end : Option Failure} (mid : ℕ) → (end ≡ Some Read → ⊥) → shelf.first.faults ≤ mid
    → mid ≤ shelf.last.faults → shelf.stays → ShelfTraffic shelf end
read-on mid none le more stays = record { cause = λ e. absurd (none e); counted = omega (arith, le, more); stays = stays }
