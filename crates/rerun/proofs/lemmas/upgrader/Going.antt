-- A record on its way: its frames read, compared with those that its inputs give, and those written.
use Rattle.std.proofs.Common.{◌≡◌, ◌+◌, ℕ, List, [], ◌∷◌, ◌++◌, length, map, sym, ap, subst, ◌∙◌, arith, append-nil, length-append}
use Rattle.std.specs.Prelude.{Option, Some, None, Result, Ok, Err}
use Rattle.std.specs.List.{flat_map}
use Rattle.std.proofs.lemmas.Grind.{flat_map-append}
use Rattle.det_values.specs.Values.{ProfileValue}
use Rattle.det_values.specs.Frames.{in_format}
use Rattle.det_values.specs.declared.format.Format.{Format}
use Rattle.det_values.specs.declared.format.Format.TheVariants.{Two}
use Rattle.det_values.specs.declared.frames.CycleInput.{CycleInput}
use Rattle.det_values.specs.declared.frames.Frame.{Frame}
use Rattle.det_io.specs.Sink.{Grew}
use Rattle.det_io.specs.Shelf.{ShelfState}
use Rattle.det_io.specs.Traffic.{ShelfRun, SinkRun, ShelfTraffic, SinkTraffic, failure_in}
use Rattle.det_io.specs.declared.failure.Failure.{Failure}
use Rattle.det_io.specs.declared.failure.Failure.TheVariants.{Read, Write, OutOfMemory}
use Rattle.det_io.specs.declared.failure.Stopped.{Stopped}
use Rattle.det_io.specs.declared.failure.Stopped.TheVariants.{Refused, Failed}
use Rattle.det_io.proofs.Growth.{grew-then}
use Rattle.job.specs.Meaning.{Meaning}
use Rattle.cycle_engine.specs.Engine.{EngineState}
use Rattle.record_grammar.specs.declared.record_fault.RecordFault.{RecordFault}
use Rattle.record_grammar.specs.declared.item.Item.{Item}
use Rattle.record_grammar.specs.declared.item.Item.TheVariants as items
use Rattle.record_grammar.specs.Record.{items as items_in}
use Rattle.record_grammar.specs.Spelling.{spelled, spelled_frame}
use Rattle.record_reader.specs.declared.frame_reader.FrameReader.{FrameReader}
use Rattle.record_reader.specs.Frames.{StandsFor}
use Rattle.record_reader.proofs.FrameReading.{more_items}
use Rattle.copies.specs.declared.difference.Difference.{Difference}
use Rattle.copies.specs.FirstDifference.{frame_difference}
use Rattle.recorder.specs.declared.run_writer.recording.Recording.{Recording}
use Rattle.record_reader.specs.InItems.{frame_in}
use Rattle.rerun.specs.checker.RerunFrames.{IsEngineAfter, input_of, rerun_frame}
use Rattle.copies.specs.declared.check_verdict.CheckVerdict.{CheckVerdict}
use Rattle.rerun.proofs.lemmas.checker.Departing.{inputs_of}
use Rattle.rerun.proofs.lemmas.checker.Records.{frames-are}
use Rattle.rerun.proofs.lemmas.checker.Running.{items_with, items-next, inputs-next, HasCompared, Next, compared-then}
use Rattle.rerun.specs.declared.upgrader.original.Original.{Original}
use Rattle.rerun.specs.upgrader.Frames.{Takes, unless_last}
use Rattle.rerun.specs.upgrader.UpgradeStart.{header_of}
use Rattle.rerun.specs.upgrader.UpgradedRecord.{in_format_two}
use Rattle.rerun.proofs.lemmas.upgrader.Order.{AreFrames, are_frames}
use Rattle.rerun.proofs.lemmas.upgrader.Formats.{rerun_frame_in, spelled-kept}
use Rattle.rerun.proofs.lemmas.upgrader.Records.{so_far, so_far-next}

-- ---- the run of format 2

-- the run's profile is that of the record in format 2
pub two-is : (original : Original) (profile : ProfileValue) → profile.format ≡ Two → profile ≡ in_format_two (header_of original profile)
two-is original profile two = ap (λ (f : Format). record profile { format = f }) two

-- writing changes nothing of a run
pub written-behind : {S G E L P : Type 0} (m : Meaning S G E L P) (old new : Recording S G E L P) (given : List CycleInput)
    → IsEngineAfter m old given → new.engine ≡ old.engine → new.profile ≡ old.profile → IsEngineAfter m new given
written-behind {S} {G} {E} m old new given h engine profile = record {
  engine = rw (engine, profile) h.engine;
  going = ap (λ (e : EngineState S G E). e.stopped) engine ∙ h.going;
}

-- ---- counts

pub compared-next : (done : List Frame) (frame : Frame) {n : ℕ} → n ≡ length done → n + 1 ≡ length (done ++ frame ∷ [])
compared-next done frame is = let sum = length-append done (frame ∷ []) in omega arith

pub cycles-next : (done : List Frame) (frame : Frame) {n : ℕ} → n ≡ length (inputs_of done)
    → n + length (input_of frame) ≡ length (inputs_of (done ++ frame ∷ []))
cycles-next done frame is =
    let all = ap length (inputs-next done frame) in
    let sum = length-append (inputs_of done) (input_of frame) in
    omega arith

-- ---- the frames that come first

-- they are those of items that begin with them
frames-first : (profile : ProfileValue) (bytes : List ℕ) (done : List Frame) (others : List Item)
    → items_in bytes ≡ items_with profile done ++ others → AreFrames profile bytes (done ++ flat_map frame_in others)
frames-first profile bytes done others is =
    subst (AreFrames profile bytes) (flat_map-append frame_in (map items.Frame done) others
    ∙ ap (λ (fs : List Frame). fs ++ flat_map frame_in others) (frames-are done))
    (are_frames profile bytes (map items.Frame done ++ others) is)

module _ {S G E L P : Type 0} {m : Meaning S G E L P} {profile : ProfileValue} {first now : ShelfState} {slot : ℕ}
    {old next : FrameReader} {done : List Frame} where
  -- the frames compared come first of every record that begins with what was read
  pub compared-first : {answer : Result (Option Frame) (Stopped RecordFault)} (n : Next m profile first now slot old next done answer)
      (read : List ℕ) → StandsFor old read (items.Header profile ∷ []) → (rest : List ℕ)
      → (more : List Frame) × AreFrames profile ((read ++ n.all) ++ rest) (done ++ more)
  compared-first n read stands rest =
      let others = n.begins read stands rest in
      (flat_map frame_in others.0, frames-first profile ((read ++ n.all) ++ rest) done others.0 others.1)

  -- and so does the frame after them
  pub next-first : {frame : Frame} (n : Next m profile first now slot old next done (Ok (Some frame)))
      (read : List ℕ) → StandsFor old read (items.Header profile ∷ []) → (rest : List ℕ)
      → (more : List Frame) × AreFrames profile ((read ++ n.all) ++ rest) ((done ++ frame ∷ []) ++ more)
  next-first {frame} n read stands rest =
      let others = more_items next (read ++ n.all) (items_with profile done ++ items.Frame frame ∷ []) (n.is read stands).0 rest in (
        flat_map frame_in others.0,
        frames-first profile ((read ++ n.all) ++ rest) (done ++ frame ∷ []) others.0
            (others.1 ∙ ap (λ (xs : List Item). xs ++ others.0) (items-next profile done frame)),
      )

module _ {S G E L P : Type 0} (m : Meaning S G E L P) (profile : ProfileValue) where
  abbrev two : ProfileValue
  two = in_format_two profile

  -- frames were compared and written
  pub record Running (first now : ShelfState) (slot : ℕ) (before took : List ℕ → Type 0) (old reader : FrameReader)
      (recording : Recording S G E L P) (more : List ℕ) (done : List Frame) : Type 0 where
    pub compared : HasCompared m profile first now slot old reader recording more done
    pub grew : Grew before took (spelled two (so_far m profile done))

  -- ---- a frame

  -- the difference of a frame from what is given in its place, in the record's format
  abbrev pub differs : List Frame → Frame → Option Difference
  differs done frame = frame_difference (length done) frame (rerun_frame m profile (inputs_of done) frame)

  -- what is written in the place of a frame
  abbrev pub piece : List Frame → Frame → List ℕ
  piece done frame = unless_last frame (spelled_frame two.format (rerun_frame m two (inputs_of done) frame))

  -- what a result says of a frame, in these terms
  pub takes-as : (answer result : Result (Option Difference) Failure) (number : ℕ) (format : Format) (other : ProfileValue)
      (done : List Frame) (frame : Frame) (goes_on : Type 0) (out : SinkRun) → answer ≡ result → number ≡ length done
      → format ≡ profile.format → other ≡ two
      → Takes answer (frame_difference number frame (in_format format (rerun_frame m other (inputs_of done) frame)))
      (unless_last frame (spelled_frame other.format (rerun_frame m other (inputs_of done) frame))) goes_on out
      → Takes result (differs done frame) (piece done frame) goes_on out
  takes-as answer result number format other done frame goes_on out is at in_format_of same h =
      let differ : frame_difference number frame (in_format format (rerun_frame m other (inputs_of done) frame)) ≡ differs done frame =
      (λ i. frame_difference (at i) frame (in_format (in_format_of i) (rerun_frame m (same i) (inputs_of done) frame)))
      ∙ ap (frame_difference (length done) frame) (rerun_frame_in m profile (inputs_of done) frame) in
      subst (λ (d : Option Difference). Takes result d (piece done frame) goes_on out) differ
      (subst (λ (q : ProfileValue). Takes result
      (frame_difference number frame (in_format format (rerun_frame m other (inputs_of done) frame)))
      (unless_last frame (spelled_frame q.format (rerun_frame m q (inputs_of done) frame))) goes_on out) same
      (subst (λ (r : Result (Option Difference) Failure). Takes r (frame_difference number frame (in_format format
      (rerun_frame m other (inputs_of done) frame)))
      (unless_last frame (spelled_frame other.format (rerun_frame m other (inputs_of done) frame))) goes_on out) is h))

  pub so_far-grows : (done : List Frame) (frame : Frame)
      → spelled two (so_far m profile (done ++ frame ∷ [])) ≡ spelled two (so_far m profile done) ++ piece done frame
  so_far-grows done frame =
      so_far-next m profile done frame
      ∙ ap (λ (bytes : List ℕ). spelled two (so_far m profile done) ++ bytes)
      (ap (flat_map (spelled_frame two.format)) (append-nil _) ∙ spelled-kept m two two (inputs_of done) frame)

  -- one frame more was compared and written
  pub running-next : {first mid now : ShelfState} {slot : ℕ} {before took : List ℕ → Type 0} {old reader : FrameReader}
      {recording : Recording S G E L P} {more : List ℕ} {done : List Frame}
      → Running first mid slot before took old reader recording more done → (next : FrameReader) (frame : Frame)
      → (n : Next m profile first now slot old next done (Ok (Some frame))) (later : Recording S G E L P) (after : List ℕ → Type 0)
      → differs done frame ≡ None → Grew took after (piece done frame)
      → IsEngineAfter m later (inputs_of done ++ input_of frame)
      → Running first now slot before after old next later n.all (done ++ frame ∷ [])
  running-next {before = before} {done = done} running next frame n later after same grew behind = record {
    compared = compared-then n running.compared behind same;
    grew = subst (Grew before after) (sym (so_far-grows done frame)) (grew-then running.grew grew);
  }

  -- ---- traffic

  -- no write failed where the reader stopped
  pub no-write : {first now : ShelfState} {slot : ℕ} {old next : FrameReader} {done : List Frame} (why : Stopped RecordFault)
      (read : List ℕ) → StandsFor old read (items.Header profile ∷ []) → Next m profile first now slot old next done (Err why)
      → (sink : SinkRun) → SinkTraffic sink None → SinkTraffic sink (failure_in {A = CheckVerdict} (Err why))
  no-write (Refused fault) read stands n sink t = t
  no-write (Failed Read) read stands n sink t = record { cause = λ e. cc; counted = t.counted }
  no-write (Failed Write) read stands n sink t = absurd (n.is read stands)
  no-write (Failed OutOfMemory) read stands n sink t = record { cause = λ e. cc; counted = t.counted }

-- no read failed where a frame wasn't taken
pub no-read : (failure : Failure) (difference : Option Difference) (bytes : List ℕ) (goes_on : Type 0) (shelf : ShelfRun) (out : SinkRun)
    → Takes (Err failure) difference bytes goes_on out → ShelfTraffic shelf None → ShelfTraffic shelf (Some failure)
no-read Read difference bytes goes_on shelf out h t = absurd h
no-read Write difference bytes goes_on shelf out h t = record { cause = λ e. cc; counted = t.counted; stays = t.stays }
no-read OutOfMemory difference bytes goes_on shelf out h t = record { cause = λ e. cc; counted = t.counted; stays = t.stays }
