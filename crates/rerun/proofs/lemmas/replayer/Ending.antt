-- How a record that is run again ends.
use Rattle.std.proofs.Common.{◌≡◌, inl, inr, ℕ, List, [], ◌∷◌, ◌++◌, refl, sym, ap, subst, ◌∙◌}
use Rattle.std.specs.Prelude.{true, false, Option, Some, None, Result, Ok, Err}
use Rattle.std.specs.Option.{is_none}
use Rattle.std.specs.List.{flat_map}
use Rattle.det_values.specs.Values.{ProfileValue}
use Rattle.det_values.specs.declared.frames.CycleInput.{CycleInput}
use Rattle.det_values.specs.declared.frames.Frame.TheVariants.{Run, Terminate}
use Rattle.det_io.specs.Prefix.{IsPrefix}
use Rattle.det_io.specs.Sink.{Grew, GrewByPrefix, GrewShort}
use Rattle.det_io.specs.Shelf.{ShelfState, Reads, IsAtEnd}
use Rattle.det_io.specs.Traffic.{ShelfRun, SinkRun}
use Rattle.det_io.specs.declared.failure.Failure.{Failure}
use Rattle.det_io.specs.declared.failure.Failure.TheVariants.{Read, Write, OutOfMemory}
use Rattle.det_io.specs.declared.failure.Stopped.{Stopped}
use Rattle.det_io.specs.declared.failure.Stopped.TheVariants.{Refused, Failed}
use Rattle.det_io.proofs.Prefixes.{prefix-none}
use Rattle.det_io.proofs.Growth.{grew-then, grew-same, grew-then-short, part-whole, part-wider, part-none, short-wider}
use Rattle.det_io.proofs.SlotReads.{reads-none}
use Rattle.job.specs.Meaning.{Meaning}
use Rattle.cycle_engine.specs.Frames.{runs}
use Rattle.record_grammar.specs.declared.record_fault.RecordFault.{RecordFault}
use Rattle.record_grammar.specs.declared.item.Item.{Item}
use Rattle.record_grammar.specs.declared.item.Item.TheVariants as items
use Rattle.record_grammar.specs.Record.{fault as fault_in}
use Rattle.record_grammar.specs.Spelling.{spelled_frame}
use Rattle.record_reader.specs.declared.frame_reader.FrameReader.{FrameReader}
use Rattle.record_reader.specs.Frames.{StandsFor}
use Rattle.recorder.specs.declared.run_writer.counts.Counts.{Counts}
use Rattle.recorder.specs.declared.run_writer.recording.Recording.{Recording}
use Rattle.recorder.specs.run_writer.Record.{Counted, record_with, opening}
use Rattle.recorder.specs.run_writer.Recording.{Cuts}
use Rattle.recorder.proofs.lemmas.run_writer.Growing.{record-opened, record-next, record-ended, record-front}
use Rattle.rerun.specs.replayer.ReplayRecord.{input_in, inputs, is_whole, replay_record}
use Rattle.rerun.specs.replayer.ReplayEnds.{Finishes, Stops, Answers, ReadsTo, Ended}
use Rattle.rerun.proofs.Reading.{at_record, by-slot}
use Rattle.rerun.proofs.lemmas.replayer.Giving.{inputs-first}
use Rattle.rerun.proofs.lemmas.replayer.Running.{IsNeeded, Running, Next, next_run}

module _ {S G E L P : Type 0} (m : Meaning S G E L P) (profile : ProfileValue) where
  ended : {result : Result Counts (Stopped RecordFault)} {read more : List ℕ} {shelf : ShelfRun} {slot : ℕ} {out : SinkRun}
      → Reads shelf.first shelf.last slot more → IsNeeded read more
      → ReadsTo m profile result (read ++ more) (IsAtEnd shelf.last slot) out
      → ((rest : List ℕ) → (IsAtEnd shelf.last slot → rest ≡ []) → Answers m profile result ((read ++ more) ++ rest) out)
      → Ended m profile result read more shelf slot out
  ended {result} {read} {out = out} reads needed to each =
      record { reads_to = to; needed = needed; answers = by-slot read (λ bytes. Answers m profile result bytes out) reads each }

  -- ---- the record that is written

  replay_record-is : (bytes : List ℕ) (given : List CycleInput) (end : Option RecordFault) → inputs bytes ≡ given → fault_in bytes ≡ end
      → replay_record m profile bytes ≡ record_with m profile given (is_none end)
  replay_record-is bytes given end is ends =
      ap (λ (f : Option RecordFault). record_with m profile (inputs bytes) (is_none f)) ends
      ∙ ap (λ (xs : List CycleInput). record_with m profile xs (is_none end)) is

  within : (given : List CycleInput) (bytes : List ℕ) → IsPrefix given (inputs bytes)
      → IsPrefix (record_with m profile given false) (replay_record m profile bytes)
  within given bytes first = record-front m profile given (inputs bytes) (is_whole bytes) first

  part-of : (out : SinkRun) (given : List CycleInput) (bytes : List ℕ) → IsPrefix given (inputs bytes)
      → Grew out.before out.after (record_with m profile given false) → GrewByPrefix out.before out.after (replay_record m profile bytes)
  part-of out given bytes first grew =
      part-wider out.before out.after (record_with m profile given false) (replay_record m profile bytes)
      (part-whole out.before out.after (record_with m profile given false) grew) (within given bytes first)

  short-of : (out : SinkRun) (given : List CycleInput) (bytes : List ℕ) → IsPrefix given (inputs bytes)
      → GrewShort out.before out.after (record_with m profile given false) → GrewShort out.before out.after (replay_record m profile bytes)
  short-of out given bytes first grew =
      short-wider out.before out.after (record_with m profile given false) (replay_record m profile bytes) grew (within given bytes first)

  stops-at : (out : SinkRun) (bytes : List ℕ) (given : List CycleInput) (fault : RecordFault) → inputs bytes ≡ given
      → fault_in bytes ≡ Some fault → Grew out.before out.after (record_with m profile given false) → Stops m profile bytes fault out
  stops-at out bytes given fault is has grew = record {
    has = has;
    grew = subst (Grew out.before out.after) (sym (replay_record-is bytes given (Some fault) is has)) grew;
  }

  -- ---- the results

  -- the opening wasn't written
  pub open-failed : (read : List ℕ) (slot : ℕ) (state : ShelfState) (stays : Type 0) (out : SinkRun) (failure : Failure)
      → Cuts failure out.before out.after (opening m profile)
      → Ended m profile (Err (Failed failure)) read [] (record { first = state; last = state; stays = stays }) slot out
  open-failed read slot state stays out Read cut = absurd cut
  open-failed read slot state stays out Write cut = ended (reads-none state slot) (inl refl) tt (λ rest end.
      short-of out [] ((read ++ []) ++ rest) (prefix-none _) (subst (GrewShort out.before out.after) (sym (record-opened m profile)) cut))
  open-failed read slot state stays out OutOfMemory cut = ended (reads-none state slot) (inl refl) tt (λ rest end.
      part-none out.before out.after (replay_record m profile ((read ++ []) ++ rest)) cut)

  module _ (slot : ℕ) (shelf : ShelfRun) (out : SinkRun) where
    module _ {mid : ShelfState} {took : List ℕ → Type 0} {old reader : FrameReader} {recording : Recording S G E L P} {more : List ℕ}
        {given : List CycleInput} (running : Running m profile shelf.first mid slot out.before took old reader recording more given)
        (next : FrameReader) (read : List ℕ) (stands : StandsFor old read (items.Header profile ∷ [])) where
      -- the next run wasn't written
      pub cycle-failed : (input : CycleInput) (failure : Failure)
          → (n : Next m profile shelf.first shelf.last slot old next given (Ok (Some input)))
          → Cuts failure took out.after (spelled_frame profile.format (Run (next_run m profile given input)))
          → Ended m profile (Err (Failed failure)) read n.all shelf slot out
      cycle-failed input Read n cut = absurd cut
      cycle-failed input Write n cut = ended n.reads (n.needed read stands) tt (λ rest end.
          short-of out (given ++ input ∷ []) ((read ++ n.all) ++ rest) (inputs-first (n.is read stands).0 rest)
          (subst (GrewShort out.before out.after) (sym (record-next m profile given input))
          (grew-then-short out.before took out.after _ _ running.grew cut)))
      cycle-failed input OutOfMemory n cut = ended n.reads (n.needed read stands) tt (λ rest end.
          part-of out given ((read ++ n.all) ++ rest) (n.front read stands rest) (grew-same running.grew cut))

      -- Terminate wasn't written
      pub close-failed : (failure : Failure) → (n : Next m profile shelf.first shelf.last slot old next given (Ok None))
          → Cuts failure took out.after (spelled_frame profile.format Terminate)
          → Ended m profile (Err (Failed failure)) read n.all shelf slot out
      close-failed Read n cut = absurd cut
      close-failed Write n cut =
          let whole = (n.is read stands).1 in
          let is = replay_record-is (read ++ n.all) given None whole.inputs whole.whole ∙ record-ended m profile given in
          ended n.reads (n.needed read stands) tt (λ rest end.
          at_record (λ bytes. GrewShort out.before out.after (replay_record m profile bytes)) (read ++ n.all) rest (end whole.end)
          (subst (GrewShort out.before out.after) (sym is) (grew-then-short out.before took out.after _ _ running.grew cut)))
      close-failed OutOfMemory n cut = ended n.reads (n.needed read stands) tt (λ rest end.
          part-of out given ((read ++ n.all) ++ rest) (n.front read stands rest) (grew-same running.grew cut))

      -- the record is whole
      pub closed : (counts : Counts) → (n : Next m profile shelf.first shelf.last slot old next given (Ok None))
          → Counted counts (runs m profile given) (record_with m profile given true)
          → Grew took out.after (spelled_frame profile.format Terminate)
          → Ended m profile (Ok counts) read n.all shelf slot out
      closed counts n counted grew =
          let whole = (n.is read stands).1 in
          let is = replay_record-is (read ++ n.all) given None whole.inputs whole.whole in
          let finishes : Finishes m profile (read ++ n.all) counts out = record {
            whole = whole.whole;
            grew = subst (Grew out.before out.after) (sym (is ∙ record-ended m profile given)) (grew-then running.grew grew);
            counted = rw (is, whole.inputs) counted;
          } in
          ended n.reads (n.needed read stands) whole.end (λ rest end.
          at_record (λ bytes. Finishes m profile bytes counts out) (read ++ n.all) rest (end whole.end) finishes)

    -- the record has a fault, or the reader failed
    pub reading-stopped : {mid : ShelfState} {old reader : FrameReader} {recording : Recording S G E L P} {more : List ℕ}
        {given : List CycleInput} (next : FrameReader) (read : List ℕ) (stands : StandsFor old read (items.Header profile ∷ []))
        (why : Stopped RecordFault)
        → Running m profile shelf.first mid slot out.before out.after old reader recording more given
        → (n : Next m profile shelf.first shelf.last slot old next given (Err why))
        → Ended m profile (Err why) read n.all shelf slot out
    reading-stopped {given = given} next read stands (Refused fault) running n =
        let bytes = read ++ n.all in
        let has = n.is read stands in
        ended n.reads (n.needed read stands) has.found (λ rest end.
        elim has.found.found as (λ _. Stops m profile (bytes ++ rest) fault out) [
          | inl stays ↦ stops-at out (bytes ++ rest) given fault
              (ap (λ (xs : List Item). flat_map input_in xs) (stays rest).0 ∙ has.inputs) (stays rest).1 running.grew
          | inr at ↦ at_record (λ all. Stops m profile all fault out) bytes rest (end at)
              (stops-at out bytes given fault has.inputs has.found.is running.grew)
        ])
    reading-stopped {given = given} next read stands (Failed Read) running n =
        let has = (n.is read stands).1 in
        ended n.reads (n.needed read stands) (
          has.sound,
          subst (λ (xs : List CycleInput). Grew out.before out.after (record_with m profile xs false)) (sym has.inputs) running.grew,
        ) (λ rest end. part-of out given ((read ++ n.all) ++ rest) (n.front read stands rest) running.grew)
    reading-stopped next read stands (Failed Write) running n = absurd (n.is read stands)
    reading-stopped {given = given} next read stands (Failed OutOfMemory) running n = ended n.reads (n.needed read stands) tt (λ rest end.
        part-of out given ((read ++ n.all) ++ rest) (n.front read stands rest) running.grew)
