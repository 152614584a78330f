-- How a record that is upgraded ends.
use Rattle.std.proofs.Common.{◌≡◌, inl, inr, ℕ, List, [], ◌∷◌, ◌++◌, length, map, refl, sym, ap, subst, ◌∙◌, append_assoc, append-nil}
use Rattle.std.specs.Prelude.{Bool, false, Option, Some, None, Result, Ok, Err}
use Rattle.std.specs.Option.{is_none}
use Rattle.det_values.specs.Values.{ProfileValue}
use Rattle.det_values.specs.declared.frames.Frame.{Frame}
use Rattle.det_values.specs.declared.frames.Frame.TheVariants.{Terminate}
use Rattle.det_io.specs.Sink.{Grew, GrewByPrefix, GrewShort, Same}
use Rattle.det_io.specs.Shelf.{ShelfState, Reads, IsAtEnd}
use Rattle.det_io.specs.Traffic.{ShelfRun, SinkRun}
use Rattle.det_io.specs.declared.failure.Failure.{Failure}
use Rattle.det_io.specs.declared.failure.Failure.TheVariants.{Read, Write, OutOfMemory}
use Rattle.det_io.specs.declared.failure.Stopped.{Stopped}
use Rattle.det_io.specs.declared.failure.Stopped.TheVariants.{Refused, Failed}
use Rattle.det_io.proofs.Growth.{grew-then, grew-same, grew-then-short, part-whole, part-wider, part-none, short-wider}
use Rattle.det_io.proofs.SlotReads.{reads-none}
use Rattle.job.specs.Meaning.{Meaning}
use Rattle.record_grammar.specs.declared.record_fault.RecordFault.{RecordFault}
use Rattle.record_grammar.specs.declared.item.Item.TheVariants as items
use Rattle.record_grammar.specs.Record.{items as items_in, fault as fault_in}
use Rattle.record_grammar.specs.Spelling.{spelled, spelled_frame}
use Rattle.record_reader.specs.declared.frame_reader.FrameReader.{FrameReader}
use Rattle.record_reader.specs.item_reader.StandsFor.{IsFaulty}
use Rattle.record_reader.specs.Frames.{StandsFor}
use Rattle.record_reader.proofs.ItemTaker.{told}
use Rattle.copies.specs.declared.difference.Difference.{Difference}
use Rattle.recorder.specs.declared.run_writer.recording.Recording.{Recording}
use Rattle.recorder.specs.run_writer.Recording.{Cuts}
use Rattle.rerun.specs.replayer.ReplayRecord.{inputs}
use Rattle.copies.specs.declared.check_verdict.CheckVerdict.{CheckVerdict}
use Rattle.copies.specs.declared.check_verdict.CheckVerdict.TheVariants.{Genuine, Departs}
use Rattle.rerun.specs.checker.Departure.{departure}
use Rattle.rerun.specs.checker.Needed.{IsNeeded}
use Rattle.rerun.specs.checker.CheckVerdict.{verdict_by, check_verdict}
use Rattle.rerun.specs.upgrader.Frames.{Takes}
use Rattle.rerun.specs.upgrader.UpgradedRecord.{in_format_two, upgraded_with, upgraded}
use Rattle.rerun.specs.upgrader.UpgradeEnds.{Answers, ReadsTo, Ended, IsUpgraded}
use Rattle.rerun.proofs.Reading.{at_record, by-slot}
use Rattle.rerun.proofs.lemmas.checker.Departing.{inputs_of}
use Rattle.rerun.proofs.lemmas.checker.Records.{frames-are}
use Rattle.rerun.proofs.lemmas.checker.Running.{items_with, Next}
use Rattle.rerun.proofs.lemmas.upgrader.Order.{AreFrames, are_frames}
use Rattle.rerun.proofs.lemmas.upgrader.Records.{Agree, agree-next, so_far, so_far-first, header-first, Departed, departed, AllDone}
use Rattle.rerun.proofs.lemmas.upgrader.Records.{all-done}
use Rattle.rerun.proofs.lemmas.upgrader.Going.{compared-first, next-first, Running, differs, piece, so_far-grows}

-- these are all frames of a record
all-frames : (profile : ProfileValue) (bytes : List ℕ) (done : List Frame) → items_in bytes ≡ items_with profile done
    → AreFrames profile bytes done
all-frames profile bytes done is = subst (AreFrames profile bytes) (frames-are done) (are_frames profile bytes (map items.Frame done) is)

module _ {S G E L P : Type 0} (m : Meaning S G E L P) (profile : ProfileValue) where
  abbrev two : ProfileValue
  two = in_format_two profile

  ended : {result : Result CheckVerdict (Stopped RecordFault)} {read more : List ℕ} {shelf : ShelfRun} {slot : ℕ} {out : SinkRun}
      → Reads shelf.first shelf.last slot more → IsNeeded m profile read more
      → ReadsTo m profile result (read ++ more) (IsAtEnd shelf.last slot) out
      → ((rest : List ℕ) → (IsAtEnd shelf.last slot → rest ≡ []) → Answers m profile result ((read ++ more) ++ rest) out)
      → Ended m profile result read more shelf slot out
  ended {result} {read} {out = out} reads needed to each =
      record { reads_to = to; needed = needed; answers = by-slot read (λ bytes. Answers m profile result bytes out) reads each }

  pub as-told : {result : Result CheckVerdict (Stopped RecordFault)} {before : List ℕ} {shelf : ShelfRun} {slot : ℕ} {out : SinkRun}
      (more : List ℕ) → Ended m profile result before more shelf slot out → IsUpgraded m profile before slot shelf out result
  as-told {result} {before} {out = out} more h = record {
    told = told (λ (rest : List ℕ). Answers m profile result (before ++ rest) out) h.answers;
    run = (more, h);
  }

  -- ---- a record by what was done of it

  verdict-is : (bytes : List ℕ) (at : Option Difference) (end : Option RecordFault) → departure m profile bytes ≡ at
      → fault_in bytes ≡ end → check_verdict m profile bytes ≡ verdict_by at end (length (inputs bytes))
  verdict-is bytes at end departs ends = λ i. verdict_by (departs i) (ends i) (length (inputs bytes))

  part-of : (out : SinkRun) (done more : List Frame) (bytes : List ℕ) → AreFrames profile bytes (done ++ more) → Agree m profile done
      → Grew out.before out.after (spelled two (so_far m profile done)) → GrewByPrefix out.before out.after (upgraded m profile bytes)
  part-of out done more bytes are agree grew =
      part-wider out.before out.after (spelled two (so_far m profile done)) (upgraded m profile bytes)
      (part-whole out.before out.after (spelled two (so_far m profile done)) grew)
      (so_far-first m profile bytes done more (is_none (fault_in bytes)) are agree)

  -- the record has a fault, and no difference before it
  faulty : (bytes : List ℕ) (done : List Frame) (fault : RecordFault) (out : SinkRun)
      → items_in bytes ≡ items_with profile done → fault_in bytes ≡ Some fault
      → Agree m profile done → Grew out.before out.after (spelled two (so_far m profile done))
      → Answers m profile (Err (Refused fault)) bytes out
  faulty bytes done fault out is has agree grew =
      let all = all-done m profile bytes done (all-frames profile bytes done is) agree in (
        verdict-is bytes None (Some fault) all.departure has,
        subst (Grew out.before out.after)
            (sym (ap (λ (end : Option RecordFault). upgraded_with m profile bytes (is_none end)) has ∙ all.upgraded)) grew,
      )

  -- ---- the results

  -- the header wasn't written
  pub header-failed : (read : List ℕ) (slot : ℕ) (state : ShelfState) (stays : Type 0) (out : SinkRun) (failure : Failure)
      → Cuts failure out.before out.after (spelled two [])
      → Ended m profile (Err (Failed failure)) read [] (record { first = state; last = state; stays = stays }) slot out
  header-failed read slot state stays out Read cut = absurd cut
  header-failed read slot state stays out Write cut = ended (reads-none state slot) (inl refl) tt (λ rest end.
      short-wider out.before out.after (spelled two []) (upgraded m profile ((read ++ []) ++ rest)) cut (header-first m profile _ _))
  header-failed read slot state stays out OutOfMemory cut = ended (reads-none state slot) (inl refl) tt (λ rest end.
      part-none out.before out.after (upgraded m profile ((read ++ []) ++ rest)) cut)

  module _ (slot : ℕ) (shelf : ShelfRun) (out : SinkRun) {mid : ShelfState} {took : List ℕ → Type 0} {old reader : FrameReader}
      {recording : Recording S G E L P} {more : List ℕ} {done : List Frame}
      (running : Running m profile shelf.first mid slot out.before took old reader recording more done) (next : FrameReader)
      (read : List ℕ) (stands : StandsFor old read (items.Header profile ∷ [])) where
    agree : Agree m profile done
    agree = running.compared.agree

    -- the frame that was read isn't what is given
    pub departs : (frame : Frame) (n : Next m profile shelf.first shelf.last slot old next done (Ok (Some frame))) (at : Difference)
        → differs m profile done frame ≡ Some at → Same took out.after
        → Ended m profile (Ok (Departs at)) read n.all shelf slot out
    departs frame n at differ same =
        let by : (rest : List ℕ) (is_ended : Bool) → Departed m profile ((read ++ n.all) ++ rest) done at is_ended =
        λ rest is_ended.
        let all = next-first n read stands rest in
        departed m profile ((read ++ n.all) ++ rest) done all.0 frame at is_ended
        (subst (AreFrames profile ((read ++ n.all) ++ rest)) (append_assoc done (frame ∷ []) all.0) all.1) agree differ in
        let here = subst (λ (bytes : List ℕ). departure m profile bytes ≡ Some at) (append-nil (read ++ n.all)) (by [] false).departure in
        ended n.reads (n.needed read stands) here (λ rest end.
        let bytes = (read ++ n.all) ++ rest in
        let d = by rest (is_none (fault_in bytes)) in (
          verdict-is bytes (Some at) (fault_in bytes) d.departure refl,
          subst (Grew out.before out.after) (sym d.upgraded) (grew-same running.grew same),
        ))

    -- the frame wasn't taken
    pub take-failed : (frame : Frame) (n : Next m profile shelf.first shelf.last slot old next done (Ok (Some frame)))
        (failure : Failure) (goes_on : Type 0) (step : SinkRun)
        → step.before ≡ took → step.after ≡ out.after
        → Takes (Err failure) (differs m profile done frame) (piece m profile done frame) goes_on step
        → Ended m profile (Err (Failed failure)) read n.all shelf slot out
    take-failed frame n Read goes_on step before after h = absurd h
    take-failed frame n Write goes_on step before after h =
        let short : GrewShort took out.after (piece m profile done frame) =
        subst (λ (b : List ℕ → Type 0). GrewShort b out.after (piece m profile done frame)) before
        (subst (λ (a : List ℕ → Type 0). GrewShort step.before a (piece m profile done frame)) after h.1) in
        ended n.reads (n.needed read stands) tt (λ rest end.
        let all = next-first n read stands rest in
        let bytes = (read ++ n.all) ++ rest in
        short-wider out.before out.after (spelled two (so_far m profile (done ++ frame ∷ []))) (upgraded m profile bytes)
        (subst (GrewShort out.before out.after) (sym (so_far-grows m profile done frame))
        (grew-then-short out.before took out.after _ _ running.grew short))
        (so_far-first m profile bytes (done ++ frame ∷ []) all.0 (is_none (fault_in bytes)) all.1
        (agree-next m profile done frame agree h.0)))
    take-failed frame n OutOfMemory goes_on step before after h =
        let same : Same took out.after =
        subst (λ (b : List ℕ → Type 0). Same b out.after) before (subst (λ (a : List ℕ → Type 0). Same step.before a) after h) in
        ended n.reads (n.needed read stands) tt (λ rest end.
        let all = compared-first n read stands rest in
        part-of out done all.0 ((read ++ n.all) ++ rest) all.1 agree (grew-same running.grew same))

    module _ (n : Next m profile shelf.first shelf.last slot old next done (Ok None)) where
      whole-done : AllDone m profile (read ++ n.all) done
      whole-done =
          all-done m profile (read ++ n.all) done (all-frames profile (read ++ n.all) done (n.is read stands).2) agree

      whole-is : upgraded m profile (read ++ n.all) ≡ spelled two (so_far m profile done) ++ spelled_frame two.format Terminate
      whole-is =
          let whole = (n.is read stands).3 in
          ap (λ (end : Option RecordFault). upgraded_with m profile (read ++ n.all) (is_none end)) whole ∙ whole-done.ended whole

      -- Terminate wasn't written
      pub close-failed : (failure : Failure) → Cuts failure took out.after (spelled_frame two.format Terminate)
          → Ended m profile (Err (Failed failure)) read n.all shelf slot out
      close-failed Read cut = absurd cut
      close-failed Write cut = ended n.reads (n.needed read stands) tt (λ rest end.
          at_record (λ bytes. GrewShort out.before out.after (upgraded m profile bytes)) (read ++ n.all) rest
          (end (n.is read stands).1)
          (subst (GrewShort out.before out.after) (sym whole-is) (grew-then-short out.before took out.after _ _ running.grew cut)))
      close-failed OutOfMemory cut = ended n.reads (n.needed read stands) tt (λ rest end.
          let all = compared-first n read stands rest in
          part-of out done all.0 ((read ++ n.all) ++ rest) all.1 agree (grew-same running.grew cut))

      -- the record is whole
      pub closed : (cycles : ℕ) → cycles ≡ length (inputs_of done) → Grew took out.after (spelled_frame two.format Terminate)
          → Ended m profile (Ok (Genuine cycles)) read n.all shelf slot out
      closed cycles counted grew =
          let is = n.is read stands in
          let all = read ++ n.all in
          let are = all-frames profile all done is.2 in
          ended n.reads (n.needed read stands) is.1 (λ rest end.
          at_record (λ bytes. Answers m profile (Ok (Genuine cycles)) bytes out) all rest (end is.1) (
            verdict-is all None None whole-done.departure is.3
                ∙ ap (λ (k : ℕ). Ok (Genuine k)) (ap length are.inputs ∙ sym counted),
            subst (Grew out.before out.after) (sym whole-is) (grew-then running.grew grew),
          ))

    -- the record has a fault, or the reader failed
    pub reading-stopped : (why : Stopped RecordFault) → took ≡ out.after
        → (n : Next m profile shelf.first shelf.last slot old next done (Err why))
        → Ended m profile (Err why) read n.all shelf slot out
    reading-stopped (Refused fault) same n =
        let all = read ++ n.all in
        let is = n.is read stands in
        let grew = subst (λ (t : List ℕ → Type 0). Grew out.before t (spelled two (so_far m profile done))) same running.grew in
        let stays : IsFaulty fault all (items_with profile done) → (rest : List ℕ)
        → Answers m profile (Err (Refused fault)) (all ++ rest) out =
        λ stays rest. faulty (all ++ rest) done fault out (stays rest).0 (stays rest).1 agree grew in
        ended n.reads (n.needed read stands)
        (elim is.0.found as (λ _. ReadsTo m profile (Err (Refused fault)) all (IsAtEnd shelf.last slot) out) [
          | inl s ↦ inl (λ rest. (stays s rest).0)
          | inr at ↦ inr at
        ]) (λ rest end. elim is.0.found as (λ _. Answers m profile (Err (Refused fault)) (all ++ rest) out) [
          | inl s ↦ stays s rest
          | inr at ↦ at_record (λ bytes. Answers m profile (Err (Refused fault)) bytes out) all rest (end at)
              (faulty all done fault out is.0.before is.0.is agree grew)
        ])
    reading-stopped (Failed Read) same n =
        let all = read ++ n.all in
        let is = n.is read stands in
        let grew = subst (λ (t : List ℕ → Type 0). Grew out.before t (spelled two (so_far m profile done))) same running.grew in
        let done_all = all-done m profile all done (all-frames profile all done is.1) agree in
        ended n.reads (n.needed read stands)
        (is.2, done_all.departure, subst (Grew out.before out.after) (sym done_all.upgraded) grew) (λ rest end.
        let front = compared-first n read stands rest in
        part-of out done front.0 (all ++ rest) front.1 agree grew)
    reading-stopped (Failed Write) same n = absurd (n.is read stands)
    reading-stopped (Failed OutOfMemory) same n = ended n.reads (n.needed read stands) tt (λ rest end.
        let front = compared-first n read stands rest in
        part-of out done front.0 ((read ++ n.all) ++ rest) front.1 agree
        (subst (λ (t : List ℕ → Type 0). Grew out.before t (spelled two (so_far m profile done))) same running.grew))
