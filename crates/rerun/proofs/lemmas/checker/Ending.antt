-- How a check ends.
use Rattle.std.proofs.Common.{◌≡◌, ◌⊎◌, inl, inr, ℕ, List, [], ◌∷◌, ◌++◌, length, Option, Some, None, Result, Ok, Err, sym, ap, subst, ◌∙◌}
use Rattle.std.proofs.Common.{append_assoc}
use Rattle.std.specs.List.{flat_map}
use Rattle.det_values.specs.Values.{ProfileValue}
use Rattle.det_values.specs.declared.frames.CycleInput.{CycleInput}
use Rattle.det_values.specs.declared.frames.RunFrame.{RunFrame}
use Rattle.det_values.specs.declared.frames.Frame.{Frame}
use Rattle.det_io.specs.Shelf.{ShelfState, Reads, IsAtEnd}
use Rattle.det_io.specs.Traffic.{ShelfRun}
use Rattle.det_io.specs.declared.failure.Failure.TheVariants.{Read, Write, OutOfMemory}
use Rattle.det_io.specs.declared.failure.Stopped.{Stopped}
use Rattle.det_io.specs.declared.failure.Stopped.TheVariants.{Refused, Failed}
use Rattle.job.specs.Meaning.{Meaning}
use Rattle.record_grammar.specs.declared.record_fault.RecordFault.{RecordFault}
use Rattle.record_grammar.specs.declared.item.Item.{Item}
use Rattle.record_grammar.specs.declared.item.Item.TheVariants as items
use Rattle.record_grammar.specs.Record.{items as items_in, fault as fault_in}
use Rattle.record_reader.specs.declared.frame_reader.FrameReader.{FrameReader}
use Rattle.record_reader.specs.item_reader.StandsFor.{IsFaulty, FoundFault}
use Rattle.record_reader.specs.Frames.{StandsFor}
use Rattle.record_reader.specs.ItemTaker.{OfSlot}
use Rattle.record_reader.proofs.FrameReading.{more_items}
use Rattle.record_reader.proofs.ItemTaker.{told}
use Rattle.probes.specs.Reports.{AudienceState}
use Rattle.probes.specs.Shows.{Shows, SawRuns}
use Rattle.probes.proofs.Shown.{shows-then, all-reports}
use Rattle.recorder.specs.declared.run_writer.recording.Recording.{Recording}
use Rattle.rerun.specs.replayer.ReplayRecord.{inputs}
use Rattle.copies.specs.declared.difference.Difference.{Difference}
use Rattle.copies.specs.FirstDifference.{frame_difference}
use Rattle.rerun.specs.declared.checker.frame_checker.FrameChecker.{FrameChecker}
use Rattle.copies.specs.declared.check_verdict.CheckVerdict.{CheckVerdict}
use Rattle.copies.specs.declared.check_verdict.CheckVerdict.TheVariants.{Genuine, Departs}
use Rattle.rerun.specs.checker.Departure.{frames_in, run_of, departure, checked_runs}
use Rattle.record_reader.specs.InItems.{frame_in}
use Rattle.rerun.specs.checker.RerunFrames.{rerun_frame}
use Rattle.rerun.specs.checker.Needed.{IsNeeded}
use Rattle.rerun.specs.checker.CheckVerdict.{verdict_by, check_verdict}
use Rattle.rerun.specs.checker.CheckRun.{Answers, ReadsTo, IsChecked}
use Rattle.rerun.proofs.Reading.{at_record, by-slot}
use Rattle.rerun.proofs.lemmas.checker.Departing.{inputs_of, departs, departs-one}
use Rattle.rerun.proofs.lemmas.checker.Records.{runs_of, inputs-are, frames-are, frames-behind, agree-all, agree-first, departs-at}
use Rattle.rerun.proofs.lemmas.checker.Running.{items_with, Comparing, Next}

-- these are all items of a record
frames-all : (profile : ProfileValue) (front : List Frame) (bytes : List ℕ) → items_in bytes ≡ items_with profile front
    → frames_in bytes ≡ front
frames-all profile front bytes is = ap (λ (xs : List Item). flat_map frame_in xs) is ∙ frames-are front

module _ {S G E L P : Type 0} (m : Meaning S G E L P) (profile : ProfileValue) where
  -- a record that begins with these items, of whose frames only the last one differs
  departed : (front others : List Frame) (frame : Frame) (at : Difference) (bytes : List ℕ) → frames_in bytes ≡ front ++ frame ∷ others
      → departs m profile 0 [] front ≡ None
      → frame_difference (length front) frame (rerun_frame m profile (inputs_of front) frame) ≡ Some at
      → (departure m profile bytes ≡ Some at) × (checked_runs m profile bytes ≡ runs_of front ++ run_of frame)
  departed front others frame at bytes is none differs =
      let one = departs-one m profile frame others (length front) (inputs_of front) at differs in
      departs-at m profile bytes front frame others at is none one.0 one.1

  module _ {start now : AudienceState} where
    ended : {result : Result CheckVerdict (Stopped RecordFault)} {read more : List ℕ} {shelf : ShelfRun} {slot : ℕ}
        → Reads shelf.first shelf.last slot more → IsNeeded m profile read more
        → ReadsTo m profile start now result (read ++ more) (IsAtEnd shelf.last slot)
        → ((rest : List ℕ) → (IsAtEnd shelf.last slot → rest ≡ []) → Answers m profile start now result ((read ++ more) ++ rest))
        → IsChecked m profile start now read slot shelf result
    ended {result} {read} {more} {shelf} {slot} reads needed to each =
        let all : OfSlot shelf slot more (λ bytes. Answers m profile start now result (read ++ bytes)) =
        by-slot read (λ bytes. Answers m profile start now result bytes) reads each in
        record {
          told = told (λ rest. Answers m profile start now result (read ++ rest)) all;
          run = (more, record { reads_to = to; needed = needed; answers = all });
        }

    -- if memory runs out, nothing is said
    unsaid : {read more : List ℕ} {shelf : ShelfRun} {slot : ℕ} → Reads shelf.first shelf.last slot more
        → IsNeeded m profile read more → IsChecked m profile start now read slot shelf (Err (Failed OutOfMemory))
    unsaid reads needed = ended reads needed tt (λ rest end. tt)

    -- the audience has seen all runs that are checked
    saw : (runs : List RunFrame) (bytes : List ℕ) → checked_runs m profile bytes ≡ runs → Shows start now runs
        → SawRuns start now (checked_runs m profile bytes)
    saw runs bytes is shown = subst (SawRuns start now) (sym is) (all-reports shown)

    -- a record with these items, none of whose frames differs, and this fault
    faulty : (front : List Frame) (fault : RecordFault) (bytes : List ℕ) → items_in bytes ≡ items_with profile front
        → fault_in bytes ≡ Some fault → departs m profile 0 [] front ≡ None → Shows start now (runs_of front)
        → Answers m profile start now (Err (Refused fault)) bytes
    faulty front fault bytes is has none shown =
        let all = agree-all m profile bytes front (frames-all profile front bytes is) none in (
          (λ i. verdict_by (all.0 i) (has i) (length (inputs bytes))),
          saw (runs_of front) bytes all.1 shown,
        )

    -- the same of a whole record
    whole : (front : List Frame) (cycles : ℕ) (bytes : List ℕ) → items_in bytes ≡ items_with profile front → fault_in bytes ≡ None
        → departs m profile 0 [] front ≡ None → cycles ≡ length (inputs_of front) → Shows start now (runs_of front)
        → Answers m profile start now (Ok (Genuine cycles)) bytes
    whole front cycles bytes is has none count shown =
        let frames_are = frames-all profile front bytes is in
        let all = agree-all m profile bytes front frames_are none in
        let counted : length (inputs bytes) ≡ cycles =
        ap (λ (l : List CycleInput). length l) (inputs-are (items_in bytes) ∙ ap (λ (l : List Frame). inputs_of l) frames_are)
        ∙ sym count in (
          (λ i. verdict_by (all.0 i) (has i) (counted i)),
          saw (runs_of front) bytes all.1 shown,
        )

  module _ (slot : ℕ) (shelf : ShelfRun) (start : AudienceState) {mid : ShelfState} {seen : AudienceState} {old reader : FrameReader}
      {recording : Recording S G E L P} {checker : FrameChecker} {more : List ℕ} {front : List Frame}
      (comparing : Comparing m profile shelf.first mid slot start seen old reader recording checker more front)
      (next : FrameReader) (read : List ℕ) (stands : StandsFor old read (items.Header profile ∷ [])) where
    -- the record has a fault, or the reader failed
    pub reading-stopped : (why : Stopped RecordFault) → (n : Next m profile shelf.first shelf.last slot old next front (Err why))
        → IsChecked m profile start seen read slot shelf (Err why)
    reading-stopped (Refused fault) n =
        let bytes = read ++ n.all in
        let found = (n.is read stands).0 in
        ended n.reads (n.needed read stands) (by found.found) (λ rest end.
        faulty front fault (bytes ++ rest) (behind found rest end).0 (behind found rest end).1
        comparing.so_far.agree comparing.shown)
      where
        by : IsFaulty fault (read ++ n.all) (items_with profile front) ⊎ IsAtEnd shelf.last slot
            → ((rest : List ℕ) → check_verdict m profile ((read ++ n.all) ++ rest) ≡ Err fault) ⊎ IsAtEnd shelf.last slot
        by (inl stays) = inl (λ rest. (faulty front fault ((read ++ n.all) ++ rest) (stays rest).0 (stays rest).1 comparing.so_far.agree
            comparing.shown).0)
        by (inr at) = inr at

        behind : FoundFault fault (IsAtEnd shelf.last slot) (read ++ n.all) (items_with profile front) → (rest : List ℕ)
            → (IsAtEnd shelf.last slot → rest ≡ []) → (items_in ((read ++ n.all) ++ rest) ≡ items_with profile front)
            × (fault_in ((read ++ n.all) ++ rest) ≡ Some fault)
        behind found rest end = elim found.found [
          | inl stays ↦ stays rest
          | inr at ↦ at_record (λ bytes. (items_in bytes ≡ items_with profile front) × (fault_in bytes ≡ Some fault)) (read ++ n.all) rest
              (end at) (found.before, found.is)
        ]
    reading-stopped (Failed Read) n =
        let bytes = read ++ n.all in
        let is = n.is read stands in
        let all = agree-all m profile bytes front (frames-all profile front bytes is.1) comparing.so_far.agree in
        ended n.reads (n.needed read stands) (is.2, all.0) (λ rest end.
        let others = more_items next bytes (items_with profile front) is.0 rest in
        record {
          seen = runs_of front;
          first = agree-first m profile (bytes ++ rest) front (flat_map frame_in others.0)
              (frames-behind profile front others.0 (items_in (bytes ++ rest)) others.1) comparing.so_far.agree;
          saw = all-reports comparing.shown;
        })
    reading-stopped (Failed Write) n = absurd (n.is read stands)
    reading-stopped (Failed OutOfMemory) n = unsaid n.reads (n.needed read stands)

    -- the record is whole
    pub all-agree : (n : Next m profile shelf.first shelf.last slot old next front (Ok None))
        → IsChecked m profile start seen read slot shelf (Ok (Genuine checker.cycles))
    all-agree n =
        let is = n.is read stands in
        ended n.reads (n.needed read stands) is.1 (λ rest end.
        at_record (λ bytes. Answers m profile start seen (Ok (Genuine checker.cycles)) bytes)
        (read ++ n.all) rest (end is.1)
        (whole front checker.cycles (read ++ n.all) is.2 is.3 comparing.so_far.agree comparing.cycles comparing.shown))

    -- a frame differs
    pub one-differs : {shown : AudienceState} (frame : Frame) (at : Difference)
        → (n : Next m profile shelf.first shelf.last slot old next front (Ok (Some frame)))
        → frame_difference checker.compared frame (rerun_frame m profile (inputs_of front) frame) ≡ Some at
        → Shows seen shown (run_of frame) → IsChecked m profile start shown read slot shelf (Ok (Departs at))
    one-differs {shown} frame at n differs shows =
        let is = n.is read stands in
        let item : Item = items.Frame frame in
        let here = departed front (flat_map frame_in is.1) frame at (read ++ n.all)
        (frames-behind profile front (item ∷ is.1) (items_in (read ++ n.all)) is.2) comparing.so_far.agree differs_at in
        ended n.reads (n.needed read stands) here.0 (λ rest end.
        let others = more_items next (read ++ n.all) (items_with profile front ++ item ∷ []) is.0 rest in
        let there = departed front (flat_map frame_in others.0) frame at ((read ++ n.all) ++ rest)
        (frames-behind profile front (item ∷ others.0) (items_in ((read ++ n.all) ++ rest))
        (others.1 ∙ append_assoc (items_with profile front) (item ∷ []) others.0)) comparing.so_far.agree differs_at in (
          ap (λ (o : Option Difference). verdict_by o (fault_in ((read ++ n.all) ++ rest)) (length (inputs ((read ++ n.all) ++ rest))))
              there.0,
          saw (runs_of front ++ run_of frame) ((read ++ n.all) ++ rest) there.1 (shows-then comparing.shown shows),
        ))
      where
        differs_at : frame_difference (length front) frame (rerun_frame m profile (inputs_of front) frame) ≡ Some at
        differs_at = subst (λ (k : ℕ). frame_difference k frame (rerun_frame m profile (inputs_of front) frame) ≡ Some at)
            comparing.compared differs

    -- it couldn't be shown or compared
    pub unchecked : {shown : AudienceState} (frame : Frame) → Next m profile shelf.first shelf.last slot old next front (Ok (Some frame))
        → IsChecked m profile start shown read slot shelf (Err (Failed OutOfMemory))
    unchecked frame n = unsaid n.reads (n.needed read stands)
