-- How a run ends.
use Rattle.std.proofs.Common.{◌≡◌, inl, inr, ℕ, List, [], ◌∷◌, ◌++◌, length, refl, sym, ap, subst, ◌∙◌, append-nil}
use Rattle.std.specs.Prelude.{true, false, Result, Ok, Err}
use Rattle.det_values.specs.Values.{ProfileValue}
use Rattle.det_values.specs.declared.frames.CycleInput.{CycleInput}
use Rattle.det_values.specs.declared.frames.RunFrame.{RunFrame}
use Rattle.det_values.specs.declared.frames.Frame.TheVariants.{Run, Terminate}
use Rattle.det_io.specs.Prefix.{IsPrefix}
use Rattle.det_io.specs.Sink.{Grew, GrewShort}
use Rattle.det_io.specs.Shelf.{ShelfState, Reads, IsAtEnd}
use Rattle.det_io.specs.Traffic.{ShelfRun, SinkRun}
use Rattle.det_io.specs.declared.failure.Failure.{Failure}
use Rattle.det_io.specs.declared.failure.Failure.TheVariants.{Read, Write, OutOfMemory}
use Rattle.det_io.specs.declared.failure.Stopped.{Stopped}
use Rattle.det_io.specs.declared.failure.Stopped.TheVariants.{Refused, Failed}
use Rattle.det_io.proofs.Prefixes.{prefix-none, prefix-same, prefix-then, prefix-append}
use Rattle.det_io.proofs.Growth.{grew-then, grew-same, grew-then-short, part-whole, part-wider, part-none, short-wider}
use Rattle.det_io.proofs.SlotReads.{reads-none}
use Rattle.job.specs.Meaning.{Meaning}
use Rattle.cycle_engine.specs.Frames.{runs}
use Rattle.record_grammar.specs.Spelling.{spelled_frame}
use Rattle.stimulus.specs.declared.stimulus_item.StimulusFault.{StimulusFault}
use Rattle.stimulus.specs.Reading.{Reading, Ending, Terminated, BadLine, inputs_of, ending_of, blocks, ending}
use Rattle.stimulus.proofs.Growing.{blocks_grow, bad_stays}
use Rattle.probes.specs.Reports.{AudienceState}
use Rattle.probes.specs.Shows.{Shows, ShowsPartly, ShowsFirst}
use Rattle.probes.proofs.Shown.{shows-none}
use Rattle.recorder.specs.declared.run_writer.counts.Counts.{Counts}
use Rattle.recorder.specs.declared.run_writer.recording.Recording.{Recording}
use Rattle.recorder.specs.run_writer.Record.{Counted, record_with, opening}
use Rattle.recorder.specs.run_writer.Recording.{Cuts, IsRecordingAfter, Ran}
use Rattle.recorder.proofs.lemmas.run_writer.Growing.{runs-none, record-opened, record-next, record-ended, record-front}
use Rattle.stimulus.specs.declared.slot_reader.stimulus_reader.StimulusReader.{StimulusReader}
use Rattle.stimulus.specs.slot_reader.StandsFor.{InputIs, IsNext, HasAll, IsWhole, IsBad, events_of}
use Rattle.recorder.specs.Record.{is_terminated, record_of}
use Rattle.recorder.specs.RunEnds.{Finishes, Stops, Ended}
use Rattle.recorder.specs.RecordRun.{TookAll, UnlessCut, IsShown, HasRun, IsRecorded}
use Rattle.recorder.proofs.Running.{Answered, HasNext, Running, next_run, next-read, next-ran, frames-next, runs-next}
use Rattle.recorder.proofs.KnownText.{recorded}

-- a fact about what was read is one about the whole text where nothing follows
pub at_text : (P : List ℕ → Type 0) (read rest : List ℕ) → rest ≡ [] → P read → P (read ++ rest)
at_text P read rest none p = subst P (sym (ap (λ l. read ++ l) none ∙ append-nil read)) p

-- a failure that cuts a record off
abbrev IsCut : Failure → Type 0
IsCut Read = ⊥
IsCut Write = Unit {0}
IsCut OutOfMemory = Unit {0}

unless-cut : {fact : Type 0} (result : Result Counts (Stopped StimulusFault)) → fact → UnlessCut result fact
unless-cut (Ok counts) fact = fact
unless-cut (Err (Refused fault)) fact = fact
unless-cut (Err (Failed Read)) fact = fact
unless-cut (Err (Failed Write)) fact = tt
unless-cut (Err (Failed OutOfMemory)) fact = tt

module _ {S G E L P : Type 0} (m : Meaning S G E L P) (profile : ProfileValue) where
  -- the record of the first inputs is a prefix of that of every text that goes on
  pub record-within : (given : List CycleInput) (read rest : List ℕ) → IsPrefix given (blocks (length profile.events) read)
      → IsPrefix (record_with m profile given false) (record_of m profile (read ++ rest))
  record-within given read rest first =
      record-front m profile given (blocks (length profile.events) (read ++ rest)) _
      (prefix-then _ _ _ first (blocks_grow (length profile.events) read rest))

  -- ---- a prefix of the record

  -- the frames of first inputs were written
  part-of-record : (before after : List ℕ → Type 0) (given : List CycleInput) (read : List ℕ) (at_end : Type 0)
      → IsPrefix given (blocks (length profile.events) read)
      → Grew before after (record_with m profile given false) → Ended m profile (Err (Failed OutOfMemory)) read at_end before after
  part-of-record before after given read at_end first grew = record {
    reads_to = tt;
    answers = λ rest end. part-wider before after _ (record_of m profile (read ++ rest)) (part-whole before after _ grew)
        (record-within given read rest first);
  }

  -- and then a part of the next one
  short-of-record : (before after : List ℕ → Type 0) (given : List CycleInput) (read : List ℕ) (at_end : Type 0)
      → IsPrefix given (blocks (length profile.events) read)
      → GrewShort before after (record_with m profile given false) → Ended m profile (Err (Failed Write)) read at_end before after
  short-of-record before after given read at_end first grew = record {
    reads_to = tt;
    answers = λ rest end. short-wider before after _ (record_of m profile (read ++ rest)) grew (record-within given read rest first);
  }

  -- ---- who was shown what

  took-all : (before after : List ℕ → Type 0) (given : List CycleInput) → Grew before after (record_with m profile given false)
      → TookAll m profile given before after
  took-all before after given grew = inr (record_with m profile given false, prefix-same _, grew)

  -- more was taken
  took-more : (before mid after : List ℕ → Type 0) (given : List CycleInput) (bytes : List ℕ)
      → Grew before mid (record_with m profile given false) → Grew mid after bytes
      → TookAll m profile given before after
  took-more before mid after given bytes grew more = inr
      (record_with m profile given false ++ bytes, prefix-append _ bytes, grew-then grew more)

  nothing-shown : (audience : AudienceState) → ShowsFirst audience audience (runs m profile [])
  nothing-shown audience = inl (subst (Shows audience audience) (sym (runs-none m profile)) (shows-none audience))

  -- all that was run was shown
  shown-given : (read : List ℕ) (before after : List ℕ → Type 0) (audience last : AudienceState) (given : List CycleInput)
      (failure : Failure) → IsCut failure
      → IsPrefix given (blocks (length profile.events) read) → TookAll m profile given before after
      → Shows audience last (runs m profile given)
      → IsShown m profile read before after audience last (Err (Failed failure))
  shown-given read before after audience last given Read cut first taken shows = absurd cut
  shown-given read before after audience last given Write cut first taken shows = record
      { inputs = given; first = first; taken = taken; shown = inl shows; whole = tt }
  shown-given read before after audience last given OutOfMemory cut first taken shows = record
      { inputs = given; first = first; taken = taken; shown = inl shows; whole = tt }

  -- the inputs of all that was read are its first ones
  pub all-first : (read : List ℕ) (given : List CycleInput) → blocks (length profile.events) read ≡ given
      → IsPrefix given (blocks (length profile.events) read)
  all-first read given is = subst (λ xs. IsPrefix given xs) (sym is) (prefix-same given)

  -- all that was read was run and shown
  all-shown : (result : Result Counts (Stopped StimulusFault)) (read : List ℕ) (before after : List ℕ → Type 0)
      (audience last : AudienceState) (given : List CycleInput) → blocks (length profile.events) read ≡ given
      → TookAll m profile given before after → Shows audience last (runs m profile given)
      → IsShown m profile read before after audience last result
  all-shown result read before after audience last given is taken shows = record {
    inputs = given;
    first = all-first read given is;
    taken = taken;
    shown = inl shows;
    whole = unless-cut result (subst (λ xs. Shows audience last (runs m profile xs)) (sym is) shows);
  }

  -- the record of a text by its inputs and its end
  pub record-is : (text : List ℕ) (given : List CycleInput) (ended : Ending) → blocks (length profile.events) text ≡ given
      → ending (length profile.events) text ≡ ended
      → record_of m profile text ≡ record_with m profile given (is_terminated ended)
  record-is text given ended is ends =
      ap (λ e. record_with m profile (blocks (length profile.events) text) (is_terminated e)) ends
      ∙ ap (λ xs. record_with m profile xs (is_terminated ended)) is

  stops-at : (before after : List ℕ → Type 0) (text : List ℕ) (given : List CycleInput) (line : ℕ)
      → blocks (length profile.events) text ≡ given → ending (length profile.events) text ≡ BadLine line
      → Grew before after (record_with m profile given false) → Stops m profile text line before after
  stops-at before after text given line is ends grew = record
      { bad = ends; grew = subst (Grew before after) (sym (record-is text given (BadLine line) is ends)) grew }

  -- ---- the results

  -- the opening wasn't written
  pub open-failed : (slot : ℕ) (state : ShelfState) (stays : Type 0) (sink : SinkRun) (audience : AudienceState) (failure : Failure)
      → Cuts failure sink.before sink.after (opening m profile)
      → HasRun m profile slot (record { first = state; last = state; stays = stays }) sink audience audience (Err (Failed failure))
  open-failed slot state stays sink audience Read cut = absurd cut
  open-failed slot state stays sink audience Write cut = (
    [],
    reads-none state slot,
    short-of-record sink.before sink.after [] [] _ (prefix-none _)
        (subst (GrewShort sink.before sink.after) (sym (record-opened m profile)) cut),
    record { inputs = []; first = prefix-none _; taken = inl refl; shown = nothing-shown audience; whole = tt },
  )
  open-failed slot state stays sink audience OutOfMemory cut = (
    [],
    reads-none state slot,
    record { reads_to = tt; answers = λ rest end. part-none sink.before sink.after (record_of m profile rest) cut },
    record { inputs = []; first = prefix-none _; taken = inl refl; shown = nothing-shown audience; whole = tt },
  )

  module _ (slot : ℕ) (shelf : ShelfRun) (sink : SinkRun) (audience : AudienceState) where
    -- the frames of these inputs were written, and then memory ran out
    out-of-memory : (last : AudienceState) (all : List ℕ) (given : List CycleInput) → Reads shelf.first shelf.last slot all
        → IsPrefix given (blocks (length profile.events) all)
        → Grew sink.before sink.after (record_with m profile given false) → Shows audience last (runs m profile given)
        → HasRun m profile slot shelf sink audience last (Err (Failed OutOfMemory))
    out-of-memory last all given reads first grew shows = (
      all,
      reads,
      part-of-record sink.before sink.after given all _ first grew,
      shown-given all sink.before sink.after audience last given OutOfMemory tt first (took-all sink.before sink.after given grew) shows,
    )

    module _ {mid : ShelfState} {took : List ℕ → Type 0} {seeing : AudienceState} {reader : StimulusReader}
        {recording : Recording S G E L P} {read : List ℕ} {given : List CycleInput}
        (running : Running m profile shelf.first mid slot sink.before took audience seeing reader recording read given) where
      -- the next run wasn't written
      cycle-cut : (input : CycleInput) (failure : Failure) (all : List ℕ) → Reads shelf.first shelf.last slot all
          → IsNext input (length profile.events) all given
          → Cuts failure took sink.after (spelled_frame profile.format (Run (next_run m profile given input)))
          → HasRun m profile slot shelf sink audience seeing (Err (Failed failure))
      cycle-cut input Read all reads next cut = absurd cut
      cycle-cut input Write all reads next cut =
          let first = prefix-then given _ _ (prefix-append given (input ∷ [])) next.first in (
            all,
            reads,
            short-of-record sink.before sink.after (given ++ input ∷ []) all _ next.first
                (subst (GrewShort sink.before sink.after) (sym (record-next m profile given input))
                (grew-then-short sink.before took sink.after _ _ running.grew cut)),
            shown-given all sink.before sink.after audience seeing given Write tt first
                (took-more sink.before took sink.after given cut.0 running.grew cut.2) running.shown,
          )
      cycle-cut input OutOfMemory all reads next cut =
          out-of-memory seeing all given reads (prefix-then given _ _ (prefix-append given (input ∷ [])) next.first)
          (grew-same running.grew cut) running.shown

      pub cycle-failed : {next : StimulusReader} {input : CycleInput} (failure : Failure)
          → HasNext input shelf.first shelf.last slot (length profile.events) next given
          → ((given : List CycleInput) → IsRecordingAfter m recording given
          → Cuts failure took sink.after (spelled_frame recording.profile.format (Run (next_run m recording.profile given input))))
          → IsRecorded m profile slot shelf sink audience seeing (Err (Failed failure))
      cycle-failed {input = input} failure n cut =
          recorded m profile slot shelf sink audience seeing _ (cycle-cut input failure n.all n.reads n.is
          (subst (λ (p : ProfileValue). Cuts failure took sink.after (spelled_frame p.format (Run (next_run m p given input))))
          running.same_profile (cut given running.stands)))

      -- it was written, and couldn't be shown to all
      pub show-failed : {next : StimulusReader} {input : CycleInput} {last : AudienceState} {ran : Recording S G E L P} {run : RunFrame}
          → HasNext input shelf.first shelf.last slot (length profile.events) next given
          → ((given : List CycleInput) → IsRecordingAfter m recording given → Ran m recording.profile given input ran run took sink.after)
          → ShowsPartly seeing last run → IsRecorded m profile slot shelf sink audience last (Err (Failed OutOfMemory))
      show-failed {input = input} {last = last} {run = run} n went partly =
          let grew = frames-next running n went in
          let is = runs-next m profile given input run (next-ran running n went).run in
          recorded m profile slot shelf sink audience last _ (
            n.all,
            n.reads,
            part-of-record sink.before sink.after (given ++ input ∷ []) n.all _ n.is.first grew,
            record {
              inputs = given ++ input ∷ [];
              first = n.is.first;
              taken = took-all sink.before sink.after (given ++ input ∷ []) grew;
              shown = inr (runs m profile given, run, seeing, sym is, running.shown, partly);
              whole = tt;
            },
          )

      module _ (end : (all : List ℕ) × Reads shelf.first shelf.last slot all
          × IsWhole (length profile.events) (IsAtEnd shelf.last slot) all given) where
        record-whole : record_of m profile end.0 ≡ record_with m profile given false ++ spelled_frame profile.format Terminate
        record-whole = record-is end.0 given Terminated end.2.blocks end.2.ending ∙ record-ended m profile given

        -- Terminate wasn't written
        close-cut : (failure : Failure) → Cuts failure took sink.after (spelled_frame profile.format Terminate)
            → HasRun m profile slot shelf sink audience seeing (Err (Failed failure))
        close-cut Read cut = absurd cut
        close-cut Write cut = (
          end.0,
          end.1,
          record {
            reads_to = tt;
            answers = λ rest none. at_text (λ text. GrewShort sink.before sink.after (record_of m profile text)) end.0 rest (none end.2.end)
                (subst (GrewShort sink.before sink.after) (sym record-whole)
                (grew-then-short sink.before took sink.after _ _ running.grew cut));
          },
          all-shown _ end.0 sink.before sink.after audience seeing given end.2.blocks
              (took-more sink.before took sink.after given cut.0 running.grew cut.2) running.shown,
        )
        close-cut OutOfMemory cut = out-of-memory seeing end.0 given end.1 (all-first end.0 given end.2.blocks) (grew-same running.grew cut)
            running.shown

        pub close-failed : (failure : Failure) → Cuts failure took sink.after (spelled_frame recording.profile.format Terminate)
            → IsRecorded m profile slot shelf sink audience seeing (Err (Failed failure))
        close-failed failure cut = recorded m profile slot shelf sink audience seeing _ (close-cut failure
            (subst (λ (p : ProfileValue). Cuts failure took sink.after (spelled_frame p.format Terminate)) running.same_profile cut))

        -- the record is whole
        pub closed : (counts : Counts)
            → ((given : List CycleInput) → IsRecordingAfter m recording given
            → Counted counts (runs m recording.profile given) (record_with m recording.profile given true))
            → Grew took sink.after (spelled_frame recording.profile.format Terminate)
            → IsRecorded m profile slot shelf sink audience seeing (Ok counts)
        closed counts counted grew =
            let written = subst (λ (p : ProfileValue). Grew took sink.after (spelled_frame p.format Terminate)) running.same_profile grew in
            let all_counted = subst (λ (p : ProfileValue). Counted counts (runs m p given) (record_with m p given true)) running.same_profile
            (counted given running.stands) in
            let finishes : Finishes m profile end.0 counts sink.before sink.after = record {
              good = end.2.ending;
              grew = subst (Grew sink.before sink.after) (sym record-whole) (grew-then running.grew written);
              counted = rw (record-is end.0 given Terminated end.2.blocks end.2.ending, end.2.blocks) all_counted;
            } in
            recorded m profile slot shelf sink audience seeing _ (
              end.0,
              end.1,
              record {
                reads_to = end.2.end;
                answers = λ rest none. at_text (λ text. Finishes m profile text counts sink.before sink.after)
                    end.0 rest (none end.2.end) finishes;
              },
              all-shown _ end.0 sink.before sink.after audience seeing given end.2.blocks
                  (took-more sink.before took sink.after given _ running.grew written) running.shown,
            )

    module _ {mid : ShelfState} {last : AudienceState} {reader : StimulusReader} {recording : Recording S G E L P} {read : List ℕ}
        {given : List CycleInput}
        (running : Running m profile shelf.first mid slot sink.before sink.after audience last reader recording read given)
        (next : StimulusReader) where
      -- a bad line, or a failure of the reader
      stopped-at : (why : Stopped StimulusFault)
          → (all : List ℕ) × Reads shelf.first shelf.last slot all × InputIs (Err why) next (IsAtEnd shelf.last slot) all given
          → events_of next ≡ length profile.events → HasRun m profile slot shelf sink audience last (Err why)
      stopped-at (Refused fault) (all, reads, h) events =
          let bad : IsBad fault.line (length profile.events) (IsAtEnd shelf.last slot) all given = subst
          (λ n. IsBad fault.line n (IsAtEnd shelf.last slot) all given) events h in (
            all,
            reads,
            elim bad.found as (λ _. Ended m profile (Err (Refused fault)) all (IsAtEnd shelf.last slot) sink.before sink.after) [
              | inl fed ↦ record {
                reads_to = inl fed;
                answers = λ rest end. stops-at sink.before sink.after (all ++ rest) given fault.line
                    (ap (λ (r : Reading). inputs_of r.items) (bad_stays (length profile.events) all rest fed) ∙ bad.blocks)
                    (ap ending_of (bad_stays (length profile.events) all rest fed) ∙ bad.ending) running.grew;
              }
              | inr end ↦ record {
                reads_to = inr end;
                answers = λ rest none. at_text (λ text. Stops m profile text fault.line sink.before sink.after) all rest (none end)
                    (stops-at sink.before sink.after all given fault.line bad.blocks bad.ending running.grew);
              }
            ],
            all-shown _ all sink.before sink.after audience last given bad.blocks (took-all sink.before sink.after given running.grew)
                running.shown,
          )
      stopped-at (Failed Read) (all, reads, h) events =
          let has : HasAll (length profile.events) all given = subst (λ n. HasAll n all given) events h.1 in (
            all,
            reads,
            record {
              reads_to = (has.good, subst (λ xs. Grew sink.before sink.after (record_with m profile xs false)) (sym has.blocks) running.grew);
              answers = λ rest end. part-wider sink.before sink.after _ (record_of m profile (all ++ rest))
                  (part-whole sink.before sink.after _ running.grew)
                  (record-within given all rest (all-first all given has.blocks));
            },
            all-shown _ all sink.before sink.after audience last given has.blocks (took-all sink.before sink.after given running.grew)
                running.shown,
          )
      stopped-at (Failed Write) (all, reads, h) events = absurd h
      stopped-at (Failed OutOfMemory) (all, reads, h) events =
          out-of-memory last all given reads (subst (λ n. IsPrefix given (blocks n all)) events h) running.grew running.shown

      pub reading-stopped : (why : Stopped StimulusFault) → Answered (Err why) mid shelf.last reader next → events_of next ≡ events_of reader
          → IsRecorded m profile slot shelf sink audience last (Err why)
      reading-stopped why h events = recorded m profile slot shelf sink audience last _
          (stopped-at why (next-read next (Err why) running h) (events ∙ running.same_events))
