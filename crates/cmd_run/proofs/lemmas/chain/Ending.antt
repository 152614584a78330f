-- How a chain ends.
use Rattle.std.proofs.Common.{◌≡◌, inl, inr, ℕ, List, [], ◌∷◌, ◌++◌, length, sym, ap, subst, ◌∙◌, append-nil}
use Rattle.std.specs.Prelude.{false, Result, Ok, Err}
use Rattle.det_values.specs.Values.{ProfileValue}
use Rattle.det_values.specs.declared.frames.CycleInput.{CycleInput}
use Rattle.det_values.specs.declared.frames.Frame.TheVariants.{Terminate}
use Rattle.det_io.specs.Prefix.{IsPrefix}
use Rattle.det_io.specs.Sink.{Grew, GrewByPrefix}
use Rattle.det_io.specs.Shelf.{ShelfState, Reads, IsAtEnd}
use Rattle.det_io.specs.Traffic.{ShelfRun}
use Rattle.det_io.specs.declared.failure.Failure.{Failure}
use Rattle.det_io.specs.declared.failure.Failure.TheVariants.{Read, Write, OutOfMemory}
use Rattle.det_io.specs.declared.failure.Stopped.{Stopped}
use Rattle.det_io.specs.declared.failure.Stopped.TheVariants.{Refused, Failed}
use Rattle.det_io.proofs.Prefixes.{prefix-none, prefix-same, prefix-then}
use Rattle.det_io.proofs.Growth.{grew-then, grew-then-part, part-whole, part-wider}
use Rattle.det_io.proofs.SlotReads.{reads-none}
use Rattle.job.specs.Meaning.{Meaning}
use Rattle.record_grammar.specs.Spelling.{spelled_frame}
use Rattle.stimulus.specs.declared.stimulus_item.StimulusFault.{StimulusFault}
use Rattle.stimulus.specs.Reading.{Reading, Ending, Terminated, BadLine, inputs_of, ending_of, blocks, ending}
use Rattle.stimulus.proofs.Growing.{blocks_grow, bad_stays}
use Rattle.recorder.specs.declared.run_writer.recording.Recording.{Recording}
use Rattle.recorder.specs.run_writer.Record.{record_with, opening}
use Rattle.recorder.proofs.lemmas.run_writer.Growing.{record-opened, record-next, record-ended, record-front}
use Rattle.stimulus.specs.declared.slot_reader.stimulus_reader.StimulusReader.{StimulusReader}
use Rattle.stimulus.specs.slot_reader.StandsFor.{InputIs, IsNext, HasAll, IsWhole, IsBad, events_of}
use Rattle.recorder.specs.Record.{is_terminated, record_of}
use Rattle.cmd_run.specs.declared.chain.chain_counts.ChainCounts.{ChainCounts}
use Rattle.cmd_run.specs.chain.SecondClient.{second_with, second_of}
use Rattle.cmd_run.specs.chain.ChainEnds.{Sinks, BothGrew, BothGrewByPrefix, Counted, Finishes, Stops, Ended}
use Rattle.cmd_run.specs.chain.ChainCycle.{IsCut, CutOff, first_frame, second_frame}
use Rattle.cmd_run.proofs.lemmas.chain.Linking.{second-opened, second-next, second-ended, second-front}
use Rattle.cmd_run.proofs.lemmas.chain.Running.{Running, joined}

-- a fact about what was read is one about the whole text where nothing follows
at_text : (P : List ℕ → Type 0) (read rest : List ℕ) → rest ≡ [] → P read → P (read ++ rest)
at_text P read rest none p = subst P (sym (ap (λ l. read ++ l) none ∙ append-nil read)) p

-- growth by a prefix of a record is one by a prefix of the record that goes on
wider : (sinks : Sinks) (bytes others all rest : List ℕ) → BothGrewByPrefix sinks bytes others → IsPrefix bytes all → IsPrefix others rest
    → BothGrewByPrefix sinks all rest
wider sinks bytes others all rest grew one two = record {
  first = part-wider sinks.first.before sinks.first.after bytes all grew.first one;
  second = part-wider sinks.second.before sinks.second.after others rest grew.second two;
}

whole : (sinks : Sinks) (bytes others : List ℕ) → BothGrew sinks bytes others → BothGrewByPrefix sinks bytes others
whole sinks bytes others grew = record {
  first = part-whole sinks.first.before sinks.first.after bytes grew.first;
  second = part-whole sinks.second.before sinks.second.after others grew.second;
}

module _ {S G E L P : Type 0} (m : Meaning S G E L P) (first : ProfileValue) {T H F M Q : Type 0} (n : Meaning T H F M Q)
    (second : ProfileValue) where
  -- what was read of the text, and what the sinks took
  abbrev pub HasRun : ℕ → ShelfRun → Sinks → Result ChainCounts (Stopped StimulusFault) → Type 0
  HasRun slot shelf sinks result = (read : List ℕ) × Reads shelf.first shelf.last slot read
      × Ended m first n second result read (IsAtEnd shelf.last slot) sinks

  -- what a result needs where both records were cut off
  cut-off : (failure : Failure) (read : List ℕ) (at_end : Type 0) (sinks : Sinks) → IsCut failure
      → ((rest : List ℕ) → (at_end → rest ≡ [])
      → BothGrewByPrefix sinks (record_of m first (read ++ rest)) (second_of m first n second (read ++ rest)))
      → Ended m first n second (Err (Failed failure)) read at_end sinks
  cut-off Read read at_end sinks cut grew = absurd cut
  cut-off Write read at_end sinks cut grew = record { reads_to = tt; answers = grew }
  cut-off OutOfMemory read at_end sinks cut grew = record { reads_to = tt; answers = grew }

  -- both records of the first inputs are prefixes of those of every text that goes on
  within : (given : List CycleInput) (read rest : List ℕ) → IsPrefix given (blocks (length first.events) read)
      → IsPrefix (record_with m first given false) (record_of m first (read ++ rest))
      × IsPrefix (second_with m first n second given false) (second_of m first n second (read ++ rest))
  within given read rest front =
      let longer = prefix-then _ _ _ front (blocks_grow (length first.events) read rest) in (
        record-front m first given (blocks (length first.events) (read ++ rest)) _ longer,
        second-front m first n second given (blocks (length first.events) (read ++ rest)) _ longer,
      )

  -- prefixes of the records of first inputs were written
  part-of : (sinks : Sinks) (given : List CycleInput) (read rest : List ℕ) → IsPrefix given (blocks (length first.events) read)
      → BothGrewByPrefix sinks (record_with m first given false) (second_with m first n second given false)
      → BothGrewByPrefix sinks (record_of m first (read ++ rest)) (second_of m first n second (read ++ rest))
  part-of sinks given read rest front grew =
      let longer = within given read rest front in
      wider sinks (record_with m first given false) (second_with m first n second given false) (record_of m first (read ++ rest))
      (second_of m first n second (read ++ rest)) grew longer.0 longer.1

  all-first : (read : List ℕ) (given : List CycleInput) → blocks (length first.events) read ≡ given
      → IsPrefix given (blocks (length first.events) read)
  all-first read given is = subst (λ xs. IsPrefix given xs) (sym is) (prefix-same given)

  record-is : (text : List ℕ) (given : List CycleInput) (ended : Ending) → blocks (length first.events) text ≡ given
      → ending (length first.events) text ≡ ended
      → record_of m first text ≡ record_with m first given (is_terminated ended)
  record-is text given ended is ends =
      ap (λ e. record_with m first (blocks (length first.events) text) (is_terminated e)) ends
      ∙ ap (λ xs. record_with m first xs (is_terminated ended)) is

  second-is : (text : List ℕ) (given : List CycleInput) (ended : Ending) → blocks (length first.events) text ≡ given
      → ending (length first.events) text ≡ ended
      → second_of m first n second text ≡ second_with m first n second given (is_terminated ended)
  second-is text given ended is ends =
      ap (λ e. second_with m first n second (blocks (length first.events) text) (is_terminated e)) ends
      ∙ ap (λ xs. second_with m first n second xs (is_terminated ended)) is

  stops-at : (sinks : Sinks) (text : List ℕ) (given : List CycleInput) (line : ℕ)
      → blocks (length first.events) text ≡ given → ending (length first.events) text ≡ BadLine line
      → BothGrew sinks (record_with m first given false) (second_with m first n second given false)
      → Stops m first n second text line sinks
  stops-at sinks text given line is ends grew = record {
    bad = ends;
    grew = record {
      first = subst (Grew sinks.first.before sinks.first.after) (sym (record-is text given (BadLine line) is ends)) grew.first;
      second = subst (Grew sinks.second.before sinks.second.after) (sym (second-is text given (BadLine line) is ends)) grew.second;
    };
  }

  -- ---- the results

  -- the openings weren't written
  pub open-failed : (slot : ℕ) (state : ShelfState) (stays : Type 0) (sinks : Sinks) (failure : Failure)
      → CutOff failure sinks (opening m first) (opening n second)
      → HasRun slot (record { first = state; last = state; stays = stays }) sinks (Err (Failed failure))
  open-failed slot state stays sinks failure cut = (
    [],
    reads-none state slot,
    cut-off failure [] (IsAtEnd state slot) sinks cut.cause
        (λ rest end. part-of sinks [] [] rest (prefix-none _) (record {
          first = subst (GrewByPrefix sinks.first.before sinks.first.after) (sym (record-opened m first)) cut.grew.first;
          second = subst (GrewByPrefix sinks.second.before sinks.second.after) (sym (second-opened m first n second)) cut.grew.second;
        })),
  )

  -- a bad line, or a failure of the reader
  pub reading-stopped : (slot : ℕ) (shelf : ShelfRun) (sinks : Sinks) {mid : ShelfState} {reader : StimulusReader}
      {recording : Recording S G E L P} {other : Recording T H F M Q} {read : List ℕ} {given : List CycleInput}
      (next : StimulusReader) (why : Stopped StimulusFault)
      → Running m first n second shelf.first mid slot sinks reader recording other read given
      → (all : List ℕ) × Reads shelf.first shelf.last slot all × InputIs (Err why) next (IsAtEnd shelf.last slot) all given
      → events_of next ≡ length first.events → HasRun slot shelf sinks (Err why)
  reading-stopped slot shelf sinks {given = given} next (Refused fault) running (all, reads, h) events =
      let bad : IsBad fault.line (length first.events) (IsAtEnd shelf.last slot) all given = subst
      (λ k. IsBad fault.line k (IsAtEnd shelf.last slot) all given) events h in (
        all,
        reads,
        elim bad.found as (λ _. Ended m first n second (Err (Refused fault)) all (IsAtEnd shelf.last slot) sinks) [
          | inl fed ↦ record {
            reads_to = inl fed;
            answers = λ rest end. stops-at sinks (all ++ rest) given fault.line
                (ap (λ (r : Reading). inputs_of r.items) (bad_stays (length first.events) all rest fed) ∙ bad.blocks)
                (ap ending_of (bad_stays (length first.events) all rest fed) ∙ bad.ending) running.grew;
          }
          | inr end ↦ record {
            reads_to = inr end;
            answers = λ rest none. at_text (λ text. Stops m first n second text fault.line sinks) all rest (none end)
                (stops-at sinks all given fault.line bad.blocks bad.ending running.grew);
          }
        ],
      )
  reading-stopped slot shelf sinks {given = given} next (Failed Read) running (all, reads, h) events =
      let has : HasAll (length first.events) all given = subst (λ k. HasAll k all given) events h.1 in (
        all,
        reads,
        record {
          reads_to = (
            has.good,
            subst (λ xs. BothGrew sinks (record_with m first xs false) (second_with m first n second xs false)) (sym has.blocks)
                running.grew,
          );
          answers = λ rest end. part-of sinks given all rest (all-first all given has.blocks) (whole sinks _ _ running.grew);
        },
      )
  reading-stopped slot shelf sinks next (Failed Write) running (all, reads, h) events = absurd h
  reading-stopped slot shelf sinks {given = given} next (Failed OutOfMemory) running (all, reads, h) events =
      let front : IsPrefix given (blocks (length first.events) all) = subst (λ k. IsPrefix given (blocks k all)) events h in (
        all,
        reads,
        record { reads_to = tt; answers = λ rest end. part-of sinks given all rest front (whole sinks _ _ running.grew) },
      )

  module _ (slot : ℕ) (shelf : ShelfRun) (sinks step : Sinks) {mid : ShelfState} {reader : StimulusReader}
      {recording : Recording S G E L P} {other : Recording T H F M Q} {read : List ℕ} {given : List CycleInput}
      (running : Running m first n second shelf.first mid slot sinks reader recording other read given) where
    -- the frames of the next cycle weren't both written
    pub cycle_chain-failed : (input : CycleInput) (failure : Failure) (all : List ℕ) → Reads shelf.first shelf.last slot all
        → IsNext input (length first.events) all given
        → IsCut failure
        → GrewByPrefix sinks.first.after step.first.after (first_frame m n first second given input)
        → GrewByPrefix sinks.second.after step.second.after (second_frame m n first second given input)
        → HasRun slot shelf (joined sinks step) (Err (Failed failure))
    cycle_chain-failed input failure all reads next cut one two = (
      all,
      reads,
      cut-off failure all (IsAtEnd shelf.last slot) (joined sinks step) cut
          (λ rest end. part-of (joined sinks step) (given ++ input ∷ []) all rest next.first (record {
            first = subst (GrewByPrefix sinks.first.before step.first.after) (sym (record-next m first given input))
                (grew-then-part sinks.first.before sinks.first.after step.first.after _ _ running.grew.first one);
            second = subst (GrewByPrefix sinks.second.before step.second.after) (sym (second-next m first n second given input))
                (grew-then-part sinks.second.before sinks.second.after step.second.after _ _ running.grew.second two);
          })),
    )

    -- Terminate wasn't written in both
    pub close-failed : (failure : Failure) (all : List ℕ) → Reads shelf.first shelf.last slot all
        → IsWhole (length first.events) (IsAtEnd shelf.last slot) all given
        → IsCut failure
        → GrewByPrefix sinks.first.after step.first.after (spelled_frame first.format Terminate)
        → GrewByPrefix sinks.second.after step.second.after (spelled_frame second.format Terminate)
        → HasRun slot shelf (joined sinks step) (Err (Failed failure))
    close-failed failure all reads ended cut one two =
        let is = record-is all given Terminated ended.blocks ended.ending ∙ record-ended m first given in
        let so = second-is all given Terminated ended.blocks ended.ending ∙ second-ended m first n second given in
        let grew : BothGrewByPrefix (joined sinks step) (record_of m first all) (second_of m first n second all) = record {
          first = subst (GrewByPrefix sinks.first.before step.first.after) (sym is)
              (grew-then-part sinks.first.before sinks.first.after step.first.after _ _ running.grew.first one);
          second = subst (GrewByPrefix sinks.second.before step.second.after) (sym so)
              (grew-then-part sinks.second.before sinks.second.after step.second.after _ _ running.grew.second two);
        } in (
          all,
          reads,
          cut-off failure all (IsAtEnd shelf.last slot) (joined sinks step) cut
              (λ rest none. at_text
              (λ text. BothGrewByPrefix (joined sinks step) (record_of m first text) (second_of m first n second text))
              all rest (none ended.end) grew),
        )

    -- both records are whole
    pub closed : (counts : ChainCounts) (all : List ℕ) → Reads shelf.first shelf.last slot all
        → IsWhole (length first.events) (IsAtEnd shelf.last slot) all given
        → Counted m first n second counts given
        → Grew sinks.first.after step.first.after (spelled_frame first.format Terminate)
        → Grew sinks.second.after step.second.after (spelled_frame second.format Terminate)
        → HasRun slot shelf (joined sinks step) (Ok counts)
    closed counts all reads ended counted one two =
        let is = record-is all given Terminated ended.blocks ended.ending ∙ record-ended m first given in
        let so = second-is all given Terminated ended.blocks ended.ending ∙ second-ended m first n second given in
        let finishes : Finishes m first n second all counts (joined sinks step) = record {
          good = ended.ending;
          grew = record {
            first = subst (Grew sinks.first.before step.first.after) (sym is) (grew-then running.grew.first one);
            second = subst (Grew sinks.second.before step.second.after) (sym so) (grew-then running.grew.second two);
          };
          counted = subst (λ xs. Counted m first n second counts xs) (sym ended.blocks) counted;
        } in (
          all,
          reads,
          record {
            reads_to = ended.end;
            answers = λ rest none. at_text (λ text. Finishes m first n second text counts (joined sinks step))
                all rest (none ended.end) finishes;
          },
        )
