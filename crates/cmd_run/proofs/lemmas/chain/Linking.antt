-- How the records of a chain grow, cycle by cycle, and how their writing is cut off.
use Rattle.std.proofs.Common.{◌≡◌, ℕ, List, [], ◌∷◌, ◌++◌, length, map, sym, ap, subst, ◌∙◌}
use Rattle.std.specs.Prelude.{Bool, true, false}
use Rattle.std.proofs.lemmas.List.{map-append, length-map}
use Rattle.det_values.specs.Values.{ProfileValue}
use Rattle.det_values.specs.declared.frames.CycleInput.{CycleInput}
use Rattle.det_values.specs.declared.frames.RunFrame.{RunFrame}
use Rattle.det_values.specs.declared.format.Format.{Format}
use Rattle.det_values.specs.declared.frames.Frame.TheVariants.{Run, Terminate}
use Rattle.det_io.specs.Prefix.{IsPrefix}
use Rattle.det_io.specs.Sink.{Grew, GrewByPrefix, Same}
use Rattle.det_io.specs.declared.failure.Failure.{Failure}
use Rattle.det_io.specs.declared.failure.Failure.TheVariants.{Read, Write, OutOfMemory}
use Rattle.det_io.proofs.Growth.{part-whole, part-none, short-part}
use Rattle.job.specs.Meaning.{Meaning}
use Rattle.cycle_engine.specs.Frames.{runs, runs_after_inputs, first_state, state_of}
use Rattle.cycle_engine.proofs.Standing.{runs-append, runs_after_inputs-append, length-runs}
use Rattle.record_grammar.specs.Spelling.{spelled_frame}
use Rattle.recorder.specs.declared.run_writer.counts.Counts.{Counts}
use Rattle.recorder.specs.run_writer.Record.{record_with, opening}
use Rattle.recorder.specs.run_writer.Record.{Counted as RecordCounted}
use Rattle.recorder.specs.run_writer.Recording.{Cuts}
use Rattle.recorder.proofs.lemmas.run_writer.Growing.{runs-none, record-opened, record-next, record-ended, record-front}
use Rattle.cmd_run.specs.chain.OutputSamples.{derived, chained_input}
use Rattle.cmd_run.specs.chain.SecondClient.{passed_on, second_with}
use Rattle.cmd_run.specs.chain.ChainEnds.{Sinks, Counted}
use Rattle.cmd_run.specs.chain.ChainCycle.{IsCut, CutOff, next_run, next_input, second_frame}

-- ---- what a cut leaves

pub cut-part : (failure : Failure) (before after : List ℕ → Type 0) (bytes : List ℕ) → Cuts failure before after bytes
    → GrewByPrefix before after bytes
cut-part Read before after bytes cut = absurd cut
cut-part Write before after bytes cut = short-part before after bytes cut
cut-part OutOfMemory before after bytes cut = part-none before after bytes cut

pub is-cut : (failure : Failure) (before after : List ℕ → Type 0) (bytes : List ℕ) → Cuts failure before after bytes → IsCut failure
is-cut Read before after bytes cut = absurd cut
is-cut Write before after bytes cut = tt
is-cut OutOfMemory before after bytes cut = tt

-- the first record was cut off, and nothing written to the second
pub cut-first : (failure : Failure) (sinks : Sinks) (bytes others : List ℕ)
    → Cuts failure sinks.first.before sinks.first.after bytes → Same sinks.second.before sinks.second.after
    → CutOff failure sinks bytes others
cut-first failure sinks bytes others cut same = record {
  cause = is-cut failure sinks.first.before sinks.first.after bytes cut;
  grew = record {
    first = cut-part failure sinks.first.before sinks.first.after bytes cut;
    second = part-none sinks.second.before sinks.second.after others same;
  };
}

-- the first record was written, and the second cut off
pub cut-second : (failure : Failure) (sinks : Sinks) (bytes others : List ℕ)
    → Grew sinks.first.before sinks.first.after bytes → Cuts failure sinks.second.before sinks.second.after others
    → CutOff failure sinks bytes others
cut-second failure sinks bytes others grew cut = record {
  cause = is-cut failure sinks.second.before sinks.second.after others cut;
  grew = record {
    first = part-whole sinks.first.before sinks.first.after bytes grew;
    second = cut-part failure sinks.second.before sinks.second.after others cut;
  };
}

-- the frame of a cycle is that of the run that it is
pub grew-run : {before after : List ℕ → Type 0} (format : Format) (run next : RunFrame) → run ≡ next
    → Grew before after (spelled_frame format (Run run)) → Grew before after (spelled_frame format (Run next))
grew-run {before} {after} format run next is grew = subst (λ (r : RunFrame). Grew before after (spelled_frame format (Run r))) is grew

module _ {S G E L P : Type 0} (m : Meaning S G E L P) (first : ProfileValue) where
  -- one input more gives one more to the second client
  pub derived-next : (events : ℕ) (given : List CycleInput) (input : CycleInput)
      → derived m first (given ++ input ∷ []) events ≡ derived m first given events
      ++ chained_input events (next_run m first given input) ∷ []
  derived-next events given input = ap (map (chained_input events)) (runs-append m first given input)
      ∙ map-append (chained_input events) (runs m first given) (next_run m first given input ∷ [])

  -- no input gives none
  pub derived-none : (events : ℕ) → derived m first [] events ≡ []
  derived-none events = ap (map (chained_input events)) (runs-none m first)

  -- as many as the first client has
  pub length-derived : (events : ℕ) (given : List CycleInput) → length (derived m first given events) ≡ length given
  length-derived events given = length-map (runs m first given) (chained_input events) ∙ length-runs m first [] given (first_state m first)

  -- those of first inputs come first
  pub derived-front : (events : ℕ) (given inputs : List CycleInput) → IsPrefix given inputs
      → IsPrefix (derived m first given events) (derived m first inputs events)
  derived-front events given inputs (rest, is) = (
    map (chained_input events) (runs_after_inputs m first ([] ++ given) (state_of m first given) rest),
    sym (map-append (chained_input events) (runs m first given) (runs_after_inputs m first ([] ++ given) (state_of m first given) rest))
        ∙ ap (map (chained_input events)) (sym (runs_after_inputs-append m first [] given rest (first_state m first)))
        ∙ ap (λ xs. derived m first xs events) is,
  )

  module _ {T H F M Q : Type 0} (n : Meaning T H F M Q) (second : ProfileValue) where
    -- ---- the second client's record

    pub second-opened : second_with m first n second [] false ≡ opening n second
    second-opened = ap (λ xs. record_with n second xs false) (derived-none (length second.events)) ∙ record-opened n second

    pub second-next : (given : List CycleInput) (input : CycleInput)
        → second_with m first n second (given ++ input ∷ []) false
        ≡ second_with m first n second given false ++ second_frame m n first second given input
    second-next given input = ap (λ xs. record_with n second xs false) (derived-next (length second.events) given input)
        ∙ record-next n second (passed_on m first n second given) (next_input m n first second given input)

    pub second-ended : (given : List CycleInput)
        → second_with m first n second given true ≡ second_with m first n second given false
        ++ spelled_frame second.format Terminate
    second-ended given = record-ended n second (passed_on m first n second given)

    pub second-front : (given inputs : List CycleInput) (ended : Bool) → IsPrefix given inputs
        → IsPrefix (second_with m first n second given false) (second_with m first n second inputs ended)
    second-front given inputs ended front =
        record-front n second _ _ ended (derived-front (length second.events) given inputs front)

    -- the counts of both
    pub both-counted : (given : List CycleInput) (one other : Counts) (bytes others : List ℕ)
        → RecordCounted one (runs m first given) bytes → RecordCounted other (runs n second (passed_on m first n second given)) others
        → Counted m first n second (record { cycles = one.cycles; refused_first = one.refused; refused_second = other.refused }) given
    both-counted given one other bytes others h k = record {
      cycles = h.cycles ∙ length-runs m first [] given (first_state m first);
      refused_first = h.refused;
      refused_second = k.refused;
    }

    -- ---- one cycle of both

    -- what the second client was given is what the first one gives it
    pub passed-is : (given : List CycleInput) (input : CycleInput) (events : ℕ) (run : RunFrame) (passed : CycleInput)
        → passed ≡ chained_input events run → events ≡ length second.events → run ≡ next_run m first given input
        → passed ≡ next_input m n first second given input
    passed-is given input events run passed is count ran = is ∙ ap (λ k. chained_input k run) count
        ∙ ap (chained_input (length second.events)) ran

    -- after it the second client has run all that the first one gives
    pub passed-next : (given : List CycleInput) (input passed : CycleInput) (one other : ProfileValue) → one ≡ first → other ≡ second
        → passed ≡ next_input m n first second given input
        → passed_on m first n second given ++ passed ∷ [] ≡ passed_on m one n other (given ++ input ∷ [])
    passed-next given input passed one other same also is = ap (λ x. passed_on m first n second given ++ x ∷ []) is
        ∙ sym (derived-next (length second.events) given input)
        ∙ ap (λ (p : ProfileValue). derived m p (given ++ input ∷ []) (length second.events)) (sym same)
        ∙ ap (λ (p : ProfileValue). derived m one (given ++ input ∷ []) (length p.events)) (sym also)
