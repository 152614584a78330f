-- The frames of a run can be spelled.
use Rattle.std.proofs.Common.{ℕ, ◌+◌, ◌≤◌, List, [], ◌∷◌, ◌++◌, length, map, Bool, true, false, Result, refl, sym, subst, arith, append-nil}
use Rattle.std.specs.List.{All}
use Rattle.std.proofs.lemmas.List.{length-map}
use Rattle.std.proofs.lemmas.List.Elements.{All-nil, All-cons, All-head, All-tail, All-append, All-push, All-map, All-weaker}
use Rattle.det_values.specs.Limits.{IsSampleValue}
use Rattle.det_values.specs.Values.{ProfileValue, SampleValue, RefusedAtValue}
use Rattle.det_values.specs.Frames.{without_draws, outcome_in_format}
use Rattle.det_values.specs.declared.format.Format.{Format}
use Rattle.det_values.specs.declared.format.Format.TheVariants.{One, Two}
use Rattle.det_values.specs.declared.frames.CycleInput.{CycleInput}
use Rattle.det_values.specs.declared.frames.Outcome.{Outcome}
use Rattle.det_values.specs.declared.frames.Outcome.TheVariants.{Finished, Refused}
use Rattle.det_values.specs.declared.frames.Frame.{Frame}
use Rattle.det_values.specs.declared.frames.Frame.TheVariants as frames
use Rattle.det_client.specs.State.{next_time}
use Rattle.job.specs.event_cache.Windows.{AreWindows, windows_after}
use Rattle.job.specs.Meaning.{Meaning}
use Rattle.job.specs.Laws.{JobLaws}
use Rattle.job.specs.Cycle.{State, Done, outcome_of, state_after}
use Rattle.cycle_engine.specs.Frames.{samples_of, job_of, first_state, cycle_of, frame_of, runs_after_inputs, runs, init_of}
use Rattle.cycle_engine.specs.Frames.{frames as frames_of}
use Rattle.cycle_engine.proofs.Standing.{length-runs}
use Rattle.record_grammar.specs.Spelling.{IsHeader, IsSample, IsInput, IsElement, IsDrawn, IsOutcome, IsFrame, AreRun, spelled, Spells}
use Rattle.record_grammar.specs.Spelling.{SpellsWhole}
use Rattle.run_laws.proofs.SpelledJob.{IsSpelledJob}
use Rattle.run_laws.proofs.Cycling.{IsCycled, cycle_is}
use Rattle.run_laws.proofs.Windowed.{are_windows}

-- what a format keeps of an outcome can be spelled in it
outcome_kept : (format : Format) (outcome : Outcome) → IsOutcome Two outcome → IsOutcome format (outcome_in_format format outcome)
outcome_kept One (Finished elements output) h = (
  omega (arith, length-map elements without_draws, h.0),
  All-map (IsDrawn One) without_draws elements (All-weaker (IsDrawn Two) (λ e. IsDrawn One (without_draws e)) (λ e d. (
    d.0,
    omega arith,
    refl,
  )) elements
      h.1),
  h.2,
)
outcome_kept One (Refused at) h = h
outcome_kept Two outcome h = h

abbrev AreGood : CycleInput → Type 0
AreGood input = All (λ (s : SampleValue). IsSampleValue s.value) input.samples

input_good : (events : ℕ) (input : CycleInput) → IsInput events input → AreGood input
input_good events input h = All-weaker (IsSample events) (λ (s : SampleValue). IsSampleValue s.value) (λ s k. k.1) input.samples h.2

rounds_good : (events : ℕ) (inputs : List CycleInput) → All (IsInput events) inputs
    → All (All (λ (s : SampleValue). IsSampleValue s.value)) (samples_of inputs)
rounds_good events inputs h = All-map (All (λ (s : SampleValue). IsSampleValue s.value)) (λ (input : CycleInput). input.samples) inputs
    (All-weaker (IsInput events) AreGood (input_good events) inputs h)

module _ {S G E L P : Type 0} (m : Meaning S G E L P) (Covers : S → P → ℕ → Type 0) (Own : S → E → Type 0) (Fit : S → L → Type 0)
    (laws : JobLaws m Covers Own Fit) (spells : IsSpelledJob m) (profile : ProfileValue) (header : IsHeader profile) where
  abbrev j : S
  j = job_of m profile

  abbrev CanHold : CycleInput → Type 0
  CanHold = IsInput (length profile.events)

  abbrev Holds : Frame → Type 0
  Holds = IsFrame profile.format (length profile.events)

  -- a state's elements are the job's own, and few
  record IsOwn (state : State G E) : Type 0 where
    own : All (Own j) state.elements
    few : length state.elements ≤ 65536

  windows_are : (before : List CycleInput) → All CanHold before → AreWindows (m.events j) (windows_after profile.events (samples_of before))
  windows_are before h =
      let few = header.few_events in
      subst (λ (n : ℕ). AreWindows n (windows_after profile.events (samples_of before)))
      (sym (laws.events_made profile.params (length profile.events) (omega arith)))
      (are_windows profile.events (samples_of before) (rounds_good (length profile.events) before h))

  cycled_well : (before : List CycleInput) (state : State G E) (input : CycleInput) → All CanHold before → IsOwn state
      → IsCycled Own j state (cycle_of m profile before state input)
  cycled_well before state input held is =
      cycle_is m Covers Own Fit laws spells j state is.few is.own (windows_after profile.events (samples_of before))
      (windows_are before held)
      (length before + 1) input.time (next_time profile.cycle_time input.time)

  still_own : (state : State G E) (cycle : Result (Done G E) RefusedAtValue) → IsOwn state → IsCycled Own j state cycle
      → IsOwn (state_after state cycle)
  still_own state cycle is after = let few = is.few in record { own = after.own; few = omega (arith, after.many) }

  one_frame : (before : List CycleInput) (state : State G E) (input : CycleInput) → All CanHold before → IsOwn state → CanHold input
      → Holds (frames.Run (frame_of m profile before state input))
  unfolding IsFrame
  one_frame before state input held is good =
      let c = cycled_well before state input held is in
      (good, outcome_kept profile.format (outcome_of (cycle_of m profile before state input)) c.outcome)

  all_runs : (before inputs : List CycleInput) (state : State G E) → All CanHold before → All CanHold inputs → IsOwn state
      → All Holds (map (λ run. frames.Run run) (runs_after_inputs m profile before state inputs))
  unfolding runs_after_inputs
  all_runs before [] state held good is = All-nil Holds
  all_runs before (input ∷ inputs) state held good is =
      let here : CanHold input = All-head CanHold input inputs good in
      let cycle : Result (Done G E) RefusedAtValue = cycle_of m profile before state input in
      All-cons Holds _ _ (one_frame before state input held is here)
      (all_runs (before ++ input ∷ []) inputs (state_after state cycle) (All-push CanHold before input held here)
      (All-tail CanHold input inputs good)
      (still_own state cycle is (cycled_well before state input held is)))

  first_own : IsOwn (first_state m profile)
  first_own = record { own = laws.own_started j profile.seed; few = laws.few_started j profile.seed }

  init_holds : Holds (frames.Init (init_of m profile))
  unfolding IsFrame
  init_holds =
      let is = first_own in
      let few = is.few in (
        omega (arith, length-map (first_state m profile).elements (m.shown j)),
        All-map IsElement (m.shown j) (first_state m profile).elements
            (All-weaker (Own j) (λ e. IsElement (m.shown j e)) (λ e own. (laws.shown_few j e own, spells.shown j e))
            (first_state m profile).elements is.own),
      )

  abbrev begun_frames : List CycleInput → List Frame
  begun_frames inputs = frames.Register ∷ frames.Discover ∷ frames.Init (init_of m profile)
      ∷ map (λ run. frames.Run run) (runs m profile inputs)

  begun_hold : (inputs : List CycleInput) → All CanHold inputs → All Holds (begun_frames inputs)
  unfolding IsFrame
  begun_hold inputs good =
      let behind : List Frame = map (λ run. frames.Run run) (runs m profile inputs) in
      let from_init : List Frame = frames.Init (init_of m profile) ∷ behind in
      All-cons Holds frames.Register (frames.Discover ∷ from_init) tt (All-cons Holds frames.Discover from_init tt
      (All-cons Holds (frames.Init (init_of m profile)) behind init_holds
      (all_runs [] inputs (first_state m profile) (All-nil CanHold) good first_own)))

  end_holds : Holds frames.Terminate
  unfolding IsFrame
  end_holds = tt

  frames_hold : (inputs : List CycleInput) (ended : Bool) → All CanHold inputs → All Holds (frames_of m profile inputs ended)
  frames_hold inputs true good = All-append Holds (begun_frames inputs) (frames.Terminate ∷ []) (begun_hold inputs good)
      (All-cons Holds frames.Terminate [] end_holds (All-nil Holds))
  frames_hold inputs false good = All-append Holds (begun_frames inputs) [] (begun_hold inputs good) (All-nil Holds)

  ended_run : (inputs : List CycleInput) → length inputs ≤ 1000000 → AreRun (frames_of m profile inputs true)
  ended_run inputs few = record {
    elements = init_of m profile;
    runs = runs m profile inputs;
    few = omega (arith, length-runs m profile [] inputs (first_state m profile));
    order = refl;
  }

  pub whole_spelled : (inputs : List CycleInput) → All CanHold inputs → length inputs ≤ 1000000
      → SpellsWhole profile (frames_of m profile inputs true) (spelled profile (frames_of m profile inputs true))
  whole_spelled inputs good few = (
    record {
      header = header;
      fields = frames_hold inputs true good;
      order = ([], subst AreRun (sym (append-nil (frames_of m profile inputs true))) (ended_run inputs few));
      spelling = refl;
    },
    ended_run inputs few,
  )

  pub begun_spelled : (inputs : List CycleInput) → All CanHold inputs → length inputs ≤ 1000000
      → Spells profile (frames_of m profile inputs false) (spelled profile (frames_of m profile inputs false))
  begun_spelled inputs good few = record {
    header = header;
    fields = frames_hold inputs false good;
    order = (
      frames.Terminate ∷ [],
      subst (λ (fs : List Frame). AreRun (fs ++ frames.Terminate ∷ [])) (sym (append-nil (begun_frames inputs))) (ended_run inputs few),
    );
    spelling = refl;
  }
