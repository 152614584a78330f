-- One more input in the run of a profile, and in an engine. The crates above the engine use these
-- lemmas.
use Rattle.std.proofs.Common.{◌≡◌, ℕ, suc, ℤ, ◌+◌, Option, Result, List, [], ◌∷◌, ◌++◌, length, refl, sym, ap, ◌∙◌, subst, map}
use Rattle.std.proofs.Common.{append_assoc, append-nil, length-append, true, false}
use Rattle.std.proofs.lemmas.List.{map-append}
use Rattle.det_values.specs.Values.{ProfileValue, SampleValue, EventSpecValue, RefusedAtValue}
use Rattle.det_values.specs.Frames.{outcome_in_format}
use Rattle.det_values.specs.declared.format.Format.{Format}
use Rattle.det_values.specs.declared.frames.CycleInput.{CycleInput}
use Rattle.det_values.specs.declared.frames.Frame.{Frame}
use Rattle.det_values.specs.declared.frames.Frame.TheVariants.{Register, Discover, Init, Run, Terminate}
use Rattle.det_values.specs.declared.frames.Outcome.{Outcome}
use Rattle.det_values.specs.declared.frames.RunFrame.{RunFrame}
use Rattle.det_client.specs.State.{next_time}
use Rattle.job.specs.event_cache.Windows.{HasSeen, rings_from}
use Rattle.job.proofs.lemmas.event_cache.Rounds.{seen_windows}
use Rattle.job.specs.Meaning.{Meaning}
use Rattle.job.specs.Cycle.{State, Done, cycle_result, outcome_of, state_after}
use Rattle.cycle_engine.specs.Frames.{first_state, cycle_of, frame_of, state_after_inputs, runs_after_inputs, state_of, runs, samples_of}
use Rattle.cycle_engine.specs.Frames.{init_of}
use Rattle.cycle_engine.specs.Frames.{frames}
use Rattle.cycle_engine.specs.Engine.{EngineState, StandsFor, IsAfter, next_cycle, next_frame}

pub samples_of-append : (inputs more : List CycleInput) → samples_of (inputs ++ more) ≡ samples_of inputs ++ samples_of more
samples_of-append [] more = refl
samples_of-append (first ∷ inputs) more = ap (λ l. first.samples ∷ l) (samples_of-append inputs more)

length-rings : (event : ℕ) (events : List EventSpecValue) (rounds : List (List SampleValue)) (arrived : List SampleValue)
    → length (rings_from event events rounds arrived) ≡ length events
unfolding rings_from
length-rings event [] rounds arrived = refl
length-rings event (spec ∷ events) rounds arrived = ap suc (length-rings (suc event) events rounds arrived)

-- the arguments of a cycle, replaced by equal ones
same_cycle : {S G E L P : Type 0} (m : Meaning S G E L P) {j k : S} {s t : State G E} {v w : List (List ℤ)} {a b : ℕ} (time : Option ℕ)
    {x y : Option ℕ}
    → j ≡ k → s ≡ t → v ≡ w → a ≡ b → x ≡ y → cycle_result m j s v a time x ≡ cycle_result m k t w b time y
same_cycle m time job state seen cycle next = λ i. cycle_result m (job i) (state i) (seen i) (cycle i) time (next i)

abbrev as_frame : CycleInput → Outcome → RunFrame
as_frame input outcome = record { input = input; outcome = outcome }

same_frame : (input : CycleInput) {f g : Format} {a b : Outcome} → f ≡ g → a ≡ b
    → as_frame input (outcome_in_format f a) ≡ as_frame input (outcome_in_format g b)
same_frame input format outcome = λ i. record { input = input; outcome = outcome_in_format (format i) (outcome i) }

same_after : {G E : Type 0} {s t : State G E} {a b : Result (Done G E) RefusedAtValue} → s ≡ t → a ≡ b → state_after s a ≡ state_after t b
same_after state cycle = λ i. state_after (state i) (cycle i)

abbrev as_run : RunFrame → Frame
as_run run = Run run

module _ {S G E L P : Type 0} (m : Meaning S G E L P) (profile : ProfileValue) where
  -- the state after two lists of inputs is that after the second, from the state after the first
  pub state_after_inputs-append : (before inputs more : List CycleInput) (state : State G E)
      → state_after_inputs m profile before state (inputs ++ more) ≡ state_after_inputs m profile (before ++ inputs)
      (state_after_inputs m profile before state inputs) more
  unfolding state_after_inputs
  state_after_inputs-append before [] more state = ap (λ b. state_after_inputs m profile b state more) (sym (append-nil before))
  state_after_inputs-append before (input ∷ inputs) more state =
      state_after_inputs-append (before ++ input ∷ []) inputs more (state_after state (cycle_of m profile before state input))
      ∙ ap (λ b. state_after_inputs m profile b (state_after_inputs m profile (before ++ input ∷ [])
      (state_after state (cycle_of m profile before state input)) inputs) more)
      (append_assoc before (input ∷ []) inputs)

  -- and so are the frames
  pub runs_after_inputs-append : (before inputs more : List CycleInput) (state : State G E)
      → runs_after_inputs m profile before state (inputs ++ more)
      ≡ runs_after_inputs m profile before state inputs ++ runs_after_inputs m profile (before
      ++ inputs) (state_after_inputs m profile before state inputs)
      more
  unfolding state_after_inputs runs_after_inputs
  runs_after_inputs-append before [] more state = ap (λ b. runs_after_inputs m profile b state more) (sym (append-nil before))
  runs_after_inputs-append before (input ∷ inputs) more state =
      ap (λ l. frame_of m profile before state input ∷ l)
      (runs_after_inputs-append (before ++ input ∷ []) inputs more (state_after state (cycle_of m profile before state input))
      ∙ ap (λ b. runs_after_inputs m profile (before ++ input ∷ []) (state_after state (cycle_of m profile before state input)) inputs
      ++ runs_after_inputs m profile b (state_after_inputs m profile (before ++ input
      ∷ []) (state_after state (cycle_of m profile before state input))
      inputs) more)
      (append_assoc before (input ∷ []) inputs))

  -- the state after one more input is that after its cycle
  pub state_of-append : (inputs : List CycleInput) (input : CycleInput)
      → state_of m profile (inputs ++ input ∷ []) ≡ state_after (state_of m profile inputs)
      (cycle_of m profile inputs (state_of m profile inputs) input)
  unfolding state_after_inputs
  state_of-append inputs input = state_after_inputs-append [] inputs (input ∷ []) (first_state m profile)

  -- one more input gives one more frame
  pub runs-append : (inputs : List CycleInput) (input : CycleInput)
      → runs m profile (inputs ++ input ∷ []) ≡ runs m profile inputs ++ frame_of m profile inputs (state_of m profile inputs) input ∷ []
  unfolding runs_after_inputs
  runs-append inputs input = runs_after_inputs-append [] inputs (input ∷ []) (first_state m profile)

  -- there are as many frames of cycles as inputs
  pub length-runs : (before inputs : List CycleInput) (state : State G E)
      → length (runs_after_inputs m profile before state inputs) ≡ length inputs
  unfolding runs_after_inputs
  length-runs before [] state = refl
  length-runs before (input ∷ inputs) state = ap suc (length-runs (before ++ input ∷ []) inputs
      (state_after state (cycle_of m profile before state input)))

  -- the frames of a run that goes on begin with those so far
  pub frames-append : (inputs : List CycleInput) (input : CycleInput)
      → frames m profile (inputs ++ input ∷ []) false ≡ frames m profile inputs false
      ++ Run (frame_of m profile inputs (state_of m profile inputs) input) ∷ []
  frames-append inputs input =
      let start : List Frame = Register ∷ Discover ∷ Init (init_of m profile) ∷ [] in
      let frame : RunFrame = frame_of m profile inputs (state_of m profile inputs) input in
      append-nil (start ++ map as_run (runs m profile (inputs ++ input ∷ [])))
      ∙ ap (λ l. start ++ map as_run l) (runs-append inputs input)
      ∙ ap (λ l. start ++ l) (map-append as_run (runs m profile inputs) (frame ∷ []))
      ∙ sym (append_assoc start (map as_run (runs m profile inputs)) (Run frame ∷ []))
      ∙ ap (λ l. l ++ Run frame ∷ []) (sym (append-nil (start ++ map as_run (runs m profile inputs))))

  -- and those of a run that ends are followed by Terminate
  pub frames-ended : (inputs : List CycleInput) → frames m profile inputs true ≡ frames m profile inputs false ++ Terminate ∷ []
  frames-ended inputs =
      let start : List Frame = Register ∷ Discover ∷ Init (init_of m profile) ∷ [] in
      ap (λ l. l ++ Terminate ∷ []) (sym (append-nil (start ++ map as_run (runs m profile inputs))))

  -- at its start an engine shows the elements of Init
  pub init_is : (engine : EngineState S G E) → StandsFor m profile engine []
      → map (m.shown engine.job) engine.state.elements ≡ init_of m profile
  unfolding state_after_inputs
  init_is engine stands = λ i. map (m.shown (stands.job i)) (stands.state i).elements

  -- an engine in the run has as many events as the profile
  pub stands_events : (engine : EngineState S G E) (inputs : List CycleInput) → StandsFor m profile engine inputs
      → length engine.rings ≡ length profile.events
  stands_events engine inputs stands = ap length stands.rings.rings ∙ length-rings 0 profile.events (samples_of inputs) []

  -- the next cycle of an engine in the run is that of the run
  pub cycle_is : (engine : EngineState S G E) (inputs : List CycleInput) (input : CycleInput) → StandsFor m profile engine inputs
      → next_cycle m engine input.time ≡ cycle_of m profile inputs (state_of m profile inputs) input
  cycle_is engine inputs input stands =
      same_cycle m input.time stands.job stands.state (seen_windows _ _ _ _ stands.rings) (ap (λ n. n + 1) stands.cycles)
      (ap (λ t. next_time t input.time) stands.cycle_time)

  -- and so is its frame
  pub frame_is : (engine : EngineState S G E) (inputs : List CycleInput) (input : CycleInput) → StandsFor m profile engine inputs
      → next_frame m engine input ≡ frame_of m profile inputs (state_of m profile inputs) input
  frame_is engine inputs input stands =
      same_frame input stands.format (ap outcome_of (cycle_is engine inputs input stands))

  -- an engine is in the run after its next cycle too
  pub stands_after : (old new : EngineState S G E) (inputs : List CycleInput) (input : CycleInput)
      → StandsFor m profile old inputs → IsAfter m old input new → StandsFor m profile new (inputs ++ input ∷ [])
  stands_after old new inputs input stands after = record {
    job = after.job ∙ stands.job;
    format = after.format ∙ stands.format;
    cycle_time = after.cycle_time ∙ stands.cycle_time;
    state = after.state ∙ same_after stands.state (cycle_is old inputs input stands) ∙ sym (state_of-append inputs input);
    cycles = after.cycles ∙ ap (λ n. n + 1) stands.cycles ∙ sym (length-append inputs (input ∷ []));
    rings = let Seen : List (List SampleValue) → Type 0 = λ rounds. HasSeen new.rings profile.events rounds [] in
        subst Seen (sym (samples_of-append inputs (input ∷ []))) (after.rings profile.events (samples_of inputs) stands.rings);
  }
