-- The frames of a run in their places, and an engine after the first of them.
use Rattle.std.proofs.Common.{◌≡◌, ◌<◌, ◌≤◌, ◌+◌, ◌-◌, ℕ, zero, suc, List, [], ◌∷◌, ◌++◌, length, take, drop, map, get_or, Some}
use Rattle.std.proofs.Common.{true, false}
use Rattle.std.proofs.Common.{sym, ap, ◌∙◌, subst, arith, length-append, append_assoc, length-take}
use Rattle.std.specs.List.{slice_get}
use Rattle.std.proofs.lemmas.List.{take-append-drop, length-map, take_all}
use Rattle.std.proofs.lemmas.Option.{slice_get_within, slice_get-get_or}
use Rattle.det_values.specs.Values.{ProfileValue}
use Rattle.det_values.specs.declared.frames.CycleInput.{CycleInput}
use Rattle.det_values.specs.declared.frames.RunFrame.{RunFrame}
use Rattle.det_values.specs.declared.frames.Frame.{Frame}
use Rattle.det_values.specs.declared.frames.Frame.TheVariants.{Init, Run, Terminate}
use Rattle.job.specs.Meaning.{Meaning}
use Rattle.job.specs.Cycle.{state_after}
use Rattle.cycle_engine.specs.Engine.{EngineState, StandsFor}
use Rattle.cycle_engine.specs.Frames.{frames, frame_of, state_of, runs, runs_after_inputs, first_state, cycle_of}
use Rattle.cycle_engine.proofs.Standing.{runs_after_inputs-append, length-runs, init_is}
use Rattle.twins.specs.TwinFrames.{IsFrame, HasMade}
use Rattle.twins.proofs.Rows.{get-mapped, get-end, take-at}

abbrev pub as_run : RunFrame → Frame
as_run run = Run run

module _ {S G E L P : Type 0} (m : Meaning S G E L P) (profile : ProfileValue) where
  -- the run of an input that comes after others
  runs-at : (before : List CycleInput) (input : CycleInput) (after : List CycleInput)
      → (more : List RunFrame) × (runs m profile (before ++ input ∷ after)
      ≡ runs m profile before ++ frame_of m profile before (state_of m profile before) input ∷ more)
  unfolding runs_after_inputs
  runs-at before input after = (
    runs_after_inputs m profile (before ++ input ∷ []) (state_after (state_of m profile before)
        (cycle_of m profile before (state_of m profile before) input)) after,
    runs_after_inputs-append m profile [] before (input ∷ after) (first_state m profile),
  )

  run-at : (before : List CycleInput) (input : CycleInput) (after : List CycleInput)
      → slice_get (map as_run (runs m profile (before ++ input ∷ after)) ++ Terminate ∷ []) (length before)
      ≡ Some (Run (frame_of m profile before (state_of m profile before) input))
  run-at before input after =
      let r = runs-at before input after in
      let frame : RunFrame = frame_of m profile before (state_of m profile before) input in
      subst (λ (l : List RunFrame). slice_get (map as_run l ++ Terminate ∷ []) (length before) ≡ Some (Run frame)) (sym r.1)
      (subst (λ k. slice_get (map as_run (runs m profile before ++ frame ∷ r.0) ++ Terminate ∷ []) k ≡ Some (Run frame))
      (length-runs m profile [] before (first_state m profile))
      (get-mapped as_run (runs m profile before) frame r.0 (Terminate ∷ [])))

  -- the input of a frame
  pub input-at : (inputs : List CycleInput) (number : ℕ) (item input : CycleInput) → 3 ≤ number → number < length inputs + 3
      → item ≡ get_or inputs (number - 3) item → input ≡ item → slice_get inputs (number - 3) ≡ Some input
  input-at inputs number item input h w at same =
      slice_get-get_or inputs (number - 3) item (omega arith) ∙ ap (λ (x : CycleInput). Some x) (sym (same ∙ at))

  -- the frame of an input, which three others precede
  run-frame-at : (inputs : List CycleInput) (i : ℕ) (input : CycleInput) → slice_get inputs i ≡ Some input
      → IsFrame m profile inputs (suc (suc (suc i))) (Run (frame_of m profile (take i inputs) (state_of m profile (take i inputs)) input))
  run-frame-at inputs i input e =
      let before : List CycleInput = take i inputs in
      let all : before ++ input ∷ drop (i + 1) inputs ≡ inputs =
      sym (append_assoc before (input ∷ []) (drop (i + 1) inputs)) ∙ ap (λ l. l ++ drop (i + 1) inputs) (sym (take-at inputs i input e))
      ∙ take-append-drop (i + 1) inputs in
      let n : length before ≡ i = (let w = slice_get_within inputs i input e in omega (arith, w, length-take i inputs)) in
      subst (λ k. slice_get (map as_run (runs m profile inputs) ++ Terminate ∷ []) k
      ≡ Some (Run (frame_of m profile before (state_of m profile before) input))) n
      (subst (λ (l : List CycleInput). slice_get (map as_run (runs m profile l) ++ Terminate ∷ []) (length before)
      ≡ Some (Run (frame_of m profile before (state_of m profile before) input))) all
      (run-at before input (drop (i + 1) inputs)))

  behind-three : (number : ℕ) → 3 ≤ number → suc (suc (suc (number - 3))) ≡ number
  behind-three number h = omega arith

  pub run-frame : (inputs : List CycleInput) (number : ℕ) (input : CycleInput) → 3 ≤ number → slice_get inputs (number - 3) ≡ Some input
      → IsFrame m profile inputs number
      (Run (frame_of m profile (take (number - 3) inputs) (state_of m profile (take (number - 3) inputs)) input))
  run-frame inputs number input h e =
      let frame : Frame = Run (frame_of m profile (take (number - 3) inputs) (state_of m profile (take (number - 3) inputs)) input) in
      subst (λ k. IsFrame m profile inputs k frame) (behind-three number h) (run-frame-at inputs (number - 3) input e)

  -- the frame Init
  pub init-frame : (inputs : List CycleInput) (number : ℕ) (engine : EngineState S G E) → number ≡ 2
      → HasMade m profile inputs number engine
      → IsFrame m profile inputs number (Init (map (m.shown engine.job) engine.state.elements))
  init-frame inputs number engine h p =
      let begun : take (number - 3) inputs ≡ [] = ap (λ k. take k inputs) (let z : number - 3 ≡ 0 = omega arith in z) in
      let stands : StandsFor m profile engine [] = subst (λ (l : List CycleInput). StandsFor m profile engine l) begun p.stands in
      subst (λ k. IsFrame m profile inputs k (Init (map (m.shown engine.job) engine.state.elements)))
      (let two : suc (suc zero) ≡ number = omega arith in two)
      (ap (λ (x : List (List ℕ)). Some (Init x)) (sym (init_is m profile engine stands)))

  -- the last frame
  end-frame-at : (inputs : List CycleInput) (i : ℕ) → i ≡ length inputs → IsFrame m profile inputs (suc (suc (suc i))) Terminate
  end-frame-at inputs i h =
      let n : length (runs m profile inputs) ≡ i = length-runs m profile [] inputs (first_state m profile) ∙ sym h in
      subst (λ k. slice_get (map as_run (runs m profile inputs) ++ Terminate ∷ []) k ≡ Some Terminate) n
      (get-end as_run (runs m profile inputs) Terminate)

  pub end-frame : (inputs : List CycleInput) (number : ℕ) → number ≡ length inputs + 3 → IsFrame m profile inputs number Terminate
  end-frame inputs number h =
      subst (λ k. IsFrame m profile inputs k Terminate) (behind-three number (omega arith))
      (end-frame-at inputs (number - 3) (let n : number - 3 ≡ length inputs = omega arith in n))

  pub length-frames : (inputs : List CycleInput) → length (frames m profile inputs true) ≡ length inputs + 4
  length-frames inputs =
      let r = length-runs m profile [] inputs (first_state m profile) in
      let a = length-append (map as_run (runs m profile inputs)) (Terminate ∷ []) in
      let l = length-map (runs m profile inputs) as_run in
      omega (arith, r, a, l)

  -- ---- an engine after frames

  -- it stays where it is up to Init
  pub made-opening : (inputs : List CycleInput) (number : ℕ) (engine : EngineState S G E) → number < 3
      → HasMade m profile inputs number engine → HasMade m profile inputs (number + 1) engine
  made-opening inputs number engine h p = record {
    stands = subst (λ k. StandsFor m profile engine (take k inputs)) (let e : number - 3 ≡ (number + 1) - 3 = omega arith in e) p.stands;
    going = λ w. p.going (omega arith);
  }

  -- one cycle more
  pub made-run : (inputs : List CycleInput) (number : ℕ) (input : CycleInput) (engine next : EngineState S G E) → 3 ≤ number
      → slice_get inputs (number - 3) ≡ Some input → next.stopped ≡ false
      → StandsFor m profile next (take (number - 3) inputs ++ input ∷ []) → HasMade m profile inputs (number + 1) next
  made-run inputs number input engine next h e going stands = record {
    stands = subst (λ (l : List CycleInput). StandsFor m profile next l)
        (sym (take-at inputs (number - 3) input e)
        ∙ ap (λ k. take k inputs) (let n : (number - 3) + 1 ≡ (number + 1) - 3 = omega arith in n)) stands;
    going = λ w. going;
  }

  -- the run is ended
  pub made-end : (inputs : List CycleInput) (number : ℕ) (engine : EngineState S G E) → number ≡ length inputs + 3
      → HasMade m profile inputs number engine → HasMade m profile inputs (number + 1) (record engine { stopped = true })
  made-end inputs number engine h p = record {
    stands = let all : take (number - 3) inputs ≡ take ((number + 1) - 3) inputs =
        take_all (number - 3) inputs (omega arith) ∙ sym (take_all ((number + 1) - 3) inputs (omega arith)) in
        let s = subst (λ (l : List CycleInput). StandsFor m profile engine l) all p.stands in
        record { job = s.job; format = s.format; cycle_time = s.cycle_time; state = s.state; cycles = s.cycles; rings = s.rings };
    going = λ w. absurd (omega arith);
  }
