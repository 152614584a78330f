-- What inputs give in the places of frames.
use Rattle.std.proofs.Common.{◌≡◌, ℕ, suc, ◌+◌, List, [], ◌∷◌, ◌++◌, length, map, refl, sym, ap, subst, ◌∙◌}
use Rattle.std.proofs.Common.{true, append_assoc, append-nil}
use Rattle.det_values.specs.Values.{ProfileValue}
use Rattle.det_values.specs.declared.frames.CycleInput.{CycleInput}
use Rattle.det_values.specs.declared.frames.RunFrame.{RunFrame}
use Rattle.det_values.specs.declared.frames.Frame.{Frame}
use Rattle.det_values.specs.declared.frames.Frame.TheVariants.{Register, Discover, Init, Run, Terminate}
use Rattle.job.specs.Meaning.{Meaning}
use Rattle.job.specs.Cycle.{State}
use Rattle.cycle_engine.specs.Frames.{frames, frame_of, state_of, state_after_inputs, runs_after_inputs, init_of}
use Rattle.cycle_engine.proofs.Standing.{state_of-append}
use Rattle.record_grammar.specs.declared.place.Layout.{Layout}
use Rattle.record_grammar.specs.declared.place.Place.{Place}
use Rattle.record_grammar.specs.declared.place.Place.TheVariants as places
use Rattle.rerun.specs.checker.RerunFrames.{input_of, rerun_frame}
use Rattle.rerun.proofs.lemmas.checker.Departing.{inputs_of}
use Rattle.record_grammar.proofs.lemmas.record_laws.Order.{Follow}

abbrev pub as_run : RunFrame → Frame
as_run run = Run run

module _ {S G E L P : Type 0} (m : Meaning S G E L P) (profile : ProfileValue) where
  -- in the places of these frames, which come after inputs
  abbrev pub given_frames : List CycleInput → List Frame → List Frame
  given_frames before [] = []
  given_frames before (x ∷ xs) = rerun_frame m profile before x ∷ given_frames (before ++ input_of x) xs

  pub given-length : (before : List CycleInput) (xs : List Frame) → length (given_frames before xs) ≡ length xs
  given-length before [] = refl
  given-length before (x ∷ xs) = ap suc (given-length (before ++ input_of x) xs)

  pub given-append : (before : List CycleInput) (xs ys : List Frame)
      → given_frames before (xs ++ ys) ≡ given_frames before xs ++ given_frames (before ++ inputs_of xs) ys
  given-append before [] ys = ap (λ (b : List CycleInput). given_frames b ys) (sym (append-nil before))
  given-append before (x ∷ xs) ys =
      ap (λ (gs : List Frame). rerun_frame m profile before x ∷ gs)
      (given-append (before ++ input_of x) xs ys
      ∙ ap (λ (b : List CycleInput). given_frames (before ++ input_of x) xs ++ given_frames b ys)
      (append_assoc before (input_of x) (inputs_of xs)))

  -- ---- they are the first frames of the run

  -- what is given comes first of these frames, and is all of them where the end is reached
  pub record AreGiven (before : List CycleInput) (xs : List Frame) (to : Place) (all : List Frame) : Type 0 where
    pub rest : List Frame
    pub first : given_frames before xs ++ rest ≡ all
    pub ends : to ≡ places.End → rest ≡ []

  -- the frames after these inputs
  abbrev runs_from : List CycleInput → List CycleInput → List Frame
  runs_from before later = map as_run (runs_after_inputs m profile before (state_of m profile before) later) ++ Terminate ∷ []

  given-one : (before : List CycleInput) (x g : Frame) (xs all : List Frame) (to : Place) → rerun_frame m profile before x ≡ g
      → AreGiven (before ++ input_of x) xs to all → AreGiven before (x ∷ xs) to (g ∷ all)
  given-one before x g xs all to is h = record {
    rest = h.rest;
    first = ap (λ (y : Frame). y ∷ (given_frames (before ++ input_of x) xs ++ h.rest)) is ∙ ap (λ (ys : List Frame). g ∷ ys) h.first;
    ends = h.ends;
  }

  runs-next : (before : List CycleInput) (input : CycleInput) (later : List CycleInput)
      → Run (frame_of m profile before (state_of m profile before) input) ∷ runs_from (before ++ input ∷ []) later
      ≡ runs_from before (input ∷ later)
  unfolding runs_after_inputs
  runs-next before input later =
      ap (λ (s : State G E). Run (frame_of m profile before (state_of m profile before) input)
      ∷ (map as_run (runs_after_inputs m profile (before ++ input ∷ []) s later) ++ Terminate ∷ []))
      (state_of-append m profile before input)

  runs-end : (before : List CycleInput) → Terminate ∷ [] ≡ runs_from before []
  unfolding runs_after_inputs
  runs-end before = refl

  given-runs : (xs : List Frame) (layout : Layout) (k : ℕ) (to : Place) (before : List CycleInput)
      → Follow (places.Runs layout k) xs to → AreGiven before xs to (runs_from before (inputs_of xs))
  given-runs [] layout k to before h = record {
    rest = runs_from before [];
    first = refl;
    ends = λ e. absurd (let same : places.Runs layout k ≡ places.End = h ∙ e in cc);
  }
  given-runs (Run r ∷ xs) layout k to before h =
      subst (AreGiven before (Run r ∷ xs) to) (runs-next before r.input (inputs_of xs))
      (given-one before (Run r) (Run (frame_of m profile before (state_of m profile before) r.input)) xs
      (runs_from (before ++ r.input ∷ []) (inputs_of xs)) to refl (given-runs xs layout (k + 1) to (before ++ r.input ∷ []) h.1))
  given-runs (Terminate ∷ []) layout k to before h = record { rest = []; first = runs-end before; ends = λ e. refl }
  given-runs (Terminate ∷ (y ∷ ys)) layout k to before h = absurd h.1.0
  given-runs (Register ∷ xs) layout k to before h = absurd h.0
  given-runs (Discover ∷ xs) layout k to before h = absurd h.0
  given-runs (Init elements ∷ xs) layout k to before h = absurd h.0

  init-given : (elements : List (List ℕ)) → rerun_frame m profile [] (Init elements) ≡ Init (init_of m profile)
  unfolding state_after_inputs
  init-given elements = refl

  given-init : (xs : List Frame) (layout : Layout) (to : Place) → Follow (places.Init layout) xs to
      → AreGiven [] xs to (Init (init_of m profile) ∷ runs_from [] (inputs_of xs))
  given-init [] layout to h = record {
    rest = Init (init_of m profile) ∷ runs_from [] [];
    first = refl;
    ends = λ e. absurd (let same : places.Init layout ≡ places.End = h ∙ e in cc);
  }
  given-init (Init elements ∷ xs) layout to h =
      given-one [] (Init elements) (Init (init_of m profile)) xs (runs_from [] (inputs_of xs)) to (init-given elements)
      (given-runs xs layout 0 to [] h.1)
  given-init (Register ∷ xs) layout to h = absurd h.0
  given-init (Discover ∷ xs) layout to h = absurd h.0
  given-init (Run r ∷ xs) layout to h = absurd h.0
  given-init (Terminate ∷ xs) layout to h = absurd h.0

  given-discover : (xs : List Frame) (layout : Layout) (to : Place) → Follow (places.Discover layout) xs to
      → AreGiven [] xs to (Discover ∷ Init (init_of m profile) ∷ runs_from [] (inputs_of xs))
  given-discover [] layout to h = record {
    rest = Discover ∷ Init (init_of m profile) ∷ runs_from [] [];
    first = refl;
    ends = λ e. absurd (let same : places.Discover layout ≡ places.End = h ∙ e in cc);
  }
  given-discover (Discover ∷ xs) layout to h =
      given-one [] Discover Discover xs (Init (init_of m profile) ∷ runs_from [] (inputs_of xs)) to refl (given-init xs layout to h.1)
  given-discover (Register ∷ xs) layout to h = absurd h.0
  given-discover (Init elements ∷ xs) layout to h = absurd h.0
  given-discover (Run r ∷ xs) layout to h = absurd h.0
  given-discover (Terminate ∷ xs) layout to h = absurd h.0

  -- of frames in order the inputs give the first frames of their run, and all of them where they end it
  pub given-first : (xs : List Frame) (layout : Layout) (to : Place) → Follow (places.Register layout) xs to
      → AreGiven [] xs to (frames m profile (inputs_of xs) true)
  unfolding state_after_inputs
  given-first [] layout to h = record {
    rest = frames m profile [] true;
    first = refl;
    ends = λ e. absurd (let same : places.Register layout ≡ places.End = h ∙ e in cc);
  }
  given-first (Register ∷ xs) layout to h =
      given-one [] Register Register xs (Discover ∷ Init (init_of m profile) ∷ runs_from [] (inputs_of xs)) to refl
      (given-discover xs layout to h.1)
  given-first (Discover ∷ xs) layout to h = absurd h.0
  given-first (Init elements ∷ xs) layout to h = absurd h.0
  given-first (Run r ∷ xs) layout to h = absurd h.0
  given-first (Terminate ∷ xs) layout to h = absurd h.0
