-- Frames that are compared one after another with those that a run gives.
use Rattle.std.proofs.Common.{◌≡◌, ℕ, suc, ◌+◌, true, cond, List, [], ◌∷◌, ◌++◌, length, map, Option, Some, None, refl, sym, ap}
use Rattle.std.proofs.Common.{subst, ◌∙◌, append_assoc, append-nil, arith}
use Rattle.std.specs.List.{flat_map}
use Rattle.std.specs.Option.{is_none, option_or}
use Rattle.det_values.specs.Values.{ProfileValue}
use Rattle.det_values.specs.declared.frames.CycleInput.{CycleInput}
use Rattle.det_values.specs.declared.frames.RunFrame.{RunFrame}
use Rattle.det_values.specs.declared.frames.Frame.{Frame}
use Rattle.det_values.specs.declared.frames.Frame.TheVariants.{Register, Discover, Init, Run, Terminate}
use Rattle.job.specs.Meaning.{Meaning}
use Rattle.job.specs.Cycle.{State, state_after}
use Rattle.cycle_engine.specs.Frames.{frames, frame_of, cycle_of, state_of, state_after_inputs, runs_after_inputs, init_of}
use Rattle.cycle_engine.proofs.Standing.{state_of-append}
use Rattle.record_grammar.specs.declared.place.Layout.{Layout}
use Rattle.record_grammar.specs.declared.place.Place.{Place}
use Rattle.record_grammar.specs.declared.place.Place.TheVariants as places
use Rattle.record_grammar.specs.declared.item.Item.TheVariants as items
use Rattle.record_grammar.specs.Places.{after, CanFollow}
use Rattle.copies.specs.declared.difference.Difference.{Difference}
use Rattle.copies.specs.FirstDifference.{frame_difference}
use Rattle.rerun.specs.checker.Departure.{agreeing_count, departure_from}
use Rattle.rerun.specs.checker.RerunFrames.{input_of, rerun_frame}

-- the inputs of frames
abbrev pub inputs_of : List Frame → List CycleInput
inputs_of fs = flat_map input_of fs

abbrev as_run : RunFrame → Frame
as_run run = Run run

-- these frames may come in a record from a place on
abbrev pub AreInOrder : Place → List Frame → Type 0
AreInOrder place [] = Unit {0}
AreInOrder place (x ∷ xs) = CanFollow place (items.Frame x) × AreInOrder (after place (items.Frame x)) xs

-- ---- options

either-none : {A : Type 0} (o p : Option A) → option_or o p ≡ None → (o ≡ None) × (p ≡ None)
either-none (Some x) p e = absurd cc
either-none None p e = (refl, e)

module _ {S G E L P : Type 0} (m : Meaning S G E L P) (profile : ProfileValue) where
  -- the first difference of frames from those that the run gives in their places, after these inputs; the first frame has this number
  unfoldable pub departs : ℕ → List CycleInput → List Frame → Option Difference
  departs number before [] = None
  departs number before (x ∷ xs) =
      option_or (frame_difference number x (rerun_frame m profile before x)) (departs (suc number) (before ++ input_of x) xs)

  -- how many frames come before it
  unfoldable pub agrees : ℕ → List CycleInput → List Frame → ℕ
  agrees number before [] = 0
  agrees number before (x ∷ xs) =
      cond (is_none (frame_difference number x (rerun_frame m profile before x))) (suc (agrees (suc number) (before ++ input_of x) xs)) 0

  -- ---- more frames after some

  -- a difference that was found stays the first one
  pub departs-stays : (front rest : List Frame) (number : ℕ) (before : List CycleInput) (at : Difference)
      → departs number before front ≡ Some at
      → (departs number before (front ++ rest) ≡ Some at) × (agrees number before (front ++ rest) ≡ agrees number before front)
  unfolding departs agrees
  departs-stays [] rest number before at e = absurd cc
  departs-stays (x ∷ xs) rest number before at e =
      by (frame_difference number x (rerun_frame m profile before x)) (departs-stays xs rest (suc number) (before ++ input_of x) at) e
    where
      by : (o : Option Difference)
          → (departs (suc number) (before ++ input_of x) xs ≡ Some at
          → (departs (suc number) (before ++ input_of x) (xs ++ rest) ≡ Some at)
          × (agrees (suc number) (before ++ input_of x) (xs ++ rest) ≡ agrees (suc number) (before ++ input_of x) xs))
          → option_or o (departs (suc number) (before ++ input_of x) xs) ≡ Some at
          → (option_or o (departs (suc number) (before ++ input_of x) (xs ++ rest)) ≡ Some at)
          × (cond (is_none o) (suc (agrees (suc number) (before ++ input_of x) (xs ++ rest))) 0
          ≡ cond (is_none o) (suc (agrees (suc number) (before ++ input_of x) xs)) 0)
      by (Some d) later e = (e, refl)
      by None later e = let both = later e in (both.0, ap suc both.1)

  -- where no frame differs, those after them decide
  pub departs-on : (front rest : List Frame) (number next : ℕ) (before : List CycleInput) → next ≡ number + length front
      → departs number before front ≡ None
      → (departs number before (front ++ rest) ≡ departs next (before ++ inputs_of front) rest)
      × (agrees number before (front ++ rest) ≡ length front + agrees next (before ++ inputs_of front) rest)
  unfolding departs agrees
  departs-on [] rest number next before is e =
      let same : number ≡ next = omega (arith, is) in
      let none : 0 + agrees next (before ++ []) rest ≡ agrees next (before ++ []) rest = omega arith in (
        (λ i. departs (same i) (sym (append-nil before) i) rest),
        (λ i. agrees (same i) (sym (append-nil before) i) rest) ∙ sym none,
      )
  departs-on (x ∷ xs) rest number next before is e =
      let o = frame_difference number x (rerun_frame m profile before x) in
      let both = either-none o (departs (suc number) (before ++ input_of x) xs) e in
      let on : next ≡ suc number + length xs = omega (arith, is) in
      let later = departs-on xs rest (suc number) next (before ++ input_of x) on both.1 in
      let same = append_assoc before (input_of x) (inputs_of xs) in
      let sum : suc (length xs + agrees next (before ++ (input_of x ++ inputs_of xs)) rest)
      ≡ suc (length xs) + agrees next (before ++ (input_of x ++ inputs_of xs)) rest = omega arith in (
        ap (λ (p : Option Difference). option_or p (departs (suc number) (before ++ input_of x) (xs ++ rest))) both.0 ∙ later.0
            ∙ ap (λ (l : List CycleInput). departs next l rest) same,
        ap (λ (p : Option Difference). cond (is_none p) (suc (agrees (suc number) (before ++ input_of x) (xs ++ rest))) 0) both.0
            ∙ ap suc (later.1 ∙ ap (λ (l : List CycleInput). length xs + agrees next l rest) same) ∙ sum,
      )

  -- where no frame differs, all agree
  pub agrees-all : (fs : List Frame) (number : ℕ) (before : List CycleInput) → departs number before fs ≡ None
      → agrees number before fs ≡ length fs
  unfolding departs agrees
  agrees-all [] number before e = refl
  agrees-all (x ∷ xs) number before e =
      let o = frame_difference number x (rerun_frame m profile before x) in
      let both = either-none o (departs (suc number) (before ++ input_of x) xs) e in
      ap (λ (p : Option Difference). cond (is_none p) (suc (agrees (suc number) (before ++ input_of x) xs)) 0) both.0
      ∙ ap suc (agrees-all xs (suc number) (before ++ input_of x) both.1)

  -- the first frame decides
  pub departs-one : (x : Frame) (xs : List Frame) (number : ℕ) (before : List CycleInput) (at : Difference)
      → frame_difference number x (rerun_frame m profile before x) ≡ Some at
      → (departs number before (x ∷ xs) ≡ Some at) × (agrees number before (x ∷ xs) ≡ 0)
  unfolding departs agrees
  departs-one x xs number before at e = (
    ap (λ (p : Option Difference). option_or p (departs (suc number) (before ++ input_of x) xs)) e,
    ap (λ (p : Option Difference). cond (is_none p) (suc (agrees (suc number) (before ++ input_of x) xs)) 0) e,
  )

  pub departs-none : (number : ℕ) (before : List CycleInput) → departs number before [] ≡ None
  unfolding departs
  departs-none number before = refl

  -- one frame more that is the one given
  pub departs-next : (front : List Frame) (x : Frame) (number next : ℕ) (before : List CycleInput) → next ≡ number + length front
      → departs number before front ≡ None
      → frame_difference next x (rerun_frame m profile (before ++ inputs_of front) x) ≡ None
      → departs number before (front ++ x ∷ []) ≡ None
  unfolding departs
  departs-next front x number next before is none same =
      (departs-on front (x ∷ []) number next before is none).0
      ∙ ap (λ (p : Option Difference). option_or p None) same

  -- ---- the frames of the whole run

  -- frames and those of a run that are compared with them, in both forms
  abbrev pub AreSame : ℕ → List CycleInput → List Frame → List Frame → Type 0
  AreSame number before fs given =
      (departure_from number fs given ≡ departs number before fs) × (agreeing_count number fs given ≡ agrees number before fs)

  same-none : (number : ℕ) (before : List CycleInput) (given : List Frame) → AreSame number before [] given
  unfolding departs agrees departure_from agreeing_count
  same-none number before given = (refl, refl)

  same-next : (number : ℕ) (before : List CycleInput) (x y : Frame) (fs later : List Frame) → y ≡ rerun_frame m profile before x
      → AreSame (suc number) (before ++ input_of x) fs later → AreSame number before (x ∷ fs) (y ∷ later)
  unfolding departs agrees departure_from agreeing_count
  same-next number before x y fs later is both = (
    ap (λ (g : Frame). option_or (frame_difference number x g) (departure_from (suc number) fs later)) is
        ∙ ap (option_or (frame_difference number x (rerun_frame m profile before x))) both.0,
    ap (λ (g : Frame). cond (is_none (frame_difference number x g)) (suc (agreeing_count (suc number) fs later)) 0) is
        ∙ ap (λ (k : ℕ). cond (is_none (frame_difference number x (rerun_frame m profile before x))) (suc k) 0) both.1,
  )

  -- the frames that a run gives from the Run frames on, in the state after these inputs
  abbrev rest_of : List CycleInput → State G E → List Frame → List Frame
  rest_of before state fs = map as_run (runs_after_inputs m profile before state (inputs_of fs)) ++ Terminate ∷ []

  in_runs : (layout : Layout) (count number : ℕ) (before : List CycleInput) (fs : List Frame) → AreInOrder (places.Runs layout count) fs
      → AreSame number before fs (rest_of before (state_of m profile before) fs)
  unfolding runs_after_inputs
  in_runs layout count number before [] h = same-none number before _
  in_runs layout count number before (Run r ∷ fs) h =
      let state = state_of m profile before in
      let given = frame_of m profile before state r.input in
      let next = state_after state (cycle_of m profile before state r.input) in
      same-next number before (Run r) (Run given) fs (rest_of (before ++ r.input ∷ []) next fs) refl
      (subst (λ (s : State G E). AreSame (suc number) (before ++ r.input ∷ []) fs (rest_of (before ++ r.input ∷ []) s fs))
      (state_of-append m profile before r.input) (in_runs layout (count + 1) (suc number) (before ++ r.input ∷ []) fs h.1))
  in_runs layout count number before (Terminate ∷ []) h =
      same-next number before Terminate Terminate [] [] refl (same-none (suc number) (before ++ []) [])
  in_runs layout count number before (Terminate ∷ x ∷ fs) h = elim h.1.0 [ ]
  in_runs layout count number before (x ∷ fs) h = elim h.0 [ ]

  in_init : (layout : Layout) (fs : List Frame) → AreInOrder (places.Init layout) fs
      → AreSame 2 [] fs (Init (init_of m profile) ∷ rest_of [] (state_of m profile []) fs)
  unfolding state_after_inputs
  in_init layout [] h = same-none 2 [] _
  in_init layout (Init elements ∷ fs) h =
      same-next 2 [] (Init elements) (Init (init_of m profile)) fs (rest_of [] (state_of m profile []) fs) refl
      (in_runs layout 0 3 [] fs h.1)
  in_init layout (x ∷ fs) h = elim h.0 [ ]

  in_discover : (layout : Layout) (fs : List Frame) → AreInOrder (places.Discover layout) fs
      → AreSame 1 [] fs (Discover ∷ Init (init_of m profile) ∷ rest_of [] (state_of m profile []) fs)
  in_discover layout [] h = same-none 1 [] _
  in_discover layout (Discover ∷ fs) h =
      same-next 1 [] Discover Discover fs (Init (init_of m profile) ∷ rest_of [] (state_of m profile []) fs) refl (in_init layout fs h.1)
  in_discover layout (x ∷ fs) h = elim h.0 [ ]

  in_register : (layout : Layout) (fs : List Frame) → AreInOrder (places.Register layout) fs
      → AreSame 0 [] fs (Register ∷ Discover ∷ Init (init_of m profile) ∷ rest_of [] (state_of m profile []) fs)
  in_register layout [] h = same-none 0 [] _
  in_register layout (Register ∷ fs) h =
      same-next 0 [] Register Register fs (Discover ∷ Init (init_of m profile) ∷ rest_of [] (state_of m profile []) fs) refl
      (in_discover layout fs h.1)
  in_register layout (x ∷ fs) h = elim h.0 [ ]

  -- frames in order are compared with those of the whole run that their inputs give
  pub all-same : (layout : Layout) (fs : List Frame) → AreInOrder (places.Register layout) fs
      → AreSame 0 [] fs (frames m profile (inputs_of fs) true)
  unfolding state_after_inputs
  all-same layout fs h = in_register layout fs h
