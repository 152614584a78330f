-- The first thing in which two frames differ.
use Rattle.std.specs.Prelude.{ℕ, suc, ◌-◌, List, [], ◌∷◌, Bool, Option, Some, None, nat_eq}
use Rattle.std.specs.Prelude.{if◌then◌else◌}
use Rattle.std.specs.Option.{option_eq, option_map, option_or}
use Rattle.std.specs.Cmp.Lexicographic.{pointwise}
use Rattle.det_values.specs.declared.frames.Outcome.{Outcome}
use Rattle.det_values.specs.declared.frames.Outcome.TheVariants.{Finished, Refused}
use Rattle.det_values.specs.declared.frames.RunFrame.{RunFrame}
use Rattle.det_values.specs.declared.frames.Frame.{Frame}
use Rattle.det_values.specs.declared.frames.Frame.TheVariants.{Register, Discover, Init, Run}
use Rattle.det_values.specs.declared.frames.Frame.TheVariants.{Terminate}
use Rattle.det_values.specs.Equal.{drawn_eq}
use Rattle.det_values.specs.contracts.refused_at.RefusedAtPartialEq.TheImpl as place
use Rattle.det_values.specs.contracts.sample.SamplePartialEq.TheImpl as sample
use Rattle.copies.specs.declared.difference.Difference.{Difference}
use Rattle.copies.specs.declared.difference.Difference.TheVariants as differences

-- the least index, counted on from `n`, at which two lists differ: the end of the shorter one is
-- a difference
abbrev pub first_apart : {A : Type 0} → (A → A → Bool) → ℕ → List A → List A → Option ℕ
first_apart same n [] [] = None
first_apart same n (x ∷ xs) (y ∷ ys) = if same x y then first_apart same (suc n) xs ys else Some n
first_apart same n xs ys = Some n

-- of two outcomes of a cycle; elements come before the output
abbrev pub outcome_difference : ℕ → Outcome → Outcome → Option Difference
outcome_difference cycle (Finished elements output) (Finished others other) =
    option_or (option_map (differences.Element cycle) (first_apart drawn_eq 0 elements others))
    (if pointwise nat_eq output other then None else Some (differences.Output cycle))
outcome_difference cycle (Refused at) (Refused other) =
    if place.eq-value.it at other then None else Some (differences.Result cycle)
outcome_difference cycle outcome other = Some (differences.Result cycle)

-- what a cycle was given comes before how it ended
abbrev pub run_difference : ℕ → RunFrame → RunFrame → Option Difference
run_difference cycle run other =
    if option_eq nat_eq run.input.time other.input.time then
    (if pointwise sample.eq-value.it run.input.samples other.input.samples then
    outcome_difference cycle run.outcome other.outcome
    else Some (differences.Samples cycle))
    else Some (differences.Time cycle)

-- of two frames of one number
abbrev pub frame_difference : ℕ → Frame → Frame → Option Difference
frame_difference frame Register Register = None
frame_difference frame Discover Discover = None
frame_difference frame (Init elements) (Init others) =
    option_map (differences.Element (frame - 2)) (first_apart (pointwise nat_eq) 0 elements others)
frame_difference frame (Run run) (Run other) = run_difference (frame - 2) run other
frame_difference frame Terminate Terminate = None
frame_difference frame one other = Some (differences.Kind frame)
