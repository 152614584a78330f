-- What a hint on a parameter says of the parameters of a job.
use Rattle.std.specs.Prelude.{◌≡◌, ℕ, ℤ, ◌<◌, List, length, false, Option, None, Some}
use Rattle.job_shared.specs.Params.{is_param}
use Rattle.hints_on_files.specs.declared.hint.Hint.{Hint}
use Rattle.hints_on_files.specs.declared.hint.Hint.TheVariants.{Parameter, TooManyParameters}
use Rattle.hints_on_files.specs.declared.parameters.ParameterRange.{ParameterRange}

-- the parameter of this number is missing or outside this range; without a range it is one too many
abbrev pub IsOutside : Option ParameterRange → ℕ → List ℤ → Type 0
IsOutside (Some range) index params = is_param params index range.1 range.2 ≡ false
IsOutside None index params = index < length params

-- a job refuses the parameter of this number only if that holds
abbrev pub IsRangeBy : (List ℤ → ℕ → Option ℕ) → Option ParameterRange → ℕ → Type 0
IsRangeBy bad_param range index =
    (params : List ℤ) (events : ℕ) → bad_param params events ≡ Some index
    → IsOutside range index params

abbrev pub HintHolds : Hint → List ℤ → Type 0
HintHolds (Parameter job index range) params = IsOutside (Some range) index params
HintHolds (TooManyParameters job most) params = IsOutside None most params
HintHolds other params = ⊥
