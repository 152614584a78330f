-- What a program finds before it prints: a value, or the answer that it ends with.
use Rattle.std.specs.Prelude.{◌≡◌, ◌≢◌, ◌⊎◌, [], Result, Ok, Err}
use Rattle.det_io.specs.declared.failure.Failure.{Failure}
use Rattle.det_io.specs.declared.failure.Failure.TheVariants.{Read, Write, OutOfMemory}
use Rattle.cli_answers.specs.Outcome.{OutcomeIn}

-- a value is printed; any other answer comes without a text
abbrev pub found_by : {V A : Type 0} → (V → OutcomeIn A) → Result V A → OutcomeIn A
found_by printed (Ok value) = printed value
found_by printed (Err answer) = record { answer = answer; bytes = [] }

-- What was found is the outcome `wanted`. `failed`, `is_known` and `read_failed` are as in
-- `MeetsBy`, and `printed` is the outcome of a value.
pub record FindsBy {V A : Type 0} (failed : Failure → A) (printed : V → OutcomeIn A)
    (wanted : OutcomeIn A) (is_known read_failed : Type 0) (found : Result V A) : Type 0 where
  -- if all bytes are known, it is, unless a read failed or memory ran out
  pub finds : is_known → (found ≡ Err (failed Read)) ⊎ ((found ≡ Err (failed OutOfMemory))
      ⊎ (found_by printed found ≡ wanted))
  pub read_fault : found ≡ Err (failed Read) → read_failed
  pub writes_nothing : found ≢ Err (failed Write)
