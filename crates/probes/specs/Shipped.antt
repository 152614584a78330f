-- What the shipped probes report, and when they leave.
use Rattle.std.specs.Prelude.{ℕ, ◌+◌, ◌-◌, ◌^◌, min, max, nat_le, nat_lt, Bool, true, false, List}
use Rattle.std.specs.Prelude.{[], ◌∷◌, length, take, Option, Some, None, if◌then◌else◌}
use Rattle.std.specs.List.{count_by}
use Rattle.std.specs.Option.{option_map}
use Rattle.det_values.specs.Values.{RefusedAtValue}
use Rattle.det_values.specs.declared.frames.RunFrame.{RunFrame}
use Rattle.det_values.specs.declared.frames.Outcome.{Outcome}
use Rattle.det_values.specs.declared.frames.Outcome.TheVariants.{Finished, Refused}
use Rattle.probes.specs.Reports.{ProbeLife}
use Rattle.probes.specs.Texts.{count_text, gap_text, limit_text, refusal_text}

-- a count in 32 bits, which saturates
abbrev pub counted : ℕ → ℕ
counted n = min n (2 ^ 32 - 1)

abbrev pub refusal_of : Outcome → Option RefusedAtValue
refusal_of (Refused at) = Some at
refusal_of (Finished elements output) = None

abbrev pub outcome_refused : Outcome → Bool
outcome_refused (Refused at) = true
outcome_refused (Finished elements output) = false

abbrev pub outcome_finished : Outcome → Bool
outcome_finished (Refused at) = false
outcome_finished (Finished elements output) = true

abbrev pub is_refused : RunFrame → Bool
is_refused run = outcome_refused run.outcome

abbrev pub is_finished : RunFrame → Bool
is_finished run = outcome_finished run.outcome

-- counts finished and refused runs, after these numbers of them, and stays
abbrev pub count_life : ℕ → ℕ → ProbeLife
count_life finished refused = record {
  report_after =
      λ runs. count_text (counted (finished + count_by is_finished runs))
      (counted (refused + count_by is_refused runs));
  runs_before = λ runs. None;
}

-- from one time to the next, if both are known and the second isn't earlier
abbrev pub gap_between : Option ℕ → Option ℕ → Option ℕ
gap_between None time = None
gap_between (Some before) None = None
gap_between (Some before) (Some time) = if nat_le before time then Some (time - before) else None

abbrev pub greater : Option ℕ → Option ℕ → Option ℕ
greater None gap = gap
greater (Some gap) None = Some gap
greater (Some gap) (Some other) = Some (max gap other)

-- the greatest gap between neighbours, with the time of the run before these
unfoldable pub greatest_gap : Option ℕ → List RunFrame → Option ℕ
greatest_gap last [] = None
greatest_gap last (run ∷ runs) =
    greater (gap_between last run.input.time) (greatest_gap run.input.time runs)

-- reports the greatest gap and stays; `last` is the time of the last run, and `gap` the greatest
-- gap so far
abbrev pub gap_life : Option ℕ → Option ℕ → ProbeLife
gap_life last gap =
    record {
      report_after = λ runs. gap_text (greater gap (greatest_gap last runs));
      runs_before = λ runs. None;
    }

-- how many runs a probe sees before the one at which it leaves, if it leaves at run number `most`
-- and saw `seen`
abbrev pub runs_left : ℕ → ℕ → ℕ
runs_left most seen = most - (seen + 1)

-- leaves at run number `most`, and reports how many runs it saw and how many of them were refused,
-- after these numbers of both
abbrev pub limit_life : ℕ → ℕ → ℕ → ProbeLife
limit_life most seen refused = record {
  report_after = λ runs.
      limit_text (counted (seen + length (take (runs_left most seen + 1) runs)))
      (counted (refused + count_by is_refused (take (runs_left most seen + 1) runs)));
  runs_before = λ runs.
      if nat_lt (runs_left most seen) (length runs) then Some (runs_left most seen) else None;
}

-- how many runs come before the first refused one
unfoldable pub first_refused : List RunFrame → Option ℕ
first_refused [] = None
first_refused (run ∷ runs) =
    if is_refused run then Some 0 else option_map (λ n. n + 1) (first_refused runs)

-- the report on these runs, after `seen` others: on the first refused run, or on `at` if none is
-- refused
unfoldable pub refusal_after : ℕ → Option RefusedAtValue → List RunFrame → List ℕ
refusal_after seen at [] = refusal_text seen at
refusal_after seen at (run ∷ runs) =
    if is_refused run then refusal_text (counted (seen + 1)) (refusal_of run.outcome)
    else refusal_after (counted (seen + 1)) at runs

-- leaves at the first refused run, and reports its number and where it was refused
abbrev pub refusal_life : ℕ → Option RefusedAtValue → ProbeLife
refusal_life seen at = record { report_after = refusal_after seen at; runs_before = first_refused }
