-- In which parts two copies of a cycle differ.
use Rattle.std.specs.Prelude.{ℕ, suc, ◌+◌, ◌/◌, List, [], ◌∷◌, Bool, false, nat_eq, slice_set}
use Rattle.std.specs.Prelude.{replicate, if◌then◌else◌}
use Rattle.std.specs.Option.{option_eq}
use Rattle.std.specs.Cmp.Lexicographic.{pointwise}
use Rattle.det_values.specs.Equal.{drawn_eq}
use Rattle.det_values.specs.contracts.refused_at.RefusedAtPartialEq.TheImpl as place
use Rattle.det_values.specs.contracts.sample.SamplePartialEq.TheImpl as sample
use Rattle.det_values.specs.declared.frames.DrawnElement.{DrawnElement}
use Rattle.det_values.specs.declared.frames.Outcome.{Outcome}
use Rattle.det_values.specs.declared.frames.Outcome.TheVariants.{Finished, Refused}
use Rattle.det_values.specs.declared.frames.RunFrame.{RunFrame}
use Rattle.page.specs.declared.run_difference.ElementMarks.{ElementMarks}
use Rattle.page.specs.declared.run_difference.PageDifference.{PageDifference}
use Rattle.page.specs.Walks.{runs_of}

abbrev pub unless : Bool → ℕ
unless same = if same then 0 else 1

-- ---- elements

abbrev pub no_marks : ElementMarks
no_marks = record { count = 0; marks = replicate 64 0 }

abbrev pub add_pair : Bool → ℕ → ElementMarks → ElementMarks
add_pair same mark m =
    if same then m else record { count = m.count + 1; marks = slice_set m.marks mark 1 }

-- Of pairs of elements from this number on, those that differ are counted and marked. A mark is
-- for `per` elements. The end of the shorter list is a difference too.
abbrev pub marks_from : ℕ → ℕ → List DrawnElement → List DrawnElement → ElementMarks → ElementMarks
marks_from per n [] [] m = m
marks_from per n [] (y ∷ ys) m = marks_from per (suc n) [] ys (add_pair false (n / per) m)
marks_from per n (x ∷ xs) [] m = marks_from per (suc n) xs [] (add_pair false (n / per) m)
marks_from per n (x ∷ xs) (y ∷ ys) m =
    marks_from per (suc n) xs ys (add_pair (drawn_eq x y) (n / per) m)

-- ---- runs

abbrev pub time_and_samples : ℕ → ℕ → PageDifference
time_and_samples time samples = record {
  time = time;
  samples = samples;
  result = 0;
  output = 0;
  elements = 0;
  marks = replicate 64 0;
}

abbrev pub with_result : PageDifference → ℕ → PageDifference
with_result found result = record {
  time = found.time;
  samples = found.samples;
  result = result;
  output = found.output;
  elements = found.elements;
  marks = found.marks;
}

abbrev pub with_marks : PageDifference → ℕ → ElementMarks → PageDifference
with_marks found output m = record {
  time = found.time;
  samples = found.samples;
  result = found.result;
  output = output;
  elements = m.count;
  marks = m.marks;
}

abbrev pub with_outcomes : PageDifference → ℕ → Outcome → Outcome → PageDifference
with_outcomes found per (Refused at) (Refused other) =
    with_result found (unless (place.eq-value.it at other))
with_outcomes found per (Finished elements output) (Finished others other) =
    with_marks found (unless (pointwise nat_eq output other))
    (marks_from per 0 elements others no_marks)
with_outcomes found per outcome other = with_result found 1

-- in which parts two runs of a cycle differ
abbrev pub difference_of : ℕ → RunFrame → RunFrame → PageDifference
difference_of per run other =
    with_outcomes (time_and_samples (unless (option_eq nat_eq run.input.time other.input.time))
    (unless (pointwise sample.eq-value.it run.input.samples other.input.samples)))
    per run.outcome other.outcome

abbrev pub pairwise : {X Y : Type 0} → (X → X → Y) → List X → List X → List Y
pairwise f [] ys = []
pairwise f (x ∷ xs) [] = []
pairwise f (x ∷ xs) (y ∷ ys) = f x y ∷ pairwise f xs ys

-- those of two records, as far as both have cycles
abbrev pub differences_of : ℕ → List ℕ → List ℕ → List PageDifference
differences_of per first other = pairwise (difference_of per) (runs_of first) (runs_of other)
