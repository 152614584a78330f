-- The row of a cycle, by the parts of its frame.
use Rattle.std.proofs.Common.{◌≡◌, ℕ, List, length, drop, sym, ap, subst, ◌∙◌}
use Rattle.std.specs.Borrow.{Bor}
use Rattle.det_values.specs.Values.{RefusedAtValue}
use Rattle.det_values.specs.declared.frames.CycleInput.{CycleInput}
use Rattle.det_values.specs.declared.frames.DrawnElement.{DrawnElement}
use Rattle.det_values.specs.declared.frames.Outcome.{Outcome}
use Rattle.det_values.specs.declared.frames.Outcome.TheVariants as outcomes
use Rattle.det_values.specs.declared.frames.RunFrame.{RunFrame}
use Rattle.record_grammar.specs.Grammar.{sample_at}
use Rattle.record_view.specs.declared.view.InputView.{InputView}
use Rattle.record_view.specs.Shows.{ShowsInput}
use Rattle.record_view.specs.Walks.{is_got, list_got}
use Rattle.record_view.proofs.Walked.{walk_counted}
use Rattle.page.specs.declared.record_walk.LentOutcome.{LentOutcome}
use Rattle.page.specs.declared.record_walk.LentOutcome.TheVariants.{Finished, Refused}
use Rattle.page.specs.declared.run_rows.PageRun.{PageRun}
use Rattle.page.specs.Rows.{phase_number, time_or_0, is_known, all_draws, outcome_row, row_of}
use Rattle.page.specs.Walks.{IsOutcomeOf}

finished_by : (count : ℕ) (elements : List DrawnElement) (output : Bor (List ℕ)) (o : Outcome) → IsOutcomeOf (Finished count elements output) o
    → (o ≡ outcomes.Finished elements output.now) × (length elements ≡ count)
finished_by count elements output (outcomes.Finished es bytes) h = (
  ap (λ xs. outcomes.Finished xs bytes) (sym h.0) ∙ ap (λ ys. outcomes.Finished elements ys) (sym h.1),
  ap length h.0 ∙ h.2,
)
finished_by count elements output (outcomes.Refused at) h = absurd h

pub finished_is : (x : LentOutcome) (count : ℕ) (elements : List DrawnElement) (output : Bor (List ℕ)) (o : Outcome)
    → x ≡ Finished count elements output → IsOutcomeOf x o → (o ≡ outcomes.Finished elements output.now) × (length elements ≡ count)
finished_is x count elements output o e h = finished_by count elements output o (subst (λ (y : LentOutcome). IsOutcomeOf y o) e h)

refused_by : (at : RefusedAtValue) (o : Outcome) → IsOutcomeOf (Refused at) o → o ≡ outcomes.Refused at
refused_by at (outcomes.Refused place) h = ap outcomes.Refused (sym h)
refused_by at (outcomes.Finished es bytes) h = absurd h

pub refused_is : (x : LentOutcome) (at : RefusedAtValue) (o : Outcome) → x ≡ Refused at → IsOutcomeOf x o → o ≡ outcomes.Refused at
refused_is x at o e h = refused_by at o (subst (λ (y : LentOutcome). IsOutcomeOf y o) e h)

-- the view counts the samples
samples_counted : (events : ℕ) (p : InputView) (bytes : List ℕ) (input : CycleInput) → ShowsInput events p bytes input
    → p.samples ≡ length input.samples
samples_counted events p bytes input h =
    sym (walk_counted (sample_at events) p.samples (drop p.samples_at bytes) (ap is_got h.samples)) ∙ ap (λ r. length (list_got r)) h.samples

abbrev pub full_row : ℕ → ℕ → ℕ → ℕ → ℕ → ℕ → PageRun
full_row time draws output known samples elements = record {
  time = time;
  draws = draws;
  output = output;
  known = known;
  samples = samples;
  elements = elements;
  outcome = 0;
  pass = 0;
  element = 0;
  code = 0;
}

pub row_finished : (frame : RunFrame) (events : ℕ) (p : InputView) (bytes : List ℕ) (elements : List DrawnElement) (output : List ℕ)
    (count time known draws : ℕ) → ShowsInput events p bytes frame.input → frame.outcome ≡ outcomes.Finished elements output
    → length elements ≡ count → time ≡ time_or_0 p.time → known ≡ is_known p.time → draws ≡ all_draws elements
    → full_row time draws (length output) known p.samples count ≡ row_of frame
row_finished frame events p bytes elements output count time known draws s o n t k d =
    ap (λ x. full_row x draws (length output) known p.samples count) (t ∙ ap time_or_0 (sym s.time))
    ∙ ap (λ x. full_row (time_or_0 frame.input.time) x (length output) known p.samples count) d
    ∙ ap (λ x. full_row (time_or_0 frame.input.time) (all_draws elements) (length output) x p.samples count) (k ∙ ap is_known (sym s.time))
    ∙ ap (λ x. full_row (time_or_0 frame.input.time) (all_draws elements) (length output) (is_known frame.input.time) x count)
    (samples_counted events p bytes frame.input s)
    ∙ ap (λ x. full_row (time_or_0 frame.input.time) (all_draws elements) (length output) (is_known frame.input.time)
    (length frame.input.samples) x) (sym n)
    ∙ ap (outcome_row frame.input) (sym o)

abbrev pub empty_row : ℕ → ℕ → ℕ → ℕ → RefusedAtValue → PageRun
empty_row time known samples phase at = record {
  time = time;
  draws = 0;
  output = 0;
  known = known;
  samples = samples;
  elements = 0;
  outcome = phase;
  pass = at.pass;
  element = at.element;
  code = at.code;
}

pub row_refused : (frame : RunFrame) (events : ℕ) (p : InputView) (bytes : List ℕ) (at : RefusedAtValue) (time known phase : ℕ)
    → ShowsInput events p bytes frame.input → frame.outcome ≡ outcomes.Refused at → time ≡ time_or_0 p.time → known ≡ is_known p.time
    → phase ≡ phase_number at.phase → empty_row time known p.samples phase at ≡ row_of frame
row_refused frame events p bytes at time known phase s o t k ph =
    ap (λ x. empty_row x known p.samples phase at) (t ∙ ap time_or_0 (sym s.time))
    ∙ ap (λ x. empty_row (time_or_0 frame.input.time) x p.samples phase at) (k ∙ ap is_known (sym s.time))
    ∙ ap (λ x. empty_row (time_or_0 frame.input.time) (is_known frame.input.time) x phase at) (samples_counted events p bytes frame.input s)
    ∙ ap (λ x. empty_row (time_or_0 frame.input.time) (is_known frame.input.time) (length frame.input.samples) x at) ph
    ∙ ap (outcome_row frame.input) (sym o)
