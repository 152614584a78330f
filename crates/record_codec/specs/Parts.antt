-- The parts of an item, as its owned value has them.
use Rattle.std.specs.Prelude.{◌≡◌, ℕ, ◌≤◌, List}
use Rattle.det_values.specs.declared.frames.DrawnElement.{DrawnElement}
use Rattle.det_values.specs.declared.frames.Outcome.{Outcome}
use Rattle.det_values.specs.declared.frames.RunFrame.{RunFrame}
use Rattle.record_codec.specs.declared.fill_run.FinishedView.{FinishedView}
use Rattle.record_grammar.specs.declared.place.Place.{Place}
use Rattle.record_grammar.specs.Places.{format_of}
use Rattle.record_view.specs.declared.view.InputView.{InputView}
use Rattle.record_view.specs.declared.view.OutcomeView.{OutcomeView}
use Rattle.record_view.specs.declared.view.OutcomeView.TheVariants.{Finished, Refused}
use Rattle.record_view.specs.Shows.{ShowsInput, ShowsOutcome, ShowsFinished, events_of}

-- an element's bytes
abbrev pub bytes_of : DrawnElement → List ℕ
bytes_of e = e.bytes

-- input and outcome of a run are at these offsets
pub record ShowsRun (place : Place) (input : InputView) (outcome : OutcomeView) (len : ℕ)
    (bytes : List ℕ) (run : RunFrame) : Type 0 where
  pub input_is : ShowsInput (events_of place) input bytes run.input
  pub outcome_is : ShowsOutcome (format_of place) outcome len bytes run.outcome

-- there are no more elements than a cycle may have
abbrev pub FewElements : OutcomeView → Type 0
FewElements (Finished count at output_at) = count ≤ 65536
FewElements (Refused at) = Unit {0}

-- the elements and the output of a finished cycle are at the view's offsets
abbrev pub ShowsFinishedView : FinishedView → ℕ → List ℕ → Outcome → Type 0
ShowsFinishedView view len bytes outcome =
    ShowsFinished view.format view.elements view.elements_at view.output_at len bytes outcome

-- some outcome's parts are there, and it has no more elements than a cycle may have
pub record IsFinishedView (view : FinishedView) (bytes : List ℕ) : Type 0 where
  pub shows : (len : ℕ) × (outcome : Outcome) × ShowsFinishedView view len bytes outcome
  pub few : view.elements ≤ 65536

-- the outcome that the view shows is this one
abbrev pub IsShownOutcome : FinishedView → List ℕ → Outcome → Type 0
IsShownOutcome view bytes outcome =
    (len : ℕ) (shown : Outcome) → ShowsFinishedView view len bytes shown → outcome ≡ shown
