-- The derived `==` of values decides whether they are equal.
use Rattle.std.proofs.Common.{◌≡◌, ℕ, Bool, ◌&&◌, nat_eq, rules, refl, sym, ap, ◌∙◌}
use Rattle.std.specs.Prelude.{Option}
use Rattle.std.specs.Option.{option_eq}
use Rattle.std.specs.Bool.{Decides}
use Rattle.std.specs.Cmp.Lexicographic.{pointwise, pointwise_decides}
use Rattle.std.proofs.lemmas.Bool.Decides.{Decides-eqb, Decides-int_eq, Decides-and, Decides-like}
use Rattle.det_values.specs.Values.{SampleValue, EventSpecValue, ProfileValue}
use Rattle.det_values.specs.declared.frames.CycleInput.{CycleInput}
use Rattle.det_values.specs.declared.frames.RunFrame.{RunFrame}
use Rattle.det_values.specs.declared.frames.Outcome.{Outcome}
use Rattle.det_values.specs.declared.frames.Outcome.TheVariants.{Finished, Refused}
use Rattle.det_values.specs.declared.frames.Frame.{Frame}
use Rattle.det_values.specs.declared.frames.Frame.TheVariants.{Register, Discover, Init, Run, Terminate}
use Rattle.det_values.specs.declared.refused_at.RefusedAt.{RefusedAt}
use Rattle.det_values.specs.contracts.refused_at.RefusedAtPartialEq.TheImpl as place
use Rattle.det_values.specs.contracts.event.EventSpecPartialEq.TheImpl as event
use Rattle.det_values.specs.contracts.profile.ProfilePartialEq.TheImpl as profile
use Rattle.det_values.specs.contracts.sample.SamplePartialEq.TheImpl as sample
use Rattle.det_values.specs.contracts.frames.CycleInputPartialEq.TheImpl as input
use Rattle.det_values.specs.contracts.frames.OutcomePartialEq.TheImpl as outcome
use Rattle.det_values.specs.contracts.frames.RunFramePartialEq.TheImpl as run
use Rattle.det_values.specs.contracts.frames.FramePartialEq.TheImpl as frame
use Rattle.det_values.specs.Equal.{drawn_eq}
use Rattle.det_values.proofs.Same.{elements_decide}

-- equality of records with two fields
two_decide : {A B C : Type 0} (make : A → B → C) (first : C → A) (second : C → B) → ((c : C) → make (first c) (second c) ≡ c)
    → (x y : C) (r s : Bool) → Decides r (first x ≡ first y) → Decides s (second x ≡ second y) → Decides (r && s) (x ≡ y)
two_decide make first second made x y r s f g =
    Decides-like (r && s)
    (λ h. sym (made x) ∙ ap (λ a. make a (second x)) h.0 ∙ ap (make (first y)) h.1 ∙ made y)
    (λ e. (ap first e, ap second e))
    (Decides-and r s f g)

pub sample_decides : (a b : SampleValue) → Decides (sample.eq-value.it a b) (a ≡ b)
sample_decides a b = search rules

pub time_decides : (a b : Option ℕ) → Decides (option_eq nat_eq a b) (a ≡ b)
time_decides a b = search rules

pub input_decides : (a b : CycleInput) → Decides (input.eq-value.it a b) (a ≡ b)
input_decides a b =
    two_decide (λ t s. record { time = t; samples = s }) (λ (c : CycleInput). c.time) (λ (c : CycleInput). c.samples) (λ c. refl) a b _ _
    (time_decides a.time b.time) (pointwise_decides sample_decides a.samples b.samples)

pub place_decides : (a b : RefusedAt) → Decides (place.eq-value.it a b) (a ≡ b)
place_decides a b = search rules

pub event_decides : (a b : EventSpecValue) → Decides (event.eq-value.it a b) (a ≡ b)
event_decides a b = search rules

pub profile_decides : (a b : ProfileValue) → Decides (profile.eq-value.it a b) (a ≡ b)
profile_decides a b = search (
  rules,
  Decides-like,
  Decides-and,
  pointwise_decides event_decides a.events b.events,
  pointwise_decides Decides-int_eq a.params b.params,
)

pub outcome_decides : (a b : Outcome) → Decides (outcome.eq-value.it a b) (a ≡ b)
outcome_decides (Finished e o) (Finished f p) =
    Decides-like (pointwise drawn_eq e f && pointwise nat_eq o p)
    (λ h. ap (λ x. Finished x o) h.0 ∙ ap (Finished f) h.1)
    (λ s. (cc, cc))
    (Decides-and (pointwise drawn_eq e f) (pointwise nat_eq o p) (elements_decide e f) (pointwise_decides Decides-eqb o p))
outcome_decides (Finished e o) (Refused q) = (λ h. absurd cc, λ h. absurd cc)
outcome_decides (Refused p) (Finished f o) = (λ h. absurd cc, λ h. absurd cc)
outcome_decides (Refused p) (Refused q) =
    Decides-like (place.eq-value.it p q) (ap Refused) (λ s. cc) (place_decides p q)

pub run_decides : (a b : RunFrame) → Decides (run.eq-value.it a b) (a ≡ b)
run_decides a b =
    two_decide (λ i o. record { input = i; outcome = o }) (λ (r : RunFrame). r.input) (λ (r : RunFrame). r.outcome) (λ r. refl) a b _ _
    (input_decides a.input b.input) (outcome_decides a.outcome b.outcome)

pub frame_decides : (a b : Frame) → Decides (frame.eq-value.it a b) (a ≡ b)
frame_decides Register Register = (λ h. refl, λ s. refl)
frame_decides Discover Discover = (λ h. refl, λ s. refl)
frame_decides Terminate Terminate = (λ h. refl, λ s. refl)
frame_decides (Init es) (Init fs) =
    Decides-like (pointwise (pointwise nat_eq) es fs) (ap Init) (λ s. cc) (pointwise_decides (pointwise_decides Decides-eqb) es fs)
frame_decides (Run r) (Run s) = Decides-like (run.eq-value.it r s) (ap Run) (λ e. cc) (run_decides r s)
frame_decides a b = (λ h. absurd cc, λ h. absurd cc)

-- what the law of equality states
pub ruleset deciders = (elements_decide, input_decides, outcome_decides, run_decides, frame_decides, profile_decides)
