-- The windows that a cycle is shown are windows of samples.
use Rattle.std.proofs.Common.{◌≡◌, ℕ, suc, ◌-◌, List, [], ◌∷◌, length, true, false, cond, nat_eq, refl, ap}
use Rattle.std.specs.List.{All}
use Rattle.std.proofs.lemmas.List.Elements.{All-nil, All-cons, All-head, All-tail, All-append, All-drop}
use Rattle.det_values.specs.Limits.{IsSampleValue}
use Rattle.det_values.specs.Values.{SampleValue, EventSpecValue}
use Rattle.det_values.specs.declared.event.Policy.{Policy}
use Rattle.det_values.specs.declared.event.Policy.TheVariants.{Last, Fresh}
use Rattle.job.specs.event_cache.Windows.{values_of, all_of, last_of, looked_at, window, windows_from, windows_after, AreWindows}

abbrev IsGood : SampleValue → Type 0
IsGood s = IsSampleValue s.value

values_good : (event : ℕ) (samples : List SampleValue) → All IsGood samples → All IsSampleValue (values_of event samples)
unfolding values_of
values_good event [] h = All-nil IsSampleValue
values_good event (s ∷ samples) h =
    let rest = values_good event samples (All-tail IsGood s samples h) in
    elim (nat_eq event s.event) as (λ t. All IsSampleValue (cond t (s.value ∷ values_of event samples) (values_of event samples))) [
      | true ↦ All-cons IsSampleValue s.value (values_of event samples) (All-head IsGood s samples h) rest
      | false ↦ rest
    ]

all_good : (rounds : List (List SampleValue)) → All (All IsGood) rounds → All IsGood (all_of rounds)
unfolding all_of
all_good [] h = All-nil IsGood
all_good (round ∷ rounds) h = All-append IsGood round (all_of rounds) (All-head (All IsGood) round rounds h)
    (all_good rounds (All-tail (All IsGood) round rounds h))

last_good : (rounds : List (List SampleValue)) → All (All IsGood) rounds → All IsGood (last_of rounds)
unfolding last_of
last_good [] h = All-nil IsGood
last_good (round ∷ []) h = All-head (All IsGood) round [] h
last_good (round ∷ next ∷ rounds) h = last_good (next ∷ rounds) (All-tail (All IsGood) round (next ∷ rounds) h)

looked_good : (policy : Policy) (rounds : List (List SampleValue)) → All (All IsGood) rounds → All IsGood (looked_at policy rounds)
looked_good Last rounds h = all_good rounds h
looked_good Fresh rounds h = last_good rounds h

window_good : (spec : EventSpecValue) (event : ℕ) (rounds : List (List SampleValue)) → All (All IsGood) rounds
    → All IsSampleValue (window spec event rounds)
window_good spec event rounds h =
    let all = values_good event (looked_at spec.policy rounds) (looked_good spec.policy rounds h) in
    All-drop IsSampleValue (length (values_of event (looked_at spec.policy rounds)) - spec.capacity)
    (values_of event (looked_at spec.policy rounds)) all

windows_good : (event : ℕ) (specs : List EventSpecValue) (rounds : List (List SampleValue)) → All (All IsGood) rounds
    → All (All IsSampleValue) (windows_from event specs rounds)
unfolding windows_from
windows_good event [] rounds h = All-nil (All IsSampleValue)
windows_good event (spec ∷ specs) rounds h =
    All-cons (All IsSampleValue) (window spec event rounds) (windows_from (suc event) specs rounds) (window_good spec event rounds h)
    (windows_good (suc event) specs rounds h)

length-windows : (event : ℕ) (specs : List EventSpecValue) (rounds : List (List SampleValue))
    → length (windows_from event specs rounds) ≡ length specs
unfolding windows_from
length-windows event [] rounds = refl
length-windows event (spec ∷ specs) rounds = ap suc (length-windows (suc event) specs rounds)

pub are_windows : (specs : List EventSpecValue) (rounds : List (List SampleValue))
    → All (All (λ (s : SampleValue). IsSampleValue s.value)) rounds → AreWindows (length specs) (windows_after specs rounds)
are_windows specs rounds h = record { count = length-windows 0 specs rounds; values = windows_good 0 specs rounds h }
