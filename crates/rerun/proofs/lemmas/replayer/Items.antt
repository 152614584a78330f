-- The inputs of items that were read.
use Rattle.std.proofs.Common.{◌≡◌, ◌≤◌, ◌<◌, ℕ, ◌+◌, ◌-◌, List, [], ◌∷◌, ◌++◌, length, ap, subst, ◌∙◌, arith, append-nil, length-append}
use Rattle.std.specs.List.{All, flat_map}
use Rattle.std.proofs.lemmas.Grind.{flat_map-append}
use Rattle.det_values.specs.Values.{ProfileValue, SampleValue}
use Rattle.det_values.specs.declared.frames.CycleInput.{CycleInput}
use Rattle.det_values.specs.declared.frames.Frame.TheVariants.{Register, Discover, Init, Run, Terminate}
use Rattle.record_grammar.specs.declared.place.Place.{Place}
use Rattle.record_grammar.specs.declared.place.Place.TheVariants as places
use Rattle.record_grammar.specs.declared.item.Item.{Item}
use Rattle.record_grammar.specs.declared.item.Item.TheVariants as items
use Rattle.record_grammar.specs.Places.{after, CanFollow}
use Rattle.record_grammar.specs.Leads.{Leads}
use Rattle.record_grammar.proofs.Leads.{can_follow}
use Rattle.record_reader.proofs.Items.{NextIs}
use Rattle.rerun.specs.replayer.ReplayRecord.{input_in}

-- one item more
pub inputs-next : (xs : List Item) (x : Item) → flat_map input_in (xs ++ x ∷ []) ≡ flat_map input_in xs ++ input_in x
inputs-next xs x =
    flat_map-append input_in xs (x ∷ []) ∙ ap (λ (is : List CycleInput). flat_map input_in xs ++ is) (append-nil (input_in x))

-- ---- at most 1,000,000 runs are in a record

-- how many Run frames may come from a place on
abbrev runs_left : Place → ℕ
runs_left (places.Runs layout before) = 1000000 - before
runs_left places.End = 0
runs_left place = 1000000

left-next : (place : Place) (x : Item) → CanFollow place x → length (input_in x) + runs_left (after place x) ≤ runs_left place
left-next places.Header (items.Header p) h = omega arith
left-next (places.Register layout) (items.Frame Register) h = omega arith
left-next (places.Discover layout) (items.Frame Discover) h = omega arith
left-next (places.Init layout) (items.Frame (Init elements)) h = omega arith
left-next (places.Runs layout before) (items.Frame (Run r)) h = omega arith
left-next (places.Runs layout before) (items.Frame Terminate) h = omega arith
left-next place x h = elim h [ ]

few-lead : (xs : List Item) (place to : Place) (bytes rest : List ℕ) → Leads place bytes xs to rest
    → length (flat_map input_in xs) + runs_left to ≤ runs_left place
few-lead [] place to bytes rest l = let e : runs_left place ≡ runs_left to = ap runs_left l.0 in omega arith
few-lead (x ∷ xs) place to bytes rest l =
    let one = left-next place x (can_follow place bytes x l.0 l.1) in
    let others : length (flat_map input_in xs) + runs_left to ≤ runs_left (after place x) = few-lead xs (after place x) to l.0 rest l.2 in
    let all = length-append (input_in x) (flat_map input_in xs) in
    omega (arith, one, others, all)

pub few-inputs : (xs : List Item) (to : Place) (bytes rest : List ℕ) → Leads places.Header bytes xs to rest
    → length (flat_map input_in xs) ≤ 1000000
few-inputs xs to bytes rest l = let few = few-lead xs places.Header to bytes rest l in omega (arith, few)

-- ---- their samples are of the profile's events

pub known-input : (profile : ProfileValue) (behind : List Item) (x : Item) (input : CycleInput) → input_in x ≡ input ∷ []
    → NextIs (items.Header profile ∷ behind) x → All (λ (s : SampleValue). s.event < length profile.events) input.samples
known-input profile behind (items.Frame (Run run)) input is next =
    let same : run.input ≡ input = cc in
    subst (λ (i : CycleInput). All (λ (s : SampleValue). s.event < length profile.events) i.samples) same next.0
known-input profile behind (items.Header p) input is next = absurd cc
known-input profile behind (items.Frame Register) input is next = absurd cc
known-input profile behind (items.Frame Discover) input is next = absurd cc
known-input profile behind (items.Frame (Init elements)) input is next = absurd cc
known-input profile behind (items.Frame Terminate) input is next = absurd cc
