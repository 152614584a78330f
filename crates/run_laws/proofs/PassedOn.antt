-- The inputs that a first client passes on are inputs that a record can hold.
use Rattle.std.proofs.Common.{◌≡◌, ◌+◌, ◌≤◌, ℕ, ℤ, zero, suc, pos, negsuc, List, [], ◌∷◌, ◌++◌, length, map, drop, Bool, true, false, cond}
use Rattle.std.proofs.Common.{refl, arith, length-append}
use Rattle.std.specs.Prelude.{nat_le, int_le}
use Rattle.std.specs.List.{All}
use Rattle.std.proofs.lemmas.Bool.{and_parts}
use Rattle.std.proofs.lemmas.List.Elements.{All-nil, All-cons, All-head, All-tail, All-append}
use Rattle.det_values.specs.Limits.{IsSampleValue}
use Rattle.det_values.specs.Values.{SampleValue, ProfileValue}
use Rattle.det_values.specs.declared.frames.CycleInput.{CycleInput}
use Rattle.det_values.specs.declared.frames.Outcome.{Outcome}
use Rattle.det_values.specs.declared.frames.Outcome.TheVariants.{Finished, Refused}
use Rattle.det_values.specs.declared.frames.RunFrame.{RunFrame}
use Rattle.job.specs.Meaning.{Meaning}
use Rattle.job.specs.Cycle.{State, state_after}
use Rattle.cycle_engine.specs.Frames.{cycle_of, frame_of, runs_after_inputs, first_state}
use Rattle.record_grammar.specs.Spelling.{IsTime, IsInput}
use Rattle.cmd_run.specs.chain.OutputSamples.{sample_of, first_word, samples_from, samples_of, chained_input, derived}
use Rattle.cmd_run.proofs.lemmas.chain.Samples.{is_sample_value}
use Rattle.cmd_run.proofs.lemmas.chain.Samples.{known-samples, few-samples}
use Rattle.run_laws.proofs.Parameters.{below}

abbrev InRange : SampleValue → Type 0
InRange s = IsSampleValue s.value

-- a word as a sample is in its range
word_in_range : (event : ℕ) (word : ℤ) → All InRange (sample_of event word)
word_in_range event word = by (is_sample_value word) refl
  where
    one : SampleValue
    one = record { event = event; value = word }

    by : (b : Bool) → is_sample_value word ≡ b → All InRange (cond b (record { event = event; value = word } ∷ []) [])
    by true e =
        let p = and_parts (int_le (negsuc 999999999999) word) (int_le word (pos 1000000000000)) e in
        All-cons InRange (record { event = event; value = word }) []
        (below (negsuc 999999999999) word p.0, below word (pos 1000000000000) p.1) (All-nil InRange)
    by false e = All-nil InRange

if_all : (b : Bool) (xs : List SampleValue) → All InRange xs → All InRange (cond b xs [])
if_all true xs h = h
if_all false xs h = All-nil InRange

all_in_range : (event events : ℕ) (output : List ℕ) → All InRange (samples_from event events output)
all_in_range event zero output = All-nil InRange
all_in_range event (suc events) output =
    let rest : List SampleValue = samples_from (event + 1) events (drop 8 output) in
    if_all (nat_le 8 (length output)) (sample_of event (first_word output) ++ rest)
    (All-append InRange (sample_of event (first_word output)) rest (word_in_range event (first_word output))
    (all_in_range (event + 1) events (drop 8 output)))

if_few : (b : Bool) (xs : List SampleValue) (n : ℕ) → length xs ≤ n → length (cond b xs []) ≤ n
if_few true xs n h = h
if_few false xs n h = omega arith

few_from : (event events : ℕ) (output : List ℕ) → length (samples_from event events output) ≤ events
few_from event zero output = omega arith
few_from event (suc events) output =
    let rest : List SampleValue = samples_from (event + 1) events (drop 8 output) in
    let one = few-samples [] event 0 (first_word output) (omega arith) in
    let more = few_from (event + 1) events (drop 8 output) in
    let both = length-append (sample_of event (first_word output)) rest in
    if_few (nat_le 8 (length output)) (sample_of event (first_word output) ++ rest) (suc events) (omega (arith, one, more, both))

samples_in_range : (events : ℕ) (outcome : Outcome) → All InRange (samples_of events outcome)
samples_in_range events (Finished elements output) = all_in_range 0 events output
samples_in_range events (Refused at) = All-nil InRange

samples_few : (events : ℕ) (outcome : Outcome) → length (samples_of events outcome) ≤ events
samples_few events (Finished elements output) = few_from 0 events output
samples_few events (Refused at) = omega arith

-- an input that is passed on
input_held : (events : ℕ) (run : RunFrame) → events ≤ 256 → IsTime run.input.time → IsInput events (chained_input events run)
input_held events run few time =
    let n = samples_few events run.outcome in (
      time,
      omega (arith, n),
      λ k d inside. (known-samples events run.outcome k d inside, samples_in_range events run.outcome k d inside),
    )

module _ {S G E L P : Type 0} (m : Meaning S G E L P) (first : ProfileValue) (events : ℕ) (few : events ≤ 256) where
  abbrev CanPass : CycleInput → Type 0
  CanPass = IsInput (length first.events)

  inputs_held : (before : List CycleInput) (state : State G E) (given : List CycleInput) → All CanPass given
      → All (IsInput events) (map (chained_input events) (runs_after_inputs m first before state given))
  unfolding runs_after_inputs
  inputs_held before state [] h = All-nil (IsInput events)
  inputs_held before state (input ∷ given) h =
      All-cons (IsInput events) _ _ (input_held events (frame_of m first before state input) few (All-head CanPass input given h).0)
      (inputs_held (before ++ input ∷ []) (state_after state (cycle_of m first before state input)) given
      (All-tail CanPass input given h))

  pub passed_held : (given : List CycleInput) → All CanPass given → All (IsInput events) (derived m first given events)
  passed_held given h = inputs_held [] (first_state m first) given h
