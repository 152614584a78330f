-- Words as samples.
use Rattle.std.proofs.Common.{◌≡◌, ◌<◌, ◌≤◌, ℕ, zero, suc, ◌+◌, ◌-◌, ℤ, List, [], ◌∷◌, ◌++◌, length, drop, refl, sym, ap, ◌∙◌, arith}
use Rattle.std.proofs.Common.{append_assoc, length-append, Bool, true, false}
use Rattle.std.specs.Prelude.{pos, negsuc, ◌&&◌, int_le, nat_le, if◌then◌else◌}
use Rattle.std.specs.List.{All}
use Rattle.std.proofs.lemmas.Bool.Decides.{nat_tests}
use Rattle.std.proofs.lemmas.List.Elements.{All-nil, All-cons, All-append}
use Rattle.det_values.specs.Values.{SampleValue}
use Rattle.det_values.specs.declared.frames.Outcome.{Outcome}
use Rattle.det_values.specs.declared.frames.Outcome.TheVariants.{Finished, Refused}
use Rattle.cmd_run.specs.chain.OutputSamples.{sample_of, first_word, samples_from, samples_of}

-- the samples where a word is left
pub samples-next : (event events : ℕ) (output : List ℕ) → 8 ≤ length output
    → samples_from event (suc events) output ≡ sample_of event (first_word output) ++ samples_from (event + 1) events (drop 8 output)
samples-next event events output enough =
    let test : nat_le 8 (length output) ≡ true = grind (arith, nat_tests) in
    ap (λ b. if b then sample_of event (first_word output) ++ samples_from (event + 1) events (drop 8 output) else []) test

-- none where no word is left
pub samples-end : (event events : ℕ) (output : List ℕ) → length output < 8 → samples_from event events output ≡ []
samples-end event zero output few = refl
samples-end event (suc events) output few =
    let test : nat_le 8 (length output) ≡ false = grind (arith, nat_tests) in
    ap (λ b. if b then sample_of event (first_word output) ++ samples_from (event + 1) events (drop 8 output) else []) test

-- a step of the walk: the samples of one event are pushed, and those of the others follow
pub walk-next : (rest : List ℕ) (samples : List SampleValue) (event events : ℕ) (all : List SampleValue)
    → event < events
    → 8 ≤ length rest → samples ++ samples_from event (events - event) rest ≡ all
    → (samples ++ sample_of event (first_word rest)) ++ samples_from (event + 1) (events - (event + 1)) (drop 8 rest) ≡ all
walk-next rest samples event events all below enough is =
    let one : events - event ≡ suc (events - (event + 1)) = omega arith in
    append_assoc samples (sample_of event (first_word rest)) _
    ∙ ap (λ xs. samples ++ xs)
    (sym (ap (λ k. samples_from event k rest) one ∙ samples-next event (events - (event + 1)) rest enough)) ∙ is

if-all : (P : SampleValue → Type 0) (b : Bool) (xs : List SampleValue) → All P xs → All P (if b then xs else [])
if-all P true xs all = all
if-all P false xs all = All-nil P

-- whether a word is in the range of samples
abbrev pub is_sample_value : ℤ → Bool
is_sample_value word = int_le (negsuc 999999999999) word && int_le word (pos 1000000000000)

-- the samples are of the events below the bound
pub samples-known : (bound event events : ℕ) (output : List ℕ) → event + events ≤ bound
    → All (λ (s : SampleValue). s.event < bound) (samples_from event events output)
samples-known bound event zero output most = All-nil (λ (s : SampleValue). s.event < bound)
samples-known bound event (suc events) output most =
    let below : event < bound = omega arith in
    let more : (event + 1) + events ≤ bound = omega arith in
    let one : SampleValue = record { event = event; value = first_word output } in
    if-all (λ (s : SampleValue). s.event < bound) (nat_le 8 (length output)) _
    (All-append (λ (s : SampleValue). s.event < bound) (sample_of event (first_word output))
    (samples_from (event + 1) events (drop 8 output))
    (if-all (λ (s : SampleValue). s.event < bound) (is_sample_value (first_word output)) (one ∷ [])
    (All-cons (λ (s : SampleValue). s.event < bound) one [] below (All-nil (λ (s : SampleValue). s.event < bound))))
    (samples-known bound (event + 1) events (drop 8 output) more))

pub known-samples : (events : ℕ) (outcome : Outcome) → All (λ (s : SampleValue). s.event < events) (samples_of events outcome)
known-samples events (Finished elements output) = samples-known events 0 events output (omega arith)
known-samples events (Refused at) = All-nil (λ (s : SampleValue). s.event < events)

few-of : (b : Bool) (sample : SampleValue) → length (if b then sample ∷ [] else []) ≤ 1
few-of true sample = omega arith
few-of false sample = omega arith

-- an event has one sample at most
pub few-samples : (samples : List SampleValue) (event n : ℕ) (word : ℤ) → length samples ≤ n
    → length (samples ++ sample_of event word) ≤ n + 1
few-samples samples event n word few =
    let both = length-append samples (sample_of event word) in
    let one = few-of (is_sample_value word) (record { event = event; value = word }) in
    omega arith
