-- The inputs of a second client: the outputs of a first one, cycle by cycle.
use Rattle.std.specs.Prelude.{ℕ, zero, suc, ◌+◌, ℤ, List, [], ◌∷◌, ◌++◌, length, map, take, drop}
use Rattle.std.specs.Prelude.{pos, negsuc, Bool, ◌&&◌, int_le, nat_le, if◌then◌else◌}
use Rattle.std.specs.Int.{w64, cast_signed, from_be_bytes}
use Rattle.det_values.specs.Values.{SampleValue, ProfileValue}
use Rattle.det_values.specs.declared.frames.CycleInput.{CycleInput}
use Rattle.det_values.specs.declared.frames.Outcome.{Outcome}
use Rattle.det_values.specs.declared.frames.Outcome.TheVariants.{Finished, Refused}
use Rattle.det_values.specs.declared.frames.RunFrame.{RunFrame}
use Rattle.job.specs.Meaning.{Meaning}
use Rattle.cycle_engine.specs.Frames.{runs}

-- a word as the sample of an event; none if it is beyond 10^12 in either direction
abbrev pub sample_of : ℕ → ℤ → List SampleValue
sample_of event word = if int_le (negsuc 999999999999) word && int_le word (pos 1000000000000)
    then record { event = event; value = word } ∷ [] else []

-- the first word: eight bytes as a number, big-endian, in two's complement
abbrev pub first_word : List ℕ → ℤ
first_word bytes = cast_signed w64 (from_be_bytes w64 (take 8 bytes))

-- The words of an output as samples of this number of events, counted on from `event`, one word an
-- event. Fewer than 8 bytes at the end are no word. Words after those of all events are left out.
abbrev pub samples_from : (event events : ℕ) → (output : List ℕ) → List SampleValue
samples_from event zero output = []
samples_from event (suc events) output = if nat_le 8 (length output) then
    sample_of event (first_word output) ++ samples_from (event + 1) events (drop 8 output) else []

-- the samples that a cycle gives: none if it was refused
abbrev pub samples_of : ℕ → Outcome → List SampleValue
samples_of events (Finished elements output) = samples_from 0 events output
samples_of events (Refused at) = []

-- a cycle's input for a second client with this number of events, at the same time
abbrev pub chained_input : ℕ → RunFrame → CycleInput
chained_input events run = record run.input { samples = samples_of events run.outcome }

-- one input for each cycle of a first client
abbrev pub derived : {S G E L P : Type 0} → Meaning S G E L P → ProfileValue → List CycleInput
    → ℕ → List CycleInput
derived m profile inputs events = map (chained_input events) (runs m profile inputs)
