-- The place after a line, by numbers of blocks and samples.
use Rattle.std.proofs.Common.{◌≡◌, ℕ, ◌+◌, [], ◌∷◌, length, ◌<◌, true, false, cond, nat_lt, Option, Some, None, refl, sym, ap}
use Rattle.std.proofs.Common.{◌∙◌, arith, length-append}
use Rattle.std.specs.Prelude.{option_map}
use Rattle.stimulus.specs.declared.parse_line.Line.{Line}
use Rattle.stimulus.specs.declared.parse_line.Line.TheVariants as lines
use Rattle.stimulus.specs.declared.line_place.LinePlace.{LinePlace}
use Rattle.stimulus.specs.declared.line_place.LinePlace.TheVariants as counted
use Rattle.stimulus.specs.Places.{Place, First, Between, Inside, Ended, Step, step, taken, empty_block, with_sample}
use Rattle.stimulus.specs.declared.stimulus_item.StimulusItem.TheVariants as items
use Rattle.det_values.specs.Values.{SampleValue}
use Rattle.std.proofs.lemmas.Bool.Decides.{nat_tests}
use Rattle.stimulus.specs.States.{counted_of, FollowingIs}

-- the place after a line
abbrev pub next_of : LinePlace → Line → Option LinePlace
next_of counted.First lines.Stim = Some counted.Between
next_of counted.Between (lines.Cycle time) = Some (counted.Inside 1 0)
next_of counted.Between lines.Terminate = Some counted.Ended
next_of (counted.Inside blocks samples) (lines.Cycle time) =
    cond (nat_lt blocks 1000000) (Some (counted.Inside (blocks + 1) 0)) None
next_of (counted.Inside blocks samples) (lines.Sample s) =
    cond (nat_lt samples 4096) (Some (counted.Inside blocks (samples + 1))) None
next_of (counted.Inside blocks samples) lines.Terminate = Some counted.Ended
next_of _ _ = None

next_there : (place : Place) (line : Line) → next_of (counted_of place) line ≡ option_map (λ s. counted_of s.place) (taken place line)
next_there First lines.Stim = refl
next_there First (lines.Cycle time) = refl
next_there First (lines.Sample s) = refl
next_there First lines.Terminate = refl
next_there Between lines.Stim = refl
next_there Between (lines.Cycle time) = refl
next_there Between (lines.Sample s) = refl
next_there Between lines.Terminate = refl
next_there (Inside blocks input) lines.Stim = refl
next_there (Inside blocks input) (lines.Cycle time) =
    elim (nat_lt blocks 1000000) as (λ t. cond t (Some (counted.Inside (blocks + 1) 0)) None
    ≡ option_map (λ (s : Step). counted_of s.place)
    (cond t (step (items.Cycle input ∷ []) (Inside (blocks + 1) (empty_block time))) None)) [
      | true ↦ refl
      | false ↦ refl
    ]
next_there (Inside blocks input) (lines.Sample s) =
    elim (nat_lt (length input.samples) 4096) as (λ t. cond t (Some (counted.Inside blocks (length input.samples + 1))) None
    ≡ option_map (λ (s : Step). counted_of s.place)
    (cond t (step [] (Inside blocks (with_sample input s))) None)) [
      | true ↦ ap (λ n. Some (counted.Inside blocks n)) (sym (length-append input.samples (s ∷ [])))
      | false ↦ refl
    ]
next_there (Inside blocks input) lines.Terminate = refl
next_there Ended lines.Stim = refl
next_there Ended (lines.Cycle time) = refl
next_there Ended (lines.Sample s) = refl
next_there Ended lines.Terminate = refl

pub following : (next : Option LinePlace) (at : LinePlace) (line : Line) → next ≡ next_of at line → FollowingIs next at line
following next at line is place e = is ∙ ap (λ p. next_of p line) (sym e) ∙ next_there place line

-- a sample that is not one too many
pub sample_follows : (at : LinePlace) (line : Line) (blocks samples : ℕ) (s : SampleValue) → at ≡ counted.Inside blocks samples
    → line ≡ lines.Sample s → samples < 4096 → FollowingIs (Some (counted.Inside blocks (samples + 1))) at line
sample_follows at line blocks samples s is sample few =
    let test : nat_lt samples 4096 ≡ true = grind (arith, nat_tests) in
    following (Some (counted.Inside blocks (samples + 1))) at line
    (sym (ap (λ t. cond t (Some (counted.Inside blocks (samples + 1))) None) test) ∙ (λ i. next_of (sym is i) (sym sample i)))
