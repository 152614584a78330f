-- A line at a place, by numbers of blocks and samples.
use Rattle.std.proofs.Common.{◌≡◌, ℕ, ◌+◌, ◌^◌, ◌<◌, length, true, false, cond, nat_lt, Option, Some, None, refl, arith}
use Rattle.std.specs.Prelude.{option_map}
use Rattle.std.proofs.lemmas.Bool.Decides.{nat_tests}
use Rattle.stimulus.specs.declared.parse_line.Line.{Line}
use Rattle.stimulus.specs.declared.parse_line.Line.TheVariants as lines
use Rattle.stimulus.specs.declared.line_place.LinePlace.{LinePlace}
use Rattle.stimulus.specs.declared.line_place.LinePlace.TheVariants as places
use Rattle.stimulus.specs.declared.stimulus_item.StimulusItem.TheVariants as items
use Rattle.stimulus.specs.Places.{Place, First, Between, Inside, Ended, Step, step, taken, empty_block, with_sample}
use Rattle.stimulus.specs.States.{counted_of, FollowingIs}
use Rattle.det_stimulus_c.specs.Taken.{MayPrecede}
use Rattle.std.proofs.Common.{length-append, [], ◌∷◌, ◌++◌}

-- one more line may precede the place after a line
abbrev pub MayPrecedeNext : ℕ → Option Step → Type 0
MayPrecedeNext n None = Unit {0}
MayPrecedeNext n (Some s) = MayPrecede (n + 1) (counted_of s.place)

pub precedes_next : (place : Place) (line : Line) (n : ℕ) → MayPrecede n (counted_of place) → MayPrecedeNext n (taken place line)
precedes_next First lines.Stim n h = omega arith
precedes_next First (lines.Cycle time) n h = tt
precedes_next First (lines.Sample s) n h = tt
precedes_next First lines.Terminate n h = tt
precedes_next Between lines.Stim n h = tt
precedes_next Between (lines.Cycle time) n h = (omega arith, omega arith, omega arith)
precedes_next Between (lines.Sample s) n h = tt
precedes_next Between lines.Terminate n h = omega arith
precedes_next (Inside blocks input) lines.Stim n h = tt
precedes_next (Inside blocks input) (lines.Cycle time) n (few, samples, all) =
    elim (nat_lt blocks 1000000) as (λ t. nat_lt blocks 1000000 ≡ t
    → MayPrecedeNext n (cond t (step (items.Cycle input ∷ []) (Inside (blocks + 1) (empty_block time))) None)) [
      | true ↦ λ e. let less : blocks < 1000000 = grind (arith, nat_tests) in (omega arith, omega arith, omega arith)
      | false ↦ λ e. tt
    ] refl
precedes_next (Inside blocks input) (lines.Sample s) n (few, samples, all) =
    elim (nat_lt (length input.samples) 4096) as (λ t. nat_lt (length input.samples) 4096 ≡ t
    → MayPrecedeNext n (cond t (step [] (Inside blocks (with_sample input s))) None)) [
      | true ↦ λ e.
          let less : length input.samples < 4096 = grind (arith, nat_tests) in
          let more : length (input.samples ++ s ∷ []) ≡ length input.samples + 1 = length-append input.samples (s ∷ []) in
          (few, omega arith, omega arith)
      | false ↦ λ e. tt
    ] refl
precedes_next (Inside blocks input) lines.Terminate n (few, samples, all) = omega arith
precedes_next Ended lines.Stim n h = tt
precedes_next Ended (lines.Cycle time) n h = tt
precedes_next Ended (lines.Sample s) n h = tt
precedes_next Ended lines.Terminate n h = tt

-- no place has as many lines before it as would overflow
pub few_lines : (n : ℕ) (at : LinePlace) → MayPrecede n at → n + 1 < 2 ^ 64
few_lines n places.First h = omega arith
few_lines n places.Between h = omega arith
few_lines n (places.Inside blocks samples) (b, s, h) = omega arith
few_lines n places.Ended h = omega arith

-- the step of a line that may come
pub record HasStep (place : Place) (line : Line) (next : LinePlace) : Type 0 where
  pub step : Step
  pub is : taken place line ≡ Some step
  pub counted : counted_of step.place ≡ next

has_step_by : (o : Option Step) (place : Place) (line : Line) (next : LinePlace) → taken place line ≡ o
    → Some next ≡ option_map (λ s. counted_of s.place) o → HasStep place line next
has_step_by None place line next is e = absurd cc
has_step_by (Some s) place line next is e = record { step = s; is = is; counted = cc }

pub has_step : (place : Place) (line : Line) (next at : LinePlace) → counted_of place ≡ at → FollowingIs (Some next) at line
    → HasStep place line next
has_step place line next at counted h = has_step_by (taken place line) place line next refl (h place counted)

no_step_by : (o : Option Step) → ◌≡◌ {A = Option LinePlace} None (option_map (λ (s : Step). counted_of s.place) o) → o ≡ None
no_step_by None e = refl
no_step_by (Some s) e = absurd cc

pub no_step : (place : Place) (line : Line) (at : LinePlace) → counted_of place ≡ at → FollowingIs None at line → taken place line ≡ None
no_step place line at counted h = no_step_by (taken place line) (h place counted)

pub ended_there : (place : Place) → counted_of place ≡ places.Ended → place ≡ Ended
ended_there First e = absurd cc
ended_there Between e = absurd cc
ended_there (Inside blocks input) e = absurd cc
ended_there Ended e = refl
