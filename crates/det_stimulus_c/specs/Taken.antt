-- The bytes of a stimulus that a struct of C stands for.
use Rattle.std.specs.Prelude.{◌≡◌, ℕ, ◌+◌, ◌*◌, ◌≤◌, ◌==◌, List, ◌++◌, length, if◌then◌else◌}
use Rattle.stimulus.specs.declared.line_place.LinePlace.{LinePlace}
use Rattle.stimulus.specs.declared.line_place.LinePlace.TheVariants as places
use Rattle.stimulus.specs.declared.stimulus_item.StimulusItem.{StimulusItem}
use Rattle.stimulus.specs.Places.{Place}
use Rattle.stimulus.specs.Reading.{reading, reading_from, parts, after}
use Rattle.stimulus.specs.States.{counted_of}
use Rattle.det_stimulus_c.specs.declared.det_stimulus.DetStimulus.{DetStimulus}

-- by the number of the stage
abbrev pub place_of : DetStimulus → LinePlace
place_of s =
    if s.stage == 0 then places.First
    else if s.stage == 1 then places.Between
    else if s.stage == 2 then places.Inside s.blocks s.samples
    else places.Ended

-- this many lines may come before a place
abbrev pub MayPrecede : ℕ → LinePlace → Type 0
MayPrecede n places.First = n ≤ 0
MayPrecede n places.Between = n ≤ 1
MayPrecede n (places.Inside blocks samples) =
    (blocks ≤ 1000000) × (samples ≤ 4096) × (n ≤ 4097 * blocks + samples)
MayPrecede n places.Ended = n ≤ 4097 * 1000001

-- these bytes were taken: whole good lines, after which reading goes on in the struct's place
pub record HasTaken (s : DetStimulus) (text : List ℕ) : Type 0 where
  pub head : List (List ℕ)
  pub items : List StimulusItem
  pub place : Place
  pub counted : counted_of place ≡ place_of s
  pub lines : length head ≡ s.lines
  pub few : MayPrecede s.lines (place_of s)
  pub resumes : (tail : List ℕ) → reading s.events (text ++ tail)
      ≡ after head items (reading_from s.events place (parts tail))
