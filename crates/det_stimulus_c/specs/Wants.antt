-- What is wanted where some bytes begin.
use Rattle.std.specs.Prelude.{◌≡◌, ℕ, Bool, true, false, List, take, Some}
use Rattle.stimulus.specs.declared.first_line.FirstLine.TheVariants.{Whole, Open}
use Rattle.stimulus.specs.declared.line_place.LinePlace.{LinePlace}
use Rattle.stimulus.specs.declared.line_place.LinePlace.TheVariants as places
use Rattle.stimulus.specs.declared.parse_line.Line.{Line}
use Rattle.stimulus.specs.declared.wanted.Wanted.{Wanted}
use Rattle.stimulus.specs.declared.wanted.Wanted.TheVariants as wanted
use Rattle.stimulus.specs.FirstLine.{FirstLineIs}
use Rattle.stimulus.specs.Lines.{line_of}
use Rattle.stimulus.specs.States.{FollowingIs}
use Rattle.det_stimulus_c.specs.declared.det_stimulus.DetStimulus.{DetStimulus}
use Rattle.det_stimulus_c.specs.declared.wanted.Wish.{Wish}
use Rattle.det_stimulus_c.specs.declared.wanted.Wish.TheVariants.{Nothing, LineFeed, Other}
use Rattle.det_stimulus_c.specs.Taken.{place_of}

abbrev pub number_of_wish : Wish → ℕ
number_of_wish Nothing = 0
number_of_wish (Other wanted.FirstLine) = 1
number_of_wish (Other wanted.FirstBlock) = 2
number_of_wish (Other wanted.Line) = 3
number_of_wish (Other wanted.NoMore) = 4
number_of_wish (Other wanted.ShortLine) = 5
number_of_wish (Other wanted.NoReturn) = 6
number_of_wish (Other wanted.Time) = 7
number_of_wish (Other (wanted.Event events)) = 8
number_of_wish (Other wanted.Value) = 9
number_of_wish (Other wanted.FewSamples) = 10
number_of_wish LineFeed = 11

-- ---- what may be wanted at a place

-- wherever a line may come
abbrev pub may_want_anywhere : Wanted → Bool
may_want_anywhere wanted.ShortLine = true
may_want_anywhere wanted.NoReturn = true
may_want_anywhere _ = false

abbrev pub may_want_first : Wanted → Bool
may_want_first wanted.FirstLine = true
may_want_first other = may_want_anywhere other

abbrev pub may_want_between : Wanted → Bool
may_want_between wanted.FirstBlock = true
may_want_between wanted.Time = true
may_want_between other = may_want_anywhere other

abbrev pub may_want_inside : Wanted → Bool
may_want_inside wanted.Line = true
may_want_inside wanted.Time = true
may_want_inside (wanted.Event events) = true
may_want_inside wanted.Value = true
may_want_inside wanted.FewSamples = true
may_want_inside other = may_want_anywhere other

abbrev pub may_want_at_end : Wanted → Bool
may_want_at_end wanted.NoMore = true
may_want_at_end _ = false

abbrev pub may_want : LinePlace → Wanted → Bool
may_want places.First w = may_want_first w
may_want places.Between w = may_want_between w
may_want (places.Inside blocks samples) w = may_want_inside w
may_want places.Ended w = may_want_at_end w

-- ---- what is wanted

-- a line, without its LF, that is good at the struct's place
pub record IsGoodLine (s : DetStimulus) (text : List ℕ) : Type 0 where
  pub line : Line
  pub next : LinePlace
  pub spelled : line_of s.events text ≡ Some line
  pub follows : FollowingIs (Some next) (place_of s) line

pub record BeginsWithGoodLine (s : DetStimulus) (bytes : List ℕ) : Type 0 where
  pub end : ℕ
  pub whole : FirstLineIs (Whole end) bytes
  pub good : IsGoodLine s (take end bytes)

abbrev pub IsWish : Wish → DetStimulus → List ℕ → Type 0
IsWish Nothing s bytes = BeginsWithGoodLine s bytes
IsWish LineFeed s bytes = FirstLineIs Open bytes × IsGoodLine s bytes
IsWish (Other w) s bytes = may_want (place_of s) w ≡ true

-- the number of a wish
pub record IsWanted (number : ℕ) (s : DetStimulus) (bytes : List ℕ) : Type 0 where
  pub wish : Wish
  pub is_number : number ≡ number_of_wish wish
  pub is : IsWish wish s bytes
