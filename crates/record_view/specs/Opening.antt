-- The grammar's reader of an item in two parts: the opening, up to the elements, and the rest.
use Rattle.std.specs.Prelude.{ℕ, List, [], ◌∷◌, length, ◌==◌, nat_lt, if◌then◌else◌}
use Rattle.det_values.specs.declared.format.Format.{Format}
use Rattle.det_values.specs.declared.frames.CycleInput.{CycleInput}
use Rattle.det_values.specs.declared.frames.DrawnElement.{DrawnElement}
use Rattle.det_values.specs.declared.frames.Frame.{Frame}
use Rattle.det_values.specs.declared.frames.Frame.TheVariants as frames
use Rattle.record_grammar.specs.declared.record_fault.Reason.TheVariants.{TooMany, Trailing}
use Rattle.record_grammar.specs.declared.place.Layout.{Layout}
use Rattle.record_grammar.specs.declared.place.Place.{Place}
use Rattle.record_grammar.specs.declared.place.Place.TheVariants as places
use Rattle.record_grammar.specs.declared.item.Item.{Item}
use Rattle.record_grammar.specs.declared.item.Item.TheVariants as items
use Rattle.record_grammar.specs.Read.{Read, Got, More, Bad, ◌>>=◌}
use Rattle.record_grammar.specs.Numbers.{number}
use Rattle.record_grammar.specs.Grammar.{profile_at, input_at, refused_at, tag_reason, init_from}
use Rattle.record_grammar.specs.Grammar.{finished_from}
use Rattle.record_grammar.specs.Laws.{tag_reason_at}

-- the opening: a whole item, or the elements read so far and how many are left
pub data OpeningValue : Type 0 where
  ready : Item → OpeningValue
  init_of : List (List ℕ) → ℕ → OpeningValue
  run_of : Format → CycleInput → List DrawnElement → ℕ → OpeningValue

unfoldable pub run_opening : Layout → List ℕ → Read OpeningValue
run_opening layout bytes = do
  input ← input_at layout.events bytes
  flag ← number 1 0 1 input.1
  if flag.0 == 0
      then (number 4 0 65536 flag.1 >>= λ n. Got (run_of layout.format input.0 [] n.0, n.1))
      else (refused_at input.0 flag.1 >>= λ f. Got (ready (items.Frame f.0), f.1))

-- after the tag `b`; `left` counts the bytes from the tag on
unfoldable pub tagged_opening : Place → ℕ → List ℕ → ℕ → Read OpeningValue
tagged_opening places.Header b bytes left = Bad (tag_reason_at places.Header b) left
tagged_opening (places.Register layout) b bytes left =
    if b == 1 then Got (ready (items.Frame frames.Register), bytes)
    else Bad (tag_reason_at (places.Register layout) b) left
tagged_opening (places.Discover layout) b bytes left =
    if b == 2 then Got (ready (items.Frame frames.Discover), bytes)
    else Bad (tag_reason_at (places.Discover layout) b) left
tagged_opening (places.Init layout) b bytes left =
    if b == 3 then (number 4 0 65536 bytes >>= λ n. Got (init_of [] n.0, n.1))
    else Bad (tag_reason_at (places.Init layout) b) left
tagged_opening (places.Runs layout before) b bytes left =
    if b == 4 then (if nat_lt before 1000000 then run_opening layout bytes else Bad TooMany left)
    else if b == 5 then Got (ready (items.Frame frames.Terminate), bytes)
    else Bad (tag_reason b) left
tagged_opening places.End b bytes left = Bad Trailing left

unfoldable pub opening_at : Place → List ℕ → Read OpeningValue
opening_at places.Header bytes = do
  p ← profile_at bytes
  Got (ready (items.Header p.0), p.1)
opening_at place [] = More
opening_at place (b ∷ bytes) = tagged_opening place b bytes (length (b ∷ bytes))

abbrev pub framed : Read Frame → Read Item
framed f = f >>= λ x. Got (items.Frame x.0, x.1)

-- the whole item, from its opening
abbrev pub go_on : OpeningValue × List ℕ → Read Item
go_on (ready item, rest) = Got (item, rest)
go_on (init_of done left, rest) = framed (init_from done left rest)
go_on (run_of format input done left, rest) = framed (finished_from format input done left rest)
