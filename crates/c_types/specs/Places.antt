-- The place of a record that a struct of C stands for.
use Rattle.std.specs.Prelude.{ℕ, ◌==◌, if◌then◌else◌}
use Rattle.det_values.specs.declared.format.Format.{Format}
use Rattle.det_values.specs.declared.format.Format.TheVariants.{One, Two}
use Rattle.record_grammar.specs.declared.place.Layout.{Layout}
use Rattle.record_grammar.specs.declared.place.Place.{Place}
use Rattle.record_grammar.specs.declared.place.Place.TheVariants as places
use Rattle.c_types.specs.declared.record.DetRecord.{DetRecord}

abbrev pub format_of : ℕ → Format
format_of n = if n == 1 then One else Two

abbrev pub layout_in : DetRecord → Layout
layout_in r = record { format = format_of r.format; events = r.events }

-- by the number of the stage; a number without a place is the end
abbrev pub place_of : DetRecord → Place
place_of r =
    if r.stage == 0 then places.Header
    else if r.stage == 1 then places.Register (layout_in r)
    else if r.stage == 2 then places.Discover (layout_in r)
    else if r.stage == 3 then places.Init (layout_in r)
    else if r.stage == 4 then places.Runs (layout_in r) r.cycles
    else places.End
