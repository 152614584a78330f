-- The place to which an item leads.
use Rattle.std.specs.Prelude.{ℕ, ◌+◌, ◌-◌, ◌<◌, suc, length}
use Rattle.det_values.specs.declared.format.Format.{Format}
use Rattle.det_values.specs.declared.format.Format.TheVariants.{One}
use Rattle.det_values.specs.declared.frames.Frame.TheVariants.{Register, Discover, Init, Run}
use Rattle.det_values.specs.declared.frames.Frame.TheVariants.{Terminate}
use Rattle.det_values.specs.Values.{ProfileValue}
use Rattle.record_grammar.specs.declared.place.Layout.{Layout}
use Rattle.record_grammar.specs.declared.place.Place.{Place}
use Rattle.record_grammar.specs.declared.place.Place.TheVariants as places
use Rattle.record_grammar.specs.declared.item.Item.{Item}
use Rattle.record_grammar.specs.declared.item.Item.TheVariants as items

-- the part of a profile that the frames depend on
abbrev pub layout_of : ProfileValue → Layout
layout_of p = record { format = p.format; events = length p.events }

-- the place after an item
abbrev pub after : Place → Item → Place
after place (items.Header p) = places.Register (layout_of p)
after (places.Register layout) (items.Frame f) = places.Discover layout
after (places.Discover layout) (items.Frame f) = places.Init layout
after (places.Init layout) (items.Frame f) = places.Runs layout 0
after (places.Runs layout before) (items.Frame (Run r)) = places.Runs layout (before + 1)
after (places.Runs layout before) (items.Frame Terminate) = places.End
after place (items.Frame f) = place

-- the format of the frames from a place on
abbrev pub format_of : Place → Format
format_of (places.Register layout) = layout.format
format_of (places.Discover layout) = layout.format
format_of (places.Init layout) = layout.format
format_of (places.Runs layout before) = layout.format
format_of places.Header = One
format_of places.End = One

-- the item is of the kind that may come in a place
abbrev pub CanFollow : Place → Item → Type 0
CanFollow places.Header (items.Header p) = Unit {0}
CanFollow (places.Register layout) (items.Frame Register) = Unit {0}
CanFollow (places.Discover layout) (items.Frame Discover) = Unit {0}
CanFollow (places.Init layout) (items.Frame (Init elements)) = Unit {0}
CanFollow (places.Runs layout before) (items.Frame (Run r)) = before < 1000000
CanFollow (places.Runs layout before) (items.Frame Terminate) = Unit {0}
CanFollow place item = ⊥

-- the greatest number of items from a place on
abbrev pub may_come : Place → ℕ
may_come places.Header = 1000005
may_come (places.Register layout) = 1000004
may_come (places.Discover layout) = 1000003
may_come (places.Init layout) = 1000002
may_come (places.Runs layout before) = suc (1000000 - before)
may_come places.End = 0
