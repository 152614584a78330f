-- The format of a frame's place is that of the header before it.
use Rattle.std.proofs.Common.{◌≡◌, ℕ, List, [], ◌∷◌, refl, sym, ap, subst, ◌∙◌}
use Rattle.det_values.specs.declared.format.Format.{Format}
use Rattle.det_values.specs.declared.frames.Frame.TheVariants.{Register, Discover, Init, Run, Terminate}
use Rattle.record_grammar.specs.declared.place.Place.{Place}
use Rattle.record_grammar.specs.declared.place.Place.TheVariants as places
use Rattle.record_grammar.specs.declared.item.Item.{Item}
use Rattle.record_grammar.specs.declared.item.Item.TheVariants as items
use Rattle.record_grammar.specs.Places.{after, format_of, CanFollow}
use Rattle.record_grammar.specs.Leads.{Leads}
use Rattle.record_grammar.proofs.Leads.{can_follow}
use Rattle.cmd_records.specs.record_show.PrintedItems.{format_by, format_behind}

none_at_end : (x : Item) → CanFollow places.End x → ⊥
none_at_end (items.Header p) can = can
none_at_end (items.Frame f) can = can

ended : (xs : List Item) (to : Place) (bytes rest : List ℕ) (x : Item) → Leads places.End bytes xs to rest → CanFollow to x → ⊥
ended [] to bytes rest x h can = none_at_end x (subst (λ (p : Place). CanFollow p x) (sym h.0) can)
ended (y ∷ xs) to bytes rest x h can = none_at_end y (can_follow places.End bytes y h.0 h.1)

format_next : (place : Place) (x : Item) → (after place x ≡ places.End → ⊥) → format_of (after place x) ≡ format_by (format_of place) x
format_next place (items.Header p) on = refl
format_next places.Header (items.Frame f) on = refl
format_next (places.Register layout) (items.Frame f) on = refl
format_next (places.Discover layout) (items.Frame f) on = refl
format_next (places.Init layout) (items.Frame f) on = refl
format_next (places.Runs layout before) (items.Frame Register) on = refl
format_next (places.Runs layout before) (items.Frame Discover) on = refl
format_next (places.Runs layout before) (items.Frame (Init elements)) on = refl
format_next (places.Runs layout before) (items.Frame (Run r)) on = refl
format_next (places.Runs layout before) (items.Frame Terminate) on = absurd (on refl)
format_next places.End (items.Frame f) on = refl

-- items lead to a place whose frames have the format after them, if one more can follow
pub format_there : (xs : List Item) (from to : Place) (bytes rest : List ℕ) (x : Item) → Leads from bytes xs to rest → CanFollow to x
    → format_of to ≡ format_behind (format_of from) xs
unfolding format_behind
format_there [] from to bytes rest x h can = ap format_of (sym h.0)
format_there (y ∷ xs) from to bytes rest x h can =
    format_there xs (after from y) to h.0 rest x h.2 can
    ∙ ap (λ (f : Format). format_behind f xs) (format_next from y
    (λ at. ended xs to h.0 rest x (subst (λ (p : Place). Leads p h.0 xs to rest) at h.2) can))
