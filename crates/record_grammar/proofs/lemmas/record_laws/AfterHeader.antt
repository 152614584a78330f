-- After a header its layout stays, and all items are frames.
use Rattle.std.proofs.Common.{◌≡◌, ℕ, List, [], ◌∷◌, map, refl, ap, subst}
use Rattle.det_values.specs.declared.frames.Frame.{Frame}
use Rattle.det_values.specs.declared.frames.Frame.TheVariants as frames
use Rattle.det_values.specs.Values.{ProfileValue}
use Rattle.record_grammar.specs.declared.place.Layout.{Layout}
use Rattle.record_grammar.specs.declared.place.Place.{Place}
use Rattle.record_grammar.specs.declared.place.Place.TheVariants as places
use Rattle.record_grammar.specs.declared.item.Item.{Item}
use Rattle.record_grammar.specs.declared.item.Item.TheVariants as items
use Rattle.record_grammar.specs.Places.{after, CanFollow}
use Rattle.record_grammar.specs.Leads.{Leads}
use Rattle.record_grammar.specs.Laws.{MayStand, AreItems}
use Rattle.record_grammar.proofs.Leads.{can_follow}

-- a place after a header of this layout
abbrev pub HasLayout : Layout → Place → Type 0
HasLayout layout places.Header = ⊥
HasLayout layout (places.Register other) = other ≡ layout
HasLayout layout (places.Discover other) = other ≡ layout
HasLayout layout (places.Init other) = other ≡ layout
HasLayout layout (places.Runs other before) = other ≡ layout
HasLayout layout places.End = Unit {0}

pub keeps_layout : (layout : Layout) (place : Place) (x : Item) → CanFollow place x → HasLayout layout place
    → HasLayout layout (after place x)
keeps_layout layout (places.Register other) (items.Frame frames.Register) k h = h
keeps_layout layout (places.Discover other) (items.Frame frames.Discover) k h = h
keeps_layout layout (places.Init other) (items.Frame (frames.Init elements)) k h = h
keeps_layout layout (places.Runs other before) (items.Frame (frames.Run r)) k h = h
keeps_layout layout (places.Runs other before) (items.Frame frames.Terminate) k h = tt
keeps_layout layout places.Header x k h = absurd h
keeps_layout layout place x k h = elim k [ ]

pub layout_along : (layout : Layout) (xs : List Item) (place to : Place) (bytes rest : List ℕ) → Leads place bytes xs to rest
    → HasLayout layout place → HasLayout layout to
layout_along layout [] place to bytes rest l h = subst (HasLayout layout) l.0 h
layout_along layout (x ∷ xs) place to bytes rest l h =
    layout_along layout xs (after place x) to l.0 rest l.2 (keeps_layout layout place x (can_follow place bytes x l.0 l.1) h)

pub no_header : (layout : Layout) (place : Place) (p : ProfileValue) → HasLayout layout place → CanFollow place (items.Header p) → ⊥
no_header layout places.Header p h k = h
no_header layout place p h k = elim k [ ]

-- an item that may stand in a place is of a kind that may come there
pub can_stand : (place : Place) (x : Item) → MayStand place x → CanFollow place x
can_stand places.Header (items.Header p) h = tt
can_stand (places.Register layout) (items.Frame frames.Register) h = tt
can_stand (places.Discover layout) (items.Frame frames.Discover) h = tt
can_stand (places.Init layout) (items.Frame (frames.Init elements)) h = tt
can_stand (places.Runs layout before) (items.Frame (frames.Run r)) h = h.0
can_stand (places.Runs layout before) (items.Frame frames.Terminate) h = tt
can_stand place x h = elim h [ ]

pub all_frames : (layout : Layout) (xs : List Item) (place to : Place) → HasLayout layout place → AreItems place xs to
    → (fs : List Frame) × (xs ≡ map items.Frame fs)
all_frames layout [] place to h are = ([], refl)
all_frames layout (items.Header p ∷ xs) place to h are = absurd (no_header layout place p h (can_stand place (items.Header p) are.0))
all_frames layout (items.Frame f ∷ xs) place to h are =
    let stays = keeps_layout layout place (items.Frame f) (can_stand place (items.Frame f) are.0) h in
    let others = all_frames layout xs (after place (items.Frame f)) to stays are.1 in
    (f ∷ others.0, ap (λ (ys : List Item). items.Frame f ∷ ys) others.1)
