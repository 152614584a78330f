-- What the frames of a run are read as, also where it wasn't ended.
use Rattle.std.proofs.Common.{◌≡◌, ℕ, ◌+◌, List, [], ◌∷◌, length, map, Some, sym, ap, subst, ◌∙◌}
use Rattle.det_values.specs.declared.frames.RunFrame.{RunFrame}
use Rattle.det_values.specs.declared.frames.Frame.{Frame}
use Rattle.det_values.specs.declared.frames.Frame.TheVariants as frames
use Rattle.det_values.specs.Values.{ProfileValue}
use Rattle.record_grammar.specs.declared.record_fault.Reason.TheVariants.{Truncated}
use Rattle.record_grammar.specs.declared.place.Layout.{Layout}
use Rattle.record_grammar.specs.declared.place.Place.{Place}
use Rattle.record_grammar.specs.declared.place.Place.TheVariants as places
use Rattle.record_grammar.specs.declared.item.Item.TheVariants as items
use Rattle.record_grammar.specs.Places.{layout_of}
use Rattle.record_grammar.specs.Record.{fault, fault_from, early, ending_at}
use Rattle.record_grammar.specs.Spelling.{Spells}
use Rattle.record_grammar.specs.Laws.{AreItems, items_of}
use Rattle.record_grammar.proofs.Leads.{all_at_more}
use Rattle.record_grammar.proofs.lemmas.record_laws.Order.{in_order}
use Rattle.record_grammar.proofs.lemmas.record_laws.Whole.{nil_more, all_leads_on}

abbrev begun_frames : List (List ℕ) → List RunFrame → List Frame
begun_frames elements runs = frames.Register ∷ frames.Discover ∷ frames.Init elements ∷ map frames.Run runs

-- after runs more may come
runs_open : (layout : Layout) (before : ℕ) (runs : List RunFrame) (to : Place)
    → AreItems (places.Runs layout before) (map items.Frame (map frames.Run runs)) to → ending_at to ≡ early
runs_open layout before [] to h = ap ending_at (sym h)
runs_open layout before (run ∷ runs) to h = runs_open layout (before + 1) runs to h.1

-- a record whose run wasn't ended ends too early
pub ends_early : (profile : ProfileValue) (elements : List (List ℕ)) (runs : List RunFrame) (run : List Frame) (bytes : List ℕ)
    → run ≡ begun_frames elements runs → Spells profile run bytes
    → fault bytes ≡ Some (record { offset = length bytes; reason = Truncated })
ends_early profile elements runs run bytes is spells =
    let at = (in_order profile run bytes).begun.0 spells in
    let read = all_at_more (items_of profile run) at.0 bytes [] (all_leads_on (items_of profile run) at.0 bytes at.1 at.2) (nil_more at.0)
    in
    let order = subst (λ (fs : List Frame). AreItems places.Header (items_of profile fs) at.0) is at.1 in
    read.2 ∙ ap (fault_from (length bytes)) (runs_open (layout_of profile) 0 runs at.0 order.1.1.1.1)
