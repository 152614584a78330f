-- The order of the frames of a record.
use Rattle.std.proofs.Common.{◌≡◌, ◌≤◌, ℕ, List, [], ◌∷◌, length, None, refl, ap, subst, ◌∙◌, arith}
use Rattle.std.specs.List.{flat_map}
use Rattle.det_values.specs.Values.{ProfileValue}
use Rattle.det_values.specs.declared.frames.Frame.{Frame}
use Rattle.det_values.specs.declared.frames.Frame.TheVariants.{Register, Discover, Init, Run, Terminate}
use Rattle.record_grammar.specs.declared.place.Layout.{Layout}
use Rattle.record_grammar.specs.declared.place.Place.{Place}
use Rattle.record_grammar.specs.declared.place.Place.TheVariants as places
use Rattle.record_grammar.specs.declared.item.Item.{Item}
use Rattle.record_grammar.specs.declared.item.Item.TheVariants as items
use Rattle.record_grammar.specs.Places.{after, layout_of}
use Rattle.record_grammar.specs.Leads.{Leads}
use Rattle.record_grammar.specs.Record.{items as items_in, fault as fault_in}
use Rattle.record_grammar.proofs.Leads.{can_follow}
use Rattle.record_grammar.proofs.lemmas.record_laws.AfterHeader.{HasLayout, keeps_layout, no_header}
use Rattle.record_grammar.proofs.lemmas.record_laws.AllItems.{items_lead}
use Rattle.record_grammar.proofs.lemmas.record_laws.Order.{Follow}
use Rattle.rerun.specs.replayer.ReplayRecord.{input_in, inputs}
use Rattle.rerun.specs.checker.Departure.{frames_in}
use Rattle.record_reader.specs.InItems.{frame_in}
use Rattle.rerun.proofs.lemmas.checker.Departing.{inputs_of}
use Rattle.rerun.proofs.lemmas.checker.Records.{inputs-are}

-- ---- the frames of a record

frames_follow : (layout : Layout) (xs : List Item) (place to : Place) (bytes rest : List ℕ) → HasLayout layout place
    → Leads place bytes xs to rest → Follow place (flat_map frame_in xs) to
frames_follow layout [] place to bytes rest h l = l.0
frames_follow layout (items.Frame f ∷ xs) place to bytes rest h l =
    let k = can_follow place bytes (items.Frame f) l.0 l.1 in
    (k, frames_follow layout xs (after place (items.Frame f)) to l.0 rest (keeps_layout layout place (items.Frame f) k h) l.2)
frames_follow layout (items.Header p ∷ xs) place to bytes rest h l =
    absurd (no_header layout place p h (can_follow place bytes (items.Header p) l.0 l.1))

-- these are all frames of a record with this header
pub record AreFrames (profile : ProfileValue) (bytes : List ℕ) (all : List Frame) : Type 0 where
  pub frames : frames_in bytes ≡ all
  pub inputs : inputs bytes ≡ inputs_of all
  pub to : Place
  pub order : Follow (places.Register (layout_of profile)) all to
  pub end : fault_in bytes ≡ None → to ≡ places.End

pub are_frames : (profile : ProfileValue) (bytes : List ℕ) (behind : List Item) → items_in bytes ≡ items.Header profile ∷ behind
    → AreFrames profile bytes (flat_map frame_in behind)
are_frames profile bytes behind is =
    let lead = items_lead bytes in
    let leads : Leads places.Header bytes (items.Header profile ∷ behind) lead.to lead.rest =
    subst (λ (xs : List Item). Leads places.Header bytes xs lead.to lead.rest) is lead.leads in
    record {
      frames = ap (λ (xs : List Item). flat_map frame_in xs) is;
      inputs = ap (λ (xs : List Item). flat_map input_in xs) is ∙ inputs-are behind;
      to = lead.to;
      order = frames_follow (layout_of profile) behind (places.Register (layout_of profile)) lead.to leads.0 lead.rest refl leads.2;
      end = lead.end;
    }

-- ---- how many there are

-- no more of them have an input
pub fewer_inputs : (fs : List Frame) → length (inputs_of fs) ≤ length fs
fewer_inputs [] = omega arith
fewer_inputs (Register ∷ fs) = let i = fewer_inputs fs in omega arith
fewer_inputs (Discover ∷ fs) = let i = fewer_inputs fs in omega arith
fewer_inputs (Init elements ∷ fs) = let i = fewer_inputs fs in omega arith
fewer_inputs (Run r ∷ fs) = let i = fewer_inputs fs in omega arith
fewer_inputs (Terminate ∷ fs) = let i = fewer_inputs fs in omega arith
