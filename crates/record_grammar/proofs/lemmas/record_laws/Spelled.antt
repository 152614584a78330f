-- What is spelled is read.
use Rattle.std.proofs.Common.{◌≡◌, ℕ, List, [], ◌∷◌, length, map, None, refl, sym, ap, ◌∙◌}
use Rattle.std.specs.List.{flat_map}
use Rattle.det_values.specs.declared.frames.Frame.{Frame}
use Rattle.det_values.specs.Values.{ProfileValue}
use Rattle.record_grammar.specs.declared.place.Place.{Place}
use Rattle.record_grammar.specs.declared.place.Place.TheVariants as places
use Rattle.record_grammar.specs.declared.item.Item.{Item}
use Rattle.record_grammar.specs.declared.item.Item.TheVariants as items
use Rattle.record_grammar.specs.Record.{items as items_in, fault, fault_from, fault_so_far, ending_at}
use Rattle.record_grammar.specs.Spelling.{Spells}
use Rattle.record_grammar.specs.Laws.{AreItems, items_spelling, items_of}
use Rattle.record_grammar.proofs.Leads.{all_at_more}
use Rattle.record_grammar.specs.record_laws.Statements.{IsRead, OneRecord}
use Rattle.record_grammar.proofs.lemmas.record_laws.Order.{in_order}
use Rattle.record_grammar.proofs.lemmas.record_laws.Whole.{nil_more, all_leads_on}

-- items that lead to a place, and nothing after them
stops : (profile : ProfileValue) (frames : List Frame) (bytes : List ℕ) (to : Place) → AreItems places.Header (items_of profile frames) to
    → bytes ≡ items_spelling places.Header (items_of profile frames)
    → (items_in bytes ≡ items_of profile frames) × (fault_so_far bytes ≡ None) × (fault bytes ≡ fault_from (length bytes) (ending_at to))
stops profile frames bytes to h e =
    all_at_more (items_of profile frames) to bytes [] (all_leads_on (items_of profile frames) to bytes h e) (nil_more to)

pub spelled_is_read : (profile : ProfileValue) (frames : List Frame) (bytes : List ℕ) → Spells profile frames bytes
    → IsRead profile frames bytes
spelled_is_read profile frames bytes s =
    let o = in_order profile frames bytes in
    let b = o.begun.0 s in
    let r = stops profile frames bytes b.0 b.1 b.2 in
    record {
      items = r.0;
      no_fault = r.1;
      whole = λ w. let a = o.whole.0 w in (stops profile frames bytes places.End a.0 a.1).2;
    }

abbrev profile_of : ProfileValue → List Item → ProfileValue
profile_of p [] = p
profile_of p (items.Header q ∷ xs) = q
profile_of p (items.Frame f ∷ xs) = p

abbrev frame_of : Item → List Frame
frame_of (items.Frame f) = f ∷ []
frame_of (items.Header p) = []

frames_back : (fs : List Frame) → flat_map frame_of (map items.Frame fs) ≡ fs
frames_back [] = refl
frames_back (f ∷ fs) = ap (λ (gs : List Frame). f ∷ gs) (frames_back fs)

-- one spelling, one profile and one list of frames
pub one_record : OneRecord
one_record p q fs gs bytes s t =
    let same : items_of p fs ≡ items_of q gs = sym (spelled_is_read p fs bytes s).items ∙ (spelled_is_read q gs bytes t).items in
    (ap (profile_of p) same, sym (frames_back fs) ∙ ap (flat_map frame_of) same ∙ frames_back gs)
