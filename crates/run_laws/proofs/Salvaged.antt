-- What is salvaged is a whole record, and of a whole record it is that record.
use Rattle.std.proofs.Common.{◌≡◌, ◌+◌, ℕ, List, [], ◌∷◌, ◌++◌, map, Bool, true, false, cond, Option, Some, None}
use Rattle.std.proofs.Common.{refl, sym, ap, subst, ◌∙◌}
use Rattle.std.specs.List.{flat_map, list_any}
use Rattle.std.proofs.lemmas.Bool.{cond-true}
use Rattle.det_values.specs.declared.frames.RunFrame.{RunFrame}
use Rattle.det_values.specs.declared.frames.Frame.{Frame}
use Rattle.det_values.specs.declared.frames.Frame.TheVariants as frames
use Rattle.det_values.specs.Values.{ProfileValue}
use Rattle.record_grammar.specs.declared.record_fault.RecordFault.{RecordFault}
use Rattle.record_grammar.specs.declared.place.Layout.{Layout}
use Rattle.record_grammar.specs.declared.place.Place.{Place}
use Rattle.record_grammar.specs.declared.place.Place.TheVariants as places
use Rattle.record_grammar.specs.declared.item.Item.{Item}
use Rattle.record_grammar.specs.declared.item.Item.TheVariants as items
use Rattle.record_grammar.specs.Places.{layout_of}
use Rattle.record_grammar.specs.Record.{items as items_in, fault as fault_in}
use Rattle.record_grammar.specs.Spelling.{AreBytes, spelled, SpellsWhole}
use Rattle.record_grammar.specs.Laws.{AreItems, items_of, items_spelling}
use Rattle.record_grammar.proofs.lemmas.record_laws.Order.{in_order}
use Rattle.record_grammar.proofs.lemmas.record_laws.Spelled.{spelled_is_read}
use Rattle.record_grammar.proofs.lemmas.record_laws.Whole.{decoded_is}
use Rattle.record_reader.specs.Salvaged.{kept, is_init, salvaged_from, salvaged}
use Rattle.record_reader.specs.InItems.{runs_in}
use Rattle.cli_answers.specs.declared.answer.Answer.TheVariants.{Done}
use Rattle.cmd_records.specs.salvage_command.Salvage.{outcome_by, salvage_outcome}
use Rattle.run_laws.specs.Salvages.{ended, InitIsEnough, IsMadeWhole, SalvagedIsWhole, WholeIsKept}
use Rattle.run_laws.proofs.WholeRecords.{whole_record}

abbrev last : List Frame
last = frames.Terminate ∷ []

-- ---- items in their places, ended

abbrev as_ended : List Item → List Item
as_ended rest = map items.Frame (flat_map kept rest ++ last)

runs_ended : (layout : Layout) (before : ℕ) (rest : List Item) (to : Place) → AreItems (places.Runs layout before) rest to
    → AreItems (places.Runs layout before) (as_ended rest) places.End
runs_ended layout before [] to h = (tt, refl)
runs_ended layout before (items.Frame (frames.Run r) ∷ rest) to h = (h.0, runs_ended layout (before + 1) rest to h.1)
runs_ended layout before (items.Frame frames.Terminate ∷ []) to h = (tt, refl)
runs_ended layout before (items.Frame frames.Terminate ∷ x ∷ rest) to h = elim h.1.0 [ ]
runs_ended layout before (x ∷ rest) to h = elim h.0 [ ]

init_ended : (layout : Layout) (rest : List Item) (to : Place) → AreItems (places.Init layout) rest to → list_any is_init rest ≡ true
    → AreItems (places.Init layout) (as_ended rest) places.End
init_ended layout [] to h e = absurd cc
init_ended layout (items.Frame (frames.Init elements) ∷ rest) to h e = (h.0, runs_ended layout 0 rest to h.1)
init_ended layout (x ∷ rest) to h e = elim h.0 [ ]

discover_ended : (layout : Layout) (rest : List Item) (to : Place) → AreItems (places.Discover layout) rest to
    → list_any is_init rest ≡ true → AreItems (places.Discover layout) (as_ended rest) places.End
discover_ended layout [] to h e = absurd cc
discover_ended layout (items.Frame frames.Discover ∷ rest) to h e = (tt, init_ended layout rest to h.1 e)
discover_ended layout (x ∷ rest) to h e = elim h.0 [ ]

register_ended : (layout : Layout) (rest : List Item) (to : Place) → AreItems (places.Register layout) rest to
    → list_any is_init rest ≡ true → AreItems (places.Register layout) (as_ended rest) places.End
register_ended layout [] to h e = absurd cc
register_ended layout (items.Frame frames.Register ∷ rest) to h e = (tt, discover_ended layout rest to h.1 e)
register_ended layout (x ∷ rest) to h e = elim h.0 [ ]

-- frames in their places up to the end spell a whole record
spelling_of : (profile : ProfileValue) (run : List Frame) → AreItems places.Header (items_of profile run) places.End
    → SpellsWhole profile run (spelled profile run)
spelling_of profile run h =
    let s = (in_order profile run (items_spelling places.Header (items_of profile run))).whole.1 (h, refl) in
    subst (SpellsWhole profile run) s.0.spelling s

-- ---- what is salvaged

abbrev made_whole : ProfileValue → List Item → List ℕ
made_whole p rest = spelled p (flat_map kept rest ++ last)

-- the bytes that are salvaged of items, and what they are read as
record AreSalvaged (xs : List Item) : Type 0 where
  whole : List ℕ
  saved : salvaged_from xs ≡ Some whole
  sound : fault_in whole ≡ None
  items : items_in whole ≡ ended xs

are_salvaged : (xs : List Item) (to : Place) → AreItems places.Header xs to → list_any is_init xs ≡ true → AreSalvaged xs
are_salvaged [] to h e = absurd cc
are_salvaged (items.Frame f ∷ rest) to h e = elim h.0 [ ]
are_salvaged (items.Header p ∷ rest) to h e =
    let run : List Frame = flat_map kept rest ++ last in
    let s = spelling_of p run (h.0, register_ended (layout_of p) rest to h.1 e) in
    let read = spelled_is_read p run (made_whole p rest) s.0 in
    record {
      whole = made_whole p rest;
      saved = cond-true (list_any is_init rest) (Some (made_whole p rest)) None e;
      sound = read.whole s;
      items = read.items;
    }

runs_kept : (rest : List Item) → runs_in (as_ended rest) ≡ runs_in rest
runs_kept [] = refl
runs_kept (items.Header p ∷ rest) = runs_kept rest
runs_kept (items.Frame frames.Register ∷ rest) = runs_kept rest
runs_kept (items.Frame frames.Discover ∷ rest) = runs_kept rest
runs_kept (items.Frame (frames.Init elements) ∷ rest) = runs_kept rest
runs_kept (items.Frame (frames.Run r) ∷ rest) = ap (λ (rs : List RunFrame). r ∷ rs) (runs_kept rest)
runs_kept (items.Frame frames.Terminate ∷ rest) = runs_kept rest

same_runs : (xs : List Item) (to : Place) → AreItems places.Header xs to → runs_in (ended xs) ≡ runs_in xs
same_runs [] to h = refl
same_runs (items.Header p ∷ rest) to h = runs_kept rest
same_runs (items.Frame f ∷ rest) to h = elim h.0 [ ]

-- ---- a whole record

pub all_kept : (runs : List RunFrame)
    → flat_map kept (map items.Frame (map (λ run. frames.Run run) runs ++ last)) ++ last ≡ map (λ run. frames.Run run) runs ++ last
all_kept [] = refl
all_kept (r ∷ runs) = ap (λ (fs : List Frame). frames.Run r ∷ fs) (all_kept runs)

-- it is what is salvaged of it
pub whole_salvaged : (profile : ProfileValue) (run : List Frame) (bytes : List ℕ) → SpellsWhole profile run bytes
    → salvaged bytes ≡ Some bytes
whole_salvaged profile run bytes s =
    let is = s.1.order in
    ap salvaged_from ((spelled_is_read profile run bytes s.0).items ∙ ap (items_of profile) is)
    ∙ ap (λ (fs : List Frame). Some (spelled profile (frames.Register ∷ frames.Discover ∷ frames.Init s.1.elements ∷ fs)))
    (all_kept s.1.runs)
    ∙ ap Some (ap (spelled profile) (sym is) ∙ sym s.0.spelling)

pub whole_is_kept : WholeIsKept
whole_is_kept record_bytes are none =
    let w = whole_record record_bytes are none in
    ap (λ (saved : Option (List ℕ)). outcome_by saved (fault_in record_bytes)) (whole_salvaged w.profile w.run record_bytes w.spells)

-- ---- where it is done

module _ (record_bytes : List ℕ) (are : AreBytes record_bytes) where
  abbrev to : Place
  to = (decoded_is record_bytes are).items.to

  in_places : AreItems places.Header (items_in record_bytes) to
  in_places = (decoded_is record_bytes are).items.items

  -- a record from which nothing is salvaged has a fault
  has_fault : salvaged record_bytes ≡ None → fault_in record_bytes ≡ None → ⊥
  has_fault nothing none =
      let w = whole_record record_bytes are none in
      let some = whole_salvaged w.profile w.run record_bytes w.spells in
      cc

  -- then it isn't done
  not_done : (end : Option RecordFault) → fault_in record_bytes ≡ end → salvaged record_bytes ≡ None
      → (outcome_by None end).answer ≡ Done → ⊥
  not_done None is nothing e = has_fault nothing is
  not_done (Some fault) is nothing e = cc

  begun_from : (xs : List Item) → items_in record_bytes ≡ xs → (outcome_by (salvaged_from xs) (fault_in record_bytes)).answer ≡ Done
      → list_any is_init xs ≡ true
  begun_from [] is e = absurd (not_done (fault_in record_bytes) refl (ap salvaged_from is) e)
  begun_from (items.Frame f ∷ rest) is e = absurd (not_done (fault_in record_bytes) refl (ap salvaged_from is) e)
  begun_from (items.Header p ∷ rest) is e = by (list_any is_init rest) refl (ap salvaged_from is) e
    where
      by : (b : Bool) → list_any is_init rest ≡ b → salvaged record_bytes ≡ cond b (Some (made_whole p rest)) None
          → (outcome_by (cond b (Some (made_whole p rest)) None) (fault_in record_bytes)).answer ≡ Done → list_any is_init rest ≡ true
      by true begun saved done = begun
      by false begun nothing done = absurd (not_done (fault_in record_bytes) refl nothing done)

  begun : (salvage_outcome record_bytes).answer ≡ Done → list_any is_init (items_in record_bytes) ≡ true
  begun e = begun_from (items_in record_bytes) refl e

  done : list_any is_init (items_in record_bytes) ≡ true → (salvage_outcome record_bytes).answer ≡ Done
  done e =
      let s = are_salvaged (items_in record_bytes) to in_places e in
      ap (λ (saved : Option (List ℕ)). (outcome_by saved (fault_in record_bytes)).answer) s.saved

  made : (salvage_outcome record_bytes).answer ≡ Done → IsMadeWhole record_bytes (salvage_outcome record_bytes).bytes
  made e =
      let s = are_salvaged (items_in record_bytes) to in_places (begun e) in
      subst (IsMadeWhole record_bytes)
      (sym (ap (λ (saved : Option (List ℕ)). (outcome_by saved (fault_in record_bytes)).bytes) s.saved))
      (record { sound = s.sound; items = s.items; runs = ap runs_in s.items ∙ same_runs (items_in record_bytes) to in_places })

pub init_is_enough : InitIsEnough
init_is_enough record_bytes are = (begun record_bytes are, done record_bytes are)

pub salvaged_is_whole : SalvagedIsWhole
salvaged_is_whole record_bytes are e = made record_bytes are e
