-- The inputs that a reader gives, one after another.
use Rattle.std.proofs.Common.{◌≡◌, ◌≤◌, ℕ, List, [], ◌∷◌, ◌++◌, length, true, false, Option, Some, None, Ok, Err, refl, sym, ap, subst, ◌∙◌}
use Rattle.std.proofs.Common.{append_assoc, append-nil}
use Rattle.std.specs.List.{flat_map}
use Rattle.std.proofs.lemmas.Grind.{flat_map-append}
use Rattle.det_values.specs.Values.{ProfileValue}
use Rattle.det_values.specs.declared.frames.CycleInput.{CycleInput}
use Rattle.det_values.specs.declared.frames.Frame.{Frame}
use Rattle.det_values.specs.declared.frames.Frame.TheVariants.{Register, Discover, Init, Run, Terminate}
use Rattle.det_io.specs.declared.failure.Failure.TheVariants.{Read, Write, OutOfMemory}
use Rattle.det_io.specs.declared.failure.Stopped.{Stopped}
use Rattle.det_io.specs.declared.failure.Stopped.TheVariants.{Refused, Failed}
use Rattle.det_io.specs.Prefix.{IsPrefix}
use Rattle.det_io.specs.Shelf.{ShelfState, Reads, IsAtEnd}
use Rattle.det_io.proofs.SlotReads.{reads-then}
use Rattle.record_grammar.specs.declared.record_fault.RecordFault.{RecordFault}
use Rattle.record_grammar.specs.declared.item.Item.{Item}
use Rattle.record_grammar.specs.declared.item.Item.TheVariants as items
use Rattle.record_grammar.specs.Record.{items as items_in, fault_so_far}
use Rattle.record_view.specs.declared.view.FrameView.{FrameView}
use Rattle.record_codec.specs.Filled.{InputFilled}
use Rattle.record_reader.specs.item_reader.Needed.{ReadsWhile}
use Rattle.record_reader.specs.item_reader.StandsFor.{FoundFault, ReadsIfNeeded}
use Rattle.record_reader.proofs.lemmas.item_reader.Needed.{while-weaker, while-then}
use Rattle.record_reader.specs.declared.frame_reader.FrameReader.{FrameReader}
use Rattle.record_reader.specs.Frames.{HasRead, FrameIs, GaveFrame, Holds, slot_of}
use Rattle.record_reader.proofs.FrameReading.{are_first, more_items}
use Rattle.record_reader.proofs.Items.{next_is}
use Rattle.rerun.specs.replayer.ReplayRecord.{input_in, inputs}
use Rattle.rerun.specs.replayer.NextInput.{HasGiven, HasAll, ReadsOn, InputIs}
use Rattle.rerun.proofs.lemmas.replayer.Items.{inputs-next, few-inputs, known-input}

-- the inputs of a record, by its items
inputs-of : {profile : ProfileValue} {r : FrameReader} {read : List ℕ} {given : List CycleInput} (bytes : List ℕ)
    (h : HasGiven profile r read given) → items_in bytes ≡ items.Header profile ∷ h.behind → inputs bytes ≡ given
inputs-of bytes h is = ap (λ (xs : List Item). flat_map input_in xs) is ∙ h.inputs

-- what was given comes first in every record that begins with what was read
pub inputs-first : {profile : ProfileValue} {r : FrameReader} {read : List ℕ} {given : List CycleInput} → HasGiven profile r read given
    → (rest : List ℕ) → IsPrefix given (inputs (read ++ rest))
inputs-first {profile} {r} {read} {given} h rest =
    let all = more_items r read (items.Header profile ∷ h.behind) h.stands rest in (
      flat_map input_in all.0,
      sym (ap (λ (xs : List Item). flat_map input_in xs) all.1 ∙ flat_map-append input_in h.behind all.0
          ∙ ap (λ (is : List CycleInput). is ++ flat_map input_in all.0) h.inputs),
    )

-- ---- a frame

-- a frame from which no input is made has none
no-input : (frame : Frame) (input : CycleInput) → InputFilled (Ok false) frame input → input_in (items.Frame frame) ≡ []
no-input Register input h = refl
no-input Discover input h = refl
no-input (Init elements) input h = refl
no-input (Run run) input h = absurd h
no-input Terminate input h = refl

-- one from which an input is made has that one
one-input : (frame : Frame) (input : CycleInput) → InputFilled (Ok true) frame input → input_in (items.Frame frame) ≡ input ∷ []
one-input Register input h = absurd h
one-input Discover input h = absurd h
one-input (Init elements) input h = absurd h
one-input (Run run) input h = ap (λ (i : CycleInput). i ∷ []) (sym h)
one-input Terminate input h = absurd h

-- a frame without an input was given
skipped : {profile : ProfileValue} {r : FrameReader} {read : List ℕ} {given : List CycleInput} (h : HasGiven profile r read given)
    (next : FrameReader) (view : FrameView) (all : List ℕ) (is : GaveFrame view next all (items.Header profile ∷ h.behind))
    → input_in (items.Frame is.frame) ≡ [] → HasGiven profile next all given
skipped {given = given} h next view all is none = record {
  behind = h.behind ++ items.Frame is.frame ∷ [];
  stands = is.stands;
  inputs = inputs-next h.behind (items.Frame is.frame) ∙ ap (λ (is : List CycleInput). flat_map input_in h.behind ++ is) none
      ∙ append-nil (flat_map input_in h.behind) ∙ h.inputs;
}

-- a Run frame was given
gave-input : {profile : ProfileValue} {r : FrameReader} {read : List ℕ} {given : List CycleInput} (h : HasGiven profile r read given)
    (next : FrameReader) (view : FrameView) (input : CycleInput) (at_end : Type 0) (all : List ℕ)
    (is : GaveFrame view next all (items.Header profile ∷ h.behind)) → input_in (items.Frame is.frame) ≡ input ∷ []
    → InputIs (Ok (Some input)) profile next at_end all given
gave-input {profile} {given = given} h next view input at_end all is one =
    let item : Item = items.Frame is.frame in
    let behind = h.behind ++ item ∷ [] in
    let first = are_first next all (items.Header profile ∷ behind) is.stands in
    let grew : flat_map input_in behind ≡ given ++ input ∷ [] = inputs-next h.behind item
    ∙ ap (λ (is : List CycleInput). flat_map input_in h.behind ++ is) one
    ∙ ap (λ (is : List CycleInput). is ++ input ∷ []) h.inputs in (
      record { behind = behind; stands = is.stands; inputs = grew },
      record {
        known = known-input profile h.behind item input one (next_is (items.Header profile ∷ h.behind) item first);
        few = subst (λ (is : List CycleInput). length is ≤ 1000000) grew
            (few-inputs (items.Header profile ∷ behind) first.place first.bytes first.rest first.leads);
      },
    )

-- ---- no frame

-- the record is whole
gave-all : {profile : ProfileValue} {r : FrameReader} {read : List ℕ} {given : List CycleInput} (h : HasGiven profile r read given)
    (next : FrameReader) (at_end : Type 0) (all : List ℕ)
    → FrameIs (Ok None) next at_end all (items.Header profile ∷ h.behind) → InputIs (Ok None) profile next at_end all given
gave-all h next at_end all is = (
  record { behind = h.behind; stands = is.0; inputs = h.inputs },
  record { inputs = inputs-of all h is.2; whole = is.3; end = is.1 },
)

-- the reader stopped
gave-none : {profile : ProfileValue} {r : FrameReader} {read : List ℕ} {given : List CycleInput} (h : HasGiven profile r read given)
    (next : FrameReader) (stop : Stopped RecordFault) (at_end : Type 0) (all : List ℕ)
    → FrameIs (Err stop) next at_end all (items.Header profile ∷ h.behind) → InputIs (Err stop) profile next at_end all given
gave-none h next (Refused fault) at_end all is = record {
  inputs = inputs-of all h is.0.before;
  found = subst (λ (xs : List Item). FoundFault fault at_end all xs) (sym is.0.before) is.0;
}
gave-none h next (Failed Read) at_end all is = (
  record { behind = h.behind; stands = is.0; inputs = h.inputs },
  record { inputs = inputs-of all h is.1; sound = is.2 },
)
gave-none h next (Failed Write) at_end all is = absurd is
gave-none h next (Failed OutOfMemory) at_end all is = tt

-- ---- one read after another

-- the frame that was given
pub given-frame : {before now : ShelfState} {at : FrameReader} (o other : Option FrameView) (next : FrameReader) → o ≡ other
    → HasRead before now at (FrameIs (Ok o) next (IsAtEnd now (slot_of at)))
    → HasRead before now at (FrameIs (Ok other) next (IsAtEnd now (slot_of at)))
given-frame {before} {now} {at} o other next is h =
    subst (λ (x : Option FrameView). HasRead before now at (FrameIs (Ok x) next (IsAtEnd now (slot_of at)))) is h

-- all inputs were given where a frame was wanted
all-given : {profile : ProfileValue} {r : FrameReader} (read more next : List ℕ) {given : List CycleInput}
    (h : HasGiven profile r (read ++ more) given) → ReadsIfNeeded (read ++ more) (items.Header profile ∷ h.behind) next
    → ReadsWhile (λ first. HasAll (read ++ (more ++ first)) given) next
all-given {profile} read more next {given} h needed =
    while-weaker (λ first. (items_in ((read ++ more) ++ first) ≡ items.Header profile ∷ h.behind)
    × (fault_so_far ((read ++ more) ++ first) ≡ None)) (λ first. HasAll (read ++ (more ++ first)) given) next
    (λ first all. subst (λ (bytes : List ℕ). HasAll bytes given) (append_assoc read more first)
    (record { inputs = inputs-of ((read ++ more) ++ first) h all.0; sound = all.1 })) needed

-- the reader's result, after what was read
module _ {before mid now : ShelfState} {old at : FrameReader} (next : FrameReader) (same : slot_of at ≡ slot_of old)
    (on : ReadsOn before mid old (λ profile. HasGiven profile at)) where
  then : (P : ProfileValue → ℕ → List ℕ → List CycleInput → Type 0) (Q : ℕ → List ℕ → List Item → Type 0)
      → ((profile : ProfileValue) (slot : ℕ) (read all : List ℕ) (given : List CycleInput) (h : HasGiven profile at read given)
      → Q slot all (items.Header profile ∷ h.behind) → P profile slot all given)
      → HasRead mid now at (Q (slot_of at)) → ReadsOn before now old (λ profile. P profile (slot_of old))
  then P Q by is = (
    on.0 ++ is.0,
    reads-then on.1 (subst (λ (s : ℕ). Reads mid now s is.0) same is.1),
    λ profile read given h.
        let gave = on.2 profile read given h in
        let known = is.2 profile (read ++ on.0) gave.1.behind gave.1.stands in (
          while-then (λ first. HasAll (read ++ first) given) on.0 is.0 gave.0 (all-given read on.0 is.0 gave.1 known.0),
          subst (λ (s : ℕ). P profile s (read ++ (on.0 ++ is.0)) given) same
              (subst (λ (xs : List ℕ). P profile (slot_of at) xs given) (append_assoc read on.0 is.0)
              (by profile (slot_of at) (read ++ on.0) ((read ++ on.0) ++ is.0) given gave.1 known.1)),
        ),
  )

  pub then-skipped : (view : FrameView) (input : CycleInput)
      → ((frame : Frame) → Holds next view frame → InputFilled (Ok false) frame input)
      → HasRead mid now at (FrameIs (Ok (Some view)) next (IsAtEnd now (slot_of at)))
      → ReadsOn before now old (λ profile. HasGiven profile next)
  then-skipped view input none = then (λ profile slot. HasGiven profile next) (λ slot. FrameIs (Ok (Some view)) next (IsAtEnd now slot))
      (λ profile slot read all given h is. skipped h next view all is (no-input is.frame input (none is.frame is.holds)))

  pub then-input : (view : FrameView) (input : CycleInput)
      → ((frame : Frame) → Holds next view frame → InputFilled (Ok true) frame input)
      → HasRead mid now at (FrameIs (Ok (Some view)) next (IsAtEnd now (slot_of at)))
      → ReadsOn before now old (λ profile. InputIs (Ok (Some input)) profile next (IsAtEnd now (slot_of old)))
  then-input view input one = then (λ profile slot. InputIs (Ok (Some input)) profile next (IsAtEnd now slot))
      (λ slot. FrameIs (Ok (Some view)) next (IsAtEnd now slot))
      (λ profile slot read all given h is.
      gave-input h next view input (IsAtEnd now slot) all is (one-input is.frame input (one is.frame is.holds)))

  -- there was no memory for the input
  pub then-no-memory : (view : FrameView) → HasRead mid now at (FrameIs (Ok (Some view)) next (IsAtEnd now (slot_of at)))
      → ReadsOn before now old (λ profile. InputIs (Err (Failed OutOfMemory)) profile next (IsAtEnd now (slot_of old)))
  then-no-memory view = then (λ profile slot. InputIs (Err (Failed OutOfMemory)) profile next (IsAtEnd now slot))
      (λ slot. FrameIs (Ok (Some view)) next (IsAtEnd now slot)) (λ profile slot read all given h is. tt)

  pub then-all : HasRead mid now at (FrameIs (Ok None) next (IsAtEnd now (slot_of at)))
      → ReadsOn before now old (λ profile. InputIs (Ok None) profile next (IsAtEnd now (slot_of old)))
  then-all = then (λ profile slot. InputIs (Ok None) profile next (IsAtEnd now slot)) (λ slot. FrameIs (Ok None) next (IsAtEnd now slot))
      (λ profile slot read all given h. gave-all h next (IsAtEnd now slot) all)

  pub then-stopped : (stop : Stopped RecordFault) → HasRead mid now at (FrameIs (Err stop) next (IsAtEnd now (slot_of at)))
      → ReadsOn before now old (λ profile. InputIs (Err stop) profile next (IsAtEnd now (slot_of old)))
  then-stopped stop = then (λ profile slot. InputIs (Err stop) profile next (IsAtEnd now slot))
      (λ slot. FrameIs (Err stop) next (IsAtEnd now slot))
      (λ profile slot read all given h. gave-none h next stop (IsAtEnd now slot) all)
