-- A record on its way: its items read, and its frames compared with those that the run gives.
use Rattle.std.proofs.Common.{◌≡◌, ◌≤◌, ◌<◌, ◌+◌, ℕ, List, [], ◌∷◌, ◌++◌, length, map, Option, Some, None, Result, Ok, Err, refl, sym, ap}
use Rattle.std.proofs.Common.{inl, subst, ◌∙◌, append_assoc, append-nil, length-append, arith}
use Rattle.std.proofs.lemmas.Grind.{flat_map-append}
use Rattle.std.proofs.lemmas.List.{map-append, length-map}
use Rattle.det_values.specs.Values.{ProfileValue}
use Rattle.det_values.specs.declared.frames.CycleInput.{CycleInput}
use Rattle.det_values.specs.declared.frames.RunFrame.{RunFrame}
use Rattle.det_values.specs.declared.frames.Frame.{Frame}
use Rattle.det_values.specs.declared.frames.Frame.TheVariants.{Register, Discover, Init, Run, Terminate}
use Rattle.det_io.specs.Shelf.{ShelfState, Reads, IsAtEnd}
use Rattle.det_io.specs.declared.failure.Stopped.{Stopped}
use Rattle.det_io.proofs.SlotReads.{reads-none, reads-then}
use Rattle.job.specs.Meaning.{Meaning}
use Rattle.record_grammar.specs.declared.record_fault.RecordFault.{RecordFault}
use Rattle.record_grammar.specs.declared.item.Item.{Item}
use Rattle.record_grammar.specs.declared.item.Item.TheVariants as items
use Rattle.record_grammar.specs.declared.place.Place.{Place}
use Rattle.record_grammar.specs.declared.place.Place.TheVariants as places
use Rattle.record_grammar.specs.declared.place.Layout.{Layout}
use Rattle.record_grammar.specs.Places.{layout_of, CanFollow}
use Rattle.record_grammar.specs.Record.{items as items_in}
use Rattle.record_grammar.proofs.Leads.{can_follow}
use Rattle.record_grammar.proofs.Steady.{got_is}
use Rattle.record_view.specs.declared.view.FrameView.{FrameView}
use Rattle.record_reader.specs.declared.frame_reader.FrameReader.{FrameReader}
use Rattle.record_reader.specs.item_reader.StandsFor as inner
use Rattle.record_reader.specs.Frames.{StandsFor, HasRead, FrameIs, GaveView, Holds, slot_of}
use Rattle.record_reader.specs.ItemTaker.{AreFirst}
use Rattle.record_reader.proofs.Items.{NextIs, next_is, few_first, HasLayout, header_first}
use Rattle.record_reader.proofs.FrameReading.{are_first, more_items}
use Rattle.probes.specs.Reports.{AudienceState}
use Rattle.probes.specs.Shows.{Shows}
use Rattle.probes.proofs.Shown.{shows-none, shows-then}
use Rattle.recorder.specs.declared.run_writer.recording.Recording.{Recording}
use Rattle.rerun.proofs.lemmas.replayer.Items.{few-inputs}
use Rattle.copies.specs.FirstDifference.{frame_difference}
use Rattle.rerun.specs.declared.checker.frame_checker.FrameChecker.{FrameChecker}
use Rattle.rerun.specs.checker.Departure.{run_of}
use Rattle.rerun.specs.checker.RerunFrames.{IsEngineAfter, CanCome, IsPlaced, input_of, rerun_frame}
use Rattle.rerun.specs.checker.Needed.{IsNeeded}
use Rattle.rerun.proofs.Reading.{none-of}
use Rattle.rerun.proofs.lemmas.checker.Departing.{inputs_of, departs, departs-none, departs-next}
use Rattle.rerun.proofs.lemmas.checker.Records.{runs_of, inputs-are, frames-are, frames-behind, needed-then}

-- a header and frames as items
abbrev pub items_with : ProfileValue → List Frame → List Item
items_with profile fs = items.Header profile ∷ map items.Frame fs

pub items-next : (profile : ProfileValue) (front : List Frame) (x : Frame)
    → items_with profile front ++ items.Frame x ∷ [] ≡ items_with profile (front ++ x ∷ [])
items-next profile front x = ap (λ (l : List Item). items.Header profile ∷ l) (sym (map-append items.Frame front (x ∷ [])))

-- ---- the frame that a reader gave

-- a view shows one frame
same-frame : (x y : Frame) → items.Frame x ≡ items.Frame y → x ≡ y
same-frame x y e = cc

held-one : (r : FrameReader) (view : FrameView) (x y : Frame) → Holds r view x → Holds r view y → x ≡ y
held-one r view x y h k =
    same-frame x y (ap (λ (p : Item × List ℕ). p.0) (got_is (items.Frame x, _) (items.Frame y, _) (sym h.shows.read ∙ k.shows.read)))

-- what a result says, by the frame that it gives
abbrev pub Gives : Result (Option Frame) (Stopped RecordFault) → FrameReader → Type 0 → List ℕ → List Item → Type 0
Gives (Ok (Some frame)) r at_end read given = StandsFor r read (given ++ items.Frame frame ∷ []) × (others : List Item)
    × (items_in read ≡ given ++ items.Frame frame ∷ others)
Gives (Ok None) r at_end read given = inner.ItemIs (Ok None) r.items at_end read given
Gives (Err stop) r at_end read given = inner.ItemIs (Err stop) r.items at_end read given

-- a result by its view, and by the frame that the view shows
abbrev pub AnswersAs : FrameReader → Result (Option FrameView) (Stopped RecordFault) → Result (Option Frame) (Stopped RecordFault) → Type 0
AnswersAs r (Ok (Some view)) (Ok (Some frame)) = Holds r view frame
AnswersAs r (Ok None) (Ok None) = Unit {0}
AnswersAs r (Err stop) (Err other) = stop ≡ other
AnswersAs r answer other = ⊥

pub gives : (r : FrameReader) (answer : Result (Option FrameView) (Stopped RecordFault)) (other : Result (Option Frame) (Stopped
    RecordFault))
    (at_end : Type 0) (read : List ℕ) (given : List Item) → AnswersAs r answer other → FrameIs answer r at_end read given
    → Gives other r at_end read given
gives r (Ok (Some view)) (Ok (Some frame)) at_end read given fits is =
    subst (λ (x : Frame). Gives (Ok (Some x)) r at_end read given) (held-one r view is.frame frame is.holds fits)
    (is.stands, is.others, is.is)
gives r (Ok None) (Ok None) at_end read given fits is = is
gives r (Err stop) (Err other) at_end read given fits is = subst (λ (e : Stopped RecordFault). Gives (Err e) r at_end read given) fits is
gives r (Ok (Some view)) (Ok None) at_end read given fits is = absurd fits
gives r (Ok (Some view)) (Err other) at_end read given fits is = absurd fits
gives r (Ok None) (Ok (Some frame)) at_end read given fits is = absurd fits
gives r (Ok None) (Err other) at_end read given fits is = absurd fits
gives r (Err stop) (Ok o) at_end read given fits is = absurd fits

-- the reader gave a view, which shows a frame
pub held-frame : (r : FrameReader) (gave : Option FrameView) (view : FrameView) → gave ≡ Some view → GaveView (Ok gave) r
    → (frame : Frame) × Holds r view frame
held-frame r gave view is h = subst (λ (o : Option FrameView). GaveView (Ok o) r) is h

pub placed-at : (place : Place) (profile : ProfileValue) (x : Frame) → HasLayout (layout_of profile) place → CanFollow place (items.Frame x)
    → IsPlaced place profile
placed-at (places.Register l) profile x h k = record { format = ap (λ (y : Layout). y.format) h; events = ap (λ (y : Layout). y.events) h }
placed-at (places.Discover l) profile x h k = record { format = ap (λ (y : Layout). y.format) h; events = ap (λ (y : Layout). y.events) h }
placed-at (places.Init l) profile x h k = record { format = ap (λ (y : Layout). y.format) h; events = ap (λ (y : Layout). y.events) h }
placed-at (places.Runs l before) profile x h k = record {
  format = ap (λ (y : Layout). y.format) h;
  events = ap (λ (y : Layout). y.events) h;
}
placed-at places.Header profile x h k = absurd h
placed-at places.End profile x h k = absurd k

-- ---- the frames that were compared

module _ {S G E L P : Type 0} (m : Meaning S G E L P) (profile : ProfileValue) where
  -- after what `old` had read these bytes were read, and these frames compared with those of the run; none differs
  pub record HasCompared (first now : ShelfState) (slot : ℕ) (old reader : FrameReader) (recording : Recording S G E L P)
      (more : List ℕ) (front : List Frame) : Type 0 where
    pub reads : Reads first now slot more
    pub needed : (read : List ℕ) → StandsFor old read (items.Header profile ∷ []) → IsNeeded m profile read more
    pub gave : (read : List ℕ) → StandsFor old read (items.Header profile ∷ [])
        → StandsFor reader (read ++ more) (items_with profile front)
    pub behind : IsEngineAfter m recording (inputs_of front)
    pub agree : departs m profile 0 [] front ≡ None

  pub compared-none : (shelf : ShelfState) (reader : FrameReader) (recording : Recording S G E L P) → IsEngineAfter m recording []
      → HasCompared shelf shelf (slot_of reader) reader reader recording [] []
  compared-none shelf reader recording behind = record {
    reads = reads-none shelf (slot_of reader);
    needed = λ read stands. inl refl;
    gave = λ read stands. subst (λ (bytes : List ℕ). StandsFor reader bytes (items.Header profile ∷ [])) (sym (append-nil read)) stands;
    behind = behind;
    agree = departs-none m profile 0 [];
  }

  -- the reader's result, for all that was read after what `old` had read
  pub record Next (first now : ShelfState) (slot : ℕ) (old next : FrameReader) (front : List Frame)
      (answer : Result (Option Frame) (Stopped RecordFault)) : Type 0 where
    pub all : List ℕ
    pub reads : Reads first now slot all
    pub needed : (read : List ℕ) → StandsFor old read (items.Header profile ∷ []) → IsNeeded m profile read all
    -- the frames compared come first, whatever follows
    pub begins : (read : List ℕ) → StandsFor old read (items.Header profile ∷ []) → (rest : List ℕ)
        → (others : List Item) × (items_in ((read ++ all) ++ rest) ≡ items_with profile front ++ others)
    pub is : (read : List ℕ) → StandsFor old read (items.Header profile ∷ [])
        → Gives answer next (IsAtEnd now slot) (read ++ all) (items_with profile front)

module _ {S G E L P : Type 0} {m : Meaning S G E L P} {profile : ProfileValue} {first mid : ShelfState} {slot : ℕ}
    {old reader : FrameReader} {recording : Recording S G E L P} {more : List ℕ} {front : List Frame}
    (so_far : HasCompared m profile first mid slot old reader recording more front) where
  pub next-read : {now : ShelfState} (next : FrameReader) (answer : Result (Option FrameView) (Stopped RecordFault))
      (other : Result (Option Frame) (Stopped RecordFault)) → AnswersAs next answer other
      → HasRead mid now reader (FrameIs answer next (IsAtEnd now (slot_of reader))) → slot_of reader ≡ slot
      → Next m profile first now slot old next front other
  next-read {now} next answer other fits h same = record {
    all = more ++ h.0;
    reads = reads-then so_far.reads (subst (λ s. Reads mid now s h.0) same h.1);
    needed = λ read stands. needed-then m profile read more h.0 (items_with profile front) front (frames-are front)
        so_far.agree (so_far.needed read stands)
        (h.2 profile (read ++ more) (map items.Frame front) (so_far.gave read stands)).0;
    begins = λ read stands rest.
        let all = more_items reader (read ++ more) (items_with profile front) (so_far.gave read stands) (h.0 ++ rest) in
        subst (λ (bytes : List ℕ). (others : List Item) × (items_in bytes ≡ items_with profile front ++ others))
        (sym (append_assoc (read ++ more) h.0 rest) ∙ ap (λ (bytes : List ℕ). bytes ++ rest) (append_assoc read more h.0))
        (all.0, all.1);
    is = λ read stands. gives next answer other (IsAtEnd now slot) (read ++ (more ++ h.0)) (items_with profile front) fits
        (subst (λ s. FrameIs answer next (IsAtEnd now s) (read ++ (more ++ h.0)) (items_with profile front)) same
        (subst (λ (bytes : List ℕ). FrameIs answer next (IsAtEnd now (slot_of reader)) bytes (items_with profile front))
        (append_assoc read more h.0) (h.2 profile (read ++ more) (map items.Frame front) (so_far.gave read stands)).1));
  }

  -- what the reader read, for an answer without a fault
  abbrev ReadAs : ShelfState → FrameReader → Option FrameView → Type 0
  ReadAs now next gave = HasRead mid now reader (FrameIs (Ok gave) next (IsAtEnd now (slot_of reader)))

  -- it gave a view, which shows a frame
  pub next-frame : {now : ShelfState} (next : FrameReader) (gave : Option FrameView) (view : FrameView) → gave ≡ Some view
      → GaveView (Ok gave) next → ReadAs now next gave → slot_of reader ≡ slot
      → (frame : Frame) × Holds next view frame × Next m profile first now slot old next front (Ok (Some frame))
  next-frame {now} next gave view is held h same =
      let shown = held-frame next gave view is held in (
        shown.0,
        shown.1,
        next-read next (Ok (Some view)) (Ok (Some shown.0)) shown.1 (subst (ReadAs now next) is h) same,
      )

  -- it gave none
  pub next-none : {now : ShelfState} (next : FrameReader) (gave : Option FrameView) → ((view : FrameView) → gave ≡ Some view → ⊥)
      → ReadAs now next gave → slot_of reader ≡ slot → Next m profile first now slot old next front (Ok None)
  next-none {now} next gave none h same = next-read next (Ok None) (Ok None) tt (subst (ReadAs now next) (none-of gave none) h) same

  -- the place of a frame that was given
  pub placed : {now : ShelfState} (next : FrameReader) (gave : Option FrameView) (view : FrameView) → gave ≡ Some view
      → ReadAs now next gave → (read : List ℕ) → StandsFor old read (items.Header profile ∷ []) → IsPlaced view.place profile
  placed {now} next gave view is h read stands =
      let read_as = subst (ReadAs now next) is h in
      let frame = (read_as.2 profile (read ++ more) (map items.Frame front) (so_far.gave read stands)).1 in
      placed-at view.place profile frame.frame
      (header_first profile (map items.Frame front) view.place ((read ++ more) ++ read_as.0) frame.before.0 frame.before.1)
      (can_follow view.place _ (items.Frame frame.frame) _ frame.holds.shows.read)

  module _ (read : List ℕ) (stands : StandsFor old read (items.Header profile ∷ [])) where
    -- there is room to count one more
    pub front-few : length front < 4294967295
    front-few =
        let gave = so_far.gave read stands in
        let few = few_first (items_with profile front) (are_first reader (read ++ more) (items_with profile front) gave) in
        let count : length (map items.Frame front) ≡ length front = length-map front items.Frame in
        omega (arith, few, count)

    pub inputs-few : length (inputs_of front) ≤ 1000000
    inputs-few =
        let gave = so_far.gave read stands in
        let first = are_first reader (read ++ more) (items_with profile front) gave in
        let few = few-inputs (items_with profile front) first.place first.bytes first.rest first.leads in
        let same = inputs-are (map items.Frame front) ∙ ap (λ (l : List Frame). inputs_of l) (frames-are front) in
        subst (λ (l : List CycleInput). length l ≤ 1000000) same few

pub inputs-next : (front : List Frame) (x : Frame) → inputs_of (front ++ x ∷ []) ≡ inputs_of front ++ input_of x
inputs-next front x = flat_map-append input_of front (x ∷ [])
    ∙ ap (λ (l : List CycleInput). inputs_of front ++ l) (append-nil (input_of x))

-- the frame that comes next
module _ {S G E L P : Type 0} {m : Meaning S G E L P} {profile : ProfileValue} {first now : ShelfState} {slot : ℕ}
    {old next : FrameReader} {front : List Frame} {frame : Frame} (n : Next m profile first now slot old next front (Ok (Some frame))) where
  module _ (read : List ℕ) (stands : StandsFor old read (items.Header profile ∷ [])) where
    first-items : AreFirst (items_with profile front ++ items.Frame frame ∷ [])
    first-items = are_first next (read ++ n.all) (items_with profile front ++ items.Frame frame ∷ []) (n.is read stands).0

    few-next : length (inputs_of front) + length (input_of frame) ≤ 1000000
    few-next =
        let given = items_with profile front in
        let x : Item = items.Frame frame in
        let few = few-inputs (given ++ x ∷ []) first-items.place first-items.bytes first-items.rest first-items.leads in
        let all = inputs-are (given ++ x ∷ []) ∙ ap (λ (l : List Frame). inputs_of l) (frames-behind profile front (x ∷ []) _ refl)
        ∙ inputs-next front frame in
        let count = ap length all ∙ length-append (inputs_of front) (input_of frame) in
        omega (arith, few, count)

    -- where it is a Run frame, a cycle is left for it
    pub can-come : (recording : Recording S G E L P) → IsEngineAfter m recording (inputs_of front)
        → length recording.profile.events ≡ length profile.events
        → CanCome recording.engine.cycles (length recording.profile.events) frame
    can-come recording behind its =
        subst (λ (events : ℕ). CanCome recording.engine.cycles events frame) (sym its)
        (by frame few-next (next_is (items_with profile front) (items.Frame frame) first-items))
      where
        by : (x : Frame) → length (inputs_of front) + length (input_of x) ≤ 1000000 → NextIs (items_with profile front) (items.Frame x)
            → CanCome recording.engine.cycles (length profile.events) x
        by Register few known = tt
        by Discover few known = tt
        by (Init elements) few known = tt
        by Terminate few known = tt
        by (Run run) few known = let cycles = behind.engine.cycles in (omega (arith, few, cycles), known.0)

  -- it was compared, and agrees
  pub compared-then : {mid : ShelfState} {reader : FrameReader} {recording ran : Recording S G E L P} {more : List ℕ}
      → HasCompared m profile first mid slot old reader recording more front → IsEngineAfter m ran (inputs_of front ++ input_of frame)
      → frame_difference (length front) frame (rerun_frame m profile (inputs_of front) frame) ≡ None
      → HasCompared m profile first now slot old next ran n.all (front ++ frame ∷ [])
  compared-then {ran = ran} so_far behind none = record {
    reads = n.reads;
    needed = n.needed;
    gave = λ bytes begins. subst (λ (l : List Item). StandsFor next (bytes ++ n.all) l) (items-next profile front frame)
        (n.is bytes begins).0;
    behind = subst (IsEngineAfter m ran) (sym (inputs-next front frame)) behind;
    agree = departs-next m profile front frame 0 (length front) [] (omega arith) so_far.agree none;
  }

-- ---- a check

module _ {S G E L P : Type 0} (m : Meaning S G E L P) (profile : ProfileValue) where
  -- the frames compared were counted, and their runs shown
  pub record Comparing (first now : ShelfState) (slot : ℕ) (start seen : AudienceState) (old reader : FrameReader)
      (recording : Recording S G E L P) (checker : FrameChecker) (more : List ℕ) (front : List Frame) : Type 0 where
    pub so_far : HasCompared m profile first now slot old reader recording more front
    pub shown : Shows start seen (runs_of front)
    pub compared : checker.compared ≡ length front
    pub cycles : checker.cycles ≡ length (inputs_of front)

  pub comparing-new : (shelf : ShelfState) (seen : AudienceState) (reader : FrameReader) (recording : Recording S G E L P)
      (checker : FrameChecker) → IsEngineAfter m recording [] → checker.compared ≡ 0 → checker.cycles ≡ 0
      → Comparing shelf shelf (slot_of reader) seen seen reader reader recording checker [] []
  comparing-new shelf seen reader recording checker behind compared cycles = record {
    so_far = compared-none m profile shelf reader recording behind;
    shown = shows-none seen;
    compared = compared;
    cycles = cycles;
  }

one-input : (x : Frame) → length (run_of x) ≡ length (input_of x)
one-input Register = refl
one-input Discover = refl
one-input (Init elements) = refl
one-input (Run run) = refl
one-input Terminate = refl

-- one more frame agrees, was shown and counted
pub comparing-next : {S G E L P : Type 0} {m : Meaning S G E L P} {profile : ProfileValue} {first mid now : ShelfState} {slot : ℕ}
    {start seen shown : AudienceState} {old reader next : FrameReader} {recording ran : Recording S G E L P}
    {checker counted : FrameChecker} {more : List ℕ} {front : List Frame} {frame : Frame}
    (n : Next m profile first now slot old next front (Ok (Some frame)))
    → Comparing m profile first mid slot start seen old reader recording checker more front
    → IsEngineAfter m ran (inputs_of front ++ input_of frame)
    → frame_difference checker.compared frame (rerun_frame m profile (inputs_of front) frame) ≡ None
    → Shows seen shown (run_of frame)
    → counted.compared ≡ checker.compared + 1 → counted.cycles ≡ checker.cycles + length (run_of frame)
    → Comparing m profile first now slot start shown old next ran counted n.all (front ++ frame ∷ [])
comparing-next {m = m} {profile = profile} {start = start} {shown = shown} {front = front} {frame = frame} n h behind none shows compared
    cycles = record {
      so_far = compared-then n h.so_far behind
          (subst (λ (k : ℕ). frame_difference k frame (rerun_frame m profile (inputs_of front) frame) ≡ None) h.compared none);
      shown = subst (Shows start shown) (sym (flat_map-append run_of front (frame ∷ [])
          ∙ ap (λ (l : List RunFrame). runs_of front ++ l) (append-nil (run_of frame)))) (shows-then h.shown shows);
      compared = compared ∙ ap (λ k. k + 1) h.compared ∙ sym (length-append front (frame ∷ []));
      cycles = cycles ∙ ap (λ k. k + length (run_of frame)) h.cycles
          ∙ ap (λ k. length (inputs_of front) + k) (one-input frame) ∙ sym (length-append (inputs_of front) (input_of frame))
          ∙ ap length (sym (inputs-next front frame));
    }
