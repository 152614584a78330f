-- Which item a view is of, by its kind.
use Rattle.std.proofs.Common.{◌≡◌, ℕ, ◌<◌, ◌≤◌, List, length, take, drop, Option, inl, inr, refl, sym, ap, subst, ◌∙◌, arith}
use Rattle.std.proofs.Common.{get_or, length-take}
use Rattle.std.proofs.lemmas.Bool.{cases_lt}
use Rattle.std.proofs.lemmas.List.Elements.{All-from_get_or}
use Rattle.det_values.specs.declared.format.Format.{Format}
use Rattle.det_values.specs.declared.format.Format.TheVariants.{Two}
use Rattle.det_values.specs.declared.frames.CycleInput.{CycleInput}
use Rattle.det_values.specs.declared.frames.DrawnElement.{DrawnElement}
use Rattle.det_values.specs.declared.frames.Frame.{Frame}
use Rattle.det_values.specs.declared.frames.Frame.TheVariants as frames
use Rattle.det_values.specs.declared.frames.Outcome.{Outcome}
use Rattle.det_values.specs.declared.frames.Outcome.TheVariants as outcomes
use Rattle.det_values.specs.declared.frames.RunFrame.{RunFrame}
use Rattle.det_values.specs.Values.{SampleValue, ProfileValue}
use Rattle.record_grammar.specs.declared.limits.Limits.TheVariants.{Between}
use Rattle.record_grammar.specs.declared.place.Place.{Place}
use Rattle.record_grammar.specs.declared.place.Place.TheVariants as places
use Rattle.record_grammar.specs.declared.item.Item.{Item}
use Rattle.record_grammar.specs.declared.item.Item.TheVariants as items
use Rattle.record_grammar.specs.Read.{Read, Got, raw_at, many}
use Rattle.record_grammar.specs.Numbers.{number, IsWithin}
use Rattle.record_grammar.specs.Grammar.{profile_at, element_at, drawn_at, string_at, item_at}
use Rattle.record_grammar.specs.Places.{CanFollow}
use Rattle.record_grammar.specs.Spelling.{AreBytes, IsFrame, IsOutcome}
use Rattle.record_grammar.specs.Laws.{MayStand}
use Rattle.record_grammar.proofs.Leads.{can_follow}
use Rattle.record_grammar.proofs.Steady.{bind_got, got_is, raw_short, raw_long}
use Rattle.record_view.specs.declared.view.InputView.{InputView}
use Rattle.record_view.specs.declared.view.OutcomeView.{OutcomeView}
use Rattle.record_view.specs.declared.view.OutcomeView.TheVariants as ends
use Rattle.record_view.specs.declared.view.FrameKind.TheVariants as kinds
use Rattle.record_view.specs.declared.view.FrameView.{FrameView}
use Rattle.record_view.specs.declared.view.ItemView.{ItemView}
use Rattle.record_view.specs.Shows.{ShowsFrame, ShowsOutcome, ShowsFinished, IsSpelling, IsFrameSpelling, events_of}
use Rattle.record_view.specs.Parts.{ElementsOf, OutputOf}
use Rattle.record_view.proofs.InitFrames.{frame_parts, of_init}
use Rattle.record_view.proofs.Numbers.{number_within}
use Rattle.record_view.proofs.EqualItems.{span_is_spelling}
use Rattle.record_codec.specs.Parts.{ShowsRun, FewElements}
use Rattle.record_codec.proofs.Flat.{many_counted, StandsSpelled, stand_spelled}

-- each field of an item is in its range
pub may_stand : (view : ItemView) (item : Item) (bytes : List ℕ) (events : ℕ) → events ≡ events_of view.place → events ≤ 65536
    → ((i : ℕ) → i < length bytes → get_or bytes i 0 < 256) → IsSpelling view item bytes → MayStand view.place item
may_stand view item bytes events is few are h =
    (span_is_spelling view.place view.span bytes item (subst (λ (n : ℕ). n ≤ 65536) is few) (All-from_get_or (λ b. b < 256) bytes 0 are)
    h.shows).0

-- ---- a header

abbrev got_profile : ProfileValue → List ℕ → Read ProfileValue
got_profile p rest = Got (p, rest)

abbrev profile_in : ProfileValue → Item → ProfileValue
profile_in p (items.Header q) = q
profile_in p (items.Frame f) = p

at_header : (bytes rest : List ℕ) (p : ProfileValue) → item_at places.Header bytes ≡ Got (items.Header p, rest)
    → profile_at bytes ≡ Got (p, rest)
unfolding item_at
at_header bytes rest p e =
    let b = bind_got (profile_at bytes) (λ x. Got (items.Header x.0, x.1)) (items.Header p, rest) e in
    let same : (items.Header b.0.0, b.0.1) ≡ (items.Header p, rest) = got_is (items.Header b.0.0, b.0.1) (items.Header p, rest) b.2 in
    b.1 ∙ ap (λ (y : Item × List ℕ). got_profile (profile_in p y.0) y.1) same

read_header : (place : Place) (bytes rest : List ℕ) (p : ProfileValue) → CanFollow place (items.Header p)
    → item_at place bytes ≡ Got (items.Header p, rest) → profile_at bytes ≡ Got (p, rest)
read_header places.Header bytes rest p k e = at_header bytes rest p e
read_header (places.Register layout) bytes rest p k e = absurd k
read_header (places.Discover layout) bytes rest p k e = absurd k
read_header (places.Init layout) bytes rest p k e = absurd k
read_header (places.Runs layout before) bytes rest p k e = absurd k
read_header places.End bytes rest p k e = absurd k

-- the bytes of a header are read as its profile
pub header_read : (view : ItemView) (p : ProfileValue) (bytes : List ℕ) → IsSpelling view (items.Header p) bytes
    → profile_at bytes ≡ Got (p, drop view.span.len bytes)
header_read view p bytes h =
    read_header view.place bytes (drop view.span.len bytes) p
    (can_follow view.place bytes (items.Header p) (drop view.span.len bytes) h.shows.read) h.shows.read

-- ---- Init

few_in_init : (place : Place) (es : List (List ℕ)) → MayStand place (items.Frame (frames.Init es)) → length es ≤ 65536
unfolding IsFrame
few_in_init (places.Init layout) es h = h.0
few_in_init places.Header es h = absurd h
few_in_init (places.Register layout) es h = absurd h
few_in_init (places.Discover layout) es h = absurd h
few_in_init (places.Runs layout before) es h = absurd h
few_in_init places.End es h = absurd h

pub few_of_init : (view : FrameView) (count : ℕ) (frame : Frame) (bytes : List ℕ) → view.kind ≡ kinds.Init count
    → IsFrameSpelling view frame bytes → MayStand view.place (items.Frame frame) → count ≤ 65536
few_of_init view count frame bytes is h stands =
    let i = of_init view count frame bytes is h in
    omega (
      arith,
      few_in_init view.place i.elements (subst (λ (f : Frame). MayStand view.place (items.Frame f)) i.is stands),
      many_counted element_at count (drop 5 bytes) (i.elements, drop view.len bytes) i.read,
    )

-- ---- Run

pub record IsRunOf (place : Place) (input : InputView) (outcome : OutcomeView) (len : ℕ) (bytes : List ℕ) (frame : Frame)
    : Type 0 where
  pub run : RunFrame
  pub is : frame ≡ frames.Run run
  pub shows : ShowsRun place input outcome len bytes run

run_by : (place : Place) (input : InputView) (outcome : OutcomeView) (len : ℕ) (bytes : List ℕ) (frame : Frame)
    → ShowsFrame place (kinds.Run input outcome) len bytes frame → IsRunOf place input outcome len bytes frame
run_by place input outcome len bytes (frames.Run r) h =
    record { run = r; is = refl; shows = record { input_is = h.0; outcome_is = h.1 } }
run_by place input outcome len bytes frames.Register h = absurd h
run_by place input outcome len bytes frames.Discover h = absurd h
run_by place input outcome len bytes (frames.Init es) h = absurd h
run_by place input outcome len bytes frames.Terminate h = absurd h

pub of_run : (view : FrameView) (input : InputView) (outcome : OutcomeView) (frame : Frame) (bytes : List ℕ)
    → view.kind ≡ kinds.Run input outcome → IsFrameSpelling view frame bytes
    → IsRunOf view.place input outcome view.len bytes frame
of_run view input outcome frame bytes is h =
    run_by view.place input outcome view.len bytes frame (frame_parts view frame bytes (kinds.Run input outcome) is h)

outcome_fits : (place : Place) (run : RunFrame) → MayStand place (items.Frame (frames.Run run))
    → (format : Format) × IsOutcome format run.outcome
unfolding IsFrame
outcome_fits (places.Runs layout before) run h = (layout.format, h.1.1)
outcome_fits places.Header run h = absurd h
outcome_fits (places.Register layout) run h = absurd h
outcome_fits (places.Discover layout) run h = absurd h
outcome_fits (places.Init layout) run h = absurd h
outcome_fits places.End run h = absurd h

few_by : (view : OutcomeView) (format fits : Format) (len : ℕ) (bytes : List ℕ) (outcome : Outcome) → IsOutcome fits outcome
    → ShowsOutcome format view len bytes outcome → FewElements view
few_by (ends.Finished count at output_at) format fits len bytes outcome k h =
    let i : IsOutcome fits (outcomes.Finished h.elements h.output) = subst (IsOutcome fits) h.is k in
    omega (arith, i.0, many_counted _ count (drop at bytes) (h.elements, drop output_at bytes) h.elements_read)
few_by (ends.Refused at) format fits len bytes outcome k h = tt

pub few_of_run : (view : FrameView) (input : InputView) (outcome : OutcomeView) (frame : Frame) (bytes : List ℕ)
    → view.kind ≡ kinds.Run input outcome → IsFrameSpelling view frame bytes → MayStand view.place (items.Frame frame)
    → FewElements outcome
few_of_run view input outcome frame bytes is h stands =
    let i = of_run view input outcome frame bytes is h in
    let f = outcome_fits view.place i.run (subst (λ (f : Frame). MayStand view.place (items.Frame f)) i.is stands) in
    few_by outcome _ f.0 view.len bytes i.run.outcome f.1 i.shows.outcome_is

abbrev an_input : Option ℕ → List SampleValue → CycleInput
an_input time samples = record { time = time; samples = samples }

pub input_is : (input made : CycleInput) → made.time ≡ input.time → made.samples ≡ input.samples → made ≡ input
input_is input made t s =
    ap (λ (time : Option ℕ). an_input time made.samples) t ∙ ap (λ (samples : List SampleValue). an_input input.time samples) s

-- elements of format 2 are spelled in the bytes
pub stand_in : (format : Format) (count at to len : ℕ) (bytes : List ℕ) (outcome : Outcome) → format ≡ Two → AreBytes bytes
    → (h : ShowsFinished format count at to len bytes outcome) → StandsSpelled count at to bytes h.elements
stand_in format count at to len bytes outcome is are h =
    stand_spelled count at to bytes h.elements are h.order (omega (arith, h.counted, h.within))
    (subst (λ (f : Format). many (drawn_at f) count (drop at bytes) ≡ Got (h.elements, drop to bytes)) is h.elements_read)

pub outcome_is : (outcome : Outcome) (es : List DrawnElement) (output : List ℕ) → ElementsOf es outcome → OutputOf output outcome
    → outcomes.Finished es output ≡ outcome
outcome_is (outcomes.Finished elements bytes) es output p q =
    ap (λ (xs : List DrawnElement). outcomes.Finished xs output) p ∙ ap (λ (ys : List ℕ). outcomes.Finished elements ys) q
outcome_is (outcomes.Refused at) es output p q = absurd p

-- ---- a field of variable length

raw_counted : (n : ℕ) (bytes : List ℕ) (x : List ℕ × List ℕ) → raw_at n bytes ≡ Got x → length x.0 ≤ n
raw_counted n bytes x e = elim (cases_lt (length bytes) n) [
  | inl lt ↦ absurd (cc (raw_short n bytes lt))
  | inr le ↦
      let p : (take n bytes, drop n bytes) ≡ x = got_is (take n bytes, drop n bytes) x (sym (raw_long n bytes le) ∙ e) in
      omega (arith, ap (λ (y : List ℕ × List ℕ). length y.0) p, length-take n bytes)
]

pub string_short : (width most : ℕ) (bytes : List ℕ) (x : List ℕ × List ℕ) → 0 < width → string_at width most bytes ≡ Got x
    → length x.0 ≤ most
unfolding string_at
string_short width most bytes x some e =
    let b = bind_got (number width 0 most bytes) (λ n. raw_at n.0 n.1) x e in
    let w : IsWithin (Between 0 most) b.0.0 = number_within (Between 0 most) width 0 bytes b.0 some b.1 in
    omega (arith, w.1, raw_counted b.0.0 b.0.1 x b.2)

pub output_short : (format : Format) (count at output_at len : ℕ) (bytes : List ℕ) (outcome : Outcome) (output : List ℕ)
    → ShowsFinished format count at output_at len bytes outcome → OutputOf output outcome → length output ≤ 1048576
output_short format count at output_at len bytes outcome output h o =
    let e : output ≡ h.output = subst (OutputOf output) h.is o in
    omega (arith, ap length e, string_short 4 1048576 (drop output_at bytes) (h.output, drop len bytes) (omega arith) h.output_read)
