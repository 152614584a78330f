-- The parts of a frame, by its view.
use Rattle.std.proofs.Common.{◌≡◌, ℕ, ◌+◌, ◌-◌, List, [], length, take, drop, map, Some, None, Bool, true, cond}
use Rattle.std.proofs.Common.{refl, sym, ap, subst, ◌∙◌, arith, inl, inr, length-take}
use Rattle.std.proofs.lemmas.Bool.{cases_lt}
use Rattle.std.proofs.lemmas.List.{drop-drop}
use Rattle.det_values.specs.declared.format.Format.{Format}
use Rattle.det_values.specs.declared.format.Format.TheVariants.{One}
use Rattle.det_values.specs.declared.frames.CycleInput.{CycleInput}
use Rattle.det_values.specs.declared.frames.Frame.{Frame}
use Rattle.det_values.specs.declared.frames.Frame.TheVariants as frames
use Rattle.record_grammar.specs.declared.place.Place.{Place}
use Rattle.record_grammar.specs.Places.{format_of}
use Rattle.det_values.specs.declared.frames.Outcome.{Outcome}
use Rattle.det_values.specs.declared.frames.Outcome.TheVariants.{Finished, Refused}
use Rattle.det_values.specs.Values.{RefusedAtValue}
use Rattle.record_grammar.specs.declared.limits.Limits.TheVariants.{Between}
use Rattle.record_grammar.specs.Read.{Read, Got, More, Bad, ◌>>=◌, raw_at, many}
use Rattle.record_grammar.specs.Numbers.{number}
use Rattle.record_grammar.specs.Grammar.{string_at, element_at, drawn_at, sample_at, refusal_at, most_pass, most_element, phase_of}
use Rattle.record_grammar.proofs.Steady.{bind_got, got_is, raw_short, raw_long}
use Rattle.record_view.specs.Walks.{is_got, list_got}
use Rattle.record_view.specs.Parts.{undrawn}
use Rattle.record_view.proofs.Undrawn.{undrawn_stand}
use Rattle.record_view.proofs.Many.{many_none}
use Rattle.record_view.specs.declared.view.InputView.{InputView}
use Rattle.record_view.specs.declared.view.OutcomeView.{OutcomeView}
use Rattle.record_view.specs.declared.view.FrameKind.TheVariants as kinds
use Rattle.record_view.specs.Shows.{ShowsInput, ShowsFinished, ShowsRefused, ShowsOutcome, ShowsFrame, events_of}
use Rattle.c_types.specs.CValues.{place_of_refusal}
use Rattle.c_types.specs.declared.cycle.DetRefusal.{DetRefusal}
use Rattle.det_reading_c.specs.Numbers.{IsNumberAt}
use Rattle.c_types.specs.declared.frame.DetFrame.{DetFrame}
use Rattle.det_reading_c.specs.Frames.{ReadsAt, elements_after, output_after, refusal_after, tag_of, input_in, elements_in, output_in, refusal_in}
use Rattle.det_reading_c.specs.Frames.{element_format, IsFrameAt, HasNoParts, cycle_frame}
use Rattle.det_reading_c.proofs.Numbers.{of_bytes}

-- ---- a finished cycle

raw_is : (n : ℕ) (bytes output rest : List ℕ) → raw_at n bytes ≡ Got (output, rest) → (take n bytes ≡ output) × (n ≡ length output)
raw_is n bytes output rest e = elim (cases_lt (length bytes) n) [
  | inl lt ↦ absurd (cc (raw_short n bytes lt))
  | inr le ↦
      let p : (take n bytes, drop n bytes) ≡ (output, rest) = got_is {A = List ℕ} (take n bytes, drop n bytes) (output, rest) (sym
      (raw_long n bytes le) ∙ e) in
      let a : take n bytes ≡ output = ap (λ (y : List ℕ × List ℕ). y.0) p in
      let l : length (take n bytes) ≡ length output = ap length a in
      (a, omega (arith, l, length-take n bytes))
]

output_at : (count at len : ℕ) (bytes output rest : List ℕ) → IsNumberAt 4 count at bytes
    → string_at 4 1048576 (drop at bytes) ≡ Got (output, rest) → at + 4 + length output ≡ len
    → (take count (drop (len - count) bytes) ≡ output) × (count ≡ length output)
unfolding string_at
output_at count at len bytes output rest is e l =
    let b = bind_got (number 4 0 1048576 (drop at bytes)) (λ n. raw_at n.0 n.1) (output, rest) e in
    let k : count ≡ b.0.0 = is (Between 0 1048576) b.0.0 b.0.1 b.1 in
    let r : b.0.1 ≡ drop 4 (drop at bytes) = (of_bytes (Between 0 1048576) 4 0 (drop at bytes) b.0 b.1).1 in
    let raw = raw_is b.0.0 b.0.1 output rest b.2 in
    let m : len - count ≡ at + 4 = omega (arith, k, l, raw.1) in
    let d : drop (len - count) bytes ≡ b.0.1 = ap (λ (i : ℕ). drop i bytes) m ∙ sym (drop-drop 4 at bytes) ∙ sym r in
    (ap (λ (i : ℕ). take i (drop (len - count) bytes)) k ∙ ap (take b.0.0) d ∙ raw.0, k ∙ raw.1)

-- the parts of an outcome
pub record OutcomeParts (format : Format) (count at from output_len : ℕ) (bytes : List ℕ) (outcome : Outcome) : Type 0 where
  pub elements : ReadsAt (many (drawn_at format) count) at bytes (elements_after outcome)
  pub output : take output_len (drop from bytes) ≡ output_after outcome
  pub output_count : output_len ≡ length (output_after outcome)
  pub refusal : None ≡ refusal_after outcome

pub finished_parts : (format given : Format) (count at output_place len output_count : ℕ) (bytes : List ℕ) (outcome : Outcome)
    → format ≡ given → IsNumberAt 4 output_count output_place bytes → ShowsFinished given count at output_place len bytes outcome
    → OutcomeParts format count at (len - output_count) output_count bytes outcome
finished_parts format given count at output_place len output_count bytes outcome same is h =
    let o = output_at output_count output_place len bytes h.output (drop len bytes) is h.output_read h.counted in
    let p : OutcomeParts format count at (len - output_count) output_count bytes (Finished h.elements h.output) = record {
      elements = (
        drop output_place bytes,
        subst (λ (f : Format). many (drawn_at f) count (drop at bytes) ≡ Got (h.elements, drop output_place bytes)) (sym same) h.elements_read,
      );
      output = o.0;
      output_count = o.1;
      refusal = refl;
    } in
    subst (λ (x : Outcome). OutcomeParts format count at (len - output_count) output_count bytes x) (sym h.is) p

-- ---- a refused cycle

abbrev pub a_place : ℕ → ℕ → ℕ → ℕ → RefusedAtValue
a_place phase pass element code = record { phase = phase_of phase; pass = pass; element = element; code = code }

same_place : (phase pass element code : ℕ) (r : DetRefusal) → r.phase ≡ phase → r.pass ≡ pass → r.element ≡ element → r.code ≡ code
    → a_place phase pass element code ≡ place_of_refusal r
same_place phase pass element code r w x y z =
    ap (λ (n : ℕ). a_place n pass element code) (sym w) ∙ ap (λ (n : ℕ). a_place r.phase n element code) (sym x)
    ∙ ap (λ (n : ℕ). a_place r.phase r.pass n code) (sym y) ∙ ap (λ (n : ℕ). a_place r.phase r.pass r.element n) (sym z)

place_is : (r : DetRefusal) (bytes : List ℕ) (place : RefusedAtValue) (rest : List ℕ) → IsNumberAt 1 r.phase 0 bytes → IsNumberAt 1 r.pass 1 bytes
    → IsNumberAt 4 r.element 2 bytes → IsNumberAt 4 r.code 6 bytes → refusal_at bytes ≡ Got (place, rest) → place ≡ place_of_refusal r
unfolding refusal_at
place_is r bytes place rest phase pass element code e =
    let a = bind_got (number 1 0 2 bytes) (λ phase. number 1 0 (most_pass (phase_of phase.0)) phase.1 >>= λ pass.
    number 4 0 (most_element (phase_of phase.0)) pass.1 >>= λ element. number 4 0 4294967295 element.1 >>= λ code.
    Got (a_place phase.0 pass.0 element.0 code.0, code.1)) (place, rest) e in
    let b = bind_got (number 1 0 (most_pass (phase_of a.0.0)) a.0.1) (λ pass.
    number 4 0 (most_element (phase_of a.0.0)) pass.1 >>= λ element. number 4 0 4294967295 element.1 >>= λ code.
    Got (a_place a.0.0 pass.0 element.0 code.0, code.1)) (place, rest) a.2 in
    let c = bind_got (number 4 0 (most_element (phase_of a.0.0)) b.0.1) (λ element. number 4 0 4294967295 element.1 >>= λ code.
    Got (a_place a.0.0 b.0.0 element.0 code.0, code.1)) (place, rest) b.2 in
    let d = bind_got (number 4 0 4294967295 c.0.1) (λ code. Got (a_place a.0.0 b.0.0 c.0.0 code.0, code.1)) (place, rest) c.2 in
    let p : a_place a.0.0 b.0.0 c.0.0 d.0.0 ≡ place = ap (λ (y : RefusedAtValue × List ℕ). y.0)
    (got_is {A = RefusedAtValue} (a_place a.0.0 b.0.0 c.0.0 d.0.0, d.0.1) (place, rest) d.2) in
    let at-1 : a.0.1 ≡ drop 1 bytes = (of_bytes (Between 0 2) 1 0 bytes a.0 a.1).1 in
    let at-2 : b.0.1 ≡ drop 2 bytes = (of_bytes (Between 0 (most_pass (phase_of a.0.0))) 1 0 a.0.1 b.0 b.1).1 ∙ ap (drop 1) at-1 ∙ drop-drop 1 1 bytes in
    let at-6 : c.0.1 ≡ drop 6 bytes =
    (of_bytes (Between 0 (most_element (phase_of a.0.0))) 4 0 b.0.1 c.0 c.1).1 ∙ ap (drop 4) at-2 ∙ drop-drop 4 2 bytes in
    let w : r.phase ≡ a.0.0 = phase (Between 0 2) a.0.0 a.0.1 a.1 in
    let x : r.pass ≡ b.0.0 = pass (Between 0 (most_pass (phase_of a.0.0))) b.0.0 b.0.1 (ap (number 1 0 (most_pass (phase_of a.0.0))) (sym at-1) ∙ b.1) in
    let y : r.element ≡ c.0.0 =
    element (Between 0 (most_element (phase_of a.0.0))) c.0.0 c.0.1 (ap (number 4 0 (most_element (phase_of a.0.0))) (sym at-2) ∙ c.1) in
    let z : r.code ≡ d.0.0 = code (Between 0 4294967295) d.0.0 d.0.1 (ap (number 4 0 4294967295) (sym at-6) ∙ d.1) in
    sym p ∙ same_place a.0.0 b.0.0 c.0.0 d.0.0 r w x y z

pub refusal_is : (r : DetRefusal) (at len : ℕ) (bytes : List ℕ) (outcome : Outcome) → IsNumberAt 1 r.phase 0 (drop at bytes)
    → IsNumberAt 1 r.pass 1 (drop at bytes) → IsNumberAt 4 r.element 2 (drop at bytes) → IsNumberAt 4 r.code 6 (drop at bytes)
    → ShowsRefused at len bytes outcome → outcome ≡ Refused (place_of_refusal r)
refusal_is r at len bytes outcome phase pass element code h =
    h.is ∙ ap Refused (place_is r (drop at bytes) h.place (drop len bytes) phase pass element code h.place_read)

-- ---- a frame without parts, and by its kind

pub refused_elements : (outcome : Outcome) (place : RefusedAtValue) → outcome ≡ Refused place → elements_after outcome ≡ []
refused_elements outcome place e = ap elements_after e

pub refused_output : (outcome : Outcome) (place : RefusedAtValue) → outcome ≡ Refused place → output_after outcome ≡ []
refused_output outcome place e = ap output_after e

pub refused_refusal : (outcome : Outcome) (place : RefusedAtValue) → outcome ≡ Refused place → refusal_after outcome ≡ Some place
refused_refusal outcome place e = ap refusal_after e

pub no_values : {A : Type 0} (item : List ℕ → Read A) (n at : ℕ) (bytes : List ℕ) (values : List A) → n ≡ 0 → values ≡ []
    → ReadsAt (many item n) at bytes values
no_values {A} item n at bytes values e none = (
  drop at bytes,
  ap (λ (k : ℕ). many item k (drop at bytes)) e ∙ many_none item (drop at bytes) ∙ ap (λ (xs : List A). got_values xs) (sym none),
)
  where
    got_values : List A → Read (List A)
    got_values xs = Got (xs, drop at bytes)

stood : {A : Type 0} (r : Read (List A)) (values : List A) → is_got r ≡ true → list_got r ≡ values → (rest : List ℕ) × (r ≡ Got (values, rest))
stood (Got x) values h e = (x.1, ap (λ (xs : List _). Got (xs, x.1)) e)
stood More values h e = absurd cc
stood (Bad reason left) values h e = absurd cc

-- elements without draws are read as in format 1
pub undrawn_read : (n at : ℕ) (bytes : List ℕ) (values : List (List ℕ)) (rest : List ℕ) → many element_at n (drop at bytes) ≡ Got (values, rest)
    → ReadsAt (many (drawn_at One) n) at bytes (map undrawn values)
undrawn_read n at bytes values rest e =
    let s = undrawn_stand n (drop at bytes) values rest e in
    stood (many (drawn_at One) n (drop at bytes)) (map undrawn values) s.0 s.1

bare : (events : ℕ) (f : DetFrame) (bytes : List ℕ) (frame : Frame) → HasNoParts f → f.tag ≡ tag_of frame → (input_in frame).time ≡ None
    → (input_in frame).samples ≡ [] → elements_in frame ≡ [] → output_in frame ≡ [] → refusal_in frame ≡ None → IsFrameAt events f bytes frame
bare events f bytes frame h tag time samples elements output refusal = record {
  tag = tag;
  time = h.time ∙ sym time;
  samples = no_values (sample_at events) f.sample_count f.samples bytes (input_in frame).samples h.samples samples;
  elements = no_values (drawn_at (element_format f)) f.element_count f.elements bytes (elements_in frame) h.elements elements;
  output = ap (λ (n : ℕ). take n (drop f.output bytes)) h.output ∙ sym output;
  output_count = h.output ∙ sym (ap length output);
  refusal = ap (λ (b : Bool). cond b (Some (place_of_refusal f.refusal)) None) h.refusal ∙ sym refusal;
}

pub register_at : (place : Place) (f : DetFrame) (len : ℕ) (bytes : List ℕ) (frame : Frame) → HasNoParts f → f.tag ≡ 1
    → ShowsFrame place kinds.Register len bytes frame → IsFrameAt (events_of place) f bytes frame
register_at place f len bytes frames.Register h tag s = bare (events_of place) f bytes frames.Register h tag refl refl refl refl refl
register_at place f len bytes frame h tag s = elim s [ ]

pub discover_at : (place : Place) (f : DetFrame) (len : ℕ) (bytes : List ℕ) (frame : Frame) → HasNoParts f → f.tag ≡ 2
    → ShowsFrame place kinds.Discover len bytes frame → IsFrameAt (events_of place) f bytes frame
discover_at place f len bytes frames.Discover h tag s = bare (events_of place) f bytes frames.Discover h tag refl refl refl refl refl
discover_at place f len bytes frame h tag s = elim s [ ]

pub terminate_at : (place : Place) (f : DetFrame) (len : ℕ) (bytes : List ℕ) (frame : Frame) → HasNoParts f → f.tag ≡ 5
    → ShowsFrame place kinds.Terminate len bytes frame → IsFrameAt (events_of place) f bytes frame
terminate_at place f len bytes frames.Terminate h tag s = bare (events_of place) f bytes frames.Terminate h tag refl refl refl refl refl
terminate_at place f len bytes frame h tag s = elim s [ ]

pub init_at : (place : Place) (f : DetFrame) (count len : ℕ) (bytes : List ℕ) (frame : Frame)
    → ((events : ℕ) (bytes rest : List ℕ) (values : List (List ℕ)) → many element_at count (drop 5 bytes) ≡ Got (values, rest)
    → IsFrameAt events f bytes (frames.Init values))
    → ShowsFrame place (kinds.Init count) len bytes frame → IsFrameAt (events_of place) f bytes frame
init_at place f count len bytes (frames.Init values) is s = is (events_of place) bytes (drop len bytes) values s.0
init_at place f count len bytes frame is s = elim s [ ]

pub run_at : (place : Place) (f : DetFrame) (input : InputView) (outcome : OutcomeView) (len : ℕ) (bytes : List ℕ) (frame : Frame)
    → ((events : ℕ) (given : CycleInput) (value : Outcome) → ShowsInput events input bytes given
    → ShowsOutcome (format_of place) outcome len bytes value → IsFrameAt events f bytes (cycle_frame given value))
    → ShowsFrame place (kinds.Run input outcome) len bytes frame → IsFrameAt (events_of place) f bytes frame
run_at place f input outcome len bytes (frames.Run run) is s = is (events_of place) run.input run.outcome s.0 s.1
run_at place f input outcome len bytes frame is s = elim s [ ]
