-- Reading on, where only numbers are kept, is reading from the beginning.
use Rattle.std.proofs.Common.{◌≡◌, ℕ, ◌+◌, ◌-◌, ◌≤◌, List, [], ◌∷◌, ◌++◌, length, drop, Err, arith, refl, sym, ap, subst}
use Rattle.std.proofs.Common.{◌∙◌, length-drop, length-take, take, inl, inr}
use Rattle.std.proofs.lemmas.Bool.{cases_lt}
use Rattle.std.proofs.lemmas.List.{append-nil, drop-drop}
use Rattle.det_values.specs.declared.format.Format.{Format}
use Rattle.det_values.specs.declared.frames.CycleInput.{CycleInput}
use Rattle.det_values.specs.declared.frames.DrawnElement.{DrawnElement}
use Rattle.det_values.specs.declared.frames.Frame.{Frame}
use Rattle.det_values.specs.declared.frames.Frame.TheVariants as frames
use Rattle.det_values.specs.declared.frames.Outcome.TheVariants as outcomes
use Rattle.record_grammar.specs.declared.place.Place.{Place}
use Rattle.record_grammar.specs.declared.item.Item.{Item}
use Rattle.record_grammar.specs.declared.item.Item.TheVariants as items
use Rattle.record_grammar.specs.Read.{Read, Got, More, Bad, ◌>>=◌, many, with_front, raw_at}
use Rattle.record_grammar.specs.declared.limits.Limits.TheVariants.{Between}
use Rattle.record_grammar.specs.Numbers.{number}
use Rattle.record_grammar.specs.Places.{format_of}
use Rattle.record_grammar.specs.Grammar.{element_at, drawn_at, string_at, init_from, finished_from, item_at}
use Rattle.record_grammar.proofs.Steady.{IsSteady, bind_got, raw_long, raw_short, got_is}
use Rattle.record_grammar.proofs.SteadyFields.{string_steady}
use Rattle.record_view.specs.declared.stop.Stop.{Stop}
use Rattle.record_view.specs.declared.stop.Stop.TheVariants as stops
use Rattle.record_view.specs.declared.skip.Skip.{Skip}
use Rattle.record_view.specs.declared.view.ItemKind.{ItemKind}
use Rattle.record_view.specs.declared.view.ItemKind.TheVariants as item_kinds
use Rattle.record_view.specs.declared.view.FrameKind.TheVariants as kinds
use Rattle.record_view.specs.declared.view.OutcomeView.TheVariants as ends
use Rattle.record_view.specs.declared.view.InputView.{InputView}
use Rattle.record_view.specs.declared.partial.PartialRun.{PartialRun}
use Rattle.record_view.specs.declared.partial.Partial.TheVariants as partials
use Rattle.record_view.specs.declared.partial.Scan.{Scan}
use Rattle.record_view.specs.declared.opening.Opening.TheVariants as opening
use Rattle.record_view.specs.Gives.{Stops}
use Rattle.record_view.specs.Opening.{OpeningValue, ready, init_of, run_of, opening_at, go_on, framed}
use Rattle.record_view.specs.Skips.{IsSkip}
use Rattle.record_view.specs.Shows.{Shows}
use Rattle.record_view.specs.Scans.{ElementScan, InitScan, RunScan, IsScan, IsAnswer, ShowsOpening, FitsAs}
use Rattle.record_view.proofs.Numbers.{number_takes}
use Rattle.record_view.proofs.Many.{many_done, with_front_stops, nothing_before}
use Rattle.record_view.proofs.Begins.{begun_steady, begun_goes_on}
use Rattle.record_view.proofs.Suffix.{IsBehind, behind_at, behind_read, behind_then, at_place}

pub stops_then : {A B : Type 0} (stop : Stop) (r : Read A) (f : A × List ℕ → Read B) → Stops stop r → Stops stop (r >>= f)
stops_then stops.More r f h = ap (λ (q : Read _). q >>= f) h
stops_then (stops.Bad reason left) r f h = ap (λ (q : Read _). q >>= f) h

pub stops_as : {A : Type 0} (stop : Stop) (r s : Read A) → s ≡ r → Stops stop r → Stops stop s
stops_as stops.More r s e h = e ∙ h
stops_as (stops.Bad reason left) r s e h = e ∙ h

pub viewed_stop : (place : Place) (stop : Stop) (scan : Scan) (bytes : List ℕ) → Stops stop (item_at place bytes) → IsScan place scan bytes
    → IsAnswer place (Err stop) scan bytes
viewed_stop place stops.More scan bytes h k = (h, k)
viewed_stop place (stops.Bad reason left) scan bytes h k = h

-- a stop is among the bytes
pub stop_fits : {A : Type 0} (r : List ℕ → Read A) → IsSteady 0 r → (stop : Stop) (bytes : List ℕ) (scan : Scan) (len : ℕ) → scan.read ≤ len
    → length bytes ≤ len → Stops stop (r bytes) → FitsAs (Err stop) scan len
stop_fits r steady stops.More bytes scan len read le h = read
stop_fits r steady (stops.Bad reason left) bytes scan len read le h =
    let w : left ≤ 0 + length bytes = steady.within bytes reason left h in omega arith

-- ---- elements

module _ {A : Type 0} (item : List ℕ → Read A) where
  fronts : (a b : List A) (r : Read (List A)) → with_front a (with_front b r) ≡ with_front (a ++ b) r
  fronts a b (Got x) = ap (λ (xs : List A). Got (xs, x.1)) (sym (append_assoc' a b x.0))
    where
      append_assoc' : (a b c : List A) → (a ++ b) ++ c ≡ a ++ (b ++ c)
      append_assoc' [] b c = refl
      append_assoc' (x ∷ a) b c = ap (λ (xs : List A). x ∷ xs) (append_assoc' a b c)
  fronts a b More = refl
  fronts a b (Bad reason left) = refl

  -- some more were read
  pub goes_on : (count at left read : ℕ) (bytes : List ℕ) (skip : Skip) → ElementScan item count at left read bytes
      → IsSkip item left skip (drop read bytes) → ElementScan item count at skip.left (read + skip.read) bytes
  goes_on count at left read bytes skip h p =
      let l : length (drop read bytes) ≡ length bytes - read = length-drop read bytes in
      let d : drop skip.read (drop read bytes) ≡ drop (read + skip.read) bytes = drop-drop skip.read read bytes in
      record {
        done = h.done ++ p.done;
        order = omega (arith, h.order);
        in_range = omega (arith, h.in_range, p.continues.in_range);
        same = λ tail.
            let rest : List ℕ = drop (read + skip.read) bytes ++ tail in
            let one : with_front p.done (many item skip.left rest) ≡ many item left (drop read bytes ++ tail) =
            ap (λ (xs : List ℕ). with_front p.done (many item skip.left (xs ++ tail))) (sym d) ∙ p.continues.same tail
            ∙ nothing_before (many item left (drop read bytes ++ tail)) in
            sym (fronts h.done p.done (many item skip.left rest)) ∙ ap (with_front h.done) one ∙ h.same tail;
      }

  pub goes_begin : (count at : ℕ) (bytes : List ℕ) → at ≤ length bytes → ElementScan item count at count at bytes
  goes_begin count at bytes le =
      record { done = []; order = omega arith; in_range = le; same = λ tail. nothing_before (many item count (drop at bytes ++ tail)) }

  -- all were read
  pub goes_done : (count at left read : ℕ) (bytes : List ℕ) → left ≤ 0 → (h : ElementScan item count at left read bytes)
      → many item count (drop at bytes) ≡ Got (h.done, drop read bytes)
  goes_done count at left read bytes none h =
      ap (many item count) (sym (append-nil (drop at bytes))) ∙ sym (h.same [])
      ∙ ap (λ (xs : List ℕ). with_front h.done (many item left xs)) (append-nil (drop read bytes))
      ∙ many_done item h.done left (drop read bytes) none

  -- those that are left can't be read
  pub goes_stops : (count at left read : ℕ) (bytes : List ℕ) (stop : Stop) → ElementScan item count at left read bytes
      → Stops stop (many item left (drop read bytes)) → Stops stop (many item count (drop at bytes))
  goes_stops count at left read bytes stop h s =
      stops_as stop (with_front h.done (many item left (drop read bytes))) (many item count (drop at bytes))
      (ap (many item count) (sym (append-nil (drop at bytes))) ∙ sym (h.same [])
      ∙ ap (λ (xs : List ℕ). with_front h.done (many item left xs)) (append-nil (drop read bytes)))
      (with_front_stops h.done stop (many item left (drop read bytes)) s)

-- what a reader that can be resumed reads from only these bytes
now_is : (reading : List ℕ → Read Item) (place : Place) (bytes rest : List ℕ)
    → ((tail : List ℕ) → item_at place (bytes ++ tail) ≡ reading (rest ++ tail)) → item_at place bytes ≡ reading rest
now_is reading place bytes rest h = ap (item_at place) (sym (append-nil bytes)) ∙ h [] ∙ ap reading (append-nil rest)

-- ---- Init

abbrev to_init : List (List ℕ) × List ℕ → Read Frame
to_init es = Got (frames.Init es.0, es.1)

init_is : (count : ℕ) (bytes : List ℕ) → init_from [] count bytes ≡ (many element_at count bytes >>= to_init)
unfolding init_from
init_is count bytes = ap (λ (q : Read (List (List ℕ))). q >>= to_init) (nothing_before (many element_at count bytes))

init_now : (place : Place) (count left read : ℕ) (bytes : List ℕ) → InitScan place count left read bytes → item_at place bytes
    ≡ framed (many element_at count (drop 5 bytes) >>= to_init)
init_now place count left read bytes h =
    now_is (λ more. framed (init_from [] count more)) place bytes (drop 5 bytes) h.reading ∙ ap framed (init_is count (drop 5 bytes))

pub init_goes : (place : Place) (count left read : ℕ) (bytes : List ℕ) (skip : Skip) → InitScan place count left read bytes
    → IsSkip element_at left skip (drop read bytes) → InitScan place count skip.left (read + skip.read) bytes
init_goes place count left read bytes skip h p =
    record { reading = h.reading; goes = goes_on element_at count 5 left read bytes skip h.goes p }

pub init_whole : (place : Place) (count left read : ℕ) (bytes : List ℕ) → left ≤ 0 → InitScan place count left read bytes
    → (item : Item) × Shows place (record { kind = item_kinds.Frame (kinds.Init count); len = read }) bytes item
init_whole place count left read bytes none h =
    let d = goes_done element_at count 5 left read bytes none h.goes in (
      items.Frame (frames.Init h.goes.done),
      record {
        read = init_now place count left read bytes h ∙ ap (λ (q : Read (List (List ℕ))). framed (q >>= to_init)) d;
        within = h.goes.in_range;
        parts = (d, h.goes.order);
      },
    )

pub init_stops : (place : Place) (count left read : ℕ) (bytes : List ℕ) (stop : Stop) → InitScan place count left read bytes
    → Stops stop (many element_at left (drop read bytes))
    → IsAnswer place (Err stop) (record { partial = partials.Init count left; read = read }) bytes
init_stops place count left read bytes stop h s =
    viewed_stop place stop (record { partial = partials.Init count left; read = read }) bytes
    (stops_as stop (framed (many element_at count (drop 5 bytes) >>= to_init)) (item_at place bytes)
    (init_now place count left read bytes h)
    (stops_then stop (many element_at count (drop 5 bytes) >>= to_init) (λ x. Got (items.Frame x.0, x.1))
    (stops_then stop (many element_at count (drop 5 bytes)) to_init (goes_stops element_at count 5 left read bytes stop h.goes s)))) h

-- ---- a finished run

abbrev finished : CycleInput → List DrawnElement → List ℕ → Frame
finished input elements output = frames.Run (record { input = input; outcome = outcomes.Finished elements output })

abbrev to_run : CycleInput → List DrawnElement × List ℕ → Read Frame
to_run input es = string_at 4 1048576 es.1 >>= λ output. Got (finished input es.0 output.0, output.1)

run_is : (format : Format) (input : CycleInput) (count : ℕ) (bytes : List ℕ)
    → finished_from format input [] count bytes ≡ (many (drawn_at format) count bytes >>= to_run input)
unfolding finished_from
run_is format input count bytes =
    ap (λ (q : Read (List DrawnElement)). q >>= to_run input) (nothing_before (many (drawn_at format) count bytes))

run_now : (place : Place) (run : PartialRun) (read : ℕ) (bytes : List ℕ) (h : RunScan place run read bytes) → item_at place bytes
    ≡ framed (many (drawn_at (format_of place)) run.elements (drop run.elements_at bytes) >>= to_run h.input)
run_now place run read bytes h =
    now_is (λ more. framed (finished_from (format_of place) h.input [] run.elements more)) place bytes
    (drop run.elements_at bytes) h.reading
    ∙ ap framed (run_is (format_of place) h.input run.elements (drop run.elements_at bytes))

pub run_goes : (place : Place) (run : PartialRun) (read : ℕ) (bytes : List ℕ) (skip : Skip) → RunScan place run read bytes
    → IsSkip (drawn_at (format_of place)) run.left skip (drop read bytes)
    → RunScan place (record run { left = skip.left }) (read + skip.read) bytes
run_goes place run read bytes skip h p =
    record {
      input = h.input;
      shows = h.shows;
      order = h.order;
      reading = h.reading;
      goes = goes_on (drawn_at (format_of place)) run.elements run.elements_at run.left read bytes skip h.goes p;
    }

pub run_stops : (place : Place) (run : PartialRun) (read : ℕ) (bytes : List ℕ) (stop : Stop) → RunScan place run read bytes
    → Stops stop (many (drawn_at (format_of place)) run.left (drop read bytes))
    → IsAnswer place (Err stop) (record { partial = partials.Run run; read = read }) bytes
run_stops place run read bytes stop h s =
    let elements = many (drawn_at (format_of place)) run.elements (drop run.elements_at bytes) in
    viewed_stop place stop (record { partial = partials.Run run; read = read }) bytes
    (stops_as stop (framed (elements >>= to_run h.input)) (item_at place bytes) (run_now place run read bytes h)
    (stops_then stop (elements >>= to_run h.input) (λ x. Got (items.Frame x.0, x.1))
    (stops_then stop elements (to_run h.input)
    (goes_stops (drawn_at (format_of place)) run.elements run.elements_at run.left read bytes stop h.goes s)))) h

pub output_stops : (place : Place) (run : PartialRun) (read : ℕ) (bytes : List ℕ) (stop : Stop) → run.left ≤ 0
    → RunScan place run read bytes → Stops stop (string_at 4 1048576 (drop read bytes))
    → IsAnswer place (Err stop) (record { partial = partials.Run run; read = read }) bytes
output_stops place run read bytes stop none h s =
    let d = goes_done (drawn_at (format_of place)) run.elements run.elements_at run.left read bytes none h.goes in
    viewed_stop place stop (record { partial = partials.Run run; read = read }) bytes
    (stops_as stop (framed (to_run h.input (h.goes.done, drop read bytes))) (item_at place bytes)
    (run_now place run read bytes h ∙ ap (λ (q : Read (List DrawnElement)). framed (q >>= to_run h.input)) d)
    (stops_then stop (to_run h.input (h.goes.done, drop read bytes)) (λ x. Got (items.Frame x.0, x.1))
    (stops_then stop (string_at 4 1048576 (drop read bytes)) (λ output. Got (finished h.input h.goes.done output.0, output.1)) s))) h

raw_length : (n : ℕ) (bytes output rest : List ℕ) → raw_at n bytes ≡ Got (output, rest) → length bytes ≡ length output + length rest
raw_length n bytes output rest e = elim (cases_lt (length bytes) n) [
  | inl lt ↦ absurd (cc (raw_short n bytes lt))
  | inr le ↦
      let p : (take n bytes, drop n bytes) ≡ (output, rest) = got_is {A = List ℕ} (take n bytes, drop n bytes) (output, rest) (sym
      (raw_long n bytes le) ∙ e) in
      let a : take n bytes ≡ output = ap (λ (y : List ℕ × List ℕ). y.0) p in
      let b : drop n bytes ≡ rest = ap (λ (y : List ℕ × List ℕ). y.1) p in
      let l : length (take n bytes) ≡ length output = ap length a in
      let m : length (drop n bytes) ≡ length rest = ap length b in
      omega (arith, l, m, length-take n bytes, length-drop n bytes)
]

-- an output has four bytes before it
output_length : (bytes output rest : List ℕ) → string_at 4 1048576 bytes ≡ Got (output, rest)
    → length bytes ≡ 4 + length output + length rest
unfolding string_at
output_length bytes output rest e =
    let b = bind_got (number 4 0 1048576 bytes) (λ n. raw_at n.0 n.1) (output, rest) e in
    let n : length bytes ≡ 4 + length b.0.1 = number_takes (Between 0 1048576) 4 0 bytes b.0 b.1 in
    omega (arith, n, raw_length b.0.0 b.0.1 output rest b.2)

pub run_whole : (place : Place) (run : PartialRun) (read : ℕ) (bytes output rest : List ℕ) → run.left ≤ 0 → RunScan place run read bytes
    → string_at 4 1048576 (drop read bytes) ≡ Got (output, rest)
    → (length rest ≤ length bytes) × (item : Item) × Shows place (record {
      kind = item_kinds.Frame (kinds.Run run.input (ends.Finished run.elements run.elements_at read));
      len = length bytes - length rest;
    }) bytes item
run_whole place run read bytes output rest none h o =
    let d = goes_done (drawn_at (format_of place)) run.elements run.elements_at run.left read bytes none h.goes in
    let b = behind_then bytes (drop read bytes) rest (behind_at read (drop read bytes) bytes h.goes.in_range refl)
    (behind_read (string_at 4 1048576) (string_steady 4 1048576) (drop read bytes) output rest o) in
    let l : length (drop read bytes) ≡ length bytes - read = length-drop read bytes in
    let len : ℕ = length bytes - length rest in
    let o' : string_at 4 1048576 (drop read bytes) ≡ Got (output, drop len bytes) = o ∙ ap (λ (xs : List ℕ). got_output output xs) b.is in
    let n = output_length (drop read bytes) output rest o in (
      b.room,
      items.Frame (finished h.input h.goes.done output),
      record {
        read =
            run_now place run read bytes h ∙ ap (λ (q : Read (List DrawnElement)). framed (q >>= to_run h.input)) d
            ∙ ap (λ (q : Read (List ℕ)). framed (q >>= λ output. Got (finished h.input h.goes.done output.0, output.1))) o';
        within = omega arith;
        parts = (
          h.shows,
          record {
            elements = h.goes.done;
            output = output;
            is = refl;
            elements_read = d;
            output_read = o';
            order = h.goes.order;
            counted = omega (arith, n, l, h.goes.in_range, b.room);
            within = omega arith;
          },
          h.order,
        );
      },
    )
  where
    got_output : List ℕ → List ℕ → Read (List ℕ)
    got_output output rest = Got (output, rest)

-- ---- from the beginning

pub begun_goes : (place : Place) (bytes : List ℕ) (b : OpeningValue) (rest : List ℕ) → opening_at place bytes ≡ Got (b, rest)
    → (tail : List ℕ) → item_at place (bytes ++ tail) ≡ go_on (b, rest ++ tail)
begun_goes place bytes b rest got tail =
    let one : opening_at place (bytes ++ tail) ≡ Got (b, rest ++ tail) = (begun_steady place).got bytes tail (b, rest) got in
    begun_goes_on place (bytes ++ tail) ∙ ap (λ (q : Read OpeningValue). q >>= go_on) one

pub begun_behind : (place : Place) (bytes : List ℕ) (b : OpeningValue) (rest : List ℕ) → opening_at place bytes ≡ Got (b, rest)
    → IsBehind rest bytes
begun_behind place bytes b rest got = behind_read (opening_at place) (begun_steady place) bytes b rest got

pub start_stops : (place : Place) (bytes : List ℕ) (stop : Stop) → Stops stop (opening_at place bytes)
    → IsAnswer place (Err stop) (record { partial = partials.Nothing; read = 0 }) bytes
start_stops place bytes stop s =
    viewed_stop place stop (record { partial = partials.Nothing; read = 0 }) bytes
    (stops_as stop (opening_at place bytes >>= go_on) (item_at place bytes) (begun_goes_on place bytes)
    (stops_then stop (opening_at place bytes) go_on s)) refl

pub ready_whole : (place : Place) (bytes : List ℕ) (kind : ItemKind) (value : OpeningValue) (rest : List ℕ) → opening_at place bytes
    ≡ Got (value, rest) → ShowsOpening place (opening.Ready kind) bytes value rest
    → (item : Item) × Shows place (record { kind = kind; len = length bytes - length rest }) bytes item
ready_whole place bytes kind (ready item) rest got h =
    let e : length bytes - length rest ≡ h.0 = at_place h.0 rest bytes h.1 h.2 in
    let g : item_at place bytes ≡ Got (item, rest) = now_is (λ xs. go_on (ready item, xs)) place bytes rest (begun_goes place bytes
    (ready item) rest got) in
    subst (λ (n : ℕ). (item : Item) × Shows place (record { kind = kind; len = n }) bytes item) (sym e)
    (item, record { read = g ∙ ap (λ (xs : List ℕ). got_item item xs) h.2; within = h.1; parts = h.3 })
  where
    got_item : Item → List ℕ → Read Item
    got_item item rest = Got (item, rest)
ready_whole place bytes kind (init_of done left) rest got h = absurd h
ready_whole place bytes kind (run_of format input done left) rest got h = absurd h

pub init_begins : (place : Place) (bytes : List ℕ) (count : ℕ) (value : OpeningValue) (rest : List ℕ) → opening_at place bytes
    ≡ Got (value, rest) → ShowsOpening place (opening.Init count) bytes value rest
    → InitScan place count count (length bytes - length rest) bytes
init_begins place bytes count (ready item) rest got h = absurd h
init_begins place bytes count (init_of done left) rest got h =
    let e : length bytes - length rest ≡ 5 = at_place 5 rest bytes h.2 h.3 in
    subst (λ (n : ℕ). InitScan place count count n bytes) (sym e) (record {
      reading = λ tail.
          begun_goes place bytes (init_of done left) rest got tail
          ∙ ap (λ (es : List (List ℕ)). framed (init_from es left (rest ++ tail))) h.0
          ∙ ap (λ (n : ℕ). framed (init_from [] n (rest ++ tail))) h.1
          ∙ ap (λ (xs : List ℕ). framed (init_from [] count (xs ++ tail))) h.3;
      goes = goes_begin element_at count 5 bytes h.2;
    })
init_begins place bytes count (run_of format input done left) rest got h = absurd h

pub run_begins : (place : Place) (bytes : List ℕ) (p : InputView) (count at : ℕ) (value : OpeningValue) (rest : List ℕ)
    → opening_at place bytes ≡ Got (value, rest) → ShowsOpening place (opening.Run p count at) bytes value rest
    → RunScan place (record { input = p; elements = count; elements_at = at; left = count }) (length bytes - length rest) bytes
run_begins place bytes p count at (ready item) rest got h = absurd h
run_begins place bytes p count at (init_of done left) rest got h = absurd h
run_begins place bytes p count at (run_of format input done left) rest got h =
    let e : length bytes - length rest ≡ at = at_place at rest bytes h.3 h.4 in
    subst (λ (n : ℕ). RunScan place (record { input = p; elements = count; elements_at = at; left = count }) n bytes) (sym e) (record {
      input = input;
      shows = h.5;
      order = h.6;
      reading = λ tail.
          begun_goes place bytes (run_of format input done left) rest got tail
          ∙ ap (λ (f : Format). framed (finished_from f input done left (rest ++ tail))) h.0
          ∙ ap (λ (es : List DrawnElement). framed (finished_from (format_of place) input es left (rest ++ tail))) h.1
          ∙ ap (λ (n : ℕ). framed (finished_from (format_of place) input [] n (rest ++ tail))) h.2
          ∙ ap (λ (xs : List ℕ). framed (finished_from (format_of place) input [] count (xs ++ tail))) h.4;
      goes = goes_begin (drawn_at (format_of place)) count at bytes h.3;
    })
