-- A cycle that is opened, whose elements are put, and that is closed.
use Rattle.std.proofs.Common.{◌≡◌, ◌==◌, ℕ, ◌+◌, ◌<◌, ◌≤◌, Bool, true, false, cond, List, [], ◌∷◌, ◌++◌, length, take, refl, sym, ap, subst, ◌∙◌, append_assoc, arith, length-append}
use Rattle.std.specs.List.{flat_map}
use Rattle.std.proofs.lemmas.List.{append-nil}
use Rattle.std.proofs.lemmas.List.Elements.{All-push, All-nil, All-append}
use Rattle.std.proofs.lemmas.Grind.{flat_map-append}
use Rattle.det_values.specs.declared.frames.CycleInput.{CycleInput}
use Rattle.det_values.specs.declared.frames.DrawnElement.{DrawnElement}
use Rattle.det_values.specs.declared.frames.Frame.TheVariants as frames
use Rattle.det_values.specs.declared.frames.RunFrame.{RunFrame}
use Rattle.record_grammar.specs.declared.place.Layout.{Layout}
use Rattle.record_grammar.specs.declared.place.Place.{Place}
use Rattle.record_grammar.specs.declared.place.Place.TheVariants as places
use Rattle.record_grammar.specs.declared.item.Item.{Item}
use Rattle.record_grammar.specs.declared.item.Item.TheVariants as items
use Rattle.record_grammar.specs.Places.{after, CanFollow}
use Rattle.record_grammar.specs.Laws.{MayStand, item_spelling}
use Rattle.record_grammar.specs.Spelling.{AreBytes, IsFrame, IsInput, IsDrawn, spelled_drawn}
use Rattle.c_types.specs.declared.record.DetRecord.{DetRecord}
use Rattle.c_types.specs.Places.{format_of, layout_in, place_of}
use Rattle.det_record_c.specs.declared.run.DetRun.{DetRun}
use Rattle.det_record_c.specs.Items.{cycle_in}
use Rattle.det_record_c.specs.Puts.{Puts}
use Rattle.det_record_c.specs.Parts.{CallState, spelling_in, HasFields}
use Rattle.det_record_c.specs.Runs.{opening_of, closing_of, IsBeforeCycle, TakesCycle, Opened, RunState, IsOpened, IsElementPut, AreElementsPut, CanClose, IsClosed}
use Rattle.det_record_c.specs.Statements.{CycleInCalls}
use Rattle.det_record_c.proofs.Written.{at_place, spelling_is, may_stand, written_behind, puts_front}
use Rattle.det_record_c.proofs.Fields.{cycle_spelled}

-- ---- the place of a cycle

pub cycle_follows : (r : DetRecord) → TakesCycle r → (run : RunFrame) → CanFollow (place_of r) (items.Frame (frames.Run run))
cycle_follows r h run =
    at_place (λ place. IsBeforeCycle place → CanFollow place (items.Frame (frames.Run run))) r (λ e. e) (λ e. e) (λ e. e) (λ e. e) (λ k. k)
    (λ e. e) h

pub few_cycles : (r : DetRecord) → TakesCycle r → r.cycles < 1000000
few_cycles r h =
    at_place (λ place. IsBeforeCycle place → r.cycles < 1000000) r (λ e. absurd e) (λ e. absurd e) (λ e. absurd e) (λ e. absurd e) (λ k. k)
    (λ e. absurd e) h

place_by : Bool → Bool → Bool → Bool → Bool → Layout → ℕ → Place
place_by a b c d e layout before =
    cond a places.Header (cond b (places.Register layout) (cond c (places.Discover layout) (cond d (places.Init layout)
    (cond e (places.Runs layout before) places.End))))

next_by : (a b c d e : Bool) (layout : Layout) (before : ℕ) (run : RunFrame)
    → CanFollow (place_by a b c d e layout before) (items.Frame (frames.Run run))
    → place_by a b c d e layout (before + 1) ≡ after (place_by a b c d e layout before) (items.Frame (frames.Run run))
unfolding place_by
next_by true b c d e layout before run h = elim h [ ]
next_by false true c d e layout before run h = elim h [ ]
next_by false false true d e layout before run h = elim h [ ]
next_by false false false true e layout before run h = elim h [ ]
next_by false false false false true layout before run h = refl
next_by false false false false false layout before run h = elim h [ ]

pub place_next : (r : DetRecord) → TakesCycle r → (run : RunFrame)
    → place_of (record r { cycles = r.cycles + 1 }) ≡ after (place_of r) (items.Frame (frames.Run run))
unfolding place_by
place_next r h run =
    next_by (r.stage == 0) (r.stage == 1) (r.stage == 2) (r.stage == 3) (r.stage == 4) (layout_in r) r.cycles run
    (cycle_follows r h run)

-- ---- opening

pub is_opened : (r : DetRecord) (input : CycleInput) (count end : ℕ) (old new : RunState) → TakesCycle r → IsInput r.events input
    → count ≤ 65536 → new.run ≡ record { state = r; left = count } → Puts 0 (opening_of input count) old.out end new.out
    → length old.out ≤ 18446744073709551615 → length (opening_of input count) ≤ length old.out → new.written ≡ end
    → IsOpened r input count old new
is_opened r input count end old new follows fields few is puts small fits w =
    let front = puts_front (opening_of input count) old.out new.out end new.written puts small fits w in
    let run : DetRun = record { state = r; left = count } in
    let zero : count ≡ 0 + count = omega arith in
    let opened : Opened run input [] (take new.written new.out) = record {
      follows = follows;
      input_fields = fields;
      few = omega (arith, few);
      element_fields = All-nil (IsDrawn (format_of r.format));
      spelling =
          front.bytes_are ∙ ap (opening_of input) zero ∙ sym (append-nil (opening_of input (0 + count)));
    } in
    record {
      opened = subst (λ (x : DetRun). Opened x input [] (take new.written new.out)) (sym is) opened;
      at_state = ap (λ (x : DetRun). x.state) is;
      left = ap (λ (x : DetRun). x.left) is;
      spelling = front;
    }

-- ---- elements

pub is_element_put : (element : DrawnElement) (end left : ℕ) (old new : RunState) → IsDrawn (format_of old.run.state.format) element
    → left + 1 ≡ old.run.left → new.run ≡ record { state = old.run.state; left = left }
    → Puts 0 (spelled_drawn (format_of old.run.state.format) element) old.out end new.out → length old.out ≤ 18446744073709551615
    → length (spelled_drawn (format_of old.run.state.format) element) ≤ length old.out → new.written ≡ end
    → IsElementPut element old new
is_element_put element end left old new drawn one is puts small fits w =
    let format = format_of old.run.state.format in
    let front = puts_front (spelled_drawn format element) old.out new.out end new.written puts small fits w in
    let run : DetRun = record { state = old.run.state; left = left } in
    record {
      opened = λ input elements bytes o.
          let n : length (elements ++ element ∷ []) ≡ length elements + 1 = length-append elements (element ∷ []) in
          let count : length elements + old.run.left ≡ length (elements ++ element ∷ []) + left = omega (arith, n, one) in
          let all : flat_map (spelled_drawn format) elements ++ spelled_drawn format element
          ≡ flat_map (spelled_drawn format) (elements ++ element ∷ []) =
          ap (λ (xs : List ℕ). flat_map (spelled_drawn format) elements ++ xs) (sym (append-nil (spelled_drawn format element)))
          ∙ sym (flat_map-append (spelled_drawn format) elements (element ∷ [])) in
          let opened : Opened run input (elements ++ element ∷ []) (bytes ++ take new.written new.out) = record {
            follows = o.follows;
            input_fields = o.input_fields;
            few = omega (arith, o.few, count);
            element_fields = All-push (IsDrawn format) elements element o.element_fields drawn;
            spelling =
                ap (λ (xs : List ℕ). bytes ++ xs) front.bytes_are ∙ ap (λ (xs : List ℕ). xs ++ spelled_drawn format element) o.spelling
                ∙ append_assoc (opening_of input (length elements + old.run.left)) (flat_map (spelled_drawn format) elements)
                (spelled_drawn format element)
                ∙ ap (λ (xs : List ℕ). opening_of input (length elements + old.run.left) ++ xs) all
                ∙ ap (λ (k : ℕ). opening_of input k ++ flat_map (spelled_drawn format) (elements ++ element ∷ [])) count;
          } in
          subst (λ (x : DetRun). Opened x input (elements ++ element ∷ []) (bytes ++ take new.written new.out)) (sym is) opened;
      at_state = ap (λ (x : DetRun). x.state) is;
      left = ap (λ (x : DetRun). x.left + 1) is ∙ one;
      spelling = front;
    }

pub are_elements_put : (count left : ℕ) (old new : DetRun) → left + count ≡ old.left → new ≡ record { state = old.state; left = left }
    → AreElementsPut count old new
are_elements_put count left old new one is =
    let format = format_of old.state.format in
    let run : DetRun = record { state = old.state; left = left } in
    record {
      opened = λ input elements more bytes spelled o counted s.
          let n : length (elements ++ more) ≡ length elements + length more = length-append elements more in
          let count : length elements + old.left ≡ length (elements ++ more) + left = omega (arith, n, counted, one) in
          let opened : Opened run input (elements ++ more) (bytes ++ spelled) = record {
            follows = o.follows;
            input_fields = o.input_fields;
            few = omega (arith, o.few, count);
            element_fields = All-append (IsDrawn format) elements more o.element_fields s.fields;
            spelling =
                ap (λ (xs : List ℕ). bytes ++ xs) s.spelling
                ∙ ap (λ (xs : List ℕ). xs ++ flat_map (spelled_drawn format) more) o.spelling
                ∙ append_assoc (opening_of input (length elements + old.left)) (flat_map (spelled_drawn format) elements)
                (flat_map (spelled_drawn format) more)
                ∙ ap (λ (xs : List ℕ). opening_of input (length elements + old.left) ++ xs)
                (sym (flat_map-append (spelled_drawn format) elements more))
                ∙ ap (λ (k : ℕ). opening_of input k ++ flat_map (spelled_drawn format) (elements ++ more)) count;
          } in
          subst (λ (x : DetRun). Opened x input (elements ++ more) (bytes ++ spelled)) (sym is) opened;
      at_state = ap (λ (x : DetRun). x.state) is;
      left = ap (λ (x : DetRun). x.left + count) is ∙ one;
    }

-- ---- closing

cycle_bytes : (run : DetRun) (input : CycleInput) (elements : List DrawnElement) (begun output : List ℕ)
    → Opened run input elements begun → run.left ≡ 0
    → begun ++ closing_of output ≡ spelling_in run.state (cycle_in input elements output)
cycle_bytes run input elements begun output o none =
    let format = format_of run.state.format in
    let count : length elements + run.left ≡ length elements = omega (arith, none) in
    ap (λ (xs : List ℕ). xs ++ closing_of output) o.spelling
    ∙ append_assoc (opening_of input (length elements + run.left)) (flat_map (spelled_drawn format) elements) (closing_of output)
    ∙ ap (λ (k : ℕ). opening_of input k ++ (flat_map (spelled_drawn format) elements ++ closing_of output)) count
    ∙ cycle_spelled format input elements output

pub cycle_in_calls : CycleInCalls
cycle_in_calls run input elements begun output o none =
    cycle_bytes run input elements begun output o none
    ∙ sym (spelling_is run.state (cycle_in input elements output) (cycle_follows run.state o.follows _))

cycle_fields : (run : DetRun) (input : CycleInput) (elements : List DrawnElement) (begun output : List ℕ)
    → Opened run input elements begun → AreBytes output → length output ≤ 1048576
    → HasFields run.state (cycle_in input elements output)
unfolding IsFrame
cycle_fields run input elements begun output o bytes short =
    (o.input_fields, (omega (arith, o.few), o.element_fields, (short, bytes)))

pub is_closed : (run : DetRun) (output : List ℕ) (end : ℕ) (old new : CallState) → CanClose run old.state → AreBytes output
    → length output ≤ 1048576 → Puts 0 (closing_of output) old.out end new.out → length old.out ≤ 18446744073709551615
    → length (closing_of output) ≤ length old.out → new.written ≡ end
    → ((any : RunFrame) → place_of new.state ≡ after (place_of old.state) (items.Frame (frames.Run any)))
    → IsClosed run output old new
is_closed run output end old new can bytes short puts small fits w place =
    let front = puts_front (closing_of output) old.out new.out end new.written puts small fits w in
    record {
      written = λ input elements begun o items before done.
          let item : Item = cycle_in input elements output in
          let stands : MayStand (place_of old.state) item =
          subst (λ (r : DetRecord). MayStand (place_of r) item) can.same
          (may_stand run.state item (cycle_follows run.state o.follows _) (cycle_fields run input elements begun output o bytes short)) in
          let spelled : begun ++ take new.written new.out ≡ item_spelling (place_of old.state) item =
          ap (λ (xs : List ℕ). begun ++ xs) front.bytes_are
          ∙ subst (λ (r : DetRecord). begun ++ closing_of output ≡ item_spelling (place_of r) item) can.same
          (cycle_in_calls run input elements begun output o can.none_left) in
          written_behind old.state new.state item (begun ++ take new.written new.out) stands (place _) spelled items before done;
      place = place;
      spelling = front;
    }
