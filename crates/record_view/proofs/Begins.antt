-- An item is its first bytes, and then what they ask for.
use Rattle.std.proofs.Common.{◌≡◌, ℕ, suc, Bool, true, false, cond, eqb, ltb, List, [], ◌∷◌, length, refl, sym, ◌∙◌}
use Rattle.det_values.specs.declared.format.Format.{Format}
use Rattle.det_values.specs.declared.frames.CycleInput.{CycleInput}
use Rattle.det_values.specs.declared.frames.Frame.{Frame}
use Rattle.det_values.specs.declared.frames.Frame.TheVariants as frames
use Rattle.record_grammar.specs.declared.record_fault.Reason.{Reason}
use Rattle.record_grammar.specs.declared.record_fault.Reason.TheVariants.{TooMany, Trailing}
use Rattle.record_grammar.specs.declared.place.Layout.{Layout}
use Rattle.record_grammar.specs.declared.place.Place.{Place}
use Rattle.record_grammar.specs.declared.place.Place.TheVariants as places
use Rattle.record_grammar.specs.declared.item.Item.{Item}
use Rattle.record_grammar.specs.declared.item.Item.TheVariants as items
use Rattle.record_grammar.specs.Read.{Read, Got, Bad, ◌>>=◌}
use Rattle.record_grammar.specs.Numbers.{number}
use Rattle.record_grammar.specs.Grammar.{profile_at, input_at, refused_at, tag_reason, init_from, finished_from, init_at, finished_at}
use Rattle.record_grammar.specs.Grammar.{run_at, tagged_at, frame_at, item_at}
use Rattle.record_grammar.proofs.Steady.{IsSteady, steady_same, steady_give, steady_refuse, steady_then, steady_if, steady_wider, by_first}
use Rattle.record_grammar.proofs.Steady.{steady_first}
use Rattle.record_grammar.proofs.SteadyFields.{tested_steady, number_steady, profile_steady, input_steady, refused_steady, init_from_steady}
use Rattle.record_grammar.proofs.SteadyFields.{finished_from_steady, framed_steady}
use Rattle.record_grammar.proofs.lemmas.record_laws.LawfulFields.{bind_bind, bind_same}
use Rattle.record_grammar.specs.Laws.{tag_reason_at}
use Rattle.record_view.specs.Opening.{OpeningValue, ready, init_of, run_of, run_opening, tagged_opening, opening_at, framed, go_on}

-- ---- the first bytes are read steadily

abbrev count_init : ℕ × List ℕ → Read OpeningValue
count_init n = Got (init_of [] n.0, n.1)

abbrev count_run : Format → CycleInput → ℕ × List ℕ → Read OpeningValue
count_run format input n = Got (run_of format input [] n.0, n.1)

abbrev ready_frame : Frame × List ℕ → Read OpeningValue
ready_frame f = Got (ready (items.Frame f.0), f.1)

abbrev outcome_of : Layout → CycleInput → ℕ × List ℕ → Read OpeningValue
outcome_of layout input flag =
    cond (eqb flag.0 0) (number 4 0 65536 flag.1 >>= count_run layout.format input) (refused_at input flag.1 >>= ready_frame)

begun_run_steady : (layout : Layout) → IsSteady 0 (run_opening layout)
unfolding run_opening
begun_run_steady layout =
    steady_then 0 (input_at layout.events) (λ input bytes. number 1 0 1 bytes >>= outcome_of layout input) (input_steady layout.events)
    (λ input.
    steady_then 0 (number 1 0 1) (λ flag bytes. outcome_of layout input (flag, bytes)) (number_steady 1 0 1) (λ flag.
    steady_if 0 (eqb flag 0) (λ bytes. number 4 0 65536 bytes >>= count_run layout.format input)
    (λ bytes. refused_at input bytes >>= ready_frame)
    (steady_then 0 (number 4 0 65536) (λ n bytes. count_run layout.format input (n, bytes)) (number_steady 4 0 65536)
    (λ n. steady_give 0 (run_of layout.format input [] n)))
    (steady_then 0 (refused_at input) (λ f bytes. ready_frame (f, bytes)) (refused_steady input)
    (λ f. steady_give 0 (ready (items.Frame f))))))

-- after a tag
abbrev behind_tag : Place → ℕ → List ℕ → Read OpeningValue
behind_tag place b bytes = tagged_opening place b bytes (suc (length bytes))

tagged_steady : (place : Place) (b : ℕ) → IsSteady 1 (behind_tag place b)
unfolding tagged_opening
tagged_steady places.Header b = steady_refuse (tag_reason_at places.Header b)
tagged_steady (places.Register layout) b = tested_steady (eqb b 1) (ready (items.Frame frames.Register)) (tag_reason b)
tagged_steady (places.Discover layout) b = tested_steady (eqb b 2) (ready (items.Frame frames.Discover)) (tag_reason b)
tagged_steady (places.Init layout) b =
    steady_if 1 (eqb b 3) (λ bytes. number 4 0 65536 bytes >>= count_init) (λ bytes. Bad (tag_reason b) (suc (length bytes)))
    (steady_wider (λ bytes. number 4 0 65536 bytes >>= count_init) (steady_then 0 (number 4 0 65536) (λ n bytes. count_init (n, bytes))
    (number_steady 4 0 65536) (λ n. steady_give 0 (init_of [] n))))
    (steady_refuse (tag_reason b))
tagged_steady (places.Runs layout before) b =
    steady_if 1 (eqb b 4) (λ bytes. cond (ltb before 1000000) (run_opening layout bytes) (Bad TooMany (suc (length bytes))))
    (λ bytes. cond (eqb b 5) (ready_frame (frames.Terminate, bytes)) (Bad (tag_reason b) (suc (length bytes))))
    (steady_if 1 (ltb before 1000000) (run_opening layout) (λ bytes. Bad TooMany (suc (length bytes)))
    (steady_wider (run_opening layout) (begun_run_steady layout)) (steady_refuse TooMany))
    (tested_steady (eqb b 5) (ready (items.Frame frames.Terminate)) (tag_reason b))
tagged_steady places.End b = steady_refuse Trailing

begun_first : (place : Place) → ((bytes : List ℕ) → opening_at place bytes ≡ by_first (behind_tag place) bytes)
    → IsSteady 0 (opening_at place)
begun_first place same =
    steady_same 0 (opening_at place) (by_first (behind_tag place)) same (steady_first (behind_tag place) (tagged_steady place))

register_first : (layout : Layout) (bytes : List ℕ) → opening_at (places.Register layout) bytes
    ≡ by_first (behind_tag (places.Register layout)) bytes
unfolding opening_at
register_first layout [] = refl
register_first layout (b ∷ bytes) = refl

discover_first : (layout : Layout) (bytes : List ℕ) → opening_at (places.Discover layout) bytes
    ≡ by_first (behind_tag (places.Discover layout)) bytes
unfolding opening_at
discover_first layout [] = refl
discover_first layout (b ∷ bytes) = refl

init_first : (layout : Layout) (bytes : List ℕ) → opening_at (places.Init layout) bytes ≡ by_first (behind_tag (places.Init layout)) bytes
unfolding opening_at
init_first layout [] = refl
init_first layout (b ∷ bytes) = refl

runs_first : (layout : Layout) (before : ℕ) (bytes : List ℕ) → opening_at (places.Runs layout before) bytes
    ≡ by_first (behind_tag (places.Runs layout before)) bytes
unfolding opening_at
runs_first layout before [] = refl
runs_first layout before (b ∷ bytes) = refl

end_first : (bytes : List ℕ) → opening_at places.End bytes ≡ by_first (behind_tag places.End) bytes
unfolding opening_at
end_first [] = refl
end_first (b ∷ bytes) = refl

pub begun_steady : (place : Place) → IsSteady 0 (opening_at place)
unfolding opening_at
begun_steady places.Header =
    steady_then 0 profile_at (λ p bytes. Got (ready (items.Header p), bytes)) profile_steady (λ p. steady_give 0 (ready (items.Header p)))
begun_steady (places.Register layout) = begun_first (places.Register layout) (register_first layout)
begun_steady (places.Discover layout) = begun_first (places.Discover layout) (discover_first layout)
begun_steady (places.Init layout) = begun_first (places.Init layout) (init_first layout)
begun_steady (places.Runs layout before) = begun_first (places.Runs layout before) (runs_first layout before)
begun_steady places.End = begun_first places.End end_first

-- ---- an item goes on from its first bytes

abbrev as_frame : Frame × List ℕ → Read Item
as_frame x = Got (items.Frame x.0, x.1)

init_goes_on : (bytes : List ℕ) → framed (init_at bytes) ≡ ((number 4 0 65536 bytes >>= count_init) >>= go_on)
unfolding init_at
init_goes_on bytes =
    bind_bind (number 4 0 65536 bytes) (λ n. init_from [] n.0 n.1) as_frame ∙ sym (bind_bind (number 4 0 65536 bytes) count_init go_on)

finished_goes_on : (format : Format) (input : CycleInput) (bytes : List ℕ) → framed (finished_at format input bytes)
    ≡ ((number 4 0 65536 bytes >>= count_run format input) >>= go_on)
unfolding finished_at
finished_goes_on format input bytes =
    bind_bind (number 4 0 65536 bytes) (λ n. finished_from format input [] n.0 n.1) as_frame
    ∙ sym (bind_bind (number 4 0 65536 bytes) (count_run format input) go_on)

outcome_goes_on : (layout : Layout) (input : CycleInput) (b : Bool) (bytes : List ℕ)
    → framed (cond b (finished_at layout.format input bytes) (refused_at input bytes))
    ≡ (cond b (number 4 0 65536 bytes >>= count_run layout.format input) (refused_at input bytes >>= ready_frame) >>= go_on)
outcome_goes_on layout input true bytes = finished_goes_on layout.format input bytes
outcome_goes_on layout input false bytes = sym (bind_bind (refused_at input bytes) ready_frame go_on)

run_goes_on : (layout : Layout) (bytes : List ℕ) → framed (run_at layout bytes) ≡ (run_opening layout bytes >>= go_on)
unfolding run_at run_opening
run_goes_on layout bytes =
    let f : CycleInput × List ℕ
    → Read Frame = λ input. number 1 0 1 input.1 >>= λ flag. cond (eqb flag.0 0) (finished_at layout.format input.0 flag.1)
    (refused_at input.0 flag.1) in
    let g : CycleInput × List ℕ → Read OpeningValue = λ input. number 1 0 1 input.1 >>= outcome_of layout input.0 in
    bind_bind (input_at layout.events bytes) f as_frame
    ∙ bind_same (input_at layout.events bytes) (λ input. f input >>= as_frame) (λ input. g input >>= go_on) (λ input.
    bind_bind (number 1 0 1 input.1) (λ flag. cond (eqb flag.0 0) (finished_at layout.format input.0 flag.1) (refused_at input.0 flag.1))
    as_frame
    ∙ bind_same (number 1 0 1 input.1) (λ flag. cond (eqb flag.0 0) (finished_at layout.format input.0 flag.1) (refused_at input.0 flag.1)
    >>= as_frame) (λ flag. outcome_of layout input.0 flag >>= go_on) (λ flag. outcome_goes_on layout input.0 (eqb flag.0 0) flag.1)
    ∙ sym (bind_bind (number 1 0 1 input.1) (outcome_of layout input.0) go_on))
    ∙ sym (bind_bind (input_at layout.events bytes) g go_on)

-- one of two, by a test
either : (b : Bool) (p q : Read Frame) (r s : Read OpeningValue) → framed p ≡ (r >>= go_on) → framed q ≡ (s >>= go_on) → framed (cond b p q)
    ≡ (cond b r s >>= go_on)
either true p q r s h k = h
either false p q r s h k = k

-- only one frame may come in a place
only_goes_on : (f : Frame) (b tag : ℕ) (why : Reason) (bytes : List ℕ) (left : ℕ)
    → framed (cond (eqb b tag) (Got (f, bytes)) (Bad why left)) ≡ (cond (eqb b tag) (ready_frame (f, bytes)) (Bad why left) >>= go_on)
only_goes_on f b tag why bytes left = either (eqb b tag) (Got (f, bytes)) (Bad why left) (ready_frame (f, bytes)) (Bad why left) refl refl

pub begun_goes_on : (place : Place) (bytes : List ℕ) → item_at place bytes ≡ (opening_at place bytes >>= go_on)
unfolding item_at frame_at tagged_at opening_at tagged_opening
begun_goes_on places.Header bytes = sym (bind_bind (profile_at bytes) (λ p. Got (ready (items.Header p.0), p.1)) go_on)
begun_goes_on (places.Register layout) [] = refl
begun_goes_on (places.Register layout) (b ∷ bytes) = only_goes_on frames.Register b 1 (tag_reason b) bytes (suc (length bytes))
begun_goes_on (places.Discover layout) [] = refl
begun_goes_on (places.Discover layout) (b ∷ bytes) = only_goes_on frames.Discover b 2 (tag_reason b) bytes (suc (length bytes))
begun_goes_on (places.Init layout) [] = refl
begun_goes_on (places.Init layout) (b ∷ bytes) =
    either (eqb b 3) (init_at bytes) (Bad (tag_reason b) (suc (length bytes))) (number 4 0 65536 bytes >>= count_init)
    (Bad (tag_reason b) (suc (length bytes))) (init_goes_on bytes) refl
begun_goes_on (places.Runs layout before) [] = refl
begun_goes_on (places.Runs layout before) (b ∷ bytes) =
    either (eqb b 4) (cond (ltb before 1000000) (run_at layout bytes) (Bad TooMany (suc (length bytes))))
    (cond (eqb b 5) (Got (frames.Terminate, bytes)) (Bad (tag_reason b) (suc (length bytes))))
    (cond (ltb before 1000000) (run_opening layout bytes) (Bad TooMany (suc (length bytes))))
    (cond (eqb b 5) (ready_frame (frames.Terminate, bytes)) (Bad (tag_reason b) (suc (length bytes))))
    (either (ltb before 1000000) (run_at layout bytes) (Bad TooMany (suc (length bytes))) (run_opening layout bytes)
    (Bad TooMany (suc (length bytes))) (run_goes_on layout bytes) refl)
    (only_goes_on frames.Terminate b 5 (tag_reason b) bytes (suc (length bytes)))
begun_goes_on places.End [] = refl
begun_goes_on places.End (b ∷ bytes) = refl

pub go_on_steady : (b : OpeningValue) → IsSteady 0 (λ bytes. go_on (b, bytes))
go_on_steady (ready item) = steady_give 0 item
go_on_steady (init_of done left) = framed_steady (init_from done left) (init_from_steady done left)
go_on_steady (run_of format input done left) =
    framed_steady (finished_from format input done left) (finished_from_steady format input done left)
