-- A record without a fault is the spelling of a profile and of the frames of a run, and what is read of it.
use Rattle.std.proofs.Common.{◌≡◌, ℕ, suc, List, [], ◌∷◌, ◌++◌, length, map, None, refl, ap, ◌∙◌}
use Rattle.std.specs.List.{flat_map, All}
use Rattle.std.proofs.lemmas.List.Elements.{All-nil, All-cons, All-head, All-tail}
use Rattle.det_values.specs.Values.{ProfileValue}
use Rattle.det_values.specs.declared.format.Format.{Format}
use Rattle.det_values.specs.declared.frames.RunFrame.{RunFrame}
use Rattle.det_values.specs.declared.frames.Frame.{Frame}
use Rattle.det_values.specs.declared.frames.Frame.TheVariants as frames
use Rattle.record_grammar.specs.declared.item.Item.{Item}
use Rattle.record_grammar.specs.declared.item.Item.TheVariants as items
use Rattle.record_grammar.specs.Record.{items as items_in, fault as fault_in}
use Rattle.record_grammar.specs.Spelling.{AreBytes, IsInput, IsFrame, AreRun}
use Rattle.record_grammar.specs.Laws.{items_of}
use Rattle.record_grammar.proofs.lemmas.record_laws.Order.{IsWholeRun, whole_run}
use Rattle.record_grammar.proofs.lemmas.record_laws.Whole.{decoded_is}
use Rattle.rerun.specs.replayer.ReplayRecord.{input_in}
use Rattle.rerun.specs.checker.Departure.{frames_in}
use Rattle.record_reader.specs.InItems.{frame_in}

-- a record without a fault is that of a profile and of the frames of a run
pub whole_record : (record_bytes : List ℕ) (are : AreBytes record_bytes) (none : fault_in record_bytes ≡ None)
    → IsWholeRun ((decoded_is record_bytes are).whole none).0 record_bytes
whole_record record_bytes are none =
    let w = (decoded_is record_bytes are).whole none in
    whole_run w.0 record_bytes w.1 w.2

-- ---- what is read of a record

pub frames_back : (profile : ProfileValue) (run : List Frame) → flat_map frame_in (items_of profile run) ≡ run
frames_back profile [] = refl
frames_back profile (f ∷ run) = ap (λ (fs : List Frame). f ∷ fs) (frames_back profile run)

-- the frames of a record that is read as these
pub frames_read : (profile : ProfileValue) (run : List Frame) (record_bytes : List ℕ) → items_in record_bytes ≡ items_of profile run
    → frames_in record_bytes ≡ run
frames_read profile run record_bytes e = ap (flat_map frame_in) e ∙ frames_back profile run

-- the inputs of frames in their ranges are in theirs
pub good_inputs : (format : Format) (events : ℕ) (fs : List Frame) → All (IsFrame format events) fs
    → All (IsInput events) (flat_map input_in (map items.Frame fs))
unfolding IsFrame
good_inputs format events [] h = All-nil (IsInput events)
good_inputs format events (frames.Run r ∷ fs) h =
    All-cons (IsInput events) r.input (flat_map input_in (map items.Frame fs)) (All-head (IsFrame format events) (frames.Run r) fs h).0
    (good_inputs format events fs (All-tail (IsFrame format events) (frames.Run r) fs h))
good_inputs format events (frames.Register ∷ fs) h =
    good_inputs format events fs (All-tail (IsFrame format events) frames.Register fs h)
good_inputs format events (frames.Discover ∷ fs) h =
    good_inputs format events fs (All-tail (IsFrame format events) frames.Discover fs h)
good_inputs format events (frames.Init elements ∷ fs) h =
    good_inputs format events fs (All-tail (IsFrame format events) (frames.Init elements) fs h)
good_inputs format events (frames.Terminate ∷ fs) h =
    good_inputs format events fs (All-tail (IsFrame format events) frames.Terminate fs h)

abbrev ended_runs : List RunFrame → List Frame
ended_runs runs = map frames.Run runs ++ frames.Terminate ∷ []

runs_counted : (runs : List RunFrame) → length (flat_map input_in (map items.Frame (ended_runs runs))) ≡ length runs
runs_counted [] = refl
runs_counted (r ∷ runs) = ap suc (runs_counted runs)

-- the number of a run's inputs
pub inputs_counted : (profile : ProfileValue) (run : List Frame) (is : AreRun run)
    → length (flat_map input_in (items_of profile run)) ≡ length is.runs
inputs_counted profile run is =
    ap (λ (fs : List Frame). length (flat_map input_in (items_of profile fs))) is.order ∙ runs_counted is.runs
