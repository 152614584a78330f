-- A frame that was read, and one of its kind that has the same bytes.
use Rattle.std.proofs.Common.{◌≡◌, ◌≤◌, ℕ, List, [], ◌++◌, drop, sym, ap, subst, ◌∙◌, append-nil}
use Rattle.det_values.specs.Values.{ProfileValue}
use Rattle.det_values.specs.declared.frames.CycleInput.{CycleInput}
use Rattle.det_values.specs.declared.frames.Frame.{Frame}
use Rattle.det_values.specs.declared.frames.Frame.TheVariants.{Register, Discover, Init, Run, Terminate}
use Rattle.job.specs.Meaning.{Meaning}
use Rattle.record_grammar.specs.declared.place.Place.{Place}
use Rattle.record_grammar.specs.declared.place.Place.TheVariants as places
use Rattle.record_grammar.specs.declared.item.Item.{Item}
use Rattle.record_grammar.specs.declared.item.Item.TheVariants as items
use Rattle.record_grammar.specs.Grammar.{item_at}
use Rattle.record_grammar.specs.Laws.{MayStand}
use Rattle.record_grammar.specs.Places.{format_of}
use Rattle.record_grammar.specs.Spelling.{AreBytes, IsFrame, spelled_frame}
use Rattle.record_grammar.specs.Read.{Got}
use Rattle.record_grammar.proofs.Steady.{got, got_is}
use Rattle.record_view.specs.declared.view.FrameView.{FrameView}
use Rattle.record_view.specs.Shows.{IsFrameSpelling, item_view, events_of}
use Rattle.record_view.proofs.EqualItems.{span_is_spelling}
use Rattle.record_view.proofs.Spelled.{spelling_read}
use Rattle.rerun.specs.checker.RerunFrames.{AreAlike, rerun_frame}

same-frame : (x y : Frame) → items.Frame x ≡ items.Frame y → x ≡ y
same-frame x y e = cc

-- the bytes of a frame are those of no other one
pub spelling-one : (view : FrameView) (x y : Frame) (bytes : List ℕ) → IsFrameSpelling view x bytes → IsFrameSpelling view y bytes → x ≡ y
spelling-one view x y bytes h k =
    same-frame x y (ap (λ (p : Item × List ℕ). p.0) (got_is (items.Frame x, _) (items.Frame y, _) (sym h.shows.read ∙ k.shows.read)))

-- a frame may come where one of its kind does
stands-too : (place : Place) (read given : Frame) → MayStand place (items.Frame read) → AreAlike read given
    → IsFrame (format_of place) (events_of place) given → MayStand place (items.Frame given)
stands-too (places.Register layout) Register Register m k f = tt
stands-too (places.Discover layout) Discover Discover m k f = tt
stands-too (places.Init layout) (Init elements) (Init others) m k f = f
stands-too (places.Runs layout before) (Run run) (Run other) m k f = (m.0, f)
stands-too (places.Runs layout before) Terminate Terminate m k f = tt
stands-too (places.Init layout) (Init elements) other m k f = elim k [ ]
stands-too (places.Runs layout before) (Run run) other m k f = elim k [ ]
stands-too (places.Register layout) Register other m k f = elim k [ ]
stands-too (places.Discover layout) Discover other m k f = elim k [ ]
stands-too (places.Runs layout before) Terminate other m k f = elim k [ ]
stands-too place read given m k f = elim m [ ]

-- one of its kind that has the bytes of a frame that was read is that frame
pub same-spelling : (view : FrameView) (read given : Frame) (bytes : List ℕ) → events_of view.place ≤ 65536 → AreBytes bytes
    → IsFrameSpelling view read bytes → AreAlike read given → IsFrame (format_of view.place) (events_of view.place) given
    → spelled_frame (format_of view.place) given ≡ bytes → given ≡ read
same-spelling view read given bytes few are h alike fields same =
    let m = (span_is_spelling view.place (item_view view).span bytes (items.Frame read) few are h.shows).0 in
    let spelling : List ℕ = spelled_frame (format_of view.place) given in
    let replay_record : item_at view.place (spelling ++ []) ≡ Got (items.Frame given, []) =
    spelling_read view.place (items.Frame given) [] few (stands-too view.place read given m alike fields) in
    let once : item_at view.place bytes ≡ Got (items.Frame given, []) =
    subst (λ (xs : List ℕ). item_at view.place xs ≡ got (items.Frame given, [])) (append-nil spelling ∙ same) replay_record in
    same-frame given read (ap (λ (p : Item × List ℕ). p.0)
    (got_is (items.Frame given, []) (items.Frame read, drop view.len bytes) (sym once ∙ h.shows.read)))

-- what is given is of the kind of the frame that was read
pub given-alike : {S G E L P : Type 0} (m : Meaning S G E L P) (profile : ProfileValue) (before : List CycleInput) (read : Frame)
    → AreAlike read (rerun_frame m profile before read)
given-alike m profile before Register = tt
given-alike m profile before Discover = tt
given-alike m profile before (Init elements) = tt
given-alike m profile before (Run run) = tt
given-alike m profile before Terminate = tt
