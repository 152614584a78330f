-- Records that are compared with the run that their inputs give, and how they grow.
use Rattle.std.proofs.Common.{◌≡◌, inl, inr, ◌≤◌, ◌+◌, ℕ, suc, List, [], ◌∷◌, ◌++◌, length, map, take, Some, None, refl, sym, ap}
use Rattle.std.proofs.Common.{subst, ◌∙◌, append_assoc, append-nil, arith, true}
use Rattle.std.specs.List.{flat_map}
use Rattle.std.proofs.lemmas.Grind.{flat_map-append}
use Rattle.std.proofs.lemmas.List.{take_all}
use Rattle.det_io.specs.Prefix.{IsPrefix}
use Rattle.det_values.specs.Values.{ProfileValue}
use Rattle.det_values.specs.declared.format.Format.TheVariants.{One}
use Rattle.det_values.specs.declared.frames.CycleInput.{CycleInput}
use Rattle.det_values.specs.declared.frames.RunFrame.{RunFrame}
use Rattle.det_values.specs.declared.frames.Frame.{Frame}
use Rattle.det_values.specs.declared.frames.Frame.TheVariants.{Register, Discover, Init, Run, Terminate}
use Rattle.job.specs.Meaning.{Meaning}
use Rattle.cycle_engine.specs.Frames.{frames}
use Rattle.record_grammar.specs.declared.place.Layout.{Layout}
use Rattle.record_grammar.specs.declared.place.Place.{Place}
use Rattle.record_grammar.specs.declared.place.Place.TheVariants as places
use Rattle.record_grammar.specs.declared.item.Item.{Item}
use Rattle.record_grammar.specs.declared.item.Item.TheVariants as items
use Rattle.record_grammar.specs.Grammar.{item_at}
use Rattle.record_grammar.specs.Leads.{Leads}
use Rattle.record_grammar.specs.Places.{after, CanFollow}
use Rattle.record_grammar.specs.Record.{items as items_in, fault_so_far}
use Rattle.record_grammar.proofs.Leads.{can_follow, all_at_more, all_at_bad}
use Rattle.record_reader.specs.item_reader.StandsFor.{ReadsIfNeeded}
use Rattle.record_reader.proofs.lemmas.item_reader.Needed.{while-weaker, while-then}
use Rattle.record_grammar.proofs.lemmas.record_laws.Whole.{IsStuck, reads}
use Rattle.record_grammar.proofs.lemmas.record_laws.Growing.{items_grow}
use Rattle.copies.specs.declared.difference.Difference.{Difference}
use Rattle.rerun.specs.replayer.ReplayRecord.{input_in}
use Rattle.rerun.specs.checker.Departure.{frames_in, run_of, given_by, genuine_frames, departure, checked_runs}
use Rattle.record_reader.specs.InItems.{frame_in}
use Rattle.rerun.specs.checker.Needed.{IsNeeded}
use Rattle.rerun.proofs.lemmas.checker.Departing.{inputs_of, AreInOrder, departs, agrees, AreSame, all-same, departs-stays, departs-on}
use Rattle.rerun.proofs.lemmas.checker.Departing.{agrees-all}

-- the runs of frames
abbrev pub runs_of : List Frame → List RunFrame
runs_of fs = flat_map run_of fs

-- ---- items and frames

-- the inputs of items are those of their frames
pub inputs-are : (xs : List Item) → flat_map input_in xs ≡ inputs_of (flat_map frame_in xs)
inputs-are [] = refl
inputs-are (items.Header profile ∷ xs) = inputs-are xs
inputs-are (items.Frame Register ∷ xs) = inputs-are xs
inputs-are (items.Frame Discover ∷ xs) = inputs-are xs
inputs-are (items.Frame (Init elements) ∷ xs) = inputs-are xs
inputs-are (items.Frame (Run run) ∷ xs) = ap (λ (l : List CycleInput). run.input ∷ l) (inputs-are xs)
inputs-are (items.Frame Terminate ∷ xs) = inputs-are xs

-- the frames of items that are frames
pub frames-are : (fs : List Frame) → flat_map frame_in (map items.Frame fs) ≡ fs
frames-are [] = refl
frames-are (x ∷ fs) = ap (λ (l : List Frame). x ∷ l) (frames-are fs)

-- the frames of a record whose items begin with these
pub frames-behind : (profile : ProfileValue) (front : List Frame) (others xs : List Item)
    → xs ≡ (items.Header profile ∷ map items.Frame front) ++ others → flat_map frame_in xs ≡ front ++ flat_map frame_in others
frames-behind profile front others xs is =
    ap (λ (l : List Item). flat_map frame_in l) is
    ∙ flat_map-append frame_in (map items.Frame front) others
    ∙ ap (λ (l : List Frame). l ++ flat_map frame_in others) (frames-are front)

-- ---- the frames of a record are in order

abbrev IsPast : Place → Type 0
IsPast places.Header = ⊥
IsPast place = Unit {0}

past-frame : (place : Place) (x : Frame) → CanFollow place (items.Frame x) → IsPast (after place (items.Frame x))
past-frame (places.Register layout) Register h = tt
past-frame (places.Discover layout) Discover h = tt
past-frame (places.Init layout) (Init elements) h = tt
past-frame (places.Runs layout count) (Run run) h = tt
past-frame (places.Runs layout count) Terminate h = tt
past-frame place x h = elim h [ ]

no-header : (place : Place) (profile : ProfileValue) → IsPast place → CanFollow place (items.Header profile) → ⊥
no-header places.Header profile past h = past
no-header (places.Register layout) profile past h = h
no-header (places.Discover layout) profile past h = h
no-header (places.Init layout) profile past h = h
no-header (places.Runs layout count) profile past h = h
no-header places.End profile past h = h

in-order-past : (xs : List Item) (place to : Place) (bytes rest : List ℕ) → IsPast place → Leads place bytes xs to rest
    → AreInOrder place (flat_map frame_in xs)
in-order-past [] place to bytes rest past h = tt
in-order-past (items.Header profile ∷ xs) place to bytes rest past h =
    absurd (no-header place profile past (can_follow place bytes (items.Header profile) h.0 h.1))
in-order-past (items.Frame x ∷ xs) place to bytes rest past h =
    let follows = can_follow place bytes (items.Frame x) h.0 h.1 in
    (follows, in-order-past xs (after place (items.Frame x)) to h.0 rest (past-frame place x follows) h.2)

not-first : (x : Frame) → CanFollow places.Header (items.Frame x) → ⊥
not-first Register h = h
not-first Discover h = h
not-first (Init elements) h = h
not-first (Run run) h = h
not-first Terminate h = h

in-order : (xs : List Item) (to : Place) (bytes rest : List ℕ) → Leads places.Header bytes xs to rest
    → (layout : Layout) × AreInOrder (places.Register layout) (flat_map frame_in xs)
in-order [] to bytes rest h = (record { format = One; events = 0 }, tt)
in-order (items.Header profile ∷ xs) to bytes rest h =
    (record { format = profile.format; events = length profile.events }, in-order-past xs _ to h.0 rest tt h.2)
in-order (items.Frame x ∷ xs) to bytes rest h = absurd (not-first x (can_follow places.Header bytes (items.Frame x) h.0 h.1))

-- all bytes lead through their items
leads-all : (bytes : List ℕ) → (to : Place) × (rest : List ℕ) × Leads places.Header bytes (items_in bytes) to rest
leads-all bytes =
    let d = reads (suc (length bytes)) places.Header bytes (omega arith) (item_at places.Header bytes) refl in
    (d.1, d.2, subst (λ (xs : List Item). Leads places.Header bytes xs d.1 d.2) (given-is d.0 d.1 d.2 d.3 d.4) d.3)
  where
    given-is : (given : List Item) (to : Place) (rest : List ℕ) → Leads places.Header bytes given to rest → IsStuck to rest
        → given ≡ items_in bytes
    given-is given to rest h (inl m) = sym (all_at_more given to bytes rest h m).0
    given-is given to rest h (inr b) = sym (all_at_bad given to bytes rest b.0 b.1 h b.2).0

-- ---- the first frames of a list

take-front : {A : Type 0} (front rest : List A) (count more : ℕ) → count ≡ length front + more → take count (front ++ rest)
    ≡ front ++ take more rest
take-front [] rest count more is = let same : count ≡ more = omega (arith, is) in ap (λ (k : ℕ). take k rest) same
take-front (x ∷ front) rest count more is =
    let e : count ≡ suc (length front + more) = omega (arith, is) in
    ap (λ (k : ℕ). take k (x ∷ (front ++ rest))) e
    ∙ ap (λ l. x ∷ l) (take-front front rest (length front + more) more refl)

-- the runs of the frames that are compared
checked : ℕ → List Frame → List RunFrame
checked genuine fs = runs_of (take (suc genuine) fs)

module _ {S G E L P : Type 0} (m : Meaning S G E L P) (profile : ProfileValue) where
  -- a record's departure, frame by frame, after the inputs of the frames before each
  pub same-of : (bytes : List ℕ) → AreSame m profile 0 [] (frames_in bytes) (given_by m profile bytes)
  same-of bytes =
      let leads = leads-all bytes in
      let order = in-order (items_in bytes) leads.0 bytes leads.1 leads.2 in
      subst (λ (xs : List CycleInput). AreSame m profile 0 [] (frames_in bytes) (frames m profile xs true))
      (sym (inputs-are (items_in bytes))) (all-same m profile order.0 (frames_in bytes) order.1)

  pub departure-is : (bytes : List ℕ) (fs : List Frame) → frames_in bytes ≡ fs
      → departure m profile bytes ≡ departs m profile 0 [] fs
  departure-is bytes fs is = (same-of bytes).0 ∙ ap (λ (l : List Frame). departs m profile 0 [] l) is

  pub genuine-is : (bytes : List ℕ) (fs : List Frame) → frames_in bytes ≡ fs
      → genuine_frames m profile bytes ≡ agrees m profile 0 [] fs
  genuine-is bytes fs is = (same-of bytes).1 ∙ ap (λ (l : List Frame). agrees m profile 0 [] l) is

  runs-checked : (bytes : List ℕ) (fs : List Frame) (genuine : ℕ) → frames_in bytes ≡ fs → genuine_frames m profile bytes ≡ genuine
      → checked_runs m profile bytes ≡ runs_of (take (suc genuine) fs)
  runs-checked bytes fs genuine is count =
      ap (λ (k : ℕ). runs_of (take (suc k) (frames_in bytes))) count ∙ ap (λ (l : List Frame). runs_of (take (suc genuine) l)) is

  -- ---- a record whose frames are these; none differs

  pub agree-all : (bytes : List ℕ) (fs : List Frame) → frames_in bytes ≡ fs → departs m profile 0 [] fs ≡ None
      → (departure m profile bytes ≡ None) × (checked_runs m profile bytes ≡ runs_of fs)
  agree-all bytes fs is none =
      let count = genuine-is bytes fs is ∙ agrees-all m profile fs 0 [] none in
      let long : length fs ≤ suc (length fs) = omega arith in (
        departure-is bytes fs is ∙ none,
        runs-checked bytes fs (length fs) is count ∙ ap (λ (l : List Frame). runs_of l) (take_all (suc (length fs)) fs long),
      )

  -- a piece was read where all items were given, and no frame among them differs
  pub needed-then : (read more next : List ℕ) (given : List Item) (fs : List Frame) → flat_map frame_in given ≡ fs
      → departs m profile 0 [] fs ≡ None → IsNeeded m profile read more → ReadsIfNeeded (read ++ more) given next
      → IsNeeded m profile read (more ++ next)
  needed-then read more next given fs is none before needed =
      while-then (λ first. (departure m profile (read ++ first) ≡ None) × (fault_so_far (read ++ first) ≡ None)) more next before
      (while-weaker (λ first. (items_in ((read ++ more) ++ first) ≡ given) × (fault_so_far ((read ++ more) ++ first) ≡ None))
      (λ first. (departure m profile (read ++ (more ++ first)) ≡ None) × (fault_so_far (read ++ (more ++ first)) ≡ None)) next
      (λ first all. subst (λ (bytes : List ℕ). (departure m profile bytes ≡ None) × (fault_so_far bytes ≡ None))
      (append_assoc read more first) (
        (agree-all ((read ++ more) ++ first) fs (ap (λ (xs : List Item). flat_map frame_in xs) all.0 ∙ is) none).0,
        all.1,
      )) needed)

  -- ---- a record whose frames begin with these

  -- none of these differs, so their runs are checked
  pub agree-first : (bytes : List ℕ) (front others : List Frame) → frames_in bytes ≡ front ++ others
      → departs m profile 0 [] front ≡ None → IsPrefix (runs_of front) (checked_runs m profile bytes)
  agree-first bytes front others is none =
      let zero_add : length front ≡ 0 + length front = omega arith in
      let later = agrees m profile (length front) ([] ++ inputs_of front) others in
      let count = genuine-is bytes (front ++ others) is ∙ (departs-on m profile front others 0 (length front) [] zero_add none).1 in
      let sum : suc (length front + later) ≡ length front + suc later = omega arith in (
        runs_of (take (suc later) others),
        sym (runs-checked bytes (front ++ others) (length front + later) is count
            ∙ ap (λ (l : List Frame). runs_of l) (take-front front others (suc (length front + later)) (suc later) sum)
            ∙ flat_map-append run_of front (take (suc later) others)),
      )

  -- none of these differs, and the next one does
  pub departs-at : (bytes : List ℕ) (front : List Frame) (x : Frame) (others : List Frame) (at : Difference)
      → frames_in bytes ≡ front ++ x ∷ others → departs m profile 0 [] front ≡ None
      → departs m profile (length front) (inputs_of front) (x ∷ others) ≡ Some at
      → agrees m profile (length front) (inputs_of front) (x ∷ others) ≡ 0
      → (departure m profile bytes ≡ Some at) × (checked_runs m profile bytes ≡ runs_of front ++ run_of x)
  departs-at bytes front x others at is none differs first =
      let zero_add : length front ≡ 0 + length front = omega arith in
      let on = departs-on m profile front (x ∷ others) 0 (length front) [] zero_add none in
      let no_more : length front + 0 ≡ length front = omega arith in
      let count = genuine-is bytes (front ++ x ∷ others) is ∙ on.1 ∙ ap (λ (k : ℕ). length front + k) first ∙ no_more in
      let one : suc (length front) ≡ length front + 1 = omega arith in (
        departure-is bytes (front ++ x ∷ others) is ∙ on.0 ∙ differs,
        runs-checked bytes (front ++ x ∷ others) (length front) is count
            ∙ ap (λ (l : List Frame). runs_of l) (take-front front (x ∷ others) (suc (length front)) 1 one)
            ∙ flat_map-append run_of front (x ∷ [])
            ∙ ap (λ (l : List RunFrame). runs_of front ++ l) (append-nil (run_of x)),
      )

  -- ---- more bytes

  frames-grow : (bytes rest : List ℕ) → (others : List Frame) × (frames_in (bytes ++ rest) ≡ frames_in bytes ++ others)
  frames-grow bytes rest =
      let grown = items_grow bytes rest in (
        flat_map frame_in grown.0,
        ap (λ (xs : List Item). flat_map frame_in xs) (sym grown.1) ∙ flat_map-append frame_in (items_in bytes) grown.0,
      )

  -- a departure that was found stays the first one, whatever bytes follow
  pub departure-stays : (bytes rest : List ℕ) (at : Difference) → departure m profile bytes ≡ Some at
      → (departure m profile (bytes ++ rest) ≡ Some at)
      × (genuine_frames m profile (bytes ++ rest) ≡ genuine_frames m profile bytes)
  departure-stays bytes rest at e =
      let grown = frames-grow bytes rest in
      let stays = departs-stays m profile (frames_in bytes) grown.0 0 [] at (sym (departure-is bytes (frames_in bytes) refl) ∙ e) in (
        departure-is (bytes ++ rest) (frames_in bytes ++ grown.0) grown.1 ∙ stays.0,
        genuine-is (bytes ++ rest) (frames_in bytes ++ grown.0) grown.1 ∙ stays.1 ∙ sym (genuine-is bytes (frames_in bytes) refl),
      )

  -- where a record departs nowhere, all its frames are genuine, and still are where bytes follow
  pub genuine-stays : (bytes rest : List ℕ) → departure m profile bytes ≡ None
      → (genuine_frames m profile bytes ≡ length (frames_in bytes))
      × (length (frames_in bytes) ≤ genuine_frames m profile (bytes ++ rest))
  genuine-stays bytes rest e =
      let fs = frames_in bytes in
      let none = sym (departure-is bytes fs refl) ∙ e in
      let grown = frames-grow bytes rest in
      let zero_add : length fs ≡ 0 + length fs = omega arith in
      let later = agrees m profile (length fs) ([] ++ inputs_of fs) grown.0 in
      let count : genuine_frames m profile (bytes ++ rest) ≡ length fs + later =
      genuine-is (bytes ++ rest) (fs ++ grown.0) grown.1 ∙ (departs-on m profile fs grown.0 0 (length fs) [] zero_add none).1 in
      (genuine-is bytes fs refl ∙ agrees-all m profile fs 0 [] none, omega (arith, count))
