-- A record whose first frames were compared: its departure, and what is written of it.
use Rattle.std.proofs.Common.{◌≡◌, ◌≤◌, ℕ, zero, suc, ◌+◌, List, [], ◌∷◌, ◌++◌, length, take, Bool, true, false, refl, sym, ap, subst, ◌∙◌}
use Rattle.std.proofs.Common.{arith, None, Some, append_assoc, append-nil, length-append, cond}
use Rattle.std.specs.List.{flat_map}
use Rattle.std.proofs.lemmas.List.{take-append-le, take_all, take_at}
use Rattle.det_values.specs.Values.{ProfileValue}
use Rattle.det_values.specs.declared.frames.CycleInput.{CycleInput}
use Rattle.det_values.specs.declared.frames.Frame.{Frame}
use Rattle.det_values.specs.declared.frames.Frame.TheVariants.{Terminate}
use Rattle.det_io.specs.Prefix.{IsPrefix}
use Rattle.det_io.proofs.Prefixes.{prefix-append}
use Rattle.job.specs.Meaning.{Meaning}
use Rattle.cycle_engine.specs.Frames.{frames}
use Rattle.cycle_engine.proofs.Standing.{frames-ended}
use Rattle.record_grammar.specs.Places.{layout_of}
use Rattle.record_grammar.specs.Spelling.{spelled, spelled_header, spelled_frame}
use Rattle.record_grammar.specs.Record.{fault as fault_in}
use Rattle.copies.specs.declared.difference.Difference.{Difference}
use Rattle.copies.specs.FirstDifference.{frame_difference}
use Rattle.rerun.specs.replayer.ReplayRecord.{inputs}
use Rattle.rerun.specs.checker.Departure.{departure, genuine_frames}
use Rattle.rerun.specs.checker.RerunFrames.{rerun_frame}
use Rattle.rerun.proofs.lemmas.checker.Departing.{inputs_of, departs, agrees, departs-on, departs-one, departs-next, agrees-all}
use Rattle.rerun.proofs.lemmas.checker.Records.{departure-is, genuine-is}
use Rattle.rerun.specs.upgrader.UpgradedRecord.{in_format_two, upgraded_with}
use Rattle.rerun.proofs.lemmas.upgrader.Order.{AreFrames}
use Rattle.rerun.proofs.lemmas.upgrader.Genuine.{given_frames, given-length, given-append, given-first}
use Rattle.rerun.proofs.lemmas.upgrader.Formats.{kept, kept-frames, kept-append, spelled-append}

-- ---- first items

-- fewer of the first items of a list come first among more of those of a longer one
prefix-takes : {X : Type 0} (a n : ℕ) (xs ys : List X) → a ≤ n → IsPrefix (take a xs) (take n (xs ++ ys))
prefix-takes a n [] ys le = (take n ys, ap (λ zs. zs ++ take n ys) (take_all a [] (omega arith)))
prefix-takes zero n (x ∷ xs) ys le = (take n (x ∷ (xs ++ ys)), refl)
prefix-takes (suc a) (suc n) (x ∷ xs) ys le =
    let i = prefix-takes a n xs ys (omega arith) in (i.0, ap (λ zs. x ∷ zs) i.1)
prefix-takes (suc a) zero (x ∷ xs) ys le = absurd (omega arith)

module _ {S G E L P : Type 0} (m : Meaning S G E L P) (profile : ProfileValue) where
  -- none of these frames differs from what is given in its place
  abbrev pub Agree : List Frame → Type 0
  Agree done = departs m profile 0 [] done ≡ None

  -- one frame more
  pub agree-next : (done : List Frame) (x : Frame) → Agree done
      → frame_difference (length done) x (rerun_frame m profile (inputs_of done) x) ≡ None → Agree (done ++ x ∷ [])
  agree-next done x agree same = departs-next m profile done x 0 (length done) [] (omega arith) agree same

  -- the frames after them decide
  genuine-done : (bytes : List ℕ) (done more : List Frame) → AreFrames profile bytes (done ++ more) → Agree done
      → (departure m profile bytes ≡ departs m profile (length done) (inputs_of done) more)
      × (genuine_frames m profile bytes ≡ length done + agrees m profile (length done) (inputs_of done) more)
  genuine-done bytes done more are agree =
      let on = departs-on m profile done more 0 (length done) [] (omega arith) agree in (
        departure-is m profile bytes (done ++ more) are.frames ∙ on.0,
        genuine-is m profile bytes (done ++ more) are.frames ∙ on.1,
      )

  -- ---- what is written of it

  abbrev two : ProfileValue
  two = in_format_two profile

  -- what was written of the frames done
  abbrev pub so_far : List Frame → List Frame
  so_far done = kept (given_frames m two [] done)

  module _ (bytes : List ℕ) (done more : List Frame) (are : AreFrames profile bytes (done ++ more)) where
    take-done : take (length done) (frames m two (inputs bytes) true) ≡ given_frames m two [] done
    take-done =
        let first = given-first m two (done ++ more) (layout_of profile) are.to are.order in
        ap (λ (is : List CycleInput). take (length done) (frames m two is true)) are.inputs
        ∙ ap (λ (gs : List Frame). take (length done) gs)
        (sym first.first ∙ ap (λ (gs : List Frame). gs ++ first.rest) (given-append m two [] done more)
        ∙ append_assoc (given_frames m two [] done) (given_frames m two (inputs_of done) more) first.rest)
        ∙ take_at (given_frames m two [] done) (given_frames m two (inputs_of done) more ++ first.rest) (length done)
        (given-length m two [] done)

    -- what was written of them are the first frames of a run that doesn't end
    so_far-is : so_far done ≡ take (length done) (frames m two (inputs bytes) false)
    so_far-is = sym (ap kept take-done) ∙ kept-frames m two (inputs bytes) (length done)

    -- as many frames come first of the run
    long-enough : length (done ++ more) ≤ length (frames m two (inputs bytes) false) + 1
    long-enough =
        let first = given-first m two (done ++ more) (layout_of profile) are.to are.order in
        let all = ap length first.first in
        let sum = length-append (given_frames m two [] (done ++ more)) first.rest in
        let same = given-length m two [] (done ++ more) in
        let ended = ap length (frames-ended m two (inputs_of (done ++ more))) in
        let one = length-append (frames m two (inputs_of (done ++ more)) false) (Terminate ∷ []) in
        let inputs_are = ap (λ (is : List CycleInput). length (frames m two is false)) are.inputs in
        omega arith

  ended-is : (is : List CycleInput) (ended : Bool) → frames m two is ended
      ≡ frames m two is false ++ cond ended (Terminate ∷ []) []
  ended-is is true = frames-ended m two is
  ended-is is false = sym (append-nil (frames m two is false))

  upgraded-by : (bytes : List ℕ) (ended : Bool) (n : ℕ) → genuine_frames m profile bytes ≡ n
      → upgraded_with m profile bytes ended ≡ spelled two (take n (frames m two (inputs bytes) ended))
  unfolding upgraded_with
  upgraded-by bytes ended n is = ap (λ (k : ℕ). spelled two (take k (frames m two (inputs bytes) ended))) is

  -- what was written comes first, whatever follows
  pub so_far-first : (bytes : List ℕ) (done more : List Frame) (ended : Bool) → AreFrames profile bytes (done ++ more) → Agree done
      → IsPrefix (spelled two (so_far done)) (upgraded_with m profile bytes ended)
  so_far-first bytes done more ended are agree =
      let n = (genuine-done bytes done more are agree).1 in
      let front = prefix-takes (length done) (genuine_frames m profile bytes) (frames m two (inputs bytes) false)
      (cond ended (Terminate ∷ []) []) (omega (arith, n)) in (
        flat_map (spelled_frame two.format) front.0,
        sym (spelled-append two (so_far done) front.0)
            ∙ ap (λ (fs : List Frame). spelled two (fs ++ front.0)) (so_far-is bytes done more are)
            ∙ ap (λ (fs : List Frame). spelled two fs) front.1
            ∙ ap (λ (fs : List Frame). spelled two (take (genuine_frames m profile bytes) fs)) (sym (ended-is (inputs bytes) ended))
            ∙ sym (upgraded-by bytes ended (genuine_frames m profile bytes) refl),
      )

  -- the header comes first
  pub header-first : (bytes : List ℕ) (ended : Bool) → IsPrefix (spelled two []) (upgraded_with m profile bytes ended)
  unfolding upgraded_with
  header-first bytes ended = subst (λ (front : List ℕ). IsPrefix front (upgraded_with m profile bytes ended))
      (sym (append-nil (spelled_header two))) (prefix-append (spelled_header two) _)

  -- the next frame differs: nothing more is written
  pub record Departed (bytes : List ℕ) (done : List Frame) (at : Difference) (ended : Bool) : Type 0 where
    pub departure : departure m profile bytes ≡ Some at
    pub upgraded : upgraded_with m profile bytes ended ≡ spelled two (so_far done)

  pub departed : (bytes : List ℕ) (done more : List Frame) (x : Frame) (at : Difference) (ended : Bool)
      → AreFrames profile bytes (done ++ x ∷ more) → Agree done
      → frame_difference (length done) x (rerun_frame m profile (inputs_of done) x) ≡ Some at → Departed bytes done at ended
  departed bytes done more x at ended are agree differs =
      let behind = genuine-done bytes done (x ∷ more) are agree in
      let first = departs-one m profile x more (length done) (inputs_of done) at differs in
      let n : genuine_frames m profile bytes ≡ length done = omega (arith, behind.1, first.1) in
      let long = long-enough bytes done (x ∷ more) are in
      let sum = length-append done (x ∷ more) in
      record {
        departure = behind.0 ∙ first.0;
        upgraded = upgraded-by bytes ended (length done) n
            ∙ ap (λ (fs : List Frame). spelled two (take (length done) fs)) (ended-is (inputs bytes) ended)
            ∙ ap (λ (fs : List Frame). spelled two fs)
            (take-append-le (length done) (frames m two (inputs bytes) false) (cond ended (Terminate ∷ []) []) (omega arith)
            ∙ sym (so_far-is bytes done (x ∷ more) are));
      }

  -- all frames were compared
  pub record AllDone (bytes : List ℕ) (done : List Frame) : Type 0 where
    pub departure : departure m profile bytes ≡ None
    pub upgraded : upgraded_with m profile bytes false ≡ spelled two (so_far done)
    pub ended : fault_in bytes ≡ None → upgraded_with m profile bytes true
        ≡ spelled two (so_far done) ++ spelled_frame two.format Terminate

  pub all-done : (bytes : List ℕ) (done : List Frame) → AreFrames profile bytes done → Agree done → AllDone bytes done
  all-done bytes done all agree =
      let are : AreFrames profile bytes (done ++ []) = subst (AreFrames profile bytes) (sym (append-nil done)) all in
      let n = genuine-is m profile bytes done all.frames ∙ agrees-all m profile done 0 [] agree in
      let first = given-first m two done (layout_of profile) all.to all.order in
      record {
        departure = departure-is m profile bytes done all.frames ∙ agree;
        upgraded = upgraded-by bytes false (length done) n ∙ ap (λ (fs : List Frame). spelled two fs) (sym (so_far-is bytes done [] are));
        ended = λ whole.
            let same : given_frames m two [] done ≡ frames m two (inputs_of done) true =
            sym (append-nil (given_frames m two [] done))
            ∙ ap (λ (fs : List Frame). given_frames m two [] done ++ fs) (sym (first.ends (all.end whole))) ∙ first.first in
            let len = given-length m two [] done in
            let long = ap length same in
            let fewer = ap length (frames-ended m two (inputs bytes)) in
            let sum = length-append (frames m two (inputs bytes) false) (Terminate ∷ []) in
            let as_inputs = ap (λ (is : List CycleInput). length (frames m two is true)) all.inputs in
            upgraded-by bytes true (length done) n
            ∙ ap (λ (fs : List Frame). spelled two fs)
            (take_all (length done) (frames m two (inputs bytes) true) (omega arith)
            ∙ frames-ended m two (inputs bytes)
            ∙ ap (λ (fs : List Frame). fs ++ Terminate ∷ [])
            (sym (so_far-is bytes done [] are ∙ take_all (length done) (frames m two (inputs bytes) false) (omega arith))))
            ∙ spelled-append two (so_far done) (Terminate ∷ [])
            ∙ ap (λ (bs : List ℕ). spelled two (so_far done) ++ bs) (append-nil (spelled_frame two.format Terminate));
      }

-- one frame more was written
pub so_far-next : {S G E L P : Type 0} (m : Meaning S G E L P) (profile : ProfileValue) (done : List Frame) (x : Frame)
    → spelled (in_format_two profile) (so_far m profile (done ++ x ∷ []))
    ≡ spelled (in_format_two profile) (so_far m profile done)
    ++ flat_map (spelled_frame (in_format_two profile).format) (kept (rerun_frame m (in_format_two profile) (inputs_of done) x ∷ []))
so_far-next m profile done x =
    ap (λ (gs : List Frame). spelled (in_format_two profile) (kept gs)) (given-append m (in_format_two profile) [] done (x ∷ []))
    ∙ ap (λ (fs : List Frame). spelled (in_format_two profile) fs)
    (kept-append (given_frames m (in_format_two profile) [] done) (rerun_frame m (in_format_two profile) (inputs_of done) x ∷ []))
    ∙ spelled-append (in_format_two profile) (so_far m profile done)
    (kept (rerun_frame m (in_format_two profile) (inputs_of done) x ∷ []))
