-- How a record grows, input by input.
use Rattle.std.proofs.Common.{◌≡◌, List, [], ◌∷◌, ◌++◌, Bool, true, false, refl, sym, ap, subst, ◌∙◌, append_assoc, append-nil}
use Rattle.std.specs.List.{flat_map}
use Rattle.std.proofs.lemmas.Grind.{flat_map-append}
use Rattle.det_values.specs.Values.{ProfileValue}
use Rattle.det_io.specs.Prefix.{IsPrefix}
use Rattle.det_io.proofs.Prefixes.{prefix-same, prefix-then}
use Rattle.det_values.specs.declared.frames.CycleInput.{CycleInput}
use Rattle.det_values.specs.declared.frames.Frame.{Frame}
use Rattle.det_values.specs.declared.frames.Frame.TheVariants.{Run, Terminate}
use Rattle.job.specs.Meaning.{Meaning}
use Rattle.cycle_engine.specs.Frames.{state_of, frames, frame_of, runs, runs_after_inputs}
use Rattle.cycle_engine.proofs.Standing.{frames-append, frames-ended}
use Rattle.record_grammar.specs.Spelling.{spelled, spelled_header, spelled_frame}
use Rattle.recorder.specs.run_writer.Record.{record_with, opening}

-- one frame more
spelled-then : (profile : ProfileValue) (frames : List Frame) (frame : Frame)
    → spelled profile (frames ++ frame ∷ []) ≡ spelled profile frames ++ spelled_frame profile.format frame
spelled-then profile frames frame =
    ap (λ s. spelled_header profile ++ s) (flat_map-append (spelled_frame profile.format) frames (frame ∷ []))
    ∙ sym (append_assoc (spelled_header profile) (flat_map (spelled_frame profile.format) frames)
    (flat_map (spelled_frame profile.format) (frame ∷ [])))
    ∙ ap (λ s. spelled profile frames ++ s) (append-nil (spelled_frame profile.format frame))

module _ {S G E L P : Type 0} (m : Meaning S G E L P) (profile : ProfileValue) where
  -- the record of no input is the opening
  pub record-opened : record_with m profile [] false ≡ opening m profile
  unfolding record_with opening runs_after_inputs
  record-opened = refl

  -- no input gives no run
  pub runs-none : runs m profile [] ≡ []
  unfolding runs_after_inputs
  runs-none = refl

  -- one input more is one frame more
  pub record-next : (given : List CycleInput) (input : CycleInput)
      → record_with m profile (given ++ input ∷ []) false
      ≡ record_with m profile given false ++ spelled_frame profile.format (Run (frame_of m profile given (state_of m profile given) input))
  unfolding record_with
  record-next given input = ap (spelled profile) (frames-append m profile given input)
      ∙ spelled-then profile (frames m profile given false) _

  -- Terminate ends it
  pub record-ended : (given : List CycleInput) → record_with m profile given true ≡ record_with m profile given false
      ++ spelled_frame profile.format Terminate
  unfolding record_with
  record-ended given = ap (spelled profile) (frames-ended m profile given) ∙ spelled-then profile (frames m profile given false) Terminate

  -- the record of the first inputs comes first
  record-longer : (given more : List CycleInput) → IsPrefix (record_with m profile given false)
      (record_with m profile (given ++ more) false)
  record-longer given [] = subst (λ xs. IsPrefix (record_with m profile given false) (record_with m profile xs false))
      (sym (append-nil given)) (prefix-same _)
  record-longer given (input ∷ more) =
      let one : IsPrefix (record_with m profile given false) (record_with m profile (given ++ input ∷ []) false) =
      (_, sym (record-next given input)) in
      let rest = subst (λ xs. IsPrefix (record_with m profile (given ++ input ∷ []) false) (record_with m profile xs false))
      (append_assoc given (input ∷ []) more)
      (record-longer (given ++ input ∷ []) more) in
      prefix-then _ _ _ one rest

  pub record-front : (given inputs : List CycleInput) (ended : Bool) → IsPrefix given inputs
      → IsPrefix (record_with m profile given false) (record_with m profile inputs ended)
  record-front given inputs ended (rest, is) =
      let front = subst (λ xs. IsPrefix (record_with m profile given false) (record_with m profile xs false)) is (record-longer given rest)
      in
      prefix-then _ _ _ front (ending ended) where
        ending : (ended : Bool) → IsPrefix (record_with m profile inputs false) (record_with m profile inputs ended)
        ending true = (spelled_frame profile.format Terminate, sym (record-ended inputs))
        ending false = prefix-same _
