-- What a run gives in one format and in the other.
use Rattle.std.proofs.Common.{◌≡◌, ℕ, zero, suc, List, [], ◌∷◌, ◌++◌, take, map, true, false, refl, sym, ap, ◌∙◌, append-nil}
use Rattle.std.proofs.Common.{append_assoc}
use Rattle.std.specs.List.{flat_map}
use Rattle.std.proofs.lemmas.Grind.{flat_map-append}
use Rattle.det_values.specs.Values.{ProfileValue}
use Rattle.std.proofs.lemmas.List.Elements.{All-map}
use Rattle.det_values.specs.Frames.{in_format, outcome_in_format, without_draws}
use Rattle.det_values.specs.declared.format.Format.{Format}
use Rattle.det_values.specs.declared.format.Format.TheVariants.{One, Two}
use Rattle.det_values.specs.declared.frames.DrawnElement.{DrawnElement}
use Rattle.det_values.specs.declared.frames.Outcome.TheVariants.{Finished, Refused}
use Rattle.det_values.specs.declared.frames.CycleInput.{CycleInput}
use Rattle.det_values.specs.declared.frames.Outcome.{Outcome}
use Rattle.det_values.specs.declared.frames.RunFrame.{RunFrame}
use Rattle.det_values.specs.declared.frames.Frame.{Frame}
use Rattle.det_values.specs.declared.frames.Frame.TheVariants.{Register, Discover, Init, Run, Terminate}
use Rattle.job.specs.Meaning.{Meaning}
use Rattle.job.specs.Cycle.{State, state_after, outcome_of}
use Rattle.cycle_engine.specs.Frames.{first_state, job_of, cycle_of, state_after_inputs, runs, init_of, frames}
use Rattle.record_grammar.specs.Spelling.{spelled, spelled_header, spelled_frame, CanSpell, MayDrawAll}
use Rattle.rerun.specs.checker.RerunFrames.{AreAlike, rerun_frame}
use Rattle.rerun.specs.upgrader.Frames.{unless_last}
use Rattle.rerun.specs.upgrader.UpgradedRecord.{in_format_two}
use Rattle.rerun.proofs.lemmas.upgrader.Genuine.{as_run}

module _ {S G E L P : Type 0} (m : Meaning S G E L P) (profile : ProfileValue) where
  -- a run's states don't depend on its format
  state_same : (before : List CycleInput) (state : State G E) (inputs : List CycleInput)
      → state_after_inputs m (in_format_two profile) before state inputs ≡ state_after_inputs m profile before state inputs
  unfolding state_after_inputs
  state_same before state [] = refl
  state_same before state (input ∷ inputs) =
      state_same (before ++ input ∷ []) (state_after state (cycle_of m profile before state input)) inputs

  two_keeps : (o : Outcome) → outcome_in_format Two o ≡ o
  two_keeps o = refl

  -- what is given in a record's own format is what its format keeps of what is given in format 2
  pub rerun_frame_in : (before : List CycleInput) (x : Frame)
      → in_format profile.format (rerun_frame m (in_format_two profile) before x) ≡ rerun_frame m profile before x
  rerun_frame_in before Register = refl
  rerun_frame_in before Discover = refl
  rerun_frame_in before (Init elements) =
      ap (λ (s : State G E). Init (map (m.shown (job_of m profile)) s.elements)) (state_same [] (first_state m profile) before)
  rerun_frame_in before (Run r) =
      ap (λ (s : State G E). Run (record {
        input = r.input;
        outcome = outcome_in_format profile.format (outcome_of (cycle_of m profile before s r.input));
      })) (state_same [] (first_state m profile) before)
  rerun_frame_in before Terminate = refl

-- ---- frames but Terminate

-- what is written of a frame before the end is known
abbrev pub kept_of : Frame → List Frame
kept_of Terminate = []
kept_of x = x ∷ []

abbrev pub kept : List Frame → List Frame
kept xs = flat_map kept_of xs

pub kept-append : (xs ys : List Frame) → kept (xs ++ ys) ≡ kept xs ++ kept ys
kept-append xs ys = flat_map-append kept_of xs ys

take-none : (n : ℕ) → ◌≡◌ {A = List Frame} (take n []) []
take-none zero = refl
take-none (suc n) = refl

kept-behind : (x : Frame) (all front : List Frame) → kept_of x ≡ x ∷ [] → ((n : ℕ) → kept (take n all) ≡ take n front)
    → (n : ℕ) → kept (take n (x ∷ all)) ≡ take n (x ∷ front)
kept-behind x all front one each zero = refl
kept-behind x all front one each (suc n) =
    ap (λ (xs : List Frame). xs ++ kept (take n all)) one ∙ ap (λ (xs : List Frame). x ∷ xs) (each n)

kept-runs : (rs : List RunFrame) (n : ℕ) → kept (take n (map as_run rs ++ Terminate ∷ [])) ≡ take n (map as_run rs ++ [])
kept-runs [] zero = refl
kept-runs [] (suc n) = ap kept (take-none n)
kept-runs (r ∷ rs) n = kept-behind (Run r) (map as_run rs ++ Terminate ∷ []) (map as_run rs ++ []) refl (kept-runs rs) n

-- the first frames of a run that ends, but Terminate, are the first ones of a run that doesn't
pub kept-frames : {S G E L P : Type 0} (m : Meaning S G E L P) (profile : ProfileValue) (inputs : List CycleInput) (n : ℕ)
    → kept (take n (frames m profile inputs true)) ≡ take n (frames m profile inputs false)
kept-frames m profile inputs n =
    kept-behind Register _ _ refl (kept-behind Discover _ _ refl (kept-behind (Init (init_of m profile)) _ _ refl
    (kept-runs (runs m profile inputs)))) n

-- ---- spelled

-- what is written in the place of a frame
pub spelled-kept : {S G E L P : Type 0} (m : Meaning S G E L P) (profile other : ProfileValue) (before : List CycleInput) (x : Frame)
    → flat_map (spelled_frame other.format) (kept_of (rerun_frame m profile before x))
    ≡ unless_last x (spelled_frame other.format (rerun_frame m profile before x))
spelled-kept m profile other before Register = append-nil _
spelled-kept m profile other before Discover = append-nil _
spelled-kept m profile other before (Init elements) = append-nil _
spelled-kept m profile other before (Run r) = append-nil _
spelled-kept m profile other before Terminate = refl

pub spelled-append : (profile : ProfileValue) (xs ys : List Frame)
    → spelled profile (xs ++ ys) ≡ spelled profile xs ++ flat_map (spelled_frame profile.format) ys
spelled-append profile xs ys =
    ap (λ (s : List ℕ). spelled_header profile ++ s) (flat_map-append (spelled_frame profile.format) xs ys)
    ∙ sym (append_assoc (spelled_header profile) (flat_map (spelled_frame profile.format) xs) (flat_map (spelled_frame profile.format) ys))

-- ---- what a format can spell

may-draw : (format : Format) (outcome : Outcome) → MayDrawAll format (outcome_in_format format outcome)
may-draw One (Finished elements output) = All-map (λ (e : DrawnElement). e.draws ≡ 0) without_draws elements (λ k d lt. refl)
may-draw Two (Finished elements output) = λ k d lt. tt
may-draw One (Refused at) = tt
may-draw Two (Refused at) = tt

-- a format can spell what it keeps of a frame
pub spells-in : (one format : Format) (events : ℕ) (x : Frame) → CanSpell one events x → CanSpell format events (in_format format x)
spells-in one format events Register h = tt
spells-in one format events Discover h = tt
spells-in one format events (Init elements) h = tt
spells-in one format events (Run run) h = (h.0, may-draw format run.outcome)
spells-in one format events Terminate h = tt

-- it keeps the kind
pub alike-in : (format : Format) (read x : Frame) → AreAlike read x → AreAlike read (in_format format x)
alike-in format Register Register h = tt
alike-in format Discover Discover h = tt
alike-in format (Init elements) (Init others) h = tt
alike-in format (Run run) (Run other) h = tt
alike-in format Terminate Terminate h = tt
alike-in format read x h = elim h [ ]
