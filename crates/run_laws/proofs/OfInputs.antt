-- A record is genuine exactly where it is read as the frames that its inputs give, and so exactly where it is given again.
use Rattle.std.proofs.Common.{◌≡◌, ℕ, suc, ◌+◌, ◌≤◌, List, [], ◌∷◌, ◌++◌, length, map, take, Bool, true, false, None, refl, sym, ap, ◌∙◌}
use Rattle.std.proofs.Common.{subst, arith, append-nil}
use Rattle.std.specs.List.{flat_map, All}
use Rattle.std.specs.Option.{is_none}
use Rattle.std.proofs.lemmas.List.{length-append, length-map, take_all}
use Rattle.det_values.specs.Values.{ProfileValue}
use Rattle.det_values.specs.declared.frames.CycleInput.{CycleInput}
use Rattle.det_values.specs.declared.frames.RunFrame.{RunFrame}
use Rattle.det_values.specs.declared.frames.Frame.{Frame}
use Rattle.det_values.specs.declared.frames.Frame.TheVariants.{Register, Discover, Init, Run, Terminate}
use Rattle.job.specs.Meaning.{Meaning}
use Rattle.job.specs.Laws.{JobLaws}
use Rattle.cycle_engine.specs.Frames.{first_state, init_of, runs, frames}
use Rattle.cycle_engine.proofs.Standing.{length-runs, frames-ended}
use Rattle.record_grammar.specs.Record.{items as items_in, fault as fault_in}
use Rattle.record_grammar.specs.Laws.{items_of}
use Rattle.record_grammar.specs.Spelling.{IsInput, SpellsWhole, spelled}
use Rattle.record_grammar.proofs.lemmas.record_laws.Spelled.{spelled_is_read}
use Rattle.recorder.specs.run_writer.Record.{record_with}
use Rattle.rerun.specs.replayer.ReplayRecord.{input_in, inputs, replay_record}
use Rattle.rerun.specs.checker.Departure.{agreeing_count, departure_from, departure, run_of, frames_in, given_by, genuine_frames}
use Rattle.rerun.specs.checker.Departure.{checked_runs}
use Rattle.rerun.specs.checker.CheckVerdict.{check_verdict, verdict_by}
use Rattle.run_laws.specs.Statements.{IsRunRead, fault_if}
use Rattle.run_laws.proofs.SpelledJob.{IsSpelledJob}
use Rattle.run_laws.proofs.Departing.{departs_nowhere, all_agree, same_frames}
use Rattle.run_laws.proofs.WholeRecords.{frames_read, good_inputs, inputs_counted}
use Rattle.run_laws.proofs.Replayed.{inputs_of_run}
use Rattle.run_laws.proofs.Reading.{run_is_read}

-- the number of the frames of a run that is ended
run_length : (elements : List (List ℕ)) (rs : List RunFrame)
    → length (Register ∷ Discover ∷ Init elements ∷ (map Run rs ++ Terminate ∷ [])) ≡ length rs + 4
run_length elements rs =
    let a = length-append (map Run rs) (Terminate ∷ []) in
    let b = length-map rs Run in
    omega (arith, a, b)

-- the runs among frames
runs_back : (rs : List RunFrame) (tail : List Frame) → flat_map run_of (map Run rs ++ tail) ≡ rs ++ flat_map run_of tail
runs_back [] tail = refl
runs_back (r ∷ rs) tail = ap (λ (xs : List RunFrame). r ∷ xs) (runs_back rs tail)

module _ {S G E L P : Type 0} (m : Meaning S G E L P) (profile : ProfileValue) where
  -- ---- the frames of a run

  -- they begin those of the whole run over the same inputs
  whole_more : (given : List CycleInput) (ended : Bool) → (more : List Frame)
      × (frames m profile given true ≡ frames m profile given ended ++ more)
  whole_more given true = ([], sym (append-nil (frames m profile given true)))
  whole_more given false = (Terminate ∷ [], frames-ended m profile given)

  none_departs : (given : List CycleInput) (ended : Bool)
      → departure_from 0 (frames m profile given ended) (frames m profile given true) ≡ None
  none_departs given ended =
      let whole = whole_more given ended in
      ap (departure_from 0 (frames m profile given ended)) whole.1 ∙ departs_nowhere 0 (frames m profile given ended) whole.0

  all_agreeing : (given : List CycleInput) (ended : Bool)
      → agreeing_count 0 (frames m profile given ended) (frames m profile given true) ≡ length (frames m profile given ended)
  all_agreeing given ended =
      let whole = whole_more given ended in
      ap (agreeing_count 0 (frames m profile given ended)) whole.1 ∙ all_agree 0 (frames m profile given ended) whole.0

  runs_of_frames : (given : List CycleInput) (ended : Bool) → flat_map run_of (frames m profile given ended) ≡ runs m profile given
  runs_of_frames given true = runs_back (runs m profile given) (Terminate ∷ []) ∙ append-nil (runs m profile given)
  runs_of_frames given false = runs_back (runs m profile given) [] ∙ append-nil (runs m profile given)

  -- there are as many runs as inputs
  pub runs_counted : (given : List CycleInput) (ended : Bool) → length (flat_map run_of (frames m profile given ended)) ≡ length given
  runs_counted given ended = ap length (runs_of_frames given ended) ∙ length-runs m profile [] given (first_state m profile)

  pub frames_counted : (given : List CycleInput) → length (frames m profile given true) ≡ length given + 4
  frames_counted given = run_length (init_of m profile) (runs m profile given)
      ∙ ap (λ (n : ℕ). n + 4) (length-runs m profile [] given (first_state m profile))

  -- ---- a record that is read as the frames of a run

  module _ (given : List CycleInput) (ended : Bool) (record_bytes : List ℕ)
      (read : IsRunRead profile (frames m profile given ended) ended record_bytes) where
    frames_are : frames_in record_bytes ≡ frames m profile given ended
    frames_are = frames_read profile (frames m profile given ended) record_bytes read.items

    pub inputs_are : inputs record_bytes ≡ given
    inputs_are = ap (flat_map input_in) read.items ∙ inputs_of_run m profile given ended

    given_are : given_by m profile record_bytes ≡ frames m profile given true
    given_are = ap (λ (xs : List CycleInput). frames m profile xs true) inputs_are

    pub all_genuine : genuine_frames m profile record_bytes ≡ length (frames m profile given ended)
    all_genuine = (λ i. agreeing_count 0 (frames_are i) (given_are i)) ∙ all_agreeing given ended

    pub no_departure : departure m profile record_bytes ≡ None
    no_departure = (λ i. departure_from 0 (frames_are i) (given_are i)) ∙ none_departs given ended

    -- its verdict is by its fault only
    pub run_verdict : check_verdict m profile record_bytes ≡ verdict_by None (fault_if ended record_bytes) (length given)
    run_verdict = λ i. verdict_by (no_departure i) (read.fault i) (length (inputs_are i))

    -- and all of its runs are checked
    pub run_checked : checked_runs m profile record_bytes ≡ flat_map run_of (frames m profile given ended)
    run_checked =
        let all : List Frame = frames m profile given ended in
        (λ i. flat_map run_of (take (suc (all_genuine i)) (frames_are i)))
        ∙ ap (flat_map run_of) (take_all (suc (length all)) all (omega arith))

  -- ---- a record that is the spelling of a run

  -- it is read as the frames that its inputs give
  abbrev pub IsOfInputs : List ℕ → Type 0
  IsOfInputs record_bytes = IsRunRead profile (frames m profile (inputs record_bytes) true) true record_bytes

  module _ (record_bytes : List ℕ) (run : List Frame) (whole : SpellsWhole profile run record_bytes) where
    is_read : items_in record_bytes ≡ items_of profile run
    is_read = (spelled_is_read profile run record_bytes whole.0).items

    counted : length (inputs record_bytes) ≡ length whole.1.runs
    counted = ap (λ xs. length (flat_map input_in xs)) is_read ∙ inputs_counted profile run whole.1

    as_many : length run ≡ length (frames m profile (inputs record_bytes) true)
    as_many = ap length whole.1.order ∙ run_length whole.1.elements whole.1.runs
        ∙ ap (λ (n : ℕ). n + 4) (sym counted) ∙ sym (frames_counted (inputs record_bytes))

    -- where it departs nowhere it is read as the frames that its inputs give
    pub departs_not : departure m profile record_bytes ≡ None → fault_in record_bytes ≡ None → IsOfInputs record_bytes
    departs_not none sound =
        let given : List Frame = frames m profile (inputs record_bytes) true in
        let here = subst (λ (fs : List Frame). departure_from 0 fs given ≡ None) (frames_read profile run record_bytes is_read) none in
        record {
          items = is_read ∙ ap (items_of profile) (same_frames 0 run given as_many here);
          fault = sound;
        }

    -- and where it is read so, it is given again
    pub gives_again : IsOfInputs record_bytes → replay_record m profile record_bytes ≡ record_bytes
    unfolding record_with
    gives_again read =
        let is : frames m profile (inputs record_bytes) true ≡ run =
        sym (frames_read profile (frames m profile (inputs record_bytes) true) record_bytes read.items)
        ∙ frames_read profile run record_bytes is_read in
        ap (λ (end : Bool). record_with m profile (inputs record_bytes) end) (ap is_none read.fault)
        ∙ ap (spelled profile) is
        ∙ sym whole.0.spelling

    pub inputs_good : All (IsInput (length profile.events)) (inputs record_bytes)
    inputs_good = subst (All (IsInput (length profile.events))) (sym (ap (flat_map input_in) is_read))
        (good_inputs profile.format (length profile.events) run whole.0.fields)

    pub inputs_few : length (inputs record_bytes) ≤ 1000000
    inputs_few = let few = whole.1.few in
        subst (λ (n : ℕ). n ≤ 1000000) (sym counted) few

    -- where it is given again it is read as the frames that its inputs give
    pub was_given : (Covers : S → P → ℕ → Type 0) (Own : S → E → Type 0) (Fit : S → L → Type 0) → JobLaws m Covers Own Fit
        → IsSpelledJob m → fault_in record_bytes ≡ None → replay_record m profile record_bytes ≡ record_bytes → IsOfInputs record_bytes
    was_given Covers Own Fit laws spells sound same =
        let given : List CycleInput = inputs record_bytes in
        let is : record_with m profile given true ≡ record_bytes =
        ap (λ (end : Bool). record_with m profile given end) (sym (ap is_none sound)) ∙ same in
        subst (λ (bytes : List ℕ). IsRunRead profile (frames m profile given true) true bytes) is
        (run_is_read m Covers Own Fit laws spells profile whole.0.header given true inputs_good inputs_few)
