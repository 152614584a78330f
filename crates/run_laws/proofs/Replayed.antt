-- The inputs of a record that is read give that record again.
use Rattle.std.proofs.Common.{◌≡◌, ℕ, List, [], ◌∷◌, ◌++◌, length, map, Bool, true, false, cond, Option, Some, None, Ok}
use Rattle.std.proofs.Common.{refl, sym, ap, ◌∙◌, append-nil}
use Rattle.std.specs.List.{flat_map}
use Rattle.std.specs.Option.{is_none, option_and_then}
use Rattle.det_values.specs.Jobs.{number_of_kind, kind_of_number}
use Rattle.det_values.specs.Values.{ProfileValue}
use Rattle.det_values.specs.declared.frames.CycleInput.{CycleInput}
use Rattle.det_values.specs.declared.frames.Frame.{Frame}
use Rattle.det_values.specs.declared.frames.Frame.TheVariants.{Run, Terminate}
use Rattle.det_values.specs.declared.job_kind.JobKind.{JobKind}
use Rattle.det_values.specs.declared.job_kind.JobKind.TheVariants.{Bank, Cloud, Guard}
use Rattle.job.specs.Meaning.{Meaning}
use Rattle.job.specs.Cycle.{State, state_after}
use Rattle.jobs.specs.bank.Meaning as bank
use Rattle.jobs.specs.cloud.Meaning as cloud
use Rattle.jobs.specs.guard.Meaning as guard
use Rattle.jobs.specs.Kinds.{bad_param}
use Rattle.cycle_engine.specs.Frames.{cycle_of, runs_after_inputs, first_state, frames}
use Rattle.record_grammar.specs.declared.item.Item.TheVariants as items
use Rattle.record_grammar.specs.Record.{items as items_in, fault as fault_in}
use Rattle.record_grammar.specs.Laws.{items_of}
use Rattle.recorder.specs.run_writer.Record.{record_with}
use Rattle.stimulus.specs.Reading.{blocks, ending}
use Rattle.recorder.specs.Record.{is_terminated, record_of}
use Rattle.rerun.specs.replayer.ReplayRecord.{input_in, inputs, is_whole, replay_record}
use Rattle.run_setup.specs.recorded_run.Run.{taking, run_of}
use Rattle.run_setup.proofs.lemmas.recorded_run.Items.{run_by_items, run-by-items}
use Rattle.cmd_rerun.specs.replay_command.Replay.{replayed_with}
use Rattle.cmd_rerun.specs.replay_command.ReplayVisit.{replayed}
use Rattle.cmd_run.specs.record_command.Outcomes.{recorded_by_kind}
use Rattle.run_laws.proofs.NamedRuns.{run_with, replayed_by}
use Rattle.run_laws.specs.Statements.{IsRunRead, IsRecordRead, IsRecordReplayed, given_again, frames_by_kind, fault_if}

-- ---- the inputs of a run

abbrev is_ended : ProfileValue → List ℕ → Bool
is_ended profile stimulus = is_terminated (ending (length profile.events) stimulus)

-- a record is whole where its run was ended
whole_if : (ended : Bool) (bytes : List ℕ) → is_none (fault_if ended bytes) ≡ ended
whole_if true bytes = refl
whole_if false bytes = refl

module _ {S G E L P : Type 0} (m : Meaning S G E L P) (profile : ProfileValue) where
  -- the inputs in the frames of these inputs' cycles, and in others after them
  inputs_behind : (before : List CycleInput) (state : State G E) (given : List CycleInput) (tail : List Frame)
      → flat_map input_in (map items.Frame (map (λ run. Run run) (runs_after_inputs m profile before state given) ++ tail))
      ≡ given ++ flat_map input_in (map items.Frame tail)
  unfolding runs_after_inputs
  inputs_behind before state [] tail = refl
  inputs_behind before state (input ∷ given) tail =
      ap (λ (rest : List CycleInput). input ∷ rest)
      (inputs_behind (before ++ input ∷ []) (state_after state (cycle_of m profile before state input)) given tail)

  pub inputs_of_run : (given : List CycleInput) (ended : Bool) → flat_map input_in (items_of profile (frames m profile given ended)) ≡ given
  inputs_of_run given true = inputs_behind [] (first_state m profile) given (Terminate ∷ []) ∙ append-nil given
  inputs_of_run given false = inputs_behind [] (first_state m profile) given [] ∙ append-nil given

  -- the record of a run that is read as its frames
  run_again : (given : List CycleInput) (ended : Bool) (bytes : List ℕ) → bytes ≡ record_with m profile given ended
      → IsRunRead profile (frames m profile given ended) ended bytes → replay_record m profile bytes ≡ bytes
  run_again given ended bytes is h =
      let whole : is_whole bytes ≡ ended = ap is_none h.fault ∙ whole_if ended bytes in
      let same : inputs bytes ≡ given = ap (flat_map input_in) h.items ∙ inputs_of_run given ended in
      (λ i. record_with m profile (same i) (whole i)) ∙ sym is

  same_again : (stimulus : List ℕ) → IsRecordRead profile (frames m profile) stimulus (record_of m profile stimulus)
      → replayed_with m profile (record_of m profile stimulus)
      ≡ given_again (record_of m profile stimulus) (fault_if (is_ended profile stimulus) (record_of m profile stimulus))
  same_again stimulus h =
      let given = blocks (length profile.events) stimulus in
      let same = run_again given (is_ended profile stimulus) (record_of m profile stimulus) refl h in
      λ i. given_again (same i) (h.fault i)

-- ---- the run that a header names

-- the number of a kind names it
number_names : (kind : JobKind) → kind_of_number (number_of_kind kind) ≡ Some kind
number_names Bank = refl
number_names Cloud = refl
number_names Guard = refl

-- a profile of the kind, whose job takes it
pub record IsOfKind (kind : JobKind) (profile : ProfileValue) : Type 0 where
  pub number : profile.job ≡ number_of_kind kind
  pub good : bad_param kind profile.params (length profile.events) ≡ None

pub run_is : (kind : JobKind) (profile : ProfileValue) (run : List Frame) (bytes : List ℕ) → IsOfKind kind profile
    → items_in bytes ≡ items_of profile run → run_of bytes ≡ Ok (record { kind = kind; profile = profile })
run_is kind profile run bytes of read =
    run-by-items bytes
    ∙ ap (λ xs. run_by_items xs (fault_in bytes)) read
    ∙ ap (λ n. run_with (option_and_then (taking profile) (kind_of_number n)) profile) of.number
    ∙ ap (λ o. run_with (option_and_then (taking profile) o) profile) (number_names kind)
    ∙ ap (λ (bad : Option ℕ). run_with (cond (is_none bad) (Some kind) None) profile) of.good

-- ---- by the kind of the job

replayed_same : (kind : JobKind) (profile : ProfileValue) (stimulus : List ℕ)
    → IsRecordRead profile (frames_by_kind kind profile) stimulus (recorded_by_kind kind profile stimulus).bytes
    → replayed kind profile (recorded_by_kind kind profile stimulus).bytes
    ≡ given_again (recorded_by_kind kind profile stimulus).bytes
    (fault_if (is_ended profile stimulus) (recorded_by_kind kind profile stimulus).bytes)
replayed_same Bank profile stimulus h = same_again bank.meaning profile stimulus h
replayed_same Cloud profile stimulus h = same_again cloud.meaning profile stimulus h
replayed_same Guard profile stimulus h = same_again guard.meaning profile stimulus h

-- the record of a profile of the kind is given again
pub kind_is_replayed : (kind : JobKind) (profile : ProfileValue) (stimulus : List ℕ) → IsOfKind kind profile
    → IsRecordRead profile (frames_by_kind kind profile) stimulus (recorded_by_kind kind profile stimulus).bytes
    → IsRecordReplayed profile stimulus (recorded_by_kind kind profile stimulus).bytes
kind_is_replayed kind profile stimulus of h =
    let bytes : List ℕ = (recorded_by_kind kind profile stimulus).bytes in
    ap (replayed_by bytes) (run_is kind profile _ bytes of h.items) ∙ replayed_same kind profile stimulus h
