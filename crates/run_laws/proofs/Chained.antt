-- The second client's record of a chain is read as its run over the inputs that the first client passes on, and checked as that run.
use Rattle.std.proofs.Common.{◌≡◌, ◌≤◌, ℕ, List, [], length, Bool, refl, sym, subst, ◌∙◌, arith}
use Rattle.std.specs.List.{All}
use Rattle.std.specs.Option.{unwrap_or}
use Rattle.std.proofs.lemmas.List.{length-map}
use Rattle.det_values.specs.Values.{ProfileValue}
use Rattle.det_values.specs.declared.frames.CycleInput.{CycleInput}
use Rattle.det_values.specs.declared.job_kind.JobKind.{JobKind}
use Rattle.det_values.specs.declared.job_kind.JobKind.TheVariants.{Bank, Cloud, Guard}
use Rattle.job.specs.Meaning.{Meaning}
use Rattle.jobs.specs.bank.Meaning as bank
use Rattle.jobs.specs.bank.Ranges as bank_ranges
use Rattle.jobs.specs.bank.Laws.{bank_laws}
use Rattle.jobs.specs.cloud.Meaning as cloud
use Rattle.jobs.specs.cloud.Ranges as cloud_ranges
use Rattle.jobs.specs.cloud.Laws.{cloud_laws}
use Rattle.jobs.specs.guard.Meaning as guard
use Rattle.jobs.specs.guard.Ranges as guard_ranges
use Rattle.jobs.specs.guard.Laws.{guard_laws}
use Rattle.jobs.specs.Kinds.{by_kind}
use Rattle.cycle_engine.specs.Frames.{first_state, runs}
use Rattle.cycle_engine.proofs.Standing.{length-runs}
use Rattle.record_grammar.specs.Spelling.{IsHeader, IsInput}
use Rattle.recorder.specs.run_writer.Record.{record_with}
use Rattle.stimulus.specs.Reading.{blocks, ending}
use Rattle.stimulus.proofs.Counting.{few_blocks}
use Rattle.recorder.specs.Record.{is_terminated}
use Rattle.cmd_run.specs.chain.OutputSamples.{derived, chained_input}
use Rattle.manifest.specs.Meaning.{manifest_of}
use Rattle.cmd_run.specs.chain_command.Chain.{chained}
use Rattle.cmd_run.specs.chain_command.Clients.{Client, client_of, chained_by_kinds, chained_from}
use Rattle.cli_answers.specs.Outcome.{Outcome}
use Rattle.run_laws.specs.Statements.{IsRunRead, frames_by_kind}
use Rattle.run_laws.specs.Chains.{passed_on, second_frames, IsChainRead, ChainIsRead}
use Rattle.run_laws.proofs.Shipped.{bank_spelled, cloud_spelled, guard_spelled}
use Rattle.run_laws.proofs.Inputs.{all_held}
use Rattle.run_laws.proofs.Reading.{run_is_read}
use Rattle.run_laws.proofs.Commands.{is_taken, is_header}
use Rattle.run_laws.proofs.Replayed.{IsOfKind}
use Rattle.run_laws.proofs.Checked.{kind_is_checked}
use Rattle.run_laws.proofs.PassedOn.{passed_held}

-- ---- the second run, by the kind of its job

abbrev record_by_kind : JobKind → ProfileValue → List CycleInput → Bool → List ℕ
record_by_kind kind profile inputs ended = by_kind (λ S G E L P m. record_with m profile inputs ended) kind

kind_run_read : (kind : JobKind) (profile : ProfileValue) → IsHeader profile → (inputs : List CycleInput) (ended : Bool)
    → All (IsInput (length profile.events)) inputs → length inputs ≤ 1000000
    → IsRunRead profile (frames_by_kind kind profile inputs ended) ended (record_by_kind kind profile inputs ended)
kind_run_read Bank profile header inputs ended good few =
    run_is_read bank.meaning bank_ranges.Covers bank_ranges.Own bank_ranges.Fit bank_laws bank_spelled profile header inputs ended good few
kind_run_read Cloud profile header inputs ended good few =
    run_is_read cloud.meaning cloud_ranges.Covers cloud_ranges.Own cloud_ranges.Fit cloud_laws cloud_spelled profile header inputs ended
    good few
kind_run_read Guard profile header inputs ended good few =
    run_is_read guard.meaning guard_ranges.Covers guard_ranges.Own guard_ranges.Fit guard_laws guard_spelled profile header inputs ended
    good few

-- ---- what is passed on, by the kind of the first job

-- few inputs, which a record of this number of events can hold
record AreHeld (events : ℕ) (inputs : List CycleInput) : Type 0 where
  good : All (IsInput events) inputs
  few : length inputs ≤ 1000000

passed_on_held : {S G E L P : Type 0} (m : Meaning S G E L P) (first second : ProfileValue) (given : List CycleInput)
    → length second.events ≤ 256 → AreHeld (length first.events) given
    → AreHeld (length second.events) (derived m first given (length second.events))
passed_on_held m first second given small h =
    let few = h.few in
    let same = length-map (runs m first given) (chained_input (length second.events))
    ∙ length-runs m first [] given (first_state m first) in
    record { good = passed_held m first (length second.events) small given h.good; few = omega (arith, few, same) }

passed_by_kind : (kind : JobKind) (first : ProfileValue) (second : Client) (given : List CycleInput)
    → length second.profile.events ≤ 256 → AreHeld (length first.events) given
    → AreHeld (length second.profile.events) (passed_on (record { kind = kind; profile = first }) second given)
passed_by_kind Bank first second given small h = passed_on_held bank.meaning first second.profile given small h
passed_by_kind Cloud first second given small h = passed_on_held cloud.meaning first second.profile given small h
passed_by_kind Guard first second given small h = passed_on_held guard.meaning first second.profile given small h

-- ---- both

second_same : {S G E L P : Type 0} (m : Meaning S G E L P) (first : ProfileValue) (kind : JobKind) (second : ProfileValue)
    (stimulus : List ℕ) → (by_kind (λ T H F M Q n. chained m first n second stimulus) kind).bytes
    ≡ record_by_kind kind second (derived m first (blocks (length first.events) stimulus) (length second.events))
    (is_terminated (ending (length first.events) stimulus))
second_same m first Bank second stimulus = refl
second_same m first Cloud second stimulus = refl
second_same m first Guard second stimulus = refl

-- the bytes of a chain are the second client's record
bytes_same : (kind : JobKind) (first : ProfileValue) (second : Client) (stimulus : List ℕ)
    → (chained_by_kinds (record { kind = kind; profile = first }) second stimulus).bytes
    ≡ record_by_kind second.kind second.profile
    (passed_on (record { kind = kind; profile = first }) second (blocks (length first.events) stimulus))
    (is_terminated (ending (length first.events) stimulus))
bytes_same Bank first second stimulus = second_same bank.meaning first second.kind second.profile stimulus
bytes_same Cloud first second stimulus = second_same cloud.meaning first second.kind second.profile stimulus
bytes_same Guard first second stimulus = second_same guard.meaning first second.kind second.profile stimulus

chain_is_read_by : (first second : Client) (stimulus : List ℕ) → IsHeader second.profile → IsOfKind second.kind second.profile
    → IsChainRead first second stimulus (chained_by_kinds first second stimulus).bytes
chain_is_read_by first second stimulus header of =
    let events : ℕ = length first.profile.events in
    let given = blocks events stimulus in
    let ended = is_terminated (ending events stimulus) in
    let held = passed_by_kind first.kind first.profile second given header.few_events
    (record { good = all_held events stimulus; few = few_blocks events stimulus }) in
    let read = subst (λ (bytes : List ℕ). IsRunRead second.profile (second_frames first second given ended) ended bytes)
    (sym (bytes_same first.kind first.profile second stimulus))
    (kind_run_read second.kind second.profile header (passed_on first second given) ended held.good held.few) in
    record {
      read = read;
      checked = kind_is_checked second.kind second.profile of (passed_on first second given) ended
          (chained_by_kinds first second stimulus).bytes read;
    }

pub chain_is_read : ChainIsRead
chain_is_read strict first second stimulus seed m n small channel_after other =
    let number : ℕ = unwrap_or seed 0 in
    let taken = is_taken (manifest_of strict second) n other in
    subst (λ (o : Outcome). IsChainRead (client_of number m) (client_of number n) stimulus o.bytes)
    (sym (λ i. chained_from number stimulus (channel_after i) (other i)))
    (chain_is_read_by (client_of number m) (client_of number n) stimulus (is_header strict second n number small other)
    (record { number = refl; good = taken.good }))
