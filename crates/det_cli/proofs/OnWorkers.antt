-- No outcome rests on the number of workers, and no name that is opened.
use Rattle.std.proofs.Common.{◌≡◌, ℕ, List, Result, refl, sym, ap, ◌∙◌}
use Rattle.std.specs.Prelude.{Bool, Option, unwrap_or}
use Rattle.probes.specs.Reports.{AudienceState}
use Rattle.cli_words.specs.declared.table.CommandWord.{CommandWord}
use Rattle.cli_words.specs.declared.table.CommandWord.TheVariants.{Demo, Record, Replay, Check, Compare, Show, Needs, Sim}
use Rattle.cli_words.specs.declared.table.CommandWord.TheVariants.{Salvage, Upgrade, Vote, Chain, Help, Version}
use Rattle.cli_words.specs.Command.{CommandValue}
use Rattle.manifest.specs.Values.{ManifestValue}
use Rattle.cli_answers.specs.declared.answer.BadManifest.{BadManifest}
use Rattle.cli_answers.specs.Outcome.{Outcome}
use Rattle.cmd_run.specs.record_command.Outcomes.{record_outcome}
use Rattle.cmd_run.proofs.lemmas.record_command.ByManifest.{recorded_by}
use Rattle.cmd_run.specs.chain_command.Chain.{chain_outcome}
use Rattle.cmd_run.specs.chain_command.Clients.{chained_from}
use Rattle.det_cli.specs.Outcome.{opened_by, outcome_by}
use Rattle.det_cli.specs.Laws.{on_workers, IsSameOn, DifferInWorkers}

same_names : (word : CommandWord) (number : Option ℕ) (c : CommandValue) (holds : List ℕ → List ℕ)
    → opened_by word (on_workers number c) holds ≡ opened_by word c holds
same_names Demo number c holds = refl
same_names Record number c holds = refl
same_names Replay number c holds = refl
same_names Check number c holds = refl
same_names Compare number c holds = refl
same_names Show number c holds = refl
same_names Needs number c holds = refl
same_names Sim number c holds = refl
same_names Salvage number c holds = refl
same_names Upgrade number c holds = refl
same_names Vote number c holds = refl
same_names Chain number c holds = refl
same_names Help number c holds = refl
same_names Version number c holds = refl

same_outcome : (word : CommandWord) (number : Option ℕ) (c : CommandValue) (holds : List ℕ → List ℕ) (audience : AudienceState)
    → outcome_by word (on_workers number c) holds audience ≡ outcome_by word c holds audience
same_outcome Demo number c holds audience = refl
same_outcome Record number c holds audience = refl
same_outcome Replay number c holds audience = refl
same_outcome Check number c holds audience = refl
same_outcome Compare number c holds audience = refl
same_outcome Show number c holds audience = refl
same_outcome Needs number c holds audience = refl
same_outcome Sim number c holds audience = refl
same_outcome Salvage number c holds audience = refl
same_outcome Upgrade number c holds audience = refl
same_outcome Vote number c holds audience = refl
same_outcome Chain number c holds audience = refl
same_outcome Help number c holds audience = refl
same_outcome Version number c holds audience = refl

pub same-on : (number : Option ℕ) (c : CommandValue) (holds : List ℕ → List ℕ) (audience : AudienceState)
    → IsSameOn number c holds audience
same-on number c holds audience = record {
  names = same_names c.word number c holds;
  same = same_outcome c.word number c holds audience;
}

pub same-record : (strict : Bool) (one other stimulus : List ℕ) (seed : Option ℕ) → DifferInWorkers strict one other
    → record_outcome strict other stimulus seed ≡ record_outcome strict one stimulus seed
same-record strict one other stimulus seed d =
    let by : Result ManifestValue BadManifest → Outcome = recorded_by (unwrap_or seed 0) stimulus in
    ap by d.second ∙ sym (ap by d.first)

pub same-chain : (strict : Bool) (first other second another stimulus : List ℕ) (seed : Option ℕ) → DifferInWorkers strict first other
    → DifferInWorkers strict second another
    → chain_outcome strict other another stimulus seed ≡ chain_outcome strict first second stimulus seed
same-chain strict first other second another stimulus seed d e =
    (λ i. chained_from (unwrap_or seed 0) stimulus (d.second i) (e.second i))
    ∙ sym (λ i. chained_from (unwrap_or seed 0) stimulus (d.first i) (e.first i))
