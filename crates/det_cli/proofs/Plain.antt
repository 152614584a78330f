-- A run of a command that shows no runs and writes nothing while it reads.
use Rattle.std.proofs.Common.{◌≡◌, ℕ, List, [], ◌∷◌, Bool, true, false, refl, sym, subst, ◌∙◌}
use Rattle.det_io.specs.Count.{Rose}
use Rattle.det_io.specs.Shelf.{ShelfState, AsksPrefix}
use Rattle.det_io.specs.Traffic.{SinkRun}
use Rattle.probes.specs.Reports.{AudienceState}
use Rattle.cli_answers.specs.declared.answer.Answer.{Answer}
use Rattle.cli_answers.specs.declared.answer.Answer.TheVariants.{ReadFault}
use Rattle.cli_answers.specs.Ends.{can_end}
use Rattle.cli_answers.specs.Outcome.{Meets, known_bytes}
use Rattle.cli_answers.specs.Slots.{KeepsSlots}
use Rattle.cli_words.specs.declared.table.CommandWord.{CommandWord}
use Rattle.cli_words.specs.declared.table.CommandWord.TheVariants as words
use Rattle.cli_words.specs.Table.{row}
use Rattle.cli_words.specs.Command.{CommandValue, files_of, name_at}
use Rattle.cli_words.specs.Ranges.{IsInRange}
use Rattle.det_cli.specs.Outcome.{opened_by, is_showing, work_of, outcome_by}
use Rattle.det_cli.specs.Promise.{Runs, SeenBy, BrokenBy, KnowsAllBytes}
use Rattle.det_cli.specs.Records.{writes_record}
use Rattle.det_cli.proofs.Joining.{same-command, sole-name, runs-command}

abbrev pub is_plain : CommandWord → Bool
is_plain words.Check = false
is_plain words.Show = false
is_plain words.Sim = false
is_plain words.Salvage = false
is_plain words.Vote = false
is_plain other = true

-- each of the five that write the record of a run is plain
pub plain-record : (word : CommandWord) → writes_record word ≡ true → is_plain word ≡ true
plain-record words.Demo e = refl
plain-record words.Record e = refl
plain-record words.Replay e = refl
plain-record words.Upgrade e = refl
plain-record words.Chain e = refl
plain-record words.Needs e = refl
plain-record words.Compare e = refl
plain-record words.Help e = refl
plain-record words.Version e = refl
plain-record words.Check e = absurd cc
plain-record words.Show e = absurd cc
plain-record words.Sim e = absurd cc
plain-record words.Salvage e = absurd cc
plain-record words.Vote e = absurd cc

-- what is said of a failed read, of the audience, and of what is shown
pub record Quiet (word : CommandWord) (c : CommandValue) (first last : ShelfState) (out : SinkRun) (answer : Answer) : Type 0 where
  pub broken : KnowsAllBytes c first → answer ≡ ReadFault → BrokenBy word c first last out
  pub hidden : is_showing word c ≡ false
  pub seen : (holds : List ℕ → List ℕ) (audience : AudienceState) → SeenBy word c holds audience audience out

quiet : (c : CommandValue) (first last : ShelfState) (out : SinkRun) (answer : Answer) (word : CommandWord) → is_plain word ≡ true
    → Quiet word c first last out answer
quiet c first last out answer words.Demo e = record { broken = λ t e. tt; hidden = refl; seen = λ holds audience. tt }
quiet c first last out answer words.Record e = record { broken = λ t e. tt; hidden = refl; seen = λ holds audience. tt }
quiet c first last out answer words.Replay e = record { broken = λ t e. tt; hidden = refl; seen = λ holds audience. tt }
quiet c first last out answer words.Upgrade e = record { broken = λ t e. tt; hidden = refl; seen = λ holds audience. tt }
quiet c first last out answer words.Chain e = record { broken = λ t e. tt; hidden = refl; seen = λ holds audience. tt }
quiet c first last out answer words.Needs e = record { broken = λ t e. tt; hidden = refl; seen = λ holds audience. tt }
quiet c first last out answer words.Compare e = record { broken = λ t e. tt; hidden = refl; seen = λ holds audience. tt }
quiet c first last out answer words.Help e = record { broken = λ t e. tt; hidden = refl; seen = λ holds audience. tt }
quiet c first last out answer words.Version e = record { broken = λ t e. tt; hidden = refl; seen = λ holds audience. tt }
quiet c first last out answer words.Check e = absurd cc
quiet c first last out answer words.Show e = absurd cc
quiet c first last out answer words.Sim e = absurd cc
quiet c first last out answer words.Salvage e = absurd cc
quiet c first last out answer words.Vote e = absurd cc

-- a run of a command of which this is said
pub runs-quiet : {c : CommandValue} {first last : ShelfState} {out : SinkRun} {audience : AudienceState} {answer : Answer}
    → Quiet c.word c first last out answer
    → Meets (outcome_by c.word c (known_bytes first) audience) (KnowsAllBytes c first) (Rose first.faults last.faults) out answer
    → can_end (work_of c.word) answer ≡ true → AsksPrefix first last (files_of c)
    → (KnowsAllBytes c first → AsksPrefix first last (opened_by c.word c (known_bytes first)))
    → KeepsSlots first last → Runs c first last out audience audience answer
runs-quiet {first = first} {audience = audience} q meets ends asked needed earlier = record {
  meets = meets;
  broken = q.broken;
  ends = ends;
  asked = asked;
  needed = needed;
  earlier = earlier;
  left = λ e. refl;
  gone = λ e. let never = sym q.hidden ∙ e in absurd cc;
  saw = λ t ne. q.seen (known_bytes first) audience;
}

-- what is left to show of a plain command
pub runs-plain : (c : CommandValue) (first last : ShelfState) (out : SinkRun) (audience : AudienceState) (answer : Answer)
    → is_plain c.word ≡ true
    → Meets (outcome_by c.word c (known_bytes first) audience) (KnowsAllBytes c first) (Rose first.faults last.faults) out answer
    → can_end (work_of c.word) answer ≡ true → AsksPrefix first last (files_of c)
    → (KnowsAllBytes c first → AsksPrefix first last (opened_by c.word c (known_bytes first)))
    → KeepsSlots first last → Runs c first last out audience audience answer
runs-plain c first last out audience answer plain meets ends asked needed earlier =
    runs-quiet (quiet c first last out answer c.word plain) meets ends asked needed earlier

-- the same for a command that is known by its word and its names
module _ (c : CommandValue) (word : CommandWord) (names : List (List ℕ)) (is : c.word ≡ word) (named : c.names ≡ names) where
  abbrev pub command_by : CommandValue
  command_by = record { word = word; names = names; options = c.options }

  pub plain-command : (first last : ShelfState) (out : SinkRun) (audience : AudienceState) (answer : Answer) → is_plain word ≡ true
      → Meets (outcome_by word command_by (known_bytes first) audience) (KnowsAllBytes command_by first)
      (Rose first.faults last.faults) out answer
      → can_end (work_of word) answer ≡ true → AsksPrefix first last (files_of command_by)
      → (KnowsAllBytes command_by first → AsksPrefix first last (opened_by word command_by (known_bytes first)))
      → KeepsSlots first last → Runs c first last out audience audience answer
  plain-command first last out audience answer plain meets ends asked needed earlier =
      runs-command first last out audience audience answer c command_by (same-command c word names is named)
      (runs-plain command_by first last out audience answer plain meets ends asked needed earlier)

-- the same for a command with one name
module _ (c : CommandValue) (word : CommandWord) (range : IsInRange c) (is : c.word ≡ word) (name : List ℕ) (named : name ≡ name_at 0 c)
  where
    abbrev pub sole_command : CommandValue
    sole_command = record { word = word; names = name ∷ []; options = c.options }

    pub plain-sole : (first last : ShelfState) (out : SinkRun) (audience : AudienceState) (answer : Answer) → (row word).least ≡ 1
        → (row word).most ≡ 1 → is_plain word ≡ true
        → Meets (outcome_by word sole_command (known_bytes first) audience) (KnowsAllBytes sole_command first)
        (Rose first.faults last.faults) out answer
        → can_end (work_of word) answer ≡ true → AsksPrefix first last (files_of sole_command)
        → opened_by word sole_command (known_bytes first) ≡ files_of sole_command
        → KeepsSlots first last → Runs c first last out audience audience answer
    plain-sole first last out audience answer least most plain meets ends asked opened earlier =
        plain-command c word (name ∷ []) is (sole-name c word range is least most name named) first last out audience answer plain
        meets ends asked (λ t. subst (λ (names : List (List ℕ)). AsksPrefix first last names) (sym opened) asked) earlier
