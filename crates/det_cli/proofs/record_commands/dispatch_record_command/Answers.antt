use Rattle.std.proofs.Common.{[], ◌∷◌, refl, rules}
use Rattle.cli_words.specs.declared.table.CommandWord.TheVariants as words
use Rattle.cli_words.specs.Command.{command_value}
use Rattle.det_cli.proofs.Joining.{both-names, all-names, workers-fit}
use Rattle.det_cli.proofs.Plain.{plain-command, plain-sole}
use Rattle.det_cli.proofs.ThroughBuffer.{other-word}
use Rattle.det_cli.proofs.record_commands.dispatch_record_command.Goals as goal

pub record_by_manifest-requires : goal.record_by_manifest-requires
record_by_manifest-requires g c = search (rules, workers-fit (command_value c.args.command.now) c.requires.range)

pub returns-in-Demo : goal.returns-in-Demo
returns-in-Demo g c audience =
    let told = c.demo.ensures in
    plain-sole (command_value c.args.command.now) words.Demo c.requires.range c.in-Demo.is c.name-first.result.now c.name-first.ensures
    _ _ _ audience _ refl refl refl told.meets told.ends told.asked refl told.earlier

pub returns-in-Record : goal.returns-in-Record
returns-in-Record g c audience =
    let seen = command_value c.args.command.now in
    let manifest = c.name-first.result.now in
    let stimulus = c.name-second.result.now in
    let is = both-names seen words.Record c.requires.range c.in-Record.is refl refl manifest stimulus c.name-first.ensures
    c.name-second.ensures in
    let told = c.record_by_manifest.ensures in
    plain-command seen words.Record (manifest ∷ stimulus ∷ []) c.in-Record.is is _ _ _ audience _ refl told.meets told.ends told.asked
    told.judged told.earlier

pub returns-in-Replay : goal.returns-in-Replay
returns-in-Replay g c audience =
    let told = c.replay.ensures in
    plain-sole (command_value c.args.command.now) words.Replay c.requires.range c.in-Replay.is c.name-first.result.now c.name-first.ensures
    _ _ _ audience _ refl refl refl told.meets told.ends told.asked refl told.earlier

pub returns-in-Upgrade : goal.returns-in-Upgrade
returns-in-Upgrade g c audience =
    let told = c.upgrade.ensures in
    plain-sole (command_value c.args.command.now) words.Upgrade c.requires.range c.in-Upgrade.is c.name-first.result.now c.name-first.ensures
    _ _ _ audience _ refl refl refl told.meets told.ends told.asked refl told.earlier

pub workers_by_option-requires : goal.workers_by_option-requires
workers_by_option-requires g c = workers-fit (command_value c.args.command.now) c.requires.range

pub workers_by_option-requires-in-Upgrade : goal.workers_by_option-requires-in-Upgrade
workers_by_option-requires-in-Upgrade g c = workers-fit (command_value c.args.command.now) c.requires.range

pub chain-requires : goal.chain-requires
chain-requires g c = search (rules, workers-fit (command_value c.args.command.now) c.requires.range)

pub returns-in-Chain : goal.returns-in-Chain
returns-in-Chain g c audience =
    let seen = command_value c.args.command.now in
    let first = c.name-first.result.now in
    let second = c.name-second.result.now in
    let stimulus = c.name.result.now in
    let is = all-names seen words.Chain c.requires.range c.in-Chain.is refl refl first second stimulus c.name-first.ensures
    c.name-second.ensures c.name.ensures in
    let told = c.chain.ensures in
    plain-command seen words.Chain (first ∷ second ∷ stimulus ∷ []) c.in-Chain.is is _ _ _ audience _ refl told.meets told.ends
    told.asked told.judged told.earlier

pub unreachable-requires : goal.unreachable-requires
unreachable-requires g c = other-word c.args.command.now.word c.requires.word c.in_default.not-Demo c.in_default.not-Record
    c.in_default.not-Replay
    c.in_default.not-Upgrade c.in_default.not-Chain
