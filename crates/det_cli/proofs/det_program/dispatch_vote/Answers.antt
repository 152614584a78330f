use Rattle.std.proofs.Common.{refl, sym}
use Rattle.std.specs.Prelude.{true, false}
use Rattle.cli_words.specs.declared.table.CommandWord.TheVariants as words
use Rattle.cli_words.specs.Command.{command_value}
use Rattle.det_cli.proofs.Joining.{same-dissent, names-enough, names-few, runs-command}
use Rattle.det_cli.proofs.Plain.{runs-quiet}
use Rattle.det_cli.proofs.det_program.dispatch_vote.Goals as goal

pub vote_dissent-requires-clause-some : goal.vote_dissent-requires-clause-some
vote_dissent-requires-clause-some g c =
    names-enough (command_value c.args.command.now) words.Vote c.requires.range c.requires.word _ (λ name. name.now)
    c.as_slice-copies.ensures.names 3 refl

pub vote_dissent-requires-clause-few : goal.vote_dissent-requires-clause-few
vote_dissent-requires-clause-few g c =
    names-few (command_value c.args.command.now) words.Vote c.requires.range c.requires.word _ (λ name. name.now)
    c.as_slice-copies.ensures.names 7 refl

pub vote-requires-clause-some : goal.vote-requires-clause-some
vote-requires-clause-some g c =
    names-enough (command_value c.args.command.now) words.Vote c.requires.range c.requires.word _ (λ name. name.now)
    c.as_slice-copies.ensures.names 3 refl

pub vote-requires-clause-few : goal.vote-requires-clause-few
vote-requires-clause-few g c =
    names-few (command_value c.args.command.now) words.Vote c.requires.range c.requires.word _ (λ name. name.now)
    c.as_slice-copies.ensures.names 7 refl

pub returns-then-command : goal.returns-then-command
returns-then-command g c audience =
    let told = c.vote_dissent.ensures in
    runs-command (g.S.Slots.sees c.args.shelf.now) _ _ _ _ _ (command_value c.args.command.now) _
    (same-dissent _ words.Vote _ true c.requires.word (sym c.as_slice-copies.ensures.names) c.if-command.true)
    (runs-quiet (record { broken = λ t e. told.broken e; hidden = refl; seen = λ holds audience. tt }) told.meets told.ends
    told.asked (λ t. told.asked) told.earlier)

pub returns : goal.returns
returns g c audience =
    let told = c.vote.ensures in
    runs-command (g.S.Slots.sees c.args.shelf.now) _ _ _ _ _ (command_value c.args.command.now) _
    (same-dissent _ words.Vote _ false c.requires.word (sym c.as_slice-copies.ensures.names) c.if-command.false)
    (runs-quiet (record { broken = λ t e. told.broken e t; hidden = refl; seen = λ holds audience. tt }) told.meets told.ends
    told.asked (λ t. told.asked) told.earlier)
