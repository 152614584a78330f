use Rattle.std.proofs.Common.{sym, None}
use Rattle.cli_words.specs.Names.{texts}
use Rattle.cli_words.specs.Command.{command_value}
use Rattle.det_cli.proofs.Joining.{runs-words, refuses}
use Rattle.det_cli.proofs.det_program.dispatch_words.Goals as goal

pub dispatch_command-requires : goal.dispatch_command-requires
dispatch_command-requires g c =
    record { range = c.option_range_law.ensures (texts c.args.words.now) (command_value c.in-Some.command) (sym c.in-Some.ensures) }

pub returns-in-Some : goal.returns-in-Some
returns-in-Some g c =
    runs-words (g.S.Slots.sees c.args.shelf.now) _ _ _ _ _ _ _ (sym c.in-Some.ensures) c.dispatch_command.ensures

pub returns-in-None : goal.returns-in-None
returns-in-None g c =
    let first = g.S.Slots.sees c.args.shelf.now in
    runs-words first _ _ _ _ _ _ None (sym c.in-None.ensures) (refuses first _ _ _ _)
