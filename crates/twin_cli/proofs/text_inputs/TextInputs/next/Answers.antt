use Rattle.std.proofs.Common.{arith}
use Rattle.twin_cli.proofs.Sourcing.{comes}
use Rattle.twin_cli.proofs.text_inputs.TextInputs.next.Goals as goal

pub next_input-requires : goal.next_input-requires
next_input-requires c = let first = c.args.self.now.one in omega arith

pub returns : goal.returns
returns c = λ text events given b.
    comes text events _ _ b c.next_input.ensures.events _ c.next_input.ensures.input c.next_input.ensures.traffic.cause
