use Rattle.std.proofs.Common.{◌∙◌}
use Rattle.record_codec.proofs.Ends.{ends-around}
use Rattle.record_codec.proofs.encode.encode_run_ends.Goals as goal

pub returns-clause-around : goal.returns-clause-around
returns-clause-around c elements many =
    ends-around c.args.input.now elements c.args.output.now c.args.out.now.items c.put_run_head.new.out.items c.put_output.new.out.items
    c.args.count _ c.in_ok-put_run_head.ensures (c.len-at.ensures ∙ c.put_run_head.new.out.ok.0) c.in_ok-put_output.ensures.ok many
