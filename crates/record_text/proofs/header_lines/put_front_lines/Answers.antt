use Rattle.std.proofs.Common.{ap, ◌∙◌, ◌++◌}
use Rattle.record_text.specs.Records.{front_lines}
use Rattle.record_text.proofs.Fronts.{fronts_put}
use Rattle.record_text.proofs.header_lines.put_front_lines.Goals as goal

pub returns : goal.returns
returns c =
    fronts_put _ _ _ _ _ _ c.in_ok-put_format_line.ensures c.in_ok-put_number_line.ensures c.in_ok-put_number_line-2.ensures
    c.in_ok-put_number_line-3.ensures
    ∙ ap (λ p. c.args.out.now.items ++ front_lines p) c.profile.view_is
