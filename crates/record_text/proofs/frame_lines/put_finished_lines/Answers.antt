use Rattle.std.proofs.lemmas.Result.{on_ok_weaker}
use Rattle.record_text.proofs.Viewed.{finished_put}
use Rattle.record_text.proofs.frame_lines.put_finished_lines.Goals as goal

pub returns : goal.returns
returns c =
    on_ok_weaker c.put_output_line.result
    (λ put len outcome h. finished_put c.args.format outcome c.args.count c.view_elements.result c.view_output.result.now _ _ _ _
    (c.view_elements.ensures.is c.args.output_at len outcome h)
    (c.view_output.ensures c.args.format c.args.count c.args.at len outcome h) c.view_elements.ensures.count
    c.in_ok-put_number_line.ensures c.in_ok-put_drawn_lines.ensures put) c.put_output_line.ensures
