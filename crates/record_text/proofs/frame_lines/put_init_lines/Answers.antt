use Rattle.std.proofs.lemmas.Result.{on_ok_weaker}
use Rattle.record_text.proofs.Viewed.{init_put}
use Rattle.record_text.proofs.frame_lines.put_init_lines.Goals as goal

pub returns : goal.returns
returns c =
    on_ok_weaker c.put_drawn_lines.result
    (λ put elements rest h. init_put c.view_init_elements.result elements c.args.count _ _ _ (c.view_init_elements.ensures.is elements rest h)
    c.view_init_elements.ensures.count c.in_ok-put_number_line.ensures put) c.put_drawn_lines.ensures
