use Rattle.std.proofs.lemmas.Result.{on_ok_weaker}
use Rattle.record_json.proofs.Viewed.{init_put}
use Rattle.record_json.proofs.frame_line.put_init.Goals as goal

pub returns : goal.returns
returns c =
    on_ok_weaker c.put_str-2.result
    (λ put elements rest h. init_put c.args.layout c.view_init_elements.result elements _ _ _ _
    (c.view_init_elements.ensures.is elements rest h) c.in_ok-put_str.ensures c.in_ok-put_elements.ensures put) c.put_str-2.ensures
