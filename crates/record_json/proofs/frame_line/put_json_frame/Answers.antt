use Rattle.std.proofs.Common.{arith}
use Rattle.record_view.proofs.InitFrames.{of_init}
use Rattle.record_json.proofs.frame_line.put_json_frame.Goals as goal

pub put_init-requires : goal.put_init-requires
put_init-requires c =
    let h = c.requires.1 in
    let k = of_init c.args.view c.in-Init.elements c.requires.0 c.args.bytes.now c.in-Init.is h in
    (k.elements, _, k.read, omega (arith, k.long, h.exact))
