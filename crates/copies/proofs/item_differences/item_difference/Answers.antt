use Rattle.copies.proofs.Shown.{is_header}
use Rattle.copies.proofs.item_differences.item_difference.Goals as goal

pub returns-in-None-as_frame : goal.returns-in-None-as_frame
returns-in-None-as_frame c a b one other =
    let x = is_header c.args.left c.args.left_bytes.now a c.in-None.ensures.none one in
    let y = is_header c.args.right c.args.right_bytes.now b c.in-None-as_frame.ensures.none other in
    rw (x.1, y.1) (c.header_difference.ensures x.0 y.0 (rw x.1 at one) (rw y.1 at other) c.args.row)
