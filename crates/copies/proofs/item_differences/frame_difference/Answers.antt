use Rattle.std.proofs.Common.{drop, refl}
use Rattle.copies.proofs.Shown.{is_run, long_enough, undrawn_apart}
use Rattle.record_view.proofs.InitFrames.{of_init}
use Rattle.copies.proofs.item_differences.frame_difference.Goals as goal

pub view_init_elements-left-requires : goal.view_init_elements-left-requires
view_init_elements-left-requires c =
    let h = of_init c.args.left c.in-Init.elements c.requires.0 c.args.left_bytes.now c.in-Init.is c.requires.2 in (
      h.elements,
      drop c.args.left.len c.args.left_bytes.now,
      h.read,
      long_enough c.args.left c.args.left_bytes.now c.requires.0 h.long c.requires.2,
    )

pub view_init_elements-right-requires : goal.view_init_elements-right-requires
view_init_elements-right-requires c =
    let h = of_init c.args.right c.in-Init-kind.others c.requires.1 c.args.right_bytes.now c.in-Init-kind.is c.requires.3 in (
      h.elements,
      drop c.args.right.len c.args.right_bytes.now,
      h.read,
      long_enough c.args.right c.args.right_bytes.now c.requires.1 h.long c.requires.3,
    )

pub returns-in-Init-kind : goal.returns-in-Init-kind
returns-in-Init-kind c a b one other =
    let x = of_init c.args.left c.in-Init.elements a c.args.left_bytes.now c.in-Init.is one in
    let y = of_init c.args.right c.in-Init-kind.others b c.args.right_bytes.now c.in-Init-kind.is other in
    rw (
      x.is,
      y.is,
      c.at_element.ensures,
      c.elements_apart.ensures,
      c.view_init_elements-left.ensures.is x.elements _ x.read,
      c.view_init_elements-right.ensures.is y.elements _ y.read,
      undrawn_apart,
      c.saturating_sub-cycle.ensures,
    ) refl

pub run_difference-requires : goal.run_difference-requires
run_difference-requires c =
    let x = is_run c.args.left c.in-Run.input c.in-Run.outcome c.args.left_bytes.now c.requires.0 c.in-Run.is c.requires.2 in
    let y = is_run c.args.right c.in-Run-kind.other_input c.in-Run-kind.other_outcome c.args.right_bytes.now c.requires.1
    c.in-Run-kind.is c.requires.3 in
    rw (c.run_view-left.ensures, c.run_view-right.ensures) (x.0, y.0, x.1, y.1)
