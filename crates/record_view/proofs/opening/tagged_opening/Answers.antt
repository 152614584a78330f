use Rattle.std.proofs.Common.{refl, []}
use Rattle.det_values.specs.declared.frames.Frame.TheVariants as frames
use Rattle.record_grammar.specs.declared.item.Item.TheVariants as items
use Rattle.record_view.specs.Opening.{ready, init_of, tagged_opening}
use Rattle.record_view.proofs.Reading.{one_byte, five_bytes}
use Rattle.record_view.proofs.opening.tagged_opening.Goals as goal

pub returns-in-Register-eq1 : goal.returns-in-Register-eq1
unfolding tagged_opening
returns-in-Register-eq1 c =
    let b = one_byte c.args.bytes.now c.args.rest.now c.args.tag c.requires in
    (ready (items.Frame frames.Register), rw (c.in-Register-eq1.is-0, c.in-Register-eq1.is-1) refl, (1, b.0, b.1, tt))

pub returns-in-Discover-eq2 : goal.returns-in-Discover-eq2
unfolding tagged_opening
returns-in-Discover-eq2 c =
    let b = one_byte c.args.bytes.now c.args.rest.now c.args.tag c.requires in
    (ready (items.Frame frames.Discover), rw (c.in-Discover-eq2.is-0, c.in-Discover-eq2.is-1) refl, (1, b.0, b.1, tt))

pub returns-in-Runs-eq5 : goal.returns-in-Runs-eq5
unfolding tagged_opening
returns-in-Runs-eq5 c =
    let b = one_byte c.args.bytes.now c.args.rest.now c.args.tag c.requires in
    (ready (items.Frame frames.Terminate), rw (c.in-Runs-eq5.is-0, c.in-Runs-eq5.is-1) refl, (1, b.0, b.1, tt))

pub returns-in-Ok : goal.returns-in-Ok
unfolding tagged_opening
returns-in-Ok c =
    let b = five_bytes c.args.bytes.now c.args.rest.now c.in-Ok.others.now c.args.tag c.in-Ok.elements c.requires c.in-Ok.ensures.gives in (
      init_of [] c.in-Ok.elements,
      rw (c.in-Init-eq3.is-0, c.in-Init-eq3.is-1, c.in-Ok.ensures.gives) refl,
      (refl, refl, b.0, b.1),
    )
