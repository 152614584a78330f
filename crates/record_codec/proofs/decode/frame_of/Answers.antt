use Rattle.std.proofs.Common.{map, sym, ap, ◌∙◌, arith}
use Rattle.det_values.specs.declared.frames.Frame.TheVariants as frames
use Rattle.record_grammar.specs.declared.item.Item.TheVariants as items
use Rattle.record_view.specs.Shows.{item_view}
use Rattle.record_view.proofs.InitFrames.{of_init}
use Rattle.record_view.proofs.Undrawn.{bytes_undrawn}
use Rattle.record_codec.specs.Parts.{bytes_of}
use Rattle.record_codec.proofs.Made.{may_stand, few_of_init, of_run, few_of_run}
use Rattle.record_codec.proofs.decode.frame_of.Goals as goal

pub view_init_elements-requires : goal.view_init_elements-requires
view_init_elements-requires c =
    let h = c.requires.1 in
    let k = of_init c.args.view c.in-Init.elements c.requires.0 c.args.bytes.now c.in-Init.is h in
    (k.elements, _, k.read, omega (arith, k.long, h.exact))

pub decode_elements-requires : goal.decode_elements-requires
decode_elements-requires c =
    omega (
      arith,
      c.view_init_elements.ensures.count,
      few_of_init c.args.view c.in-Init.elements c.requires.0 c.args.bytes.now c.in-Init.is c.requires.1
          (may_stand (item_view c.args.view) (items.Frame c.requires.0) c.args.bytes.now c.events_at-events.result
          c.events_at-events.ensures (omega (arith, c.events_at-events.type_inv)) (λ i l. omega (arith, c.type_inv.bytes i)) c.requires.1),
    )

pub returns-in_ok-elements-in-Init : goal.returns-in_ok-elements-in-Init
returns-in_ok-elements-in-Init c frame h =
    let k = of_init c.args.view c.in-Init.elements frame c.args.bytes.now c.in-Init.is h in
    ap frames.Init (c.in_ok-elements-in-Init.ensures
    ∙ ap (map bytes_of) (c.view_init_elements.ensures.is k.elements _ k.read) ∙ bytes_undrawn k.elements) ∙ sym k.is

pub decode_run-requires-clause-shows : goal.decode_run-requires-clause-shows
decode_run-requires-clause-shows c =
    let k = of_run c.args.view c.in-Run.input c.in-Run.outcome c.requires.0 c.args.bytes.now c.in-Run.is c.requires.1 in
    (_, k.run, k.shows)

pub decode_run-requires-clause-few : goal.decode_run-requires-clause-few
decode_run-requires-clause-few c =
    few_of_run c.args.view c.in-Run.input c.in-Run.outcome c.requires.0 c.args.bytes.now c.in-Run.is c.requires.1
    (may_stand (item_view c.args.view) (items.Frame c.requires.0) c.args.bytes.now c.events_at-events.result c.events_at-events.ensures
    (omega (arith, c.events_at-events.type_inv)) (λ i l. omega (arith, c.type_inv.bytes i)) c.requires.1)

pub returns-in_ok-run-in-Run : goal.returns-in_ok-run-in-Run
returns-in_ok-run-in-Run c frame h =
    let k = of_run c.args.view c.in-Run.input c.in-Run.outcome frame c.args.bytes.now c.in-Run.is h in
    ap frames.Run (c.in_ok-run-in-Run.ensures _ k.run k.shows) ∙ sym k.is
