use Rattle.std.proofs.lemmas.Result.{err_from_is_err_and}
use Rattle.record_grammar.specs.Grammar.{event_at}
use Rattle.record_view.proofs.Many.{HasMany-next, HasMany-done}
use Rattle.record_codec.proofs.Names.{HasMany-ends, knows_push}
use Rattle.record_codec.proofs.read_header.event_list.Goals as goal

pub returns-in_err-event-clause-gives : goal.returns-in_err-event-clause-gives
returns-in_err-event-clause-gives c =
    let p = err_from_is_err_and c.from_residual.result c.from_residual.ensures.1 in
    rw (p.1, p.2) (HasMany-ends (event_at c.args.format) c.args.count c.loop.counter c.loop.events.items c.loop.rest.now c.args.bytes.now
    c.in_err-event.field-0.0 c.loop-test.true c.in_err-event.ensures.gives c.loop.invariant.read)

pub loop-preserved : goal.loop-preserved
loop-preserved c = rw c.in-Ok.ensures.items (record {
  read =
      HasMany-next (event_at c.args.format) c.args.count c.loop.counter c.loop.events.items c.loop.rest.now c.args.bytes.now
      c.in_ok-event.event c.in_ok-event.after.now c.loop-test.true c.in_ok-event.ensures.gives c.loop.invariant.read;
  known = knows_push c.args.format c.loop.events.items c.in_ok-event.event c.loop.invariant.known c.in_ok-event.ensures.known;
})

pub returns-clause-gives : goal.returns-clause-gives
returns-clause-gives c =
    rw c.from_vec.ensures (HasMany-done (event_at c.args.format) c.args.count c.loop.counter c.loop.events.items c.loop.rest.now
    c.args.bytes.now c.loop-test.false c.loop.invariant.read)
