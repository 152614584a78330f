use Rattle.std.proofs.Common.{take}
use Rattle.std.proofs.lemmas.Result.{err_from_is_err_and}
use Rattle.record_grammar.specs.Grammar.{name_byte_at}
use Rattle.record_view.proofs.Many.{HasMany-stops}
use Rattle.record_codec.proofs.Names.{HasName-next, HasName-done}
use Rattle.record_codec.proofs.read_header.event_name_of.Goals as goal

pub returns-in_err-after : goal.returns-in_err-after
returns-in_err-after c =
    let p = err_from_is_err_and c.from_residual.result c.from_residual.ensures.1 in
    rw (p.1, p.2) (HasMany-stops name_byte_at c.args.len c.loop.counter (take c.loop.counter c.args.bytes.now) c.loop.rest.now
    c.args.bytes.now c.in_err-after.field-0.0 c.loop-test.true c.in_err-after.ensures c.loop.invariant.so_far)

pub loop-preserved : goal.loop-preserved
loop-preserved c =
    HasName-next c.args.len c.loop.counter c.loop.rest.now c.args.bytes.now c.in_ok-after.field-0-0 c.in_ok-after.after.now c.loop-test.true
    c.in_ok-after.ensures c.loop.invariant

pub returns : goal.returns
returns c =
    let d = HasName-done c.args.len c.loop.counter c.loop.rest.now c.args.bytes.now c.requires.some c.requires.most c.loop-test.false
    c.loop.auto.counter-end c.loop.invariant in
    rw (c.in-Some.ensures.some.1, c.split_at.ensures.front, c.split_at.ensures.back) d.1
