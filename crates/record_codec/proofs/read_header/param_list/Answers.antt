use Rattle.std.proofs.Common.{◌≡◌, ◌++◌, ◌∷◌, [], arith}
use Rattle.std.proofs.lemmas.Int.{to_z-of_z}
use Rattle.std.proofs.lemmas.Result.{err_from_is_err_and}
use Rattle.record_grammar.specs.Grammar.{signed_at}
use Rattle.record_view.proofs.Many.{HasMany-next, HasMany-stops, HasMany-done}
use Rattle.record_codec.proofs.read_header.param_list.Goals as goal

pub returns-in_err-param : goal.returns-in_err-param
returns-in_err-param c =
    let p = err_from_is_err_and c.from_residual.result c.from_residual.ensures.1 in
    rw (p.1, p.2) (HasMany-stops signed_at c.args.count c.loop.counter c.loop.params.items c.loop.rest.now c.args.bytes.now
    c.in_err-param.field-0.0 c.loop-test.true c.in_err-param.ensures c.loop.invariant)

pub loop-preserved : goal.loop-preserved
loop-preserved c =
    let e : c.push.new.self.items ≡ c.loop.params.items ++ c.in_ok-param.param
    ∷ [] = grind (arith, to_z-of_z, c.in-Ok.ensures.items, c.i64_at.type_inv) in
    rw e (HasMany-next signed_at c.args.count c.loop.counter c.loop.params.items c.loop.rest.now c.args.bytes.now c.in_ok-param.param
    c.in_ok-param.after.now c.loop-test.true c.in_ok-param.ensures c.loop.invariant)

pub returns : goal.returns
returns c =
    rw c.from_vec.ensures (HasMany-done signed_at c.args.count c.loop.counter c.loop.params.items c.loop.rest.now c.args.bytes.now
    c.loop-test.false c.loop.invariant)
