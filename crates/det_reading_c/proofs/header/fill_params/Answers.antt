use Rattle.std.proofs.Common.{◌≡◌, ◌<◌, ℤ, ℕ, ◌+◌, List, [], ◌∷◌, ◌++◌, length, take, set, sym, ap, subst, ◌∙◌, arith, rules, SFits, w64}
use Rattle.std.proofs.lemmas.Int.{to_z-of_z}
use Rattle.std.proofs.lemmas.List.{take_more_set}
use Rattle.record_grammar.specs.Read.{Got, many}
use Rattle.record_grammar.specs.Grammar.{signed_at}
use Rattle.record_view.proofs.Many.{HasMany, HasMany-next, HasMany-stops, HasMany-done}
use Rattle.det_reading_c.proofs.header.fill_params.Goals as goal

pub returns-in-Err : goal.returns-in-Err
returns-in-Err c =
    HasMany-stops signed_at c.args.count c.params.index (take c.params.index c.params.params) c.params.rest.now c.args.bytes.now
    c.in-Err.stop c.params-test.true c.in-Err.ensures c.params.invariant

pub params-preserved : goal.params-preserved
params-preserved c =
    let lt : c.params.index < length c.params.params = omega (arith, c.params.auto.params) in
    let e : take (c.params.index + 1) (set c.params.params c.from.result c.in-Ok.param) ≡ take c.params.index c.params.params ++ c.in-Ok.param
    ∷ [] =
    ap (λ (i : ℕ). take (c.params.index + 1) (set c.params.params i c.in-Ok.param)) c.from.ensures
    ∙ take_more_set c.params.params c.params.index c.in-Ok.param lt in
    let fits : SFits w64 c.in-Ok.param = search rules in
    rw (to_z-of_z w64 c.in-Ok.param fits) (subst (λ (front : List ℤ). HasMany signed_at c.args.count (c.params.index + 1) front c.in-Ok.after.now c.args.bytes.now) (sym e)
    (HasMany-next signed_at c.args.count c.params.index (take c.params.index c.params.params) c.params.rest.now c.args.bytes.now
    c.in-Ok.param c.in-Ok.after.now c.params-test.true c.in-Ok.ensures c.params.invariant))

pub returns : goal.returns
returns c =
    let k : c.params.index ≡ c.args.count = omega arith in
    subst (λ (n : ℕ). many signed_at c.args.count c.args.bytes.now ≡ Got (take n c.params.params, c.params.rest.now)) k
    (HasMany-done signed_at c.args.count c.params.index (take c.params.index c.params.params) c.params.rest.now c.args.bytes.now
    c.params-test.false c.params.invariant)
