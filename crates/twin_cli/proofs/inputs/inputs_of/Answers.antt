use Rattle.std.proofs.Common.{[], ◌∷◌, sym, arith, length-append}
use Rattle.std.proofs.lemmas.Result.{err_from_is_err_and}
use Rattle.stimulus.proofs.lemmas.slot_reader.Reading.{none-of}
use Rattle.twin_cli.proofs.Sourcing.{gives, whole, stopped-line, stopped-calm, known-inputs}
use Rattle.twin_cli.proofs.inputs.inputs_of.Goals as goal

pub returns-in_err-input-clause-refused : goal.returns-in_err-input-clause-refused
returns-in_err-input-clause-refused c =
    let p = err_from_is_err_and c.from_residual.result c.from_residual.ensures.1 in
    rw (p.1, p.2) (stopped-line c.args.text c.args.events _ c.inputs.inputs c.in_err-input.field-0.0
    (c.in_err-input.ensures _ _ _ c.inputs.invariant))

pub returns-in_err-input-clause-calm : goal.returns-in_err-input-clause-calm
returns-in_err-input-clause-calm c =
    let p = err_from_is_err_and c.from_residual.result c.from_residual.ensures.1 in
    rw (p.1, p.2) (stopped-calm c.args.text c.args.events _ c.inputs.inputs c.in_err-input.field-0.0
    (c.in_err-input.ensures _ _ _ c.inputs.invariant))

pub push-requires : goal.push-requires
push-requires c =
    let g = gives c.args.text c.args.events _ c.inputs.inputs c.in-Some.input c.in_ok-input.field-0 c.in-Some.is
    (c.in_ok-input.ensures _ _ _ c.inputs.invariant) in
    let n = length-append c.inputs.inputs (c.in-Some.input ∷ []) in
    (omega arith, omega (arith, g.few, n))

pub returns-clause-inputs : goal.returns-clause-inputs
returns-clause-inputs c =
    let none = none-of c.in_ok-input.field-0 c.in_default.not-Some in
    sym (whole c.args.text c.args.events _ c.inputs.inputs c.in_ok-input.field-0 none (c.in_ok-input.ensures _ _ _ c.inputs.invariant)).all

pub returns-clause-whole : goal.returns-clause-whole
returns-clause-whole c =
    let none = none-of c.in_ok-input.field-0 c.in_default.not-Some in
    (whole c.args.text c.args.events _ c.inputs.inputs c.in_ok-input.field-0 none (c.in_ok-input.ensures _ _ _ c.inputs.invariant)).good

pub returns-clause-known : goal.returns-clause-known
returns-clause-known c =
    let none = none-of c.in_ok-input.field-0 c.in_default.not-Some in
    known-inputs c.args.text c.args.events c.inputs.inputs
    (whole c.args.text c.args.events _ c.inputs.inputs c.in_ok-input.field-0 none (c.in_ok-input.ensures _ _ _ c.inputs.invariant)).all
