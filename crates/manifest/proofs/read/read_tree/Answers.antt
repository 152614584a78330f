use Rattle.std.proofs.Common.{◌≡◌, ◌∙◌, ap, sym, None, Ok}
use Rattle.std.proofs.lemmas.Result.{err_from_is_err_and}
use Rattle.toml.specs.View.{view}
use Rattle.manifest.specs.Meaning.{by_event_names, named_in, events_of}
use Rattle.manifest.specs.Faults.{first_duplicate}
use Rattle.manifest.proofs.Order.{at_work, at_params, at_events, at_hardware, agrees-read}
use Rattle.manifest.proofs.Naming.{past_unknown, repeated, distinct, said_by}
use Rattle.manifest.proofs.read.read_tree.Goals.{After-as_slice}
use Rattle.manifest.proofs.read.read_tree.Goals as goal

-- no known key has a fault, and none is unknown
known : (c : After-as_slice) → named_in c.args.strict (view c.args.tree.now) ≡ by_event_names (view c.args.tree.now)
known c = past_unknown (view c.args.tree.now) c.args.strict None c.in_ok-work.ensures.judged.0 c.in_ok-params.ensures.0
    c.in_ok-events.ensures.read.0 c.in_ok-hardware.ensures.judged.0 c.in_ok-refuse_unknown.ensures.fits

-- the events that are searched for a name that comes twice
named : (c : After-as_slice) → first_duplicate (events_of (view c.args.tree.now)) ≡ first_duplicate c.as_slice.result.now
named c = ap first_duplicate (sym c.in_ok-events.ensures.read.1 ∙ sym c.as_slice.ensures.items)

pub returns-in_err-work : goal.returns-in_err-work
returns-in_err-work c =
    let p = err_from_is_err_and c.from_residual.result c.from_residual.ensures.1 in
    rw (p.1, p.2) (at_work (view c.args.tree.now) _ c.in_err-work.field-0.0 c.in_err-work.ensures.judged)

pub returns-in_err-params : goal.returns-in_err-params
returns-in_err-params c =
    let p = err_from_is_err_and c.from_residual-in_err-params.result c.from_residual-in_err-params.ensures.1 in
    rw (p.1, p.2) (agrees-read c.in_err-params.field-0.0 _ _ _ c.in_err-params.ensures
    (at_params (view c.args.tree.now) _ c.in_ok-work.ensures.judged.0))

pub returns-in_err-events : goal.returns-in_err-events
returns-in_err-events c =
    let p = err_from_is_err_and c.from_residual-in_err-events.result c.from_residual-in_err-events.ensures.1 in
    rw (p.1, p.2) (agrees-read c.in_err-events.field-0.0 _ _ _ c.in_err-events.ensures.read
    (at_events (view c.args.tree.now) _ c.in_ok-work.ensures.judged.0 c.in_ok-params.ensures.0))

pub returns-in_err-hardware : goal.returns-in_err-hardware
returns-in_err-hardware c =
    let p = err_from_is_err_and c.from_residual-in_err-hardware.result c.from_residual-in_err-hardware.ensures.1 in
    rw (p.1, p.2) (at_hardware (view c.args.tree.now) _ c.in_ok-work.ensures.judged.0 c.in_ok-params.ensures.0
    c.in_ok-events.ensures.read.0 c.in_err-hardware.field-0.0 c.in_err-hardware.ensures.judged)

pub returns-in_err-refuse_unknown : goal.returns-in_err-refuse_unknown
returns-in_err-refuse_unknown c =
    let p = err_from_is_err_and c.from_residual-in_err-refuse_unknown.result c.from_residual-in_err-refuse_unknown.ensures.1 in
    rw (p.1, p.2) (past_unknown (view c.args.tree.now) c.args.strict _ c.in_ok-work.ensures.judged.0 c.in_ok-params.ensures.0
    c.in_ok-events.ensures.read.0 c.in_ok-hardware.ensures.judged.0 c.in_err-refuse_unknown.ensures.fault)

pub returns-in-Some : goal.returns-in-Some
returns-in-Some c =
    let at = (goal.at.returns-in-Some c).After-as_slice in
    known at ∙ repeated (view c.args.tree.now) c.in-Some.number (named at ∙ sym c.in-Some.ensures)

pub returns : goal.returns
returns c =
    let at = (goal.at.returns c).After-as_slice in
    let tree = view c.args.tree.now in
    known at ∙ distinct tree (named at ∙ sym c.in_default.ensures)
    ∙ ap Ok (said_by tree _ c.in_ok-work.work _ _ c.in_ok-hardware.hardware c.in_ok-job.ensures c.in_ok-work.ensures.judged.1
    c.in_ok-params.ensures.1 c.in_ok-events.ensures.read.1 c.in_ok-hardware.ensures.judged.1)
