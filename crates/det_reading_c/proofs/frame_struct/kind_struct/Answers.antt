use Rattle.std.proofs.Common.{sym, subst}
use Rattle.det_values.specs.declared.format.Format.{Format}
use Rattle.record_view.specs.Shows.{ShowsOutcome}
use Rattle.det_reading_c.proofs.Parts.{register_at, discover_at, init_at, run_at, terminate_at}
use Rattle.det_reading_c.proofs.frame_struct.kind_struct.Goals as goal

pub returns-in-Register-clause-parts : goal.returns-in-Register-clause-parts
returns-in-Register-clause-parts c frame s =
    register_at c.args.place c.bare_frame.result c.args.length c.args.bytes.now frame c.bare_frame.ensures.parts c.bare_frame.ensures.tag
    (rw c.in-Register.is at s)

pub returns-in-Discover-clause-parts : goal.returns-in-Discover-clause-parts
returns-in-Discover-clause-parts c frame s =
    discover_at c.args.place c.bare_frame-in-Discover.result c.args.length c.args.bytes.now frame c.bare_frame-in-Discover.ensures.parts c.bare_frame-in-Discover.ensures.tag
    (rw c.in-Discover.is at s)

pub returns-in-Init-clause-parts : goal.returns-in-Init-clause-parts
returns-in-Init-clause-parts c frame s =
    init_at c.args.place c.init_frame.result c.in-Init.elements c.args.length c.args.bytes.now frame c.init_frame.ensures.parts
    (rw c.in-Init.is at s)

pub returns-in-Run-clause-parts : goal.returns-in-Run-clause-parts
returns-in-Run-clause-parts c frame s =
    run_at c.args.place c.cycle_struct.result c.in-Run.input c.in-Run.outcome c.args.length c.args.bytes.now frame
    (λ events given value i o. c.cycle_struct.ensures.parts events given value i
    (subst (λ (f : Format). ShowsOutcome f c.in-Run.outcome c.args.length c.args.bytes.now value) (sym c.format_at.ensures) o))
    (rw c.in-Run.is at s)

pub returns-in-Terminate-clause-parts : goal.returns-in-Terminate-clause-parts
returns-in-Terminate-clause-parts c frame s =
    terminate_at c.args.place c.bare_frame-in-Terminate.result c.args.length c.args.bytes.now frame c.bare_frame-in-Terminate.ensures.parts c.bare_frame-in-Terminate.ensures.tag
    (rw c.in-Terminate.is at s)
