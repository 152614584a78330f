use Rattle.std.proofs.Common.{subst, ◌∙◌, Ok}
use Rattle.det_io.specs.Traffic.{sink_run}
use Rattle.det_io.proofs.SlotReads.{reads-none}
use Rattle.record_reader.specs.Frames.{slot_of}
use Rattle.probes.specs.Shows.{seen}
use Rattle.cli_answers.specs.Outcome.{Meets}
use Rattle.cmd_rerun.specs.check_command.Check.{outcome_by}
use Rattle.cmd_rerun.proofs.RestMeets.{rerun-no-memory}
use Rattle.cmd_rerun.proofs.lemmas.check_command.Meeting.{rerun-verdict, rerun-stop, rerun-unprinted}
use Rattle.cmd_rerun.proofs.lemmas.check_command.Seeing.{saw-verdict, saw-stop}
use Rattle.cmd_rerun.proofs.check_command.check_record.check_by_crew.Goals as goal

pub returns-in-Err-clause-rerun : goal.returns-in-Err-clause-rerun
returns-in-Err-clause-rerun g c =
    let none = reads-none (g.S.Slots.sees c.args.shelf.now) (slot_of c.args.run.frames) in
    rw (c.in-Err.ensures.shelf, c.in-Err.ensures.sink) (rerun-no-memory _ _ _ _ _ _ _ _ none)

pub returns-in-Err-checked-clause-rerun : goal.returns-in-Err-checked-clause-rerun
returns-in-Err-checked-clause-rerun g c =
    rerun-stop _ _ _ _ _ _ _ _ c.in-Ok.ensures.given c.in-Err-checked.stop _ c.in-Err-checked.is c.from.ensures

pub returns-in-Err-checked-clause-saw : goal.returns-in-Err-checked-clause-saw
returns-in-Err-checked-clause-saw g c read rest stands ne told =
    saw-stop _ _ _ read stands _ _ _ _ _ c.in-Ok.ensures.given c.in-Err-checked.stop rest _ c.in-Err-checked.is c.from.ensures ne told

pub returns-in_default-clause-rerun : goal.returns-in_default-clause-rerun
returns-in_default-clause-rerun g c = rerun-unprinted _ _ _ _ _ _ _ _ c.in-Ok.ensures.given

pub returns-clause-rerun : goal.returns-clause-rerun
returns-clause-rerun g c =
    let out = sink_run g.K.Sink.took g.K.Sink.faults c.with_crew.new.sink c.print_verdict.new.out in
    let printed = subst (λ reports. Meets (outcome_by (Ok c.in-Ok-checked.verdict) reports) (Unit {0}) ⊥ out c.print_verdict.result)
    (c.reports.ensures ∙ c.in-Ok-finish.ensures.left) c.print_verdict.ensures.meets in
    rerun-verdict _ _ _ _ _ _ _ _ c.in-Ok.ensures.given c.in-Ok-checked.verdict out.after out.faults_after c.print_verdict.result
    c.in-Ok-checked.is printed c.print_verdict.ensures.ends

pub returns-clause-saw : goal.returns-clause-saw
returns-clause-saw g c read rest stands ne told =
    let last = seen (λ b. (goal.Probe-dyn g (b.vtable, b.value)).life b.value) c.finish.new.self in
    saw-verdict _ _ _ read stands _ _ _ _ _ c.in-Ok.ensures.given c.in-Ok-checked.verdict rest last c.in-Ok-checked.is
    c.in-Ok-finish.ensures.none c.in-Ok-finish.ensures.left told
