use Rattle.std.proofs.Common.{[], ◌∷◌}
use Rattle.std.specs.Option.{unwrap_or}
use Rattle.det_io.proofs.Counts.{rose-before}
use Rattle.det_io.proofs.Opening.{asks-then-prefix}
use Rattle.cli_answers.specs.Outcome.{known_bytes}
use Rattle.run_setup.specs.Setup.{setup_of}
use Rattle.run_setup.proofs.Keeping.{keeps-behind}
use Rattle.run_setup.proofs.Meeting.{meets-as}
use Rattle.cmd_run.proofs.lemmas.record_command.Recorded.{ends-record}
use Rattle.cmd_run.proofs.lemmas.record_command.ByManifest.{still-told, asked-manifest, asked-both}
use Rattle.cmd_run.specs.chain_command.Clients.{Client}
use Rattle.cmd_run.proofs.lemmas.chain_command.Second.{by-told, met-end}
use Rattle.cmd_run.proofs.chain_command.chain_task.chain_second.Goals as goal

pub returns-in-Err-clause-meets : goal.returns-in-Err-clause-meets
returns-in-Err-clause-meets g c =
    let task = c.args.task.now in
    let client : Client = record { kind = c.args.first.run.kind; profile = c.args.first.run.profile } in
    let end = c.in-Err.ensures.unplanned in
    rw c.from.ensures (met-end task.options.strict (g.S.Slots.sees c.args.shelf.now) task.second.now task.stimulus.now
    (unwrap_or task.options.seed 0) client _ _ _ _ c.in-Err.end end.refused end.cause end.writes_nothing)

pub returns-in-Err-clause-judged : goal.returns-in-Err-clause-judged
returns-in-Err-clause-judged g c = λ is_known.
    let task = c.args.task.now in
    let first = g.S.Slots.sees c.args.shelf.now in
    asked-manifest task.options.strict first task.second.now task.stimulus.now _
    (setup_of task.options.strict (known_bytes first task.second.now)) c.read_plan.ensures.asked

pub returns-clause-meets : goal.returns-clause-meets
returns-clause-meets g c =
    let task = c.args.task.now in
    let client : Client = record { kind = c.args.first.run.kind; profile = c.args.first.run.profile } in
    let first = g.S.Slots.sees c.args.shelf.now in
    let mid = g.S.Slots.sees c.read_plan.new.shelf in
    let plan = c.in-Ok.ensures.planned in
    let holds = c.read_plan.ensures.holds in
    let run = c.in-Ok.second.run in
    meets-as _ _ _ _ _ _ _ _
    (still-told task.options.strict first task.second.now task.stimulus.now plan.manifest plan.is mid holds)
    (by-told task.options.strict first task.second.now task.stimulus.now (unwrap_or task.options.seed 0) client plan.manifest plan.is mid
    run.kind run.profile holds plan.same_kind plan.same_profile)
    (rose-before _ _ _ c.read_plan.ensures.counted) c.chain_named_stimulus.ensures.meets

pub returns-clause-ends : goal.returns-clause-ends
returns-clause-ends g c = ends-record _ c.chain_named_stimulus.ensures.ends

pub returns-clause-asked : goal.returns-clause-asked
returns-clause-asked g c =
    let task = c.args.task.now in
    asks-then-prefix _ _ _ (task.second.now ∷ []) (task.stimulus.now ∷ []) c.read_plan.ensures.asked c.chain_named_stimulus.ensures.asked

pub returns-clause-judged : goal.returns-clause-judged
returns-clause-judged g c =
    let task = c.args.task.now in
    let plan = c.in-Ok.ensures.planned in
    asked-both task.options.strict (g.S.Slots.sees c.args.shelf.now) task.second.now task.stimulus.now plan.manifest plan.is _
    (asks-then-prefix _ _ _ (task.second.now ∷ []) (task.stimulus.now ∷ []) c.read_plan.ensures.asked c.chain_named_stimulus.ensures.asked)

pub returns-clause-earlier : goal.returns-clause-earlier
returns-clause-earlier g c =
    keeps-behind (g.S.Slots.sees c.args.shelf.now) (g.S.Slots.sees c.read_plan.new.shelf) (g.S.Slots.sees c.chain_named_stimulus.new.shelf)
    c.read_plan.ensures.piece c.chain_named_stimulus.ensures.earlier
