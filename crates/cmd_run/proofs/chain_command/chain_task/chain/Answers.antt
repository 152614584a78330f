use Rattle.std.proofs.Common.{[], ◌∷◌}
use Rattle.std.specs.Option.{unwrap_or}
use Rattle.det_io.proofs.Counts.{rose-before}
use Rattle.det_io.proofs.Opening.{asks-then-prefix}
use Rattle.cli_answers.specs.Outcome.{known_bytes}
use Rattle.run_setup.specs.Setup.{setup_of}
use Rattle.run_setup.proofs.Keeping.{keeps-behind}
use Rattle.run_setup.proofs.Meeting.{meets-as}
use Rattle.cmd_run.proofs.lemmas.chain_command.First.{is_known-rest, by-first, met-first, asked-first, asked-all}
use Rattle.cmd_run.proofs.chain_command.chain_task.chain.Goals as goal

pub returns-in-Err-clause-meets : goal.returns-in-Err-clause-meets
returns-in-Err-clause-meets g c =
    let task = c.args.task.now in
    let end = c.in-Err.ensures.unplanned in
    rw c.from.ensures (met-first task.options.strict (g.S.Slots.sees c.args.shelf.now) task.first.now task.second.now task.stimulus.now
    (unwrap_or task.options.seed 0) _ _ _ _ c.in-Err.end end.refused end.cause end.writes_nothing)

pub returns-in-Err-clause-judged : goal.returns-in-Err-clause-judged
returns-in-Err-clause-judged g c = λ is_known.
    let task = c.args.task.now in
    let first = g.S.Slots.sees c.args.shelf.now in
    asked-first task.options.strict first task.first.now task.second.now task.stimulus.now _
    (setup_of task.options.strict (known_bytes first task.first.now)) c.read_plan.ensures.asked

pub returns-clause-meets : goal.returns-clause-meets
returns-clause-meets g c =
    let task = c.args.task.now in
    let first = g.S.Slots.sees c.args.shelf.now in
    let mid = g.S.Slots.sees c.read_plan.new.shelf in
    let plan = c.in-Ok.ensures.planned in
    let holds = c.read_plan.ensures.holds in
    let run = c.in-Ok.first.run in
    meets-as _ _ _ _ _ _ _ _
    (is_known-rest task.options.strict first task.first.now task.second.now task.stimulus.now plan.manifest plan.is mid holds)
    (by-first task.options.strict first task.first.now task.second.now task.stimulus.now plan.manifest plan.is mid holds
    (unwrap_or task.options.seed 0) run.kind run.profile plan.same_kind plan.same_profile)
    (rose-before _ _ _ c.read_plan.ensures.counted) c.chain_second.ensures.meets

pub returns-clause-asked : goal.returns-clause-asked
returns-clause-asked g c =
    let task = c.args.task.now in
    asks-then-prefix _ _ _ (task.first.now ∷ []) (task.second.now ∷ task.stimulus.now ∷ []) c.read_plan.ensures.asked
    c.chain_second.ensures.asked

pub returns-clause-judged : goal.returns-clause-judged
returns-clause-judged g c = λ is_known.
    let task = c.args.task.now in
    let first = g.S.Slots.sees c.args.shelf.now in
    let mid = g.S.Slots.sees c.read_plan.new.shelf in
    let plan = c.in-Ok.ensures.planned in
    let holds = c.read_plan.ensures.holds in
    asked-all task.options.strict first task.first.now task.second.now task.stimulus.now plan.manifest plan.is mid holds _
    c.read_plan.ensures.asked
    (c.chain_second.ensures.judged
    (is_known-rest task.options.strict first task.first.now task.second.now task.stimulus.now plan.manifest plan.is mid holds is_known))
    is_known

pub returns-clause-earlier : goal.returns-clause-earlier
returns-clause-earlier g c =
    keeps-behind (g.S.Slots.sees c.args.shelf.now) (g.S.Slots.sees c.read_plan.new.shelf) (g.S.Slots.sees c.chain_second.new.shelf)
    c.read_plan.ensures.piece c.chain_second.ensures.earlier
