use Rattle.std.proofs.Common.{◌≡◌, ◌++◌, OnOk, subst}
use Rattle.det_values.specs.Spelling.{an_element, spelled_drawn}
use Rattle.jobs.proofs.guard.guard_job.GuardJob.put_drawn.Goals as goal

pub returns-clause-ok : goal.returns-clause-ok
returns-clause-ok c = let result = c.put_drawn_bytes in
    subst (λ xs. OnOk result.result (result.new.out.items ≡ c.args.out.now.items ++ spelled_drawn (an_element xs c.args.draws)))
    c.channel_bytes.ensures result.ensures.ok
