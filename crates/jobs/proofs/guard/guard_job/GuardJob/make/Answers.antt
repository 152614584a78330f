use Rattle.std.proofs.Common.{◌≡◌, ◌≤◌, min, length, Some, ◌∙◌, rules, arith}
use Rattle.job_shared.specs.Params.{param, natural_param}
use Rattle.jobs.specs.guard.Meaning.{bad_param, made}
use Rattle.jobs.proofs.lemmas.guard.Made.{AreGood, none_bad, surplus_bad, same_guard}
use Rattle.jobs.proofs.guard.guard_job.GuardJob.make.Goals.{After-no_more_params}
use Rattle.jobs.proofs.guard.guard_job.GuardJob.make.Goals as goal

-- all five were taken
are_good : (c : After-no_more_params) → AreGood c.args.params.now
are_good c = record {
  channels = search (rules, c.in_ok-channels.ensures.ok);
  low = search (rules, c.in_ok-low.ensures.ok);
  high = search (rules, c.in_ok-high.ensures.ok);
  limit = search (rules, c.in_ok-limit.ensures.ok);
  most = search (rules, c.in_ok-most.ensures.ok);
}

pub returns-in_err-no_more_params : goal.returns-in_err-no_more_params
returns-in_err-no_more_params c =
    let ps = c.args.params.now in
    let good = are_good (goal.at.returns-in_err-no_more_params c).After-no_more_params in
    let bad : bad_param ps c.args.events ≡ Some 5 = surplus_bad ps c.args.events good (search (rules, c.in_err-no_more_params.ensures.err)) in
    search (rules, bad, c.in_err-no_more_params.ensures.err)

pub returns : goal.returns
returns c =
    let ps = c.args.params.now in
    let good = are_good (goal.at.returns c).After-no_more_params in
    let few : length ps ≤ 5 = search (rules, c.in_ok-no_more_params.ensures.ok) in
    let channels : c.in_ok-channels.channels ≡ natural_param ps 0 1 65536 = search (rules, c.in_ok-channels.ensures.ok) in
    let low : c.in_ok-low.low ≡ param ps 1 = search (rules, c.in_ok-low.ensures.ok) in
    let high : c.in_ok-high.high ≡ param ps 2 = search (rules, c.in_ok-high.ensures.ok) in
    let new : c.new.result ≡ record { low = c.in_ok-low.low; high = c.in_ok-high.high } = search (rules, c.new.ensures) in
    let bounds : c.new.result ≡ record { low = param ps 1; high = param ps 2 } = new ∙ (λ i. record { low = low i; high = high i }) in
    let limit : c.in_ok-limit.limit ≡ natural_param ps 3 1 1000 = search (rules, c.in_ok-limit.ensures.ok) in
    let most : c.in_ok-most.most ≡ natural_param ps 4 0 65536 = search (rules, c.in_ok-most.ensures.ok) in
    let events : c.args.events ≡ min 65535 c.args.events = omega arith in
    (none_bad ps c.args.events good few, same_guard _ (made ps c.args.events) channels bounds limit most events)
