use Rattle.std.proofs.Common.{◌≡◌, ◌+◌, ap, refl, arith}
use Rattle.probes.specs.Shipped.{counted, outcome_refused}
use Rattle.probes.proofs.Lives.{refused_seen, finished_seen, refused_alone, finished_alone}
use Rattle.probes.proofs.first_refusal.FirstRefusalProbeProbe.see.Goals as goal

pub returns-in-Refused-clause-sees : goal.returns-in-Refused-clause-sees
returns-in-Refused-clause-sees c =
    let count : c.saturating_add-self.result ≡ counted (c.args.self.now.seen + 1) = omega arith in
    refused_seen c.args.self.now.seen c.args.self.now.at c.args.run.now c.in-Refused.at c.saturating_add-self.result c.in-Refused.is count

pub returns-in-Refused-clause-leaves : goal.returns-in-Refused-clause-leaves
returns-in-Refused-clause-leaves c =
    ((λ e. refused_alone c.args.self.now.seen c.args.self.now.at c.args.run.now (ap outcome_refused c.in-Refused.is)), (λ e. refl))

pub returns-in-Finished-clause-sees : goal.returns-in-Finished-clause-sees
returns-in-Finished-clause-sees c =
    let count : c.saturating_add-self.result ≡ counted (c.args.self.now.seen + 1) = omega arith in
    finished_seen c.args.self.now.seen c.args.self.now.at c.args.run.now c.saturating_add-self.result (ap outcome_refused c.in-Finished.is)
    count

pub returns-in-Finished-clause-leaves : goal.returns-in-Finished-clause-leaves
returns-in-Finished-clause-leaves c =
    let stays = finished_alone c.args.self.now.seen c.args.self.now.at c.args.run.now (ap outcome_refused c.in-Finished.is) in
    ((λ e. cc), (λ e. cc))
