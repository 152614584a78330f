use Rattle.std.proofs.Common.{refl}
use Rattle.record_grammar.specs.Grammar.{policy_of, policy_at}
use Rattle.record_view.proofs.header.skip_policy.Goals as goal

pub returns-in-Ok : goal.returns-in-Ok
unfolding policy_at
returns-in-Ok c = (policy_of c.in-Ok.field-0-0, rw (c.in-Two.is, c.in-Ok.ensures.gives) refl)
