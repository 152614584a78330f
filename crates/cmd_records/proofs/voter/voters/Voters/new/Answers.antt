use Rattle.std.proofs.Common.{refl}
use Rattle.std.specs.Prelude.{length}
use Rattle.cmd_records.proofs.lemmas.voter.Deciding.{all-most}
use Rattle.cmd_records.proofs.voter.voters.Voters.new.Goals as goal

pub returns : goal.returns
returns c state = record {
  readers = c.in_ok-voters_at.ensures.voters state;
  most = all-most c.in_ok-voters_at.field-0.items (length c.args.slots.now) c.in_ok-voters_at.ensures.all
      c.in_ok-voters_at.ensures.length c.requires;
  rows = refl;
  cycles = refl;
}
