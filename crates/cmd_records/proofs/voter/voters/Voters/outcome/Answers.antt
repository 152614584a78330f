use Rattle.std.proofs.Common.{◌≡◌, ◌≤◌, List, length, rules, subst}
use Rattle.cmd_records.specs.declared.voter.voter_rows.Voter.{Voter}
use Rattle.cmd_records.specs.voter.VotersState.{dissenters}
use Rattle.cmd_records.proofs.lemmas.voter.Deciding.{few-left}
use Rattle.cmd_records.proofs.voter.voters.Voters.outcome.Goals as goal

pub dissent_of-requires-clause-few : goal.dissent_of-requires-clause-few
dissent_of-requires-clause-few c =
    let same : c.args.self.now.voters.items ≡ c.deref.result.now = search rules in
    subst (λ (vs : List Voter). length (dissenters 0 vs) ≤ 3) same
    (few-left c.args.self.now.voters.items c.requires.most c.requires.few)
