use Rattle.std.proofs.Common.{◌≤◌, ◌+◌, ◌++◌, ap, ◌∙◌, sym, rules, arith, take, length}
use Rattle.std.specs.Prelude.{slice_index_or}
use Rattle.cmd_records.specs.voter.VotersState.{dissenter, dissenters}
use Rattle.cmd_records.proofs.lemmas.voter.Leaving.{room-left, dissenters-more}
use Rattle.cmd_records.proofs.voter.voters.dissent_of.Goals as goal

pub add_dissenter-requires : goal.add_dissenter-requires
add_dissenter-requires c =
    let room : length (dissenters 0 (take c.voters.index c.args.voters.now))
    + length (dissenter (slice_index_or c.args.voters.now c.voters.index c.index-voters-index.result).left c.voters.index)
    ≤ length (dissenters 0 c.args.voters.now) =
    room-left c.args.voters.now c.voters.index c.index-voters-index.result (search rules) in
    let n = ap length c.voters.invariant in
    let few = c.requires.few in
    omega (arith, room, n, few)

pub voters-preserved : goal.voters-preserved
voters-preserved c =
    c.in_ok-add_dissenter.ensures
    ∙ ap (λ ds. ds ++ dissenter (slice_index_or c.args.voters.now c.voters.index c.index-voters-index.result).left c.voters.index)
    c.voters.invariant
    ∙ sym (dissenters-more c.args.voters.now c.voters.index c.index-voters-index.result (search rules))
