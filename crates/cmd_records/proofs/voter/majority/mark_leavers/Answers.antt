use Rattle.std.proofs.Common.{◌≡◌, ◌+◌, ℕ, suc, false, get_or, set, rules, sym, ap, subst, ◌∙◌, arith}
use Rattle.cmd_records.specs.declared.voter.voter_rows.Voter.{Voter}
use Rattle.cmd_records.specs.voter.Rows.{voter_after}
use Rattle.cmd_records.proofs.lemmas.voter.Parting.{parted_to, part-next, part-done}
use Rattle.cmd_records.proofs.voter.majority.mark_leavers.Goals as goal

pub voters-preserved : goal.voters-preserved
voters-preserved c =
    let old = c.index_mut.result.now in
    let b = get_or c.args.same.now c.voters.at false in
    let at : get_or c.voters.voters.items c.voters.at old ≡ old = search rules in
    let next : suc c.voters.at ≡ c.voters.at + 1 = omega arith in
    let stays : c.stay.new.self ≡ voter_after b c.args.number old = c.stay.ensures in
    let is : c.stay.new.self ≡ voter_after b c.args.number (get_or c.voters.voters.items c.voters.at old) =
    stays ∙ ap (λ (v : Voter). voter_after b c.args.number v) (sym at) in
    record {
      voters_after = ap (λ v. set c.voters.voters.items c.voters.at v) is
          ∙ subst (λ vs. set vs c.voters.at (voter_after b c.args.number (get_or vs c.voters.at old))
          ≡ parted_to (c.voters.at + 1) c.args.number c.args.same.now c.args.voters.now.items) (sym c.voters.invariant.voters_after)
          (part-next c.voters.at c.args.number c.args.same.now c.args.voters.now.items old false (search rules) c.requires
          ∙ ap (λ (k : ℕ). parted_to k c.args.number c.args.same.now c.args.voters.now.items) next);
      all = search rules;
    }

pub returns-clause-voters_after : goal.returns-clause-voters_after
returns-clause-voters_after c =
    c.voters.invariant.voters_after
    ∙ part-done c.voters.at c.args.number c.args.same.now c.args.voters.now.items (search rules) c.requires
