use Rattle.std.proofs.Common.{◌≡◌, ◌<◌, cond, None, get_or, length, rules, arith, ap, ◌∙◌}
use Rattle.cmd_records.specs.voter.Rows.{same_row}
use Rattle.cmd_records.proofs.lemmas.voter.Holding.{held-many, flags-next, count-next, holders-done}
use Rattle.cmd_records.proofs.voter.majority.holders_of.Goals as goal

pub voters-preserved : goal.voters-preserved
voters-preserved c = record {
  same = λ place more h.
      let many = held-many place c.args.voters.now more h in
      let less : c.voters.at < length c.args.voters.now = search rules in
      let seven = c.voters.invariant.seven in
      let few = c.requires.few in
      flags-next (same_row (get_or more c.args.first None)) c.voters.same more c.voters.at c.holds_row_of_copy-holds.result
      (omega (arith, less, seven, few)) (omega (arith, less, many)) (c.voters.invariant.same place more h)
      (c.holds_row_of_copy-holds.ensures place more h);
  count = λ place more h.
      let many = held-many place c.args.voters.now more h in
      let less : c.voters.at < length c.args.voters.now = search rules in
      count-next (same_row (get_or more c.args.first None)) more c.voters.at c.voters.count c.vote_if-count.result
      (omega (arith, less, many)) (c.voters.invariant.count place more h)
      (c.vote_if-count.ensures ∙ ap (λ b. cond b 1 0) (c.holds_row_of_copy-holds.ensures place more h));
  few = search rules;
  seven = search rules;
}

pub returns-clause-holders : goal.returns-clause-holders
returns-clause-holders c place more h =
    let many = held-many place c.args.voters.now more h in
    let all : c.voters.at ≡ length c.args.voters.now = search rules in
    holders-done (record { first = c.args.first; same = c.voters.same; count = c.voters.count }) (get_or more c.args.first None) more
    c.voters.at (all ∙ many) (c.voters.invariant.same place more h) (c.voters.invariant.count place more h)
