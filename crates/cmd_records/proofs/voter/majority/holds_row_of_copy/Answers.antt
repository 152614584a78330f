use Rattle.std.proofs.Common.{◌≡◌, ℕ, None, get_or, rules, subst}
use Rattle.cmd_records.specs.voter.Rows.{same_row}
use Rattle.cmd_records.proofs.lemmas.voter.Holding.{held-here}
use Rattle.cmd_records.proofs.voter.majority.holds_row_of_copy.Goals as goal

pub hold_same_row-requires : goal.hold_same_row-requires
hold_same_row-requires c =
    let r = c.requires.rows in (
      r.0,
      get_or r.1 c.args.first None,
      get_or r.1 c.args.at None,
      held-here r.0 c.args.voters.now r.1 c.args.first c.index-voters-first-2.result r.2 (search rules) (search rules),
      held-here r.0 c.args.voters.now r.1 c.args.at c.index-voters-at.result r.2 (search rules) (search rules),
    )

pub returns-then-at-first : goal.returns-then-at-first
returns-then-at-first c place more h =
    let same : c.args.first ≡ c.args.at = search rules in
    subst (λ (n : ℕ). c.can_win_majority.result ≡ same_row (get_or more c.args.first None) (get_or more n None)) same
    (c.can_win_majority.ensures place (get_or more c.args.first None)
    (held-here place c.args.voters.now more c.args.first c.index-voters-first.result h (search rules) (search rules)))

pub returns : goal.returns
returns c place more h =
    c.hold_same_row.ensures place (get_or more c.args.first None) (get_or more c.args.at None)
    (held-here place c.args.voters.now more c.args.first c.index-voters-first-2.result h (search rules) (search rules))
    (held-here place c.args.voters.now more c.args.at c.index-voters-at.result h (search rules) (search rules))
