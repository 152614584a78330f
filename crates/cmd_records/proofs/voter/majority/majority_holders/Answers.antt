use Rattle.std.proofs.Common.{◌≡◌, ◌⊎◌, inl, inr, ◌<◌, ◌≤◌, ◌+◌, ◌/◌, ℕ, None, false, true, get_or, length, rules, sym, subst, arith}
use Rattle.std.proofs.lemmas.Bool.{le-ltb, lt-ltb, cases_lt}
use Rattle.cmd_records.specs.voter.Majority.{is_most}
use Rattle.cmd_records.specs.voter.Rows.{is_held, AreHolders}
use Rattle.cmd_records.proofs.lemmas.voter.Holding.{held-many, held-by}
use Rattle.cmd_records.proofs.voter.majority.majority_holders.Goals as goal

not-most : (part all : ℕ) → part ≤ all / 2 → is_most part all ≡ false
not-most part all h = le-ltb all (part + part) (omega (arith, h))

are-most : (part all : ℕ) → all / 2 < part → is_most part all ≡ true
are-most part all h = lt-ltb all (part + part) (omega (arith, h))

pub voters-preserved : goal.voters-preserved
voters-preserved c place more h k less = by (cases_lt k c.voters.first)
  where
    here : is_held more (get_or more c.voters.first None) ≡ false
    here =
        let few : c.holders_of-holders.result.count ≤ length c.args.voters.now / 2 = search rules in
        held-by c.holders_of-holders.result (get_or more c.voters.first None) more (length c.args.voters.now) false
        (c.holders_of-holders.ensures.holders place more h) (held-many place c.args.voters.now more h)
        (not-most c.holders_of-holders.result.count (length c.args.voters.now) few)

    by : (k < c.voters.first) ⊎ (c.voters.first ≤ k) → is_held more (get_or more k None) ≡ false
    by (inl before) = c.voters.invariant place more h k before
    by (inr last) =
        let same : c.voters.first ≡ k = omega (arith, less, last) in
        subst (λ (n : ℕ). is_held more (get_or more n None) ≡ false) same here

pub returns-then-voters-holders : goal.returns-then-voters-holders
returns-then-voters-holders c place more h =
    let holders = c.holders_of-holders.result in
    let all = c.holders_of-holders.ensures.holders place more h in
    let many = held-many place c.args.voters.now more h in
    let less : c.voters.first < length c.args.voters.now = search rules in
    let most : length c.args.voters.now / 2 < holders.count = search rules in
    let at = sym c.holders_of-holders.ensures.first in (
      subst (λ (n : ℕ). n < length more) at (omega (arith, less, many)),
      subst (λ (n : ℕ). AreHolders holders (get_or more n None) more) at all,
      subst (λ (n : ℕ). is_held more (get_or more n None) ≡ true) at
          (held-by holders (get_or more c.voters.first None) more (length c.args.voters.now) true all many
          (are-most holders.count (length c.args.voters.now) most)),
    )

pub returns : goal.returns
returns c place more h k less =
    let many = held-many place c.args.voters.now more h in
    let end : length c.args.voters.now ≤ c.voters.first = search rules in
    c.voters.invariant place more h k (omega (arith, less, many, end))
