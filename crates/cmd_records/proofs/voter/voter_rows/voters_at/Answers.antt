use Rattle.std.proofs.Common.{◌≡◌, [], ◌∷◌, ◌++◌, ◌+◌, cond, None, drop, get_or, rules, sym, subst, ap, ◌∙◌, refl}
use Rattle.std.proofs.lemmas.List.{append-nil, drop_more, drop_all}
use Rattle.std.specs.List.{count_by}
use Rattle.std.proofs.lemmas.List.Sums.{sum_by_push}
use Rattle.cmd_records.specs.declared.voter.voter_rows.Voter.{Voter}
use Rattle.cmd_records.specs.voter.Rows.{AreVoters, is_in_step}
use Rattle.cmd_records.proofs.lemmas.voter.InTurn.{voters-next}
use Rattle.cmd_records.proofs.voter.voter_rows.voters_at.Goals as goal

pub returns-clause-voters : goal.returns-clause-voters
returns-clause-voters c state =
    let none : [] ≡ drop c.slots.slot-index c.args.slots.now = sym (drop_all c.slots.slot-index c.args.slots.now (search rules)) in
    subst (λ vs. AreVoters state state [] c.args.slots.now vs) (append-nil c.slots.voters.items)
    (c.slots.invariant.voters state [] (subst (λ ks. AreVoters state state [] ks []) none tt))

pub slots-preserved : goal.slots-preserved
slots-preserved c =
    let voter : Voter = record { reader = c.new.result; row = None; left = None } in
    let pushed : c.slots.voters.items ++ voter ∷ [] ≡ c.push.new.self.items = search rules in
    record {
      voters = λ state tail h. subst (λ vs. AreVoters state state [] c.args.slots.now (vs ++ tail)) pushed
          (voters-next state c.args.slots.now (get_or c.args.slots.now c.slots.slot-index 0)
          (drop (c.slots.slot-index + 1) c.args.slots.now) c.slots.voters.items voter
          (λ more b. c.slots.invariant.voters state more (subst (λ ks. AreVoters state state [] ks more)
          (sym (drop_more c.args.slots.now c.slots.slot-index 0 (search rules))) b))
          refl c.new.ensures.stands (search rules) tail h);
      all = subst (λ vs. count_by is_in_step vs ≡ c.slots.slot-index + 1) pushed
          (sum_by_push (λ v. cond (is_in_step v) 1 0) c.slots.voters.items voter ∙ ap (λ n. n + 1) c.slots.invariant.all);
      count = search rules;
    }
