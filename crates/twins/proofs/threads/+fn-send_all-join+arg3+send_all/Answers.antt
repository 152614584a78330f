use mir.Syntax.{of_param}
use denote.Exit.{unseen}
use denote.Param.{param}
use denote.Param.Send.{IsSend, IsSync, Quiet-if}
use Rattle.std.proofs.Common.{◌≡◌, ◌+◌, List, [], ◌∷◌, ◌++◌, rules, arith, length, sym, ap, ◌∙◌, subst, length-append}
use Rattle.twins.proofs.Begun.{same-numbers}
use Rattle.twins.proofs.Pairs.{pair_split, pair_rejoin}
use Rattle.twins.specs.TwinFrames.{IsTwin}
use Rattle.twins.specs.TwinQueues.{numbers_of}
use Rattle.twins.specs.Pairs.{EachPair}
use Rattle.twins.proofs.threads.+fn-send_all-join+arg3+send_all.Goals as goal

pub send_rows-requires-clause-twin : goal.send_rows-requires-clause-twin
send_rows-requires-clause-twin g t c κs within =
    let twin = IsTwin g.J.Job.meaning c.args.run.now.profile c.args.run.now.inputs (g.T.Tamper.altered c.args.run.now.tamper) in
    (pair_split twin _ c.in-Some.front.now c.args.others.items c.in-Some.queue.now c.args.last c.in-Some.ensures.cases.0
    c.requires.twins).1

pub returns-in_default-pop-clause-sends : goal.returns-in_default-pop-clause-sends
returns-in_default-pop-clause-sends g t c =
    let twin = IsTwin g.J.Job.meaning c.args.run.now.profile c.args.run.now.inputs (g.T.Tamper.altered c.args.run.now.tamper) in
    let apart = pair_split twin _ c.in-Some.front.now c.args.others.items c.in-Some.queue.now c.args.last c.in-Some.ensures.cases.0
    c.requires.twins in
    let same : c.pop.new.self.items ≡ c.args.others.items = search rules in
    record {
      twins = pair_rejoin twin _ c.in-Some.front.now c.args.others.items c.pop.new.self.items c.in-Some.queue.now c.send_rows.result
          c.in-Some.ensures.cases.0 same apart.0 c.send_rows.ensures.twin;
      numbers = search rules;
    }

pub join-last-requires-after_bounds : goal.join-last-requires-after_bounds
join-last-requires-after_bounds g t c κs within =
    let twin = IsTwin g.J.Job.meaning c.args.run.now.profile c.args.run.now.inputs (g.T.Tamper.altered c.args.run.now.tamper) in
    let apart = pair_split twin _ c.in-Some.front.now c.args.others.items c.in-Some.queue.now c.args.last c.in-Some.ensures.cases.0
    c.requires.twins in
    let pairs = subst (λ twins. EachPair twin c.in-Some.front.now twins) c.in-Some-pop.ensures.items apart.0 in
    let fewer : length c.args.others.items ≡ length c.pop.new.self.items + 1 =
    ap length c.in-Some-pop.ensures.items ∙ length-append c.pop.new.self.items (c.in-Some-pop.next ∷ []) in
    let tamper : IsSync (param 1 g.row.T) = search rules in
    let sends : IsSend (param 0 g.row.J) × IsSend (param 3 g.row.J-Globals) × IsSend (param 4 g.row.J-Element)
    × IsSend (param 5 g.row.J-Plan) × IsSend (param 6 g.row.J-Part) = search rules in
    let syncs : IsSync (param 0 g.row.J) × IsSync (param 2 g.row.R) × IsSync (param 4 g.row.J-Element)
    × IsSync (param 5 g.row.J-Plan) × IsSync (param 6 g.row.J-Part) = search rules in (
      (
        record { shared = tamper.shared },
        (
          c.requires.known,
          (
            apart.1,
            (
              record { owned = sends.0.owned; leaving = λ k. Quiet-if (k (of_param 0)) unseen unseen (λ x w. tt) (λ x w. tt) },
              record { owned = sends.1.owned; leaving = λ k. Quiet-if (k (of_param 3)) unseen unseen (λ x w. tt) (λ x w. tt) },
              record { owned = sends.2.owned; leaving = λ k. Quiet-if (k (of_param 4)) unseen unseen (λ x w. tt) (λ x w. tt) },
              record { owned = sends.3.owned; leaving = λ k. Quiet-if (k (of_param 5)) unseen unseen (λ x w. tt) (λ x w. tt) },
              record { owned = sends.4.owned; leaving = λ k. Quiet-if (k (of_param 6)) unseen unseen (λ x w. tt) (λ x w. tt) },
              record { shared = syncs.0.shared },
              record { shared = tamper.shared },
              record { shared = syncs.1.shared },
              record { shared = syncs.2.shared },
              record { shared = syncs.3.shared },
              record { shared = syncs.4.shared },
            ),
          ),
        ),
      ),
      (
        (let d = c.decreases in omega (arith, fewer)),
        (
          (λ a m. m),
          (
            (λ a m. m),
            (
              (λ a m. m),
              (
                (λ a m. m),
                (
                  (λ a m. m),
                  (
                    (λ a m. m),
                    (
                      (λ a m. m),
                      (search rules, (c.requires.known, (pairs, search rules))),
                    ),
                  ),
                ),
              ),
            ),
          ),
        ),
      ),
    )

pub returns-clause-sends : goal.returns-clause-sends
returns-clause-sends g t c =
    let twin = IsTwin g.J.Job.meaning c.args.run.now.profile c.args.run.now.inputs (g.T.Tamper.altered c.args.run.now.tamper) in
    let others : EachPair twin c.in-Some.front.now (c.join-last.result.1.1.items ++ c.join-last.result.1.0 ∷ []) = search rules in
    let last : twin c.in-Some.queue.now c.join-last.result.0 = search rules in
    let numbers : numbers_of (c.join-last.result.1.1.items ++ c.join-last.result.1.0 ∷ [])
    ≡ numbers_of (c.pop.new.self.items ++ c.in-Some-pop.next ∷ []) = search rules in
    let copy : c.join-last.result.0.copy ≡ c.args.last.copy = search rules in
    record {
      twins = pair_rejoin twin _ c.in-Some.front.now _ c.put_back.new.twins.items c.in-Some.queue.now c.join-last.result.0
          c.in-Some.ensures.cases.0 c.put_back.ensures.items others last;
      numbers = same-numbers c.put_back.new.twins.items c.args.others.items c.join-last.result.0 c.args.last
          (ap numbers_of c.put_back.ensures.items ∙ numbers ∙ ap numbers_of (sym c.in-Some-pop.ensures.items)) copy;
    }
