use Rattle.std.proofs.Common.{[], ◌∷◌, ◌++◌, ap, subst, ◌∙◌}
use Rattle.det_client.specs.Life.{answer}
use Rattle.det_client.specs.Calls.{ComesFrom, requests}
use Rattle.det_client.specs.Calls.Call.{waits}
use Rattle.det_client_c.specs.CState.{number_of}
use Rattle.det_client_c.proofs.client.det_client_wait.Goals as goal

pub returns-clause-answer : goal.returns-clause-answer
returns-clause-answer c = λ taken t calls comes.
    let kept = c.client-kept.ensures.comes t calls comes in
    c.number.ensures ∙ ap number_of (c.wait_for_activation.ensures.answer (requests calls) kept.life)
    ∙ ap (λ next. number_of (answer (requests calls ++ next ∷ []))) c.next.ensures

pub returns-clause-calls : goal.returns-clause-calls
returns-clause-calls c = λ taken t calls comes.
    let kept = c.client-kept.ensures.comes t calls comes in
    let after = c.wait_for_activation.ensures.calls t calls kept in
    c.from_client.ensures t _ (subst (λ next. ComesFrom c.wait_for_activation.new.self t (calls ++ waits next ∷ [])) c.next.ensures after)
