use Rattle.std.proofs.Common.{sym, ap, ◌∙◌}
use Rattle.twin_cli.specs.declared.twin_answer.TwinAnswer.TheVariants.{Done}
use Rattle.twin_cli.specs.Outcome.{outcome_with}
use Rattle.twin_cli.specs.Words.{printing}
use Rattle.twin_cli.proofs.TwinMeets.{runs-as, runs-text, runs-twins}
use Rattle.twin_cli.proofs.twin_program.run.Goals as goal

pub returns-in-Some-Text : goal.returns-in-Some-Text
returns-in-Some-Text g c =
    let command = rw c.in-Some-Text.field-0-is at c.in-Some-Text.ensures in
    runs-as _ _ command (runs-text (printing _) (outcome_with Done c.as_bytes.result.now)
    (ap (outcome_with Done) (sym (c.as_bytes.ensures.value ∙ c.text_of.ensures)))
    c.print.ensures.meets c.print.ensures.words)

pub returns-in-Some-Run : goal.returns-in-Some-Run
returns-in-Some-Run g c =
    let command = rw c.in-Some-Run.field-0-is at c.in-Some-Run.ensures in
    runs-as _ _ command (rw c.in-Some-Run.twins-is at (runs-twins c.find_verdict-found.ensures c.print_verdict.ensures.meets
    c.print_verdict.ensures.words))
