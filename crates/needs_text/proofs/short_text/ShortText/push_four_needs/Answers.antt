use Rattle.std.proofs.Common.{◌++◌, ap, ◌∙◌}
use Rattle.std.specs.Prelude.{codes}
use Rattle.record_text.specs.Words.{number_line}
use Rattle.needs_text.proofs.Appending.{four-appended}
use Rattle.needs_text.proofs.short_text.ShortText.push_four_needs.Goals as goal

pub returns-clause-text : goal.returns-clause-text
returns-clause-text c =
    let word = c.args.word.now in
    let needs = c.args.needs in
    let a = number_line (codes " instructions") needs.instructions in
    let b = number_line (codes " sequential_begin") needs.sequential_begin in
    let e = number_line (codes " sequential_end") needs.sequential_end in
    let d = number_line (codes " speedup") needs.speedup in
    let two = c.push_need-2.ensures.text ∙ ap (λ l. l ++ (word ++ b)) c.push_need.ensures.text in
    let three = c.push_need-3.ensures.text ∙ ap (λ l. l ++ (word ++ e)) two in
    c.push_need-4.ensures.text ∙ ap (λ l. l ++ (word ++ d)) three ∙ four-appended c.args.self.now word a b e d
