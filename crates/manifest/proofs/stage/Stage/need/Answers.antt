use Rattle.std.proofs.Common.{◌≡◌, ◌∙◌, ap}
use Rattle.toml.specs.View.{view}
use Rattle.manifest.specs.Tree.{step, to_member}
use Rattle.manifest.specs.Keys.{found, need_word}
use Rattle.manifest.specs.KeyReaders.{seen, section_key}
use Rattle.manifest.proofs.NeedKeys.{need_found, need_fault}
use Rattle.manifest.proofs.stage.Stage.need.Goals as goal

pub returns-clause-judged : goal.returns-clause-judged
returns-clause-judged c =
    let tree = view c.args.tree.now in
    let stage = c.args.self in
    let need = c.args.need in
    let there : seen c.member-found.result ≡ step (to_member (need_word need)) (found tree (section_key stage)) = c.member-found.ensures
    ∙ ap (λ w. step (to_member w) (seen c.section.result)) c.word.ensures.word ∙ ap (step (to_member (need_word need))) c.section.ensures in
    rw (need_fault tree stage need c.requires, need_found tree stage need, ← there, ← c.need_key.ensures)
    (rw (← c.least.ensures, ← c.most.ensures) c.number.ensures.judged)
