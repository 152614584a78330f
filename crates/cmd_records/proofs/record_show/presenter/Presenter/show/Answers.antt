use Rattle.std.proofs.Common.{sym, ◌∙◌}
use Rattle.record_reader.specs.InItems.{run_in}
use Rattle.cmd_records.proofs.lemmas.record_show.Gone.{shows-gone}
use Rattle.cmd_records.proofs.record_show.presenter.Presenter.show.Goals as goal

pub returns-then-remaining-eq0 : goal.returns-then-remaining-eq0
returns-then-remaining-eq0 g c item h = shows-gone _ (run_in item) (sym c.remaining.ensures ∙ c.if-remaining-eq0.true)
