use Rattle.std.proofs.Common.{refl}
use Rattle.cmd_records.proofs.lemmas.record_show.JsonLines.{layout-none-yet}
use Rattle.cmd_records.proofs.lemmas.record_show.Lines.{format_none_yet}
use Rattle.cmd_records.proofs.lemmas.record_show.Taken.{watched-none}
use Rattle.cmd_records.proofs.record_show.printer.Printer.new.Goals as goal

pub returns-clause-new : goal.returns-clause-new
returns-clause-new c audience = record {
  form_is = refl;
  headed = tt;
  format = format_none_yet;
  layout = layout-none-yet;
  layout_is = refl;
  has_begun = refl;
  cycles = refl;
  watched = watched-none c.args.form.part audience;
}
