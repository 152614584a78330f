use Rattle.std.proofs.Common.{sym, ap, ◌∙◌}
use Rattle.det_values.specs.Values.{RefusedAtValue}
use Rattle.record_view.specs.Shows.{events_of}
use Rattle.page.specs.declared.record_walk.LentOutcome.TheVariants.{Refused}
use Rattle.page.proofs.RunRows.{finished_is, refused_is, row_finished, row_refused}
use Rattle.page.proofs.run_rows.run_row.Goals as goal

pub returns-in-Finished : goal.returns-in-Finished
returns-in-Finished c frame h =
    let r = c.args.run in
    let o = finished_is c.outcome.result c.in-Finished.count c.in-Finished.elements c.in-Finished.output frame.outcome c.in-Finished.is
    (c.outcome.ensures frame h) in
    row_finished frame (events_of r.place) r.input r.bytes.now c.in-Finished.elements c.in-Finished.output.now c.in-Finished.count
    c.time_or_0-time.result c.is_known-known.result c.sum_draws.result h.input_is o.0 o.1 c.time_or_0-time.ensures
    c.is_known-known.ensures c.sum_draws.ensures

pub returns-in-Refused : goal.returns-in-Refused
returns-in-Refused c frame h =
    let r = c.args.run in
    let at : RefusedAtValue = record {
      phase = c.at.inside.phase;
      pass = c.at.inside.pass;
      element = c.at.inside.element;
      code = c.at.inside.code;
    } in
    let o = refused_is c.outcome.result at frame.outcome (c.in-Refused.is ∙ ap Refused (sym c.at.view_is)) (c.outcome.ensures frame h) in
    row_refused frame (events_of r.place) r.input r.bytes.now at c.time_or_0-time.result c.is_known-known.result c.phase_number.result
    h.input_is o c.time_or_0-time.ensures c.is_known-known.ensures c.phase_number.ensures
