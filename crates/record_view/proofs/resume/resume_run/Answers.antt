use Rattle.std.proofs.Common.{◌≤◌, ◌+◌, ◌∙◌, drop, sym, arith, length, length-drop}
use Rattle.record_grammar.proofs.Steady.{steady_many}
use Rattle.record_grammar.proofs.SteadyFields.{drawn_steady, string_steady}
use Rattle.record_view.proofs.Suffix.{behind_read}
use Rattle.record_grammar.specs.Read.{many}
use Rattle.record_grammar.specs.Grammar.{drawn_at, string_at}
use Rattle.record_grammar.specs.Places.{format_of}
use Rattle.record_view.specs.Skips.{IsSkip}
use Rattle.record_view.proofs.Viewing.{stop_fits, run_goes, run_whole, run_stops, output_stops}
use Rattle.record_view.proofs.Ended.{none_left, next_stops, gave_stop, OutputIsAt, output_follows}
use Rattle.record_view.proofs.resume.resume_run.Goals.{in-Some, in-None}
use Rattle.record_view.proofs.resume.resume_run.Goals as goal

pub overflow_sub-bytes : goal.overflow_sub-bytes
overflow_sub-bytes c =
    let skip = c.skip_drawn-skip.result in
    let bytes = c.args.bytes.now in
    let p : IsSkip (drawn_at (format_of c.args.place)) c.args.run.left skip (drop c.args.read bytes) =
    rw (c.rest_of.ensures, c.requires.format) at c.skip_drawn-skip.ensures in
    let r : OutputIsAt skip c.args.read bytes (c.in-Ok.field-0-0.now, c.in-Ok.rest.now) = elim c.match-skip.branch [
      | in-Some w ↦ absurd (let a = w.ended-is in let b = c.in-Ok.is in cc)
      | in-None w ↦ output_follows (drawn_at (format_of c.args.place)) c.args.run.left skip c.args.read bytes p w.in-None.is _ _
          (sym w.ended-is ∙ c.in-Ok.is) (λ x. (x.0.now, x.1.now)) _ w.rest_of-in-None.ensures w.output-ended.ensures
    ] in
    let n : length (drop (c.args.read + skip.read) bytes) ≤ length bytes = omega (arith, length-drop (c.args.read + skip.read) bytes) in
    let b : length c.in-Ok.rest.now ≤ length (drop (c.args.read + skip.read) bytes) =
    (behind_read (string_at 4 1048576) (string_steady 4 1048576) (drop (c.args.read + skip.read) bytes) c.in-Ok.field-0-0.now
    c.in-Ok.rest.now r.1).room in
    omega arith

pub returns-in-Ok-clause-viewed : goal.returns-in-Ok-clause-viewed
returns-in-Ok-clause-viewed c h =
    let skip = c.skip_drawn-skip.result in
    let bytes = c.args.bytes.now in
    let p : IsSkip (drawn_at (format_of c.args.place)) c.args.run.left skip (drop c.args.read bytes) =
    rw (c.rest_of.ensures, c.requires.format) at c.skip_drawn-skip.ensures in
    let g = run_goes c.args.place c.args.run c.args.read bytes skip h p in
    let r : OutputIsAt skip c.args.read bytes (c.in-Ok.field-0-0.now, c.in-Ok.rest.now) = elim c.match-skip.branch [
      | in-Some w ↦ absurd (let a = w.ended-is in let b = c.in-Ok.is in cc)
      | in-None w ↦ output_follows (drawn_at (format_of c.args.place)) c.args.run.left skip c.args.read bytes p w.in-None.is _ _
          (sym w.ended-is ∙ c.in-Ok.is) (λ x. (x.0.now, x.1.now)) _ w.rest_of-in-None.ensures w.output-ended.ensures
    ] in
    let w = run_whole c.args.place _ (c.args.read + skip.read) bytes c.in-Ok.field-0-0.now c.in-Ok.rest.now r.0 g r.1 in
    rw c.whole_step.ensures (w.1, w.2)

pub returns-in-Err-clause-viewed : goal.returns-in-Err-clause-viewed
returns-in-Err-clause-viewed c h =
    let skip = c.skip_drawn-skip.result in
    let drawn = drawn_at (format_of c.args.place) in
    let p : IsSkip drawn c.args.run.left skip (drop c.args.read c.args.bytes.now) =
    rw (c.rest_of.ensures, c.requires.format) at c.skip_drawn-skip.ensures in
    let g = run_goes c.args.place c.args.run c.args.read c.args.bytes.now skip h p in
    rw c.stopped_step.ensures (elim c.match-skip.branch [
      | in-Some w ↦ run_stops c.args.place _ (c.args.read + skip.read) c.args.bytes.now c.in-Err.stop g
          (next_stops drawn c.args.run.left skip c.args.read c.args.bytes.now p w.in-Some.stop c.in-Err.stop w.in-Some.is
          (let a = w.ended-is in let b = c.in-Err.is in cc))
      | in-None w ↦ output_stops c.args.place _ (c.args.read + skip.read) c.args.bytes.now c.in-Err.stop
          (omega (arith, none_left drawn c.args.run.left skip c.args.read c.args.bytes.now p w.in-None.is)) g
          (gave_stop (string_at 4 1048576) _ _ (sym w.ended-is ∙ c.in-Err.is) (λ x. (x.0.now, x.1.now)) _ _ w.rest_of-in-None.ensures
          w.output-ended.ensures)
    ])

pub returns-in-Ok-clause-fits : goal.returns-in-Ok-clause-fits
returns-in-Ok-clause-fits c = rw c.whole_step.ensures (omega arith)

pub returns-in-Err-clause-fits : goal.returns-in-Err-clause-fits
returns-in-Err-clause-fits c =
    let skip = c.skip_drawn-skip.result in
    let drawn = drawn_at (format_of c.args.place) in
    let p : IsSkip drawn c.args.run.left skip (drop c.args.read c.args.bytes.now) =
    rw (c.rest_of.ensures, c.requires.format) at c.skip_drawn-skip.ensures in
    let read : c.args.read + skip.read ≤ length c.args.bytes.now = omega
    (arith, p.continues.in_range, length-drop c.args.read c.args.bytes.now) in
    let left = drop (c.args.read + skip.read) c.args.bytes.now in
    let n : length left ≤ length c.args.bytes.now = omega (arith, length-drop (c.args.read + skip.read) c.args.bytes.now) in
    rw c.stopped_step.ensures (elim c.match-skip.branch [
      | in-Some w ↦ stop_fits (many drawn skip.left) (steady_many drawn (drawn_steady (format_of c.args.place)) skip.left) c.in-Err.stop left
          _ (length c.args.bytes.now) read n
          (next_stops drawn c.args.run.left skip c.args.read c.args.bytes.now p w.in-Some.stop c.in-Err.stop w.in-Some.is
          (let a = w.ended-is in let b = c.in-Err.is in cc))
      | in-None w ↦ stop_fits (string_at 4 1048576) (string_steady 4 1048576) c.in-Err.stop left _ (length c.args.bytes.now) read n
          (gave_stop (string_at 4 1048576) _ _ (sym w.ended-is ∙ c.in-Err.is) (λ x. (x.0.now, x.1.now)) _ _ w.rest_of-in-None.ensures
          w.output-ended.ensures)
    ])
