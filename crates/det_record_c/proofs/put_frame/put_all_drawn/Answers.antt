use Rattle.std.proofs.Common.{sym}
use Rattle.std.proofs.lemmas.List.Elements.{All-map}
use Rattle.std.proofs.lemmas.List.Folds.{flat_map-map}
use Rattle.record_grammar.specs.Spelling.{spelled_drawn, IsDrawn}
use Rattle.det_record_c.specs.Items.{drawn_in}
use Rattle.det_record_c.proofs.Putting.{puts_as, PutSo-at, PutSo-done}
use Rattle.det_record_c.proofs.put_frame.put_all_drawn.Goals as goal

pub loop-element-preserved : goal.loop-element-preserved
loop-element-preserved c =
    PutSo-at (λ e. spelled_drawn c.args.format (drawn_in c.args.format e)) (λ e. IsDrawn c.args.format (drawn_in c.args.format e))
    _ _ _ _ _ _ _ _ _ c.loop-element-test.true c.loop-element.invariant c.put_final-end.ensures.puts c.put_final-end.ensures.fields

pub returns-clause-puts : goal.returns-clause-puts
returns-clause-puts c =
    puts_as _ _ _ _ _ _ (sym (flat_map-map (spelled_drawn c.args.format) (drawn_in c.args.format) c.args.elements.now))
    (PutSo-done (λ e. spelled_drawn c.args.format (drawn_in c.args.format e)) (λ e. IsDrawn c.args.format (drawn_in c.args.format e))
    _ _ _ _ _ _ c.loop-element-test.false c.loop-element.invariant).0

pub returns-clause-fields : goal.returns-clause-fields
returns-clause-fields c =
    All-map (IsDrawn c.args.format) (drawn_in c.args.format) c.args.elements.now
    (PutSo-done (λ e. spelled_drawn c.args.format (drawn_in c.args.format e)) (λ e. IsDrawn c.args.format (drawn_in c.args.format e))
    _ _ _ _ _ _ c.loop-element-test.false c.loop-element.invariant).1
