use Rattle.std.proofs.Common.{◌∙◌, [], ◌∷◌, ℕ, List, ap, rules}
use Rattle.std.specs.List.{slice_get}
use Rattle.det_io.specs.Traffic.{shelf_run}
use Rattle.record_reader.specs.item_reader.StandsFor.{slot_of}
use Rattle.page.specs.Shelves.{lent_state, rests_of}
use Rattle.page.proofs.PrintedText.{is-printed}
use Rattle.page.proofs.record_print.print_record.Goals as goal

pub returns : goal.returns
returns c =
    let s = c.show_run in
    let lent = c.in_ok-shelf.shelf in
    let slot = slot_of c.new-reader.result in
    let shelf = shelf_run (λ shelf. lent_state (rests_of shelf)) (λ before after. Unit {0}) lent s.new.shelf in
    let known = ap (λ (rests : List (List ℕ)). slice_get rests slot) c.in_ok-shelf.ensures
    ∙ ap (λ (n : ℕ). slice_get (c.args.bytes.now ∷ []) n) c.new-reader.ensures.slot in
    is-printed c.args.form c.args.sink.now s.new.sink c.requires c.args.bytes.now s.result shelf slot _ _ known (search rules)
    s.ensures.run.1.answers
