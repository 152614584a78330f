use Rattle.std.proofs.Common.{ℕ, List, Result, Ok, Err}
use Rattle.std.specs.Prelude.{IfOk, OnErr}
use Rattle.det_io.specs.declared.failure.Failure.{Failure}
use Rattle.det_io.specs.Shelf.{ShelfState, Opens, SlotsStay}
use Rattle.det_io.proofs.Opening.{asks-all}
use Rattle.cli_answers.specs.Slots.{KeepsSlots}
use Rattle.cli_answers.proofs.Keeping.{keeps-stay, keeps-opens}
use Rattle.cmd_records.proofs.open_names.one_name.open_record.Goals as goal

keeps-open : (first last : ShelfState) (name : List ℕ) (result : Result ℕ Failure) → IfOk result (Opens first last name)
    → OnErr result (SlotsStay first last) → KeepsSlots first last
keeps-open first last name (Ok slot) opens stay = keeps-opens opens
keeps-open first last name (Err failure) opens stay = keeps-stay stay

pub returns-clause-asked : goal.returns-clause-asked
returns-clause-asked g c = asks-all _ _ _ c.open_input.ensures.asked

pub returns-clause-earlier : goal.returns-clause-earlier
returns-clause-earlier g c =
    keeps-open (g.S.Slots.sees c.args.shelf.now) (g.S.Slots.sees c.open_input.new.self) c.args.recorded.now c.open_input.result
    c.open_input.ensures.opens c.open_input.ensures.slots
