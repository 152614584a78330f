-- Slots that were given before a manifest was read keep what they have left.
use Rattle.std.proofs.Common.{ℕ, List, inl, inr, arith}
use Rattle.std.specs.Prelude.{◌⊎◌}
use Rattle.det_io.specs.Shelf.{ShelfState, SlotsStay}
use Rattle.cli_answers.specs.Slots.{KeepsSlots}
use Rattle.cli_answers.proofs.Keeping.{keeps-stay, keeps-read, keeps-then}
use Rattle.run_setup.specs.Setup.{Takes}

-- and so they do over what follows
pub keeps-behind : (first mid last : ShelfState) {name : List ℕ} {most : ℕ} → SlotsStay first mid ⊎ Takes first mid name most
    → KeepsSlots mid last → KeepsSlots first last
keeps-behind first mid last (inl stay) later =
    let same = stay.slots in
    keeps-then first mid last (omega (arith, same)) (keeps-stay stay) later
keeps-behind first mid last (inr takes) later =
    let more = takes.opens.slots in
    let same = takes.reads.slots in
    keeps-then first mid last (omega (arith, more, same)) (keeps-read takes.opens takes.reads) later
