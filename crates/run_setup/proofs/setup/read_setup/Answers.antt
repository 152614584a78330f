use Rattle.std.proofs.Common.{inl, inr, arith}
use Rattle.cli_answers.proofs.Keeping.{keeps-stay, keeps-read}
use Rattle.run_setup.proofs.Reading.{told-ok, told-err, told-too-long, takes}
use Rattle.run_setup.proofs.setup.read_setup.Goals as goal

pub returns-in_err-slot-clause-piece : goal.returns-in_err-slot-clause-piece
returns-in_err-slot-clause-piece g c = inl c.in_err-slot.ensures.slots

pub returns-in-Err-Refused-clause-piece : goal.returns-in-Err-Refused-clause-piece
returns-in-Err-Refused-clause-piece g c =
    let piece = c.in-Err-Refused.ensures.piece in inr (takes c.in_ok-slot.ensures.opens piece.1 piece.2)

pub returns-in-Err-Failed-clause-piece : goal.returns-in-Err-Failed-clause-piece
returns-in-Err-Failed-clause-piece g c =
    let piece = c.in-Err-Failed.ensures.piece in inr (takes c.in_ok-slot.ensures.opens piece.1 piece.2)

pub returns-clause-piece : goal.returns-clause-piece
returns-clause-piece g c =
    let piece = c.in-Ok.ensures.piece in inr (takes c.in_ok-slot.ensures.opens piece.1 piece.2)

pub returns-in-Err-Refused-clause-refused : goal.returns-in-Err-Refused-clause-refused
returns-in-Err-Refused-clause-refused g c =
    let read = c.in-Err-Refused.ensures.read in
    told-too-long _ _ _ _ _ _ _ c.in_ok-slot.ensures.opens read.1 (grind (arith, read.2))

pub returns-clause-manifest : goal.returns-clause-manifest
returns-clause-manifest g c =
    let read = c.in-Ok.ensures.ok in
    told-ok c.args.strict (g.S.Slots.sees c.args.shelf.now) _ _ c.args.name.now c.in_ok-slot.slot c.in-Ok.text.items c.deref.result.now
    c.deref.ensures.value c.in_ok-slot.ensures.opens read.0 read.1 c.setup_of.result c.setup_of.ensures.manifest

pub returns-clause-refused : goal.returns-clause-refused
returns-clause-refused g c =
    let read = c.in-Ok.ensures.ok in
    told-err c.args.strict (g.S.Slots.sees c.args.shelf.now) _ _ c.args.name.now c.in_ok-slot.slot c.in-Ok.text.items c.deref.result.now
    c.deref.ensures.value c.in_ok-slot.ensures.opens read.0 read.1 c.setup_of.result c.setup_of.ensures.refused

pub returns-in_err-slot-clause-earlier : goal.returns-in_err-slot-clause-earlier
returns-in_err-slot-clause-earlier g c = keeps-stay c.in_err-slot.ensures.slots

pub returns-in-Err-Refused-clause-earlier : goal.returns-in-Err-Refused-clause-earlier
returns-in-Err-Refused-clause-earlier g c = keeps-read c.in_ok-slot.ensures.opens c.in-Err-Refused.ensures.piece.1

pub returns-in-Err-Failed-clause-earlier : goal.returns-in-Err-Failed-clause-earlier
returns-in-Err-Failed-clause-earlier g c = keeps-read c.in_ok-slot.ensures.opens c.in-Err-Failed.ensures.piece.1

pub returns-clause-earlier : goal.returns-clause-earlier
returns-clause-earlier g c = keeps-read c.in_ok-slot.ensures.opens c.in-Ok.ensures.piece.1
