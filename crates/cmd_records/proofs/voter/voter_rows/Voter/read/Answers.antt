use Rattle.std.proofs.Common.{None, Some, rules}
use Rattle.std.specs.Prelude.{Result}
use Rattle.det_io.specs.declared.failure.Failure.{Failure}
use Rattle.record_reader.proofs.lemmas.item_reader.Passing.{passed-on}
use Rattle.cmd_records.specs.voter.Rows.{ReadIs}
use Rattle.cmd_records.proofs.lemmas.voter.InTurn.{left-read, step-behind, step-read, voter-needed}
use Rattle.cmd_records.proofs.voter.voter_rows.Voter.read.Goals as goal

pub returns-then-is_some-clause-row : goal.returns-then-is_some-clause-row
returns-then-is_some-clause-row g c first given slot h =
    left-read first (g.S.Slots.sees c.args.shelf.now) given slot (record c.args.self.now { row = None }) (search rules) (search rules) h

pub returns-then-is_some-clause-needed : goal.returns-then-is_some-clause-needed
returns-then-is_some-clause-needed g c first given slot h =
    voter-needed first (g.S.Slots.sees c.args.shelf.now) given slot c.args.self.now.reader c.args.self.now.left h

pub returns-in_err-row-clause-row : goal.returns-in_err-row-clause-row
returns-in_err-row-clause-row g c first given slot h =
    passed-on (λ (r : Result (Unit {0}) Failure). ReadIs r first (g.S.Slots.sees c.next_voter_row.new.shelf) given slot
    (record c.args.self.now { reader = c.next_voter_row.new.reader })) c.from_residual.result c.from_residual.ensures.1
    (c.in_err-row.ensures.row first given slot (step-behind c.args.self.now.left (search rules) h))

pub returns-in_err-row-clause-needed : goal.returns-in_err-row-clause-needed
returns-in_err-row-clause-needed g c first given slot h =
    c.next_voter_row.ensures.read.needed first given slot (step-behind c.args.self.now.left (search rules) h)

pub returns-clause-row : goal.returns-clause-row
returns-clause-row g c first given slot h =
    step-read c.in_ok-row.row first (g.S.Slots.sees c.next_voter_row.new.shelf) given slot
    (record c.args.self.now { reader = c.next_voter_row.new.reader; row = Some c.in_ok-row.row }) (search rules) (search rules)
    (c.in_ok-row.ensures.row first given slot (step-behind c.args.self.now.left (search rules) h))

pub returns-clause-needed : goal.returns-clause-needed
returns-clause-needed g c first given slot h =
    c.next_voter_row.ensures.read.needed first given slot (step-behind c.args.self.now.left (search rules) h)
