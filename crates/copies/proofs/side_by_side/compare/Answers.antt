use Rattle.std.proofs.Common.{rules, subst, [], ◌∷◌, ◌++◌, Ok}
use Rattle.std.specs.Prelude.{Option}
use Rattle.record_reader.specs.item_reader.StandsFor.{room}
use Rattle.copies.specs.declared.verdict.Verdict.{Verdict}
use Rattle.copies.specs.Copies.{RowRead}
use Rattle.copies.proofs.Standing.{stand-given, stand-few, stand-reads, stand-rows, stand-cycles, reads-same, none-found}
use Rattle.copies.proofs.Needed.{shared-wider}
use Rattle.copies.proofs.side_by_side.compare.Goals as goal

pub rows-init : goal.rows-init
rows-init g c = record {
  stand = ([], c.in_ok-copies.ensures (g.S.Slots.sees c.args.shelf.now));
  reads = reads-same (g.S.Slots.sees c.args.shelf.now) c.args.slots.now;
  traffic = search rules;
}

pub read_row-requires-clause-given : goal.read_row-requires-clause-given
read_row-requires-clause-given g c = stand-given c.rows.invariant.stand.1 c.requires.given c.rows.invariant.reads

pub read_row-requires-clause-few : goal.read_row-requires-clause-few
read_row-requires-clause-few g c = stand-few c.rows.invariant.stand.1 c.requires.few

pub read_row-requires-clause-rows : goal.read_row-requires-clause-rows
read_row-requires-clause-rows g c = stand-rows c.rows.invariant.stand.1

pub read_row-requires-clause-cycles : goal.read_row-requires-clause-cycles
read_row-requires-clause-cycles g c = stand-cycles c.rows.invariant.stand.1

pub returns-in_err-verdict-clause-reads : goal.returns-in_err-verdict-clause-reads
returns-in_err-verdict-clause-reads g c = stand-reads c.rows.invariant.stand.1 c.rows.invariant.reads c.read_row.ensures.reads

pub returns-in-Some-clause-reads : goal.returns-in-Some-clause-reads
returns-in-Some-clause-reads g c = stand-reads c.rows.invariant.stand.1 c.rows.invariant.reads c.read_row.ensures.reads

pub rows-preserved : goal.rows-preserved
rows-preserved g c =
    let h = c.rows.invariant in
    let read = subst (λ (o : Option Verdict). RowRead (Ok o) (g.S.Slots.sees c.args.shelf.now) (g.S.Slots.sees c.read_row.new.shelf)
    h.stand.0 c.args.slots.now (room c.rows.copies.first) c.read_row.new.self) (none-found c.in_ok-verdict.field-0 c.in_default.not-Some)
    (c.in_ok-verdict.ensures.row (g.S.Slots.sees c.args.shelf.now) h.stand.0 c.args.slots.now c.requires.different h.stand.1) in
    record {
      stand = (h.stand.0 ++ read.0 ∷ [], read.1);
      reads = stand-reads h.stand.1 h.reads c.read_row.ensures.reads;
      traffic = search rules;
    }

pub read_row-requires-clause-stand : goal.read_row-requires-clause-stand
read_row-requires-clause-stand g c = (
  g.S.Slots.sees c.args.shelf.now,
  c.rows.invariant.stand.0,
  c.args.slots.now,
  c.requires.different,
  c.rows.invariant.stand.1,
)

pub returns-in_err-verdict-clause-needed : goal.returns-in_err-verdict-clause-needed
returns-in_err-verdict-clause-needed g c copies left =
    shared-wider (g.S.Slots.sees c.args.shelf.now) (g.S.Slots.sees c.rows.shelf) (g.S.Slots.sees c.read_row.new.shelf)
    c.rows.invariant.stand.0 c.args.slots.now c.rows.copies copies c.rows.invariant.stand.1 (c.read_row.ensures.needed
    (g.S.Slots.sees c.args.shelf.now) c.rows.invariant.stand.0 c.args.slots.now c.requires.different c.rows.invariant.stand.1) left

pub returns-in-Some-clause-needed : goal.returns-in-Some-clause-needed
returns-in-Some-clause-needed g c copies left =
    shared-wider (g.S.Slots.sees c.args.shelf.now) (g.S.Slots.sees c.rows.shelf) (g.S.Slots.sees c.read_row.new.shelf)
    c.rows.invariant.stand.0 c.args.slots.now c.rows.copies copies c.rows.invariant.stand.1 (c.read_row.ensures.needed
    (g.S.Slots.sees c.args.shelf.now) c.rows.invariant.stand.0 c.args.slots.now c.requires.different c.rows.invariant.stand.1) left
