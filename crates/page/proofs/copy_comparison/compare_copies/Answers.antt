use Rattle.page.specs.Shelves.{rests_of}
use Rattle.page.proofs.CopySlots.{given-all, different-all, left-all, is-verdict}
use Rattle.page.proofs.copy_comparison.compare_copies.Goals as goal

pub compare-requires-clause-given : goal.compare-requires-clause-given
compare-requires-clause-given c = given-all c.args.bytes.now c.args.lengths.now (rests_of c.in_ok-shelf.shelf) c.first_slots.result.now
    c.requires.few c.in_ok-shelf.ensures c.first_slots.ensures

pub compare-requires-clause-different : goal.compare-requires-clause-different
compare-requires-clause-different c = different-all c.args.bytes.now c.args.lengths.now (rests_of c.in_ok-shelf.shelf)
    c.first_slots.result.now c.requires.few c.in_ok-shelf.ensures c.first_slots.ensures

pub returns : goal.returns
returns c = is-verdict c.compare.result _
    (c.compare.ensures.compared.is _ (left-all c.args.bytes.now c.args.lengths.now (rests_of c.in_ok-shelf.shelf)
    c.first_slots.result.now c.requires.few c.in_ok-shelf.ensures c.first_slots.ensures))
    c.compare.ensures.traffic.cause c.compare.ensures.writes_nothing
