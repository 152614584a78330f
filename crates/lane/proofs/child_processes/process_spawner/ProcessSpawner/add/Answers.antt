use Rattle.std.proofs.Common.{◌≡◌, length, rules}
use Rattle.lane.specs.child_processes.Spawners.{words_of}
use Rattle.lane.proofs.lemmas.child_processes.OpaqueState.{opaque_state-starts}
use Rattle.lane.proofs.child_processes.process_spawner.ProcessSpawner.add.Goals as goal

pub returns-clause-starts : goal.returns-clause-starts
returns-clause-starts g c =
    let count : c.in_ok-number.number ≡ length c.args.self.now.finished.items =
    (let each = c.args.self.now.one_child_each in let ok = c.args.self.now.children.ok in let done = c.args.self.now.finished.ok in
    search (rules, c.len.ensures, c.try_from.ensures, c.ok.ensures, c.in_ok-number.ensures, c.in_ok-number.is)) in
    rw (count, c.keep.ensures, c.reserve-4.ensures.items, c.reserve-5.ensures.items)
    (opaque_state-starts c.args.self.now.finished.items c.args.self.now.lost.items c.args.self.now.faults (words_of c.args.words.now))
