use Rattle.std.proofs.Common.{◌∙◌, ap, length, min, refl, arith}
use Rattle.lane.proofs.lemmas.child_processes.Scripted.{child-reads, child-end, child-done, child-rest, firsts-put}
use Rattle.lane.proofs.child_processes.mem_spawner.MemSpawnerSpawner.read.Goals as goal

pub invariant_of-self-2 : goal.invariant_of-self-2
invariant_of-self-2 c = record {
  starts_within = omega arith;
  asked_within = omega arith;
  children_within = omega arith;
  asked_room = omega arith;
  children_room = omega arith;
  to_first = firsts-put c.args.self.now.scripts c.args.self.now.children.items c.args.child c.index-running.result.now _ c.requires
      c.index-running.ensures refl c.args.self.now.to_first;
}

pub returns-clause-reads : goal.returns-clause-reads
returns-clause-reads c = child-reads c.args.self.now.scripts c.args.self.now.children.items c.args.self.now.knows_asked
    c.args.self.now.asked.items c.args.self.now.faults c.args.child c.copy_script_rest-n.result c.index-running.result.now _ c.requires
    c.index-running.ensures (rw c.as_slice.ensures.items at c.copy_script_rest-n.ensures.front)

pub returns-clause-end : goal.returns-clause-end
returns-clause-end c = child-end c.args.self.now.scripts c.args.self.now.children.items c.args.child c.copy_script_rest-n.result
    (length c.args.buf.now) c.index-running.result.now c.requires c.index-running.ensures
    (rw c.as_slice.ensures.items at c.copy_script_rest-n.ensures.count)

pub returns-clause-done : goal.returns-clause-done
returns-clause-done c = child-done c.args.self.now.scripts c.args.self.now.children.items c.args.child c.copy_script_rest-n.result
    (length c.args.buf.now) c.index-running.result.now c.requires c.index-running.ensures
    (rw c.as_slice.ensures.items at c.copy_script_rest-n.ensures.count)

pub returns-clause-amount : goal.returns-clause-amount
returns-clause-amount c =
    let count = rw c.as_slice.ensures.items at c.copy_script_rest-n.ensures.count in
    count ∙ ap (λ rest. min (length c.args.buf.now) (length rest))
    (child-rest c.args.self.now.scripts c.args.self.now.children.items c.args.child c.index-running.result.now c.requires
    c.index-running.ensures)
