use Rattle.std.proofs.Common.{sym, ◌∙◌, ap, refl, arith, Some}
use Rattle.std.proofs.lemmas.Option.{same_Some}
use Rattle.lane.proofs.lemmas.child_processes.Scripted.{child-finishes, child-lost, child-ends, firsts-put}
use Rattle.lane.proofs.child_processes.mem_spawner.MemSpawnerSpawner.finish.Goals as goal

pub invariant_of-self : goal.invariant_of-self
invariant_of-self c = record {
  starts_within = omega arith;
  asked_within = omega arith;
  children_within = omega arith;
  asked_room = omega arith;
  children_room = omega arith;
  to_first = firsts-put c.args.self.now.scripts c.args.self.now.children.items c.args.child c.index-ended.result.now _
      c.requires.started c.index-ended.ensures refl c.args.self.now.to_first;
}

pub returns-then-is_lost-clause-finishes : goal.returns-then-is_lost-clause-finishes
returns-then-is_lost-clause-finishes c = child-finishes c.args.self.now.scripts c.args.self.now.children.items
    c.args.self.now.knows_asked c.args.self.now.asked.items c.args.self.now.faults c.args.child _ _ c.index-ended.result.now
    c.requires.started c.index-ended.ensures

pub returns-clause-finishes : goal.returns-clause-finishes
returns-clause-finishes c = child-finishes c.args.self.now.scripts c.args.self.now.children.items c.args.self.now.knows_asked
    c.args.self.now.asked.items c.args.self.now.faults c.args.child _ _ c.index-ended.result.now c.requires.started
    c.index-ended.ensures

pub returns-then-is_lost-clause-lost : goal.returns-then-is_lost-clause-lost
returns-then-is_lost-clause-lost c =
    child-lost c.args.self.now.children.items c.args.child c.index-ended.result.now _ c.requires.started c.index-ended.ensures
    ∙ c.if-is_lost.true

pub returns-clause-lost : goal.returns-clause-lost
returns-clause-lost c =
    child-lost c.args.self.now.children.items c.args.child c.index-ended.result.now _ c.requires.started c.index-ended.ensures
    ∙ c.if-is_lost.false

pub returns-clause-ends : goal.returns-clause-ends
returns-clause-ends c = λ words told.
    let status = rw c.as_slice.ensures.items at c.status_at.ensures in
    child-ends c.args.self.now.scripts c.args.self.now.children.items c.args.child c.index-ended.result.now words
    c.requires.started c.index-ended.ensures c.args.self.now.to_first told ∙ ap Some (sym status)

pub returns-clause-status : goal.returns-clause-status
returns-clause-status c = λ words end told left ends.
    let status = rw c.as_slice.ensures.items at c.status_at.ensures in
    let its = child-ends c.args.self.now.scripts c.args.self.now.children.items c.args.child c.index-ended.result.now words
    c.requires.started c.index-ended.ensures c.args.self.now.to_first told in
    status ∙ same_Some _ _ (sym its ∙ ends)
