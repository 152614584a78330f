use Rattle.std.proofs.Common.{◌≡◌, sym, ◌∙◌, length, rules, arith}
use Rattle.lane.specs.child_processes.Spawners.{words_of}
use Rattle.lane.proofs.lemmas.child_processes.Scripted.{found-asks, found-starts, firsts-more}
use Rattle.lane.proofs.child_processes.mem_spawner.MemSpawnerSpawner.start.Goals as goal

pub invariant_of-self-2 : goal.invariant_of-self-2
invariant_of-self-2 c =
    let found = rw c.as_slice.ensures.items at c.index_of.ensures in
    record {
      starts_within = omega arith;
      asked_within = omega arith;
      children_within = omega arith;
      asked_room = omega arith;
      children_room = omega arith;
      to_first = rw c.push_within-2.ensures.items (firsts-more c.args.self.now.scripts (words_of c.args.words.now)
          c.args.self.now.children.items _ (sym found ∙ c.in-Some.is) c.args.self.now.to_first);
    }

pub returns-then-is_listed-clause-asks : goal.returns-then-is_listed-clause-asks
returns-then-is_listed-clause-asks c =
    let found = rw c.as_slice.ensures.items at c.index_of.ensures in
    rw c.push_within.ensures.items (found-asks c.args.self.now.scripts c.args.self.now.children.items _ c.args.self.now.knows_asked
    c.args.self.now.asked.items c.args.self.now.faults _ c.in-Some.script (words_of c.args.words.now) (sym found ∙ c.in-Some.is))

pub returns-clause-starts : goal.returns-clause-starts
returns-clause-starts c =
    let found = rw c.as_slice.ensures.items at c.index_of.ensures in
    let count : c.len-number.result ≡ length c.args.self.now.children.items =
    (let ok = c.args.self.now.children.ok in search (rules, c.len-number.ensures)) in
    rw (c.push_within-2.ensures.items, count) (found-starts c.args.self.now.scripts c.args.self.now.children.items
    c.args.self.now.knows_asked c.args.self.now.asked.items _ c.args.self.now.faults _ c.in-Some.script (words_of c.args.words.now)
    (sym found ∙ c.in-Some.is))

pub returns-clause-asks : goal.returns-clause-asks
returns-clause-asks c =
    let found = rw c.as_slice.ensures.items at c.index_of.ensures in
    rw c.push_within.ensures.items (found-asks c.args.self.now.scripts c.args.self.now.children.items _ c.args.self.now.knows_asked
    c.args.self.now.asked.items c.args.self.now.faults _ c.in-Some.script (words_of c.args.words.now) (sym found ∙ c.in-Some.is))
