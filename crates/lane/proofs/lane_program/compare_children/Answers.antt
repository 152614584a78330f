use Rattle.std.proofs.Common.{◌≡◌, ◌≤◌, sym, subst, arith, rules}
use Rattle.copies.specs.CompareCopies.{AreDifferent, Compared}
use Rattle.lane.specs.child_processes.ChildShelves.{shelf_state}
use Rattle.lane.specs.Watched.{Watched}
use Rattle.lane.specs.Words.{lane_value}
use Rattle.lane.proofs.Asking.{asks-prefix-kept}
use Rattle.lane.proofs.Slots.{slots-are, are-different}
use Rattle.lane.proofs.ChildrenVerdict.{watched}
use Rattle.lane.proofs.lane_program.compare_children.Goals as goal

pub compare-compared-requires-clause-different : goal.compare-compared-requires-clause-different
compare-compared-requires-clause-different g c =
    let n = c.args.lane.now.copies in
    subst AreDifferent (sym (slots-are n (omega arith))) (are-different n)

pub returns : goal.returns
returns g c =
    let first = g.P.Spawner.sees c.args.children.now.spawner in
    let mid = g.P.Spawner.sees c.start_all-started.new.spawner in
    let late = g.P.Spawner.sees c.compare-compared.new.shelf.spawner in
    let last = g.P.Spawner.sees c.finish_all-statuses.new.spawner in
    let lane = lane_value c.args.lane.now in
    let r = c.compare-compared.result in
    let ends = c.finish_all-statuses.result in
    let traffic = c.compare-compared.ensures.traffic in
    let count : c.start_all-started.result.count ≡ lane.copies = search rules in
    let children : last.children ≤ lane.copies = search rules in
    let same = slots-are lane.copies (omega arith) in
    subst (Watched first last lane) (sym c.verdict_or_answer.ensures)
    (watched {first = first} {mid = mid} {late = late} {last = last} lane ends r (record {
      left = λ k below. c.start_all-started.ensures.left k (omega arith);
      fixed = c.start_all-started.ensures.fixed;
      stays = traffic.stays;
      children = search rules;
      long = search rules;
      statuses = c.finish_all-statuses.ensures.statuses;
    }) (subst (Compared r (shelf_state mid) (shelf_state late)) same c.compare-compared.ensures.compared)
    c.compare-compared.ensures.writes_nothing traffic.cause c.finish_all-statuses.ensures.lost (record {
      started = c.start_all-started.ensures.counted;
      compared = traffic.counted;
      finished = c.finish_all-statuses.ensures.faults;
    }) (asks-prefix-kept c.start_all-started.ensures.asks (search rules)) children c.finish_all-statuses.ensures.finished)
