use Rattle.std.proofs.Common.{◌≡◌, ◌≤◌, length}
use Rattle.page.specs.Walks.{left, runs_left}
use Rattle.page.proofs.record_walk.RecordWalk.next_run.Given as goal

abbrev pub invariant-items : goal.invariant-items
invariant-items l = record {
  runs : runs_left l.self ≡ runs_left l.fn.self;
  ending : (left l.self).ending ≡ (left l.fn.self).ending;
  shorter : length l.self.rest.now ≤ length l.fn.self.rest.now;
}

abbrev pub decreases-items : goal.decreases-items
decreases-items l = length l.self.rest.now
