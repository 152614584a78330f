use Rattle.std.proofs.Common.{◌≡◌, ◌≤◌, ◌+◌, ◌*◌, [], ◌++◌, map, length, take}
use Rattle.probes.specs.Reports.{reports}
use Rattle.probes.proofs.probe_list.report_all.Given as goal

abbrev pub invariant-probes : goal.invariant-probes
invariant-probes g l = record {
  done : l.left ≡ l.initial.left
      ++ reports (map (λ b. (goal.Probe-dyn g (b.vtable, b.value)).life b.value) (take l.probe-index l.probe-items)) [];
  room : length l.left ≤ length l.initial.left + 256 * l.probe-index;
}
