use Rattle.std.proofs.Common.{◌≡◌, ◌+◌, ◌++◌, length, sym, ap, ◌∙◌, arith, length-append}
use Rattle.std.proofs.lemmas.List.{append-nil}
use Rattle.probes.specs.Reports.{reports, in_turn}
use Rattle.probes.proofs.Joining.{remaining-step}
use Rattle.probes.proofs.probe_list.report_all.Goals as goal

pub probes-init : goal.probes-init
unfolding reports in_turn
probes-init g c = record { done = sym (append-nil c.args.left.now); room = omega arith }

pub probes-preserved : goal.probes-preserved
probes-preserved g c = record {
  done =
      remaining-step (λ b. (goal.Probe-dyn g (b.vtable, b.value)).life b.value) c.deref-probe-items.result.now c.probes.probe-index
      c.probe-item.result c.args.left.now c.probes.left c.extend_from_slice.new.self c.in_ok-report.report
      c.probes-test.true c.probe-item.is c.in_ok-report.ensures.stays c.in_ok-report.ensures.bytes c.probes.invariant.done
      (c.in_ok-extend_from_slice.ensures.ok ∙ ap (λ xs. c.probes.left ++ xs) c.as_slice.ensures.items);
  room =
      let short = c.in_ok-report.ensures.short in let size : length c.extend_from_slice.new.self
      ≡ length c.probes.left + length c.in_ok-report.report = ap length
      (c.in_ok-extend_from_slice.ensures.ok ∙ ap (λ xs. c.probes.left ++ xs) c.as_slice.ensures.items)
      ∙ length-append c.probes.left c.in_ok-report.report in
      let l = c.probes.invariant.room in omega arith;
}
