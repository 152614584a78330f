use Rattle.std.proofs.Common.{◌≡◌, ◌++◌, drop}
use Rattle.record_json.specs.Reports.{inner_text}
use Rattle.record_json.proofs.reports_line.put_inner.Given as goal

abbrev pub invariant-loop-i : goal.invariant-loop-i
invariant-loop-i l = l.out.items ++ inner_text (drop l.i l.reports) ≡ l.initial.out.items ++ inner_text l.reports
