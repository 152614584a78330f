-- Faults, as C receives them.
use Rattle.std.specs.Prelude.{ℕ}
use Rattle.record_grammar.specs.declared.record_fault.Reason.{Reason}
use Rattle.record_grammar.specs.declared.record_fault.Reason.TheVariants as reasons

abbrev pub reason_number : Reason → ℕ
reason_number reasons.Magic = 1
reason_number reasons.Version = 2
reason_number reasons.Range = 3
reason_number reasons.Order = 4
reason_number reasons.TooMany = 5
reason_number reasons.Truncated = 6
reason_number reasons.Trailing = 7
