-- The fault of a record that a struct of C stands for.
use Rattle.std.specs.Prelude.{ℕ, ◌==◌, Option, Some, None, if◌then◌else◌, option_map}
use Rattle.record_grammar.specs.declared.record_fault.Reason.{Reason}
use Rattle.record_grammar.specs.declared.record_fault.Reason.TheVariants.{Magic, Version, Range}
use Rattle.record_grammar.specs.declared.record_fault.Reason.TheVariants.{Order, TooMany, Truncated}
use Rattle.record_grammar.specs.declared.record_fault.Reason.TheVariants.{Trailing}
use Rattle.record_grammar.specs.declared.record_fault.RecordFault.{RecordFault}
use Rattle.c_types.specs.declared.frame.DetRecordFault.{DetRecordFault}

abbrev pub reason_of : ℕ → Option Reason
reason_of n =
    if n == 1 then Some Magic
    else if n == 2 then Some Version
    else if n == 3 then Some Range
    else if n == 4 then Some Order
    else if n == 5 then Some TooMany
    else if n == 6 then Some Truncated
    else if n == 7 then Some Trailing
    else None

abbrev pub record_fault_of : DetRecordFault → Option RecordFault
record_fault_of f =
    option_map (λ reason. record { offset = f.offset; reason = reason }) (reason_of f.reason)
