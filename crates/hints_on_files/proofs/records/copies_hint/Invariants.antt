use Rattle.std.proofs.Common.{◌≡◌, ◌<◌, length, true, IfSome}
use Rattle.hints_on_files.specs.Kinds.{is_of_record}
use Rattle.hints_on_files.proofs.records.copies_hint.Given as goal

abbrev pub invariant-loop-copy : goal.invariant-loop-copy
invariant-loop-copy g l =
    IfSome l.first (λ found. is_of_record found.1 ≡ true)
    × IfSome l.first (λ found. found.0 < length l.names)
