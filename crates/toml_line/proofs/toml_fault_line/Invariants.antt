use Rattle.std.proofs.Common.{◌≤◌, ◌+◌}
use Rattle.toml_line.proofs.toml_fault_line.Given as goal

-- a line more for each line feed so far
abbrev pub invariant-loop-byte : goal.invariant-loop-byte
invariant-loop-byte l = (1 ≤ l.line) × (l.line ≤ 1 + l.byte-index)
