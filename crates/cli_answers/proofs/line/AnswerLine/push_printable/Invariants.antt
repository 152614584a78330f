use Rattle.std.proofs.Common.{◌≡◌, ◌++◌, map, take}
use Rattle.cli_answers.specs.Answers.{printable}
use Rattle.cli_answers.proofs.line.AnswerLine.push_printable.Given as goal

abbrev pub invariant-loop-byte : goal.invariant-loop-byte
invariant-loop-byte l = l.self ≡ l.fn.self ++ map printable (take l.byte-index l.bytes)
