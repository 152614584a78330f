-- What contracts see of the line of a child.
use Rattle.std.specs.Prelude.{ℕ, List}
use Rattle.lane.specs.declared.child_processes.error_line.ErrorLine.{ErrorLine}

-- the name with which each line begins
abbrev pub prefix_of : ErrorLine → List ℕ
prefix_of line = line.prefix.items

-- the line that has no end yet, with its prefix
abbrev pub line_of : ErrorLine → List ℕ
line_of line = line.line.items
