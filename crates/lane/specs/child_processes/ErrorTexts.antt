-- What a child writes to standard error, as lines with its name.
use Rattle.std.specs.Prelude.{◌≡◌, ℕ, List, [], ◌∷◌, ◌++◌, length, nat_eq, nat_lt, codes, decimal}
use Rattle.std.specs.Prelude.{if◌then◌else◌}
use Rattle.det_io.specs.Sink.{Grew}

-- the child's name, with which each line begins
abbrev pub child_prefix : (child : ℕ) → List ℕ
child_prefix child = codes "child " ++ (decimal child ++ codes ": ")

-- the line that has no end yet, with its prefix, and the lines that were written before it
pub record LineState : Type 0 where
  pub line : List ℕ
  pub written : List ℕ

-- a line, and nothing written before it
abbrev pub not_written : List ℕ → LineState
not_written line = record { line = line; written = [] }

abbrev pub with_byte : LineState → ℕ → LineState
with_byte s b = record { line = s.line ++ b ∷ []; written = s.written }

abbrev pub end_line : (prefix : List ℕ) → LineState → LineState
end_line prefix s = record { line = prefix; written = s.written ++ (s.line ++ 10 ∷ []) }

-- one more byte: a line feed ends the line, and a line that has its greatest length is cut
abbrev pub line_step : (prefix : List ℕ) → LineState → ℕ → LineState
line_step prefix s b =
    if nat_eq b 10 then end_line prefix s
    else if nat_lt (length s.line) 4096 then with_byte s b
    else with_byte (end_line prefix s) b

-- one byte after another
unfoldable pub lines_after : (prefix : List ℕ) → LineState → List ℕ → LineState
lines_after prefix s [] = s
lines_after prefix s (b ∷ bytes) = lines_after prefix (line_step prefix s b) bytes

-- these lines were written, and this line has no end yet
pub record Took (s : LineState) (next : List ℕ) (before after : List ℕ → Type 0) : Type 0 where
  pub line : next ≡ s.line
  pub written : Grew before after s.written
