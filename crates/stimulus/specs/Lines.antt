-- The lines of a stimulus, without their LF. The grammar is this project's own.
use Rattle.std.specs.Prelude.{ℕ, ◌+◌, ◌^◌, ◌==◌, List, ◌++◌, take, drop, position, Option, None}
use Rattle.std.specs.Prelude.{Some, if◌then◌else◌, codes, option_map, option_and_then}
use Rattle.std.specs.Option.{option_zip}
use Rattle.std.specs.Str.{bytes_eq}
use Rattle.std.specs.Fmt.{decimal, signed_decimal}
use Rattle.stimulus.specs.declared.parse_line.Line.{Line}
use Rattle.stimulus.specs.declared.parse_line.Line.TheVariants as lines
use Rattle.stimulus.specs.Numbers.{number, below, value_of}

-- what comes after `cycle `
abbrev pub cycle_line : List ℕ → Option Line
cycle_line time =
    if bytes_eq time (codes "-") then Some (lines.Cycle None)
    else option_map (λ t. lines.Cycle (Some t)) (below (2 ^ 64) (number time))

-- an event and a value, separated by the space at this place
abbrev pub sample_words : ℕ → List ℕ → ℕ → Option Line
sample_words events words space =
    option_map (λ s. lines.Sample (record { event = s.0; value = s.1 }))
    (option_zip (below events (number (take space words))) (value_of (drop (space + 1) words)))

-- what comes after `sample `: two fields, separated by the first space
abbrev pub sample_line : ℕ → List ℕ → Option Line
sample_line events words =
    option_and_then (sample_words events words) (position (λ b. b == 32) words)

-- the content of a line for this number of events, or none
unfoldable pub line_of : ℕ → List ℕ → Option Line
line_of events line =
    if bytes_eq line (codes "stim 1") then Some lines.Stim
    else if bytes_eq line (codes "terminate") then Some lines.Terminate
    else if bytes_eq (take 6 line) (codes "cycle ") then cycle_line (drop 6 line)
    else if bytes_eq (take 7 line) (codes "sample ") then sample_line events (drop 7 line)
    else None

-- the spelling of a line
abbrev pub spelling : Line → List ℕ
spelling lines.Stim = codes "stim 1"
spelling (lines.Cycle None) = codes "cycle -"
spelling (lines.Cycle (Some time)) = codes "cycle " ++ decimal time
spelling (lines.Sample s) =
    codes "sample " ++ (decimal s.event ++ (codes " " ++ signed_decimal s.value))
spelling lines.Terminate = codes "terminate"
