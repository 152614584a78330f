-- The arguments of `det_lane`, and those of its children.
use Rattle.std.specs.Prelude.{ℕ, ◌+◌, zero, suc, List, [], ◌∷◌, Bool, ◌&&◌, nat_le, Option, Some}
use Rattle.std.specs.Prelude.{None, option_map, option_and_then, if◌then◌else◌, codes, decimal}
use Rattle.std.specs.Str.{bytes_eq}
use Rattle.lane.specs.child_processes.Spawners.{Words}
use Rattle.cli_words.specs.declared.text_word.TextWord.{TextWord}
use Rattle.cli_words.specs.PlainWords.{parse_copies, text_word}
use Rattle.cli_words.specs.Names.{is_name, texts}
use Rattle.cli_words.specs.Number.{number_of}
use Rattle.lane.specs.declared.lane.Lane as code
use Rattle.lane.specs.declared.lane_options.LaneOptions as options
use Rattle.lane.specs.declared.lane_command.LaneCommand as commands
use Rattle.lane.specs.declared.lane_command.LaneCommand.TheVariants.{Text, Run}

-- the arguments after the names
pub record OptionsValue : Type 0 where
  -- the most seconds for which a child may write nothing, if there is a limit
  pub limit : Option ℕ
  -- the arguments after `--`
  pub extra : List (List ℕ)

abbrev pub options_value : options.LaneOptions → OptionsValue
options_value options = record { limit = options.limit; extra = texts options.extra.now }

-- a program that is run in this many copies, each with this manifest and this stimulus
pub record LaneValue : Type 0 where
  pub program : List ℕ
  pub copies : ℕ
  pub manifest : List ℕ
  pub stimulus : List ℕ
  pub options : OptionsValue

abbrev pub lane_value : code.Lane → LaneValue
lane_value lane = record {
  program = lane.program.now;
  copies = lane.copies;
  manifest = lane.manifest.now;
  stimulus = lane.stimulus.now;
  options = options_value lane.options;
}

pub data CommandValue : Type 0 where
  printing : (word : TextWord) → CommandValue
  run : (lane : LaneValue) → CommandValue

abbrev pub command_value : commands.LaneCommand → CommandValue
command_value (Text word) = printing word
command_value (Run lane) = run (lane_value lane)

abbrev pub are_names : List ℕ → List ℕ → List ℕ → Bool
are_names program manifest stimulus = is_name program && (is_name manifest && is_name stimulus)

-- 1 second to a day
abbrev pub seconds_in : ℕ → Option ℕ
seconds_in n = if nat_le 1 n && nat_le n 86400 then Some n else None

abbrev pub seconds_of : List ℕ → Option ℕ
seconds_of word = option_and_then seconds_in (number_of word)

-- `-- WORD..`, or nothing
abbrev pub extra_of : List (List ℕ) → Option (List (List ℕ))
extra_of [] = Some []
extra_of (dashes ∷ extra) = if bytes_eq dashes (codes "--") then Some extra else None

abbrev pub unlimited : List (List ℕ) → Option OptionsValue
unlimited words = option_map (λ extra. record { limit = None; extra = extra }) (extra_of words)

-- what follows `--timeout`
abbrev pub limited : (seconds : List ℕ) → List (List ℕ) → Option OptionsValue
limited seconds words = option_and_then
    (λ n. option_map (λ extra. record { limit = Some n; extra = extra }) (extra_of words))
    (seconds_of seconds)

-- `--timeout S` and then `-- WORD..`, each of which may be left out
abbrev pub options_of : List (List ℕ) → Option OptionsValue
options_of (option ∷ seconds ∷ words) =
    if bytes_eq option (codes "--timeout") then limited seconds words
    else unlimited (option ∷ seconds ∷ words)
options_of words = unlimited words

abbrev pub lane_with : (program manifest stimulus : List ℕ) → List (List ℕ) → ℕ
    → Option CommandValue
lane_with program manifest stimulus rest n = option_map (λ o. run (record {
  program = program;
  copies = n;
  manifest = manifest;
  stimulus = stimulus;
  options = o;
})) (options_of rest)

-- PROGRAM COPIES MANIFEST STIM, and then options
abbrev pub lane_of : (program copies manifest stimulus : List ℕ) → List (List ℕ)
    → Option CommandValue
lane_of program copies manifest stimulus rest =
    if are_names program manifest stimulus
    then option_and_then (lane_with program manifest stimulus rest) (parse_copies copies)
    else None

-- the command that the arguments after the program's name are
abbrev pub command_of : List (List ℕ) → Option CommandValue
command_of (word ∷ []) = option_map printing (text_word word)
command_of (program ∷ copies ∷ manifest ∷ stimulus ∷ rest) =
    lane_of program copies manifest stimulus rest
command_of words = None

-- the most seconds for which a child of a command may write nothing, if there is a limit
abbrev pub limit_in : Option CommandValue → Option ℕ
limit_in (Some (run lane)) = lane.options.limit
limit_in command = None

-- child k writes the record of the manifest over the stimulus with k + 1 workers, and gets what
-- follows `--` after that
abbrev pub child_words : LaneValue → ℕ → Words
child_words lane k =
    lane.program ∷ codes "record" ∷ lane.manifest ∷ lane.stimulus
    ∷ codes "--workers" ∷ decimal (k + 1) ∷ lane.options.extra

-- the arguments of n children from child k on
unfoldable pub words_from : LaneValue → (k n : ℕ) → List Words
words_from lane k zero = []
words_from lane k (suc n) = child_words lane k ∷ words_from lane (k + 1) n

-- the arguments of all children
abbrev pub words_of_all : LaneValue → List Words
words_of_all lane = words_from lane 0 lane.copies
