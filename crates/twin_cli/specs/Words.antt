-- The arguments of `det_twin`.
use Rattle.std.specs.Prelude.{ℕ, ◌^◌, List, [], ◌∷◌, Bool, true, false, ◌&&◌, nat_lt}
use Rattle.std.specs.Prelude.{Option, Some, None, option_map, option_and_then, if◌then◌else◌, codes}
use Rattle.std.specs.Str.{bytes_eq}
use Rattle.cli_words.specs.declared.text_word.TextWord.{TextWord}
use Rattle.cli_words.specs.PlainWords.{parse_copies, text_word}
use Rattle.cli_words.specs.Names.{is_name}
use Rattle.cli_words.specs.Number.{number_of}
use Rattle.twin_cli.specs.declared.options.Twins as code
use Rattle.twin_cli.specs.declared.twin_command.TwinCommand as commands
use Rattle.twin_cli.specs.declared.twin_command.TwinCommand.TheVariants.{Text, Run}
use Rattle.twin_cli.specs.declared.options.TwinOptions.{TwinOptions}
use Rattle.twin_cli.specs.declared.options.Flip.{Flip}

-- copies of the run of a manifest over a stimulus
pub record TwinsValue : Type 0 where
  pub copies : ℕ
  pub manifest : List ℕ
  pub stimulus : List ℕ
  pub options : TwinOptions

abbrev pub twins_value : code.Twins → TwinsValue
twins_value twins = record {
  copies = twins.copies;
  manifest = twins.manifest.now;
  stimulus = twins.stimulus.now;
  options = twins.options;
}

pub data CommandValue : Type 0 where
  printing : (word : TextWord) → CommandValue
  run : (twins : TwinsValue) → CommandValue

abbrev pub command_value : commands.TwinCommand → CommandValue
command_value (Text word) = printing word
command_value (Run twins) = run (twins_value twins)

-- the frame of this number, which fits 32 bits, of one of the copies
abbrev pub flip_in : (copies copy number : ℕ) → Option Flip
flip_in copies copy number =
    if nat_lt copy copies && nat_lt number (2 ^ 32)
    then Some (record { copy = copy; number = number }) else None

abbrev pub flip_of : ℕ → (copy number : List ℕ) → Option Flip
flip_of copies copy number = option_and_then (λ k. option_and_then (flip_in copies k)
    (number_of number)) (number_of copy)

abbrev pub is_strict : List ℕ → Bool
is_strict word = bytes_eq word (codes "--strict")

abbrev pub is_flip : List ℕ → Bool
is_flip word = bytes_eq word (codes "--flip")

abbrev pub with_flip : Bool → Option Flip → Option TwinOptions
with_flip strict flip = option_map (λ f. record { strict = strict; flip = Some f }) flip

-- `--flip K F`
abbrev pub flip_options : ℕ → Bool → (word copy number : List ℕ) → Option TwinOptions
flip_options copies strict word copy number =
    if is_flip word then with_flip strict (flip_of copies copy number) else None

abbrev pub one_option : List ℕ → Option TwinOptions
one_option word = if is_strict word then Some (record { strict = true; flip = None }) else None

-- `--strict` and `--flip K F`, in either order
abbrev pub both : ℕ → (a b c d : List ℕ) → Option TwinOptions
both copies a b c d =
    if is_strict a then flip_options copies true b c d
    else if is_strict d then flip_options copies true a b c
    else None

-- `--strict` and `--flip K F`, each at most once, in any order
abbrev pub options_of : ℕ → List (List ℕ) → Option TwinOptions
options_of copies [] = Some (record { strict = false; flip = None })
options_of copies (word ∷ []) = one_option word
options_of copies (word ∷ copy ∷ number ∷ []) = flip_options copies false word copy number
options_of copies (a ∷ b ∷ c ∷ d ∷ []) = both copies a b c d
options_of copies words = None

abbrev pub twins_by : (manifest stimulus : List ℕ) → ℕ → List (List ℕ) → Option CommandValue
twins_by manifest stimulus copies rest = option_map (λ o. run (record {
  copies = copies;
  manifest = manifest;
  stimulus = stimulus;
  options = o;
})) (options_of copies rest)

-- COPIES MANIFEST STIM, and then options
abbrev pub twins_of : (copies manifest stimulus : List ℕ) → List (List ℕ) → Option CommandValue
twins_of copies manifest stimulus rest =
    if is_name manifest && is_name stimulus
    then option_and_then (λ n. twins_by manifest stimulus n rest)
    (parse_copies copies)
    else None

-- the command that the arguments after the program's name are
abbrev pub command_of : List (List ℕ) → Option CommandValue
command_of (word ∷ []) = option_map printing (text_word word)
command_of (copies ∷ manifest ∷ stimulus ∷ rest) = twins_of copies manifest stimulus rest
command_of words = None
