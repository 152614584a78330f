-- There is a text of help for every name that help takes.
use Rattle.std.proofs.Common.{◌≡◌, ℕ, List, [], ◌∷◌, Bool, true, false, refl, sym, subst, arith}
use Rattle.std.specs.Prelude.{Option, Some, None, All, ◌&&◌, is_some, option_and_then}
use Rattle.cli_words.specs.declared.table.CommandWord.{CommandWord}
use Rattle.cli_words.specs.declared.table.CommandWord.TheVariants.{Demo, Record, Replay, Check, Compare, Show, Needs, Sim}
use Rattle.cli_words.specs.declared.table.CommandWord.TheVariants.{Salvage, Upgrade, Vote, Chain, Help, Version}
use Rattle.cli_words.specs.declared.table.NameKind.TheVariants.{Command}
use Rattle.cli_words.specs.Names.{is_name, is_name_of}
use Rattle.cli_words.specs.Table.{row, command_word}
use Rattle.cli_words.specs.Command.{CommandValue}
use Rattle.cli_words.specs.Ranges.{IsInRange}
use Rattle.cli_words.proofs.Parting.{command-is}
use Rattle.det_cli.specs.Texts.{command_page, help_text}

abbrev IsThere : Option (List ℕ) → Type 0
IsThere told = (text : List ℕ) × (told ≡ Some text)

-- a command whose word is a name has a page
page-there : (word : CommandWord) → is_name (row word).word ≡ true → IsThere (command_page word)
page-there Demo name = (_, refl)
page-there Record name = (_, refl)
page-there Replay name = (_, refl)
page-there Check name = (_, refl)
page-there Compare name = (_, refl)
page-there Show name = (_, refl)
page-there Needs name = (_, refl)
page-there Sim name = (_, refl)
page-there Salvage name = (_, refl)
page-there Upgrade name = (_, refl)
page-there Vote name = (_, refl)
page-there Chain name = (_, refl)
page-there Help name = absurd cc
page-there Version name = absurd cc

both : (a b : Bool) → a && b ≡ true → (a ≡ true) × (b ≡ true)
both true true e = (refl, refl)
both true false e = absurd cc
both false b e = absurd cc

named-there : (name : List ℕ) (found : Option CommandWord) → command_word name ≡ found → is_name name ≡ true → is_some found ≡ true
    → IsThere (option_and_then command_page found)
named-there name (Some word) is named some =
    page-there word (subst (λ (w : List ℕ). is_name w ≡ true) (sym (command-is name word is)) named)
named-there name None is named some = absurd cc

text-there : (names : List (List ℕ)) → All (λ name. is_name_of Command name ≡ true) names → IsThere (help_text names)
text-there [] all = (_, refl)
text-there (name ∷ rest) all =
    let of = both (is_name name) (is_some (command_word name)) (all 0 name (omega arith)) in
    named-there name (command_word name) refl of.0 of.1

pub help-there : (c : CommandValue) → IsInRange c → c.word ≡ Help → IsThere (help_text c.names)
help-there c range is =
    text-there c.names (subst (λ (w : CommandWord). All (λ name. is_name_of (row w).names name ≡ true) c.names) is range.names)
