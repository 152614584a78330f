-- Which words are a command, in the user's words.
use Rattle.std.proofs.Common.{◌≡◌, ℕ, List, [], ◌∷◌, ◌++◌, map, Bool, true, false, cond, refl, ◌∙◌, ap, append-nil}
use Rattle.std.specs.Prelude.{Option, Some, None, ◌↔◌, codes, flat_map, option_to_list}
use Rattle.std.specs.Option.{option_and_then}
use Rattle.std.specs.Str.{bytes_eq}
use Rattle.std.proofs.lemmas.Slice.Eq.{bytes_eq-Decides}
use Rattle.cli_words.specs.declared.table.CommandWord.{CommandWord}
use Rattle.cli_words.specs.declared.table.CommandWord.TheVariants.{Demo}
use Rattle.cli_words.specs.declared.table.OptionWord.{OptionWord}
use Rattle.cli_words.specs.declared.table.OptionWord.TheVariants.{Workers, Seed, Cycle, Reports, Dissent, Strict, Json}
use Rattle.cli_words.specs.declared.table.TheConstants.{OPTIONS}
use Rattle.cli_words.specs.declared.options.Options.{Options}
use Rattle.cli_words.specs.Table.{row}
use Rattle.cli_words.specs.Command.{CommandValue}
use Rattle.cli_words.specs.Ranges.{value_of, IsInRange}
use Rattle.cli_words.specs.Reading.{with_words, read_by, long_form, long_form_pair, in_long_form, read_long_form, command_of}
use Rattle.cli_words.specs.Items.{Item, name, option, words_in, names_in, is_same, values_in, Gives, IsSpelling, given_items, words_of}
use Rattle.cli_words.proofs.Ranging.{in_range}
use Rattle.cli_words.proofs.Parting.{own-command}
use Rattle.cli_words.proofs.Growing.{read-given}
use Rattle.cli_words.proofs.Spelling.{spelled}
use Rattle.cli_words.specs.FirstWord.{read}

pub command_grammar_law : (words : List (List ℕ)) (c : CommandValue) → (command_of words ≡ Some c) ↔ (IsInRange c × IsSpelling words c)
command_grammar_law words c = (
  (λ e. (in_range words c e, spelled (in_long_form words) c e)),
  λ both. let s = both.1 in
      ap read_long_form s.1 ∙ read-given (row c.word).word s.0 c both.0 s.2 (own-command c.word),
)

-- ---- the words of a command

no-help : (word : CommandWord) → read_by (codes "--help" ∷ []) word ≡ None
unfolding with_words
no-help Demo = refl
no-help word = refl

no-other : (word : CommandWord) → long_form (row word).word ≡ (row word).word
no-other Demo = refl
no-other word = refl

no-helper : (word : CommandWord) → bytes_eq (row word).word (codes "help") ≡ false
no-helper Demo = refl
no-helper word = refl

-- a command's own word, and arguments after it that are read with it, have no long form but
-- themselves
own-words : (word : CommandWord) (rest : List (List ℕ)) (c : CommandValue) → read (row word).word rest ≡ Some c
    → command_of ((row word).word ∷ rest) ≡ Some c
own-words word [] c e = ap (λ (w : List ℕ). read w []) (no-other word) ∙ e
own-words word (second ∷ []) c e = by_help (bytes_eq second (codes "--help")) refl where
  own : List ℕ
  own = (row word).word

  by_help : (b : Bool) → bytes_eq second (codes "--help") ≡ b → read_long_form (long_form_pair (row word).word second) ≡ Some c
  by_help true is =
      let same : second ≡ codes "--help" = (bytes_eq-Decides second (codes "--help")).0 is in
      let none : read (row word).word (second ∷ []) ≡ None =
      ap (λ (w : List ℕ). read (row word).word (w ∷ [])) same
      ∙ ap (option_and_then (read_by (codes "--help" ∷ []))) (own-command word) ∙ no-help word in absurd cc
  by_help false is =
      ap (λ (b : Bool). read_long_form (cond b (codes "--help" ∷ second ∷ []) (cond (bytes_eq second (codes "--help"))
      (codes "--help" ∷ (row word).word ∷ []) ((row word).word ∷ second ∷ [])))) (no-helper word)
      ∙ ap (λ (b : Bool). read_long_form (cond b (codes "--help" ∷ (row word).word ∷ []) ((row word).word ∷ second ∷ []))) is ∙ e
own-words word (second ∷ third ∷ rest) c e = e

pub names-append : (items more : List Item) → names_in (items ++ more) ≡ names_in items ++ names_in more
names-append [] more = refl
names-append (name word ∷ rest) more = ap (λ (ns : List (List ℕ)). word ∷ ns) (names-append rest more)
names-append (option o n ∷ rest) more = names-append rest more

names-named : (names : List (List ℕ)) → names_in (map (λ n. name n) names) ≡ names
names-named [] = refl
names-named (first ∷ rest) = ap (λ (ns : List (List ℕ)). first ∷ ns) (names-named rest)

names-told : (options : Options) (os : List OptionWord) → names_in (flat_map (given_items options) os) ≡ []
names-told options [] = refl
names-told options (o ∷ os) = by_value (value_of o options) (names-told options os) where
  by_value : (v : Option ℕ) → names_in (flat_map (given_items options) os) ≡ []
      → names_in (map (λ n. option o n) (option_to_list v) ++ flat_map (given_items options) os) ≡ []
  by_value (Some n) rest = rest
  by_value None rest = rest

pub values-append : (o : OptionWord) (items more : List Item) → values_in o (items ++ more) ≡ values_in o items ++ values_in o more
values-append o [] more = refl
values-append o (name word ∷ rest) more = values-append o rest more
values-append o (option p n ∷ rest) more = by_same (is_same o p) (values-append o rest more) where
  by_same : (b : Bool) → values_in o (rest ++ more) ≡ values_in o rest ++ values_in o more
      → cond b (n ∷ values_in o (rest ++ more)) (values_in o (rest ++ more))
      ≡ cond b (n ∷ values_in o rest) (values_in o rest) ++ values_in o more
  by_same true e = ap (λ (vs : List ℕ). n ∷ vs) e
  by_same false e = e

values-named : (o : OptionWord) (names : List (List ℕ)) → values_in o (map (λ n. name n) names) ≡ []
values-named o [] = refl
values-named o (first ∷ rest) = values-named o rest

-- the values of an option among those of these options
values_among : OptionWord → Options → List OptionWord → List ℕ
values_among o options os = flat_map (λ p. cond (is_same o p) (option_to_list (value_of p options)) []) os

values-told : (o : OptionWord) (options : Options) (os : List OptionWord)
    → values_in o (flat_map (given_items options) os) ≡ values_among o options os
unfolding values_among
values-told o options [] = refl
values-told o options (p ∷ os) = by_case (value_of p options) (is_same o p) refl (values-told o options os) where
  by_case : (v : Option ℕ) (b : Bool) → is_same o p ≡ b → values_in o (flat_map (given_items options) os) ≡ values_among o options os
      → values_in o (map (λ n. option p n) (option_to_list v) ++ flat_map (given_items options) os)
      ≡ cond b (option_to_list v) [] ++ values_among o options os
  by_case None true same e = e
  by_case None false same e = e
  by_case (Some n) true same e =
      ap (λ (b : Bool). cond b (n ∷ values_in o (flat_map (given_items options) os)) (values_in o (flat_map (given_items options) os))) same
      ∙ ap (λ (vs : List ℕ). n ∷ vs) e
  by_case (Some n) false same e =
      ap (λ (b : Bool). cond b (n ∷ values_in o (flat_map (given_items options) os)) (values_in o (flat_map (given_items options) os))) same
      ∙ e

values-own : (o : OptionWord) (options : Options) → values_among o options OPTIONS ≡ option_to_list (value_of o options)
unfolding values_among
values-own Workers options = append-nil (option_to_list (value_of Workers options))
values-own Seed options = append-nil (option_to_list (value_of Seed options))
values-own Cycle options = append-nil (option_to_list (value_of Cycle options))
values-own Reports options = append-nil (option_to_list (value_of Reports options))
values-own Dissent options = append-nil (option_to_list (value_of Dissent options))
values-own Strict options = append-nil (option_to_list (value_of Strict options))
values-own Json options = append-nil (option_to_list (value_of Json options))

given : (c : CommandValue) → Gives (map (λ n. name n) c.names ++ flat_map (given_items c.options) OPTIONS) c
given c =
    let named = map (λ n. name n) c.names in
    let told = flat_map (given_items c.options) OPTIONS in record {
      names = names-append named told ∙ ap (λ (ns : List (List ℕ)). ns ++ names_in told) (names-named c.names)
          ∙ ap (λ (ns : List (List ℕ)). c.names ++ ns) (names-told c.options OPTIONS) ∙ append-nil c.names;
      options = λ o. values-append o named told ∙ ap (λ (vs : List ℕ). vs ++ values_in o told) (values-named o c.names)
          ∙ values-told o c.options OPTIONS ∙ values-own o c.options;
    }

pub canonical_words_law : (c : CommandValue) → IsInRange c → command_of (words_of c) ≡ Some c
canonical_words_law c range =
    let items = map (λ n. name n) c.names ++ flat_map (given_items c.options) OPTIONS in
    own-words c.word (words_in items) c (read-given (row c.word).word items c range (given c) (own-command c.word))
