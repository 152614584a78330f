-- What is read as a command is its word, and after it items that give it.
use Rattle.std.proofs.Common.{◌≡◌, ℕ, List, [], ◌∷◌, ◌++◌, length, Bool, true, false, ◌&&◌, not, cond, nat_le, nat_lt, refl, sym, ◌∙◌, ap}
use Rattle.std.proofs.Common.{subst, append-nil, append_assoc}
use Rattle.std.specs.Prelude.{Option, Some, None, is_some, is_none, option_to_list, decimal}
use Rattle.std.specs.Option.{option_and_then}
use Rattle.std.proofs.lemmas.Bool.{and_parts}
use Rattle.std.proofs.lemmas.Slice.Eq.{bytes_eq-Decides}
use Rattle.cli_words.specs.declared.table.CommandWord.{CommandWord}
use Rattle.cli_words.specs.declared.table.OptionWord.{OptionWord}
use Rattle.cli_words.specs.declared.options.Options.{Options}
use Rattle.cli_words.specs.Number.{number_of}
use Rattle.cli_words.specs.Names.{is_name_of}
use Rattle.cli_words.specs.Table.{row, command_word, option_row, option_word, option_in, is_among}
use Rattle.cli_words.specs.Command.{CommandValue, is_given, with_given, has_conflict}
use Rattle.cli_words.specs.Ranges.{value_of, IsWithin}
use Rattle.cli_words.specs.Reading.{Reading, into_reading, bare_command, is_in_range, with_number, with_words, is_whole, into_command}
use Rattle.cli_words.specs.Reading.{read_by, read_long_form}
use Rattle.cli_words.specs.Items.{Item, name, option, option_words, words_in, names_in, is_same, values_in, Gives}
use Rattle.cli_words.proofs.Decimals.{number_of-is}
use Rattle.cli_words.proofs.Ranging.{not_given, none-within, within-range}
use Rattle.cli_words.proofs.Parting.{own-option, option-is, command-is, told-value, not_given-none}
use Rattle.cli_words.proofs.Growing.{told_list, Grows}
use Rattle.cli_words.proofs.Choosing.{with_option_or_name}

record Spelled (words : List (List ℕ)) (from to : CommandValue) : Type 0 where
  items : List Item
  is : words ≡ words_in items
  grows : Grows from items to

same-option : (o p : OptionWord) → is_same o p ≡ true → o ≡ p
same-option o p e =
    let word : (option_row o).word ≡ (option_row p).word = (bytes_eq-Decides (option_row o).word (option_row p).word).0 e in
    let same : ◌≡◌ {A = Option OptionWord} (Some o) (Some p) = sym (own-option o).0 ∙ ap option_word word ∙ (own-option p).0 in cc

pub grows-itself : (c : CommandValue) → Grows c [] c
grows-itself c = record {
  word = refl;
  names = sym (append-nil c.names);
  options = λ o. sym (append-nil (told_list o c));
}

pub grown-name : (word : List ℕ) (items : List Item) (c to : CommandValue) → Grows (record c { names = c.names ++ word ∷ [] }) items to
    → Grows c (name word ∷ items) to
grown-name word items c to g = record {
  word = g.word;
  names = g.names ∙ append_assoc c.names (word ∷ []) (names_in items);
  options = g.options;
}

name-before : (word : List ℕ) (rest : List (List ℕ)) (c to : CommandValue)
    → Spelled rest (record c { names = c.names ++ word ∷ [] }) to → Spelled (word ∷ rest) c to
name-before word rest c to s = record {
  items = name word ∷ s.items;
  is = ap (λ (ws : List (List ℕ)). word ∷ ws) s.is;
  grows = grown-name word s.items c to s.grows;
}

values-more : (o p : OptionWord) (n : ℕ) (options : Options) (rest : List ℕ) → value_of o options ≡ None → (same : Bool)
    → is_same p o ≡ same
    → option_to_list (cond same (Some n) (value_of p options)) ++ rest ≡ option_to_list (value_of p options) ++ cond same (n ∷ rest) rest
values-more o p n options rest none true e =
    let own : value_of p options ≡ None = subst (λ (q : OptionWord). value_of q options ≡ None) (sym (same-option p o e)) none in
    sym (ap (λ (v : Option ℕ). option_to_list v ++ n ∷ rest) own)
values-more o p n options rest none false e = refl

pub grown-option : (o : OptionWord) (n : ℕ) (items : List Item) (c to : CommandValue) → value_of o c.options ≡ None
    → IsWithin (option_row o).range n
    → Grows (record c { options = with_given o n c.options }) items to → Grows c (option o n ∷ items) to
grown-option o n items c to none within g = record {
  word = g.word;
  names = g.names;
  options = λ p. g.options p
      ∙ ap (λ (v : Option ℕ). option_to_list v ++ values_in p items) (told-value o p n c.options within)
      ∙ values-more o p n c.options (values_in p items) none (is_same p o) refl;
}

option-before : (o : OptionWord) (n : ℕ) (words rest : List (List ℕ)) (c to : CommandValue) → value_of o c.options ≡ None
    → IsWithin (option_row o).range n
    → words ≡ option_words o n ++ rest → Spelled rest (record c { options = with_given o n c.options }) to → Spelled words c to
option-before o n words rest c to none within front s = record {
  items = option o n ∷ s.items;
  is = front ∙ ap (λ (ws : List (List ℕ)). option_words o n ++ ws) s.is;
  grows = grown-option o n s.items c to none within s.grows;
}

-- the option that awaits its value comes before the arguments, and it isn't given yet
abbrev awaited_words : Option OptionWord → List (List ℕ)
awaited_words (Some o) = (option_row o).word ∷ []
awaited_words None = []

abbrev Awaits : CommandValue → Option OptionWord → Type 0
Awaits c (Some o) = (is_some (option_row o).range ≡ true) × (value_of o c.options ≡ None)
Awaits c None = Unit {0}

abbrev Spells : List (List ℕ) → Type 0
Spells words = (c : CommandValue) (awaited : Option OptionWord) (to : CommandValue) → Awaits c awaited
    → with_words words (record { command = c; awaited = awaited }) ≡ Some (into_reading to) → Spelled (awaited_words awaited ++ words) c to

module _ (word : List ℕ) (rest : List (List ℕ)) (later : Spells rest) (c to : CommandValue) where
  value-spelled : (o : OptionWord) → Awaits c (Some o) → (v : Option ℕ) → number_of word ≡ v
      → option_and_then (with_words rest) (option_and_then (λ n. with_number o n c) v) ≡ Some (into_reading to)
      → Spelled ((option_row o).word ∷ word ∷ rest) c to
  value-spelled o awaits None is e = absurd cc
  value-spelled o awaits (Some n) is e = by_range (is_in_range (option_row o).range n) refl e where
    by_range : (b : Bool) → is_in_range (option_row o).range n ≡ b
        → option_and_then (with_words rest) (cond b (Some (into_reading (record c { options = with_given o n c.options }))) None)
        ≡ Some (into_reading to)
        → Spelled ((option_row o).word ∷ word ∷ rest) c to
    by_range true within found =
        let valued : option_words o n ≡ (option_row o).word ∷ decimal n ∷ [] =
        ap (λ (b : Bool). cond b ((option_row o).word ∷ decimal n ∷ []) ((option_row o).word ∷ [])) awaits.0 in
        let front : (option_row o).word ∷ word ∷ rest ≡ option_words o n ++ rest =
        ap (λ (w : List ℕ). (option_row o).word ∷ w ∷ rest) (number_of-is word n is).1
        ∙ sym (ap (λ (ws : List (List ℕ)). ws ++ rest) valued) in
        option-before o n ((option_row o).word ∷ word ∷ rest) rest c to awaits.1 (within-range (option_row o).range n within) front
        (later (record c { options = with_given o n c.options }) None to tt found)
    by_range false within found = absurd cc

  name-spelled : (b : Bool)
      → option_and_then (with_words rest) (cond b (Some (into_reading (record c { names = c.names ++ word ∷ [] }))) None)
      ≡ Some (into_reading to)
      → Spelled (word ∷ rest) c to
  name-spelled true e = name-before word rest c to (later (record c { names = c.names ++ word ∷ [] }) None to tt e)
  name-spelled false e = absurd cc

  option-spelled : (o : OptionWord) → (option_row o).word ≡ word → (told valued : Bool) → is_given o c.options ≡ told
      → is_some (option_row o).range ≡ valued
      → option_and_then (with_words rest) (cond told None (cond valued (Some (record { command = c; awaited = Some o }))
      (Some (into_reading (record c { options = with_given o 0 c.options }))))) ≡ Some (into_reading to)
      → Spelled (word ∷ rest) c to
  option-spelled o is true valued not_given takes e = absurd cc
  option-spelled o is false true not_given takes e =
      subst (λ (w : List ℕ). Spelled (w ∷ rest) c to) is (later c (Some o) to (takes, not_given-none o c.options not_given) e)
  option-spelled o is false false not_given takes e =
      let alone : option_words o 0 ≡ (option_row o).word ∷ [] =
      ap (λ (b : Bool). cond b ((option_row o).word ∷ decimal 0 ∷ []) ((option_row o).word ∷ [])) takes in
      let front : word ∷ rest ≡ option_words o 0 ++ rest =
      ap (λ (w : List ℕ). w ∷ rest) (sym is) ∙ sym (ap (λ (ws : List (List ℕ)). ws ++ rest) alone) in
      option-before o 0 (word ∷ rest) rest c to (not_given-none o c.options not_given) (none-within (option_row o).range takes) front
      (later (record c { options = with_given o 0 c.options }) None to tt e)

  word-spelled : (o : Option OptionWord) → option_in (row c.word).options word ≡ o
      → option_and_then (with_words rest) (with_option_or_name o word c) ≡ Some (into_reading to) → Spelled (word ∷ rest) c to
  word-spelled (Some o) is e =
      option-spelled o (option-is word o (in-word (option_word word) refl is)) (is_given o c.options)
      (is_some (option_row o).range) refl refl e where
        in-word : (p : Option OptionWord) → option_word word ≡ p
            → option_and_then (λ (q : OptionWord). cond (is_among (row c.word).options q) (Some q) None) p ≡ Some o
            → option_word word ≡ Some o
        in-word (Some q) same found = same ∙ by_set (is_among (row c.word).options q) found where
          by_set : (b : Bool) → cond b (Some q) None ≡ Some o → Some q ≡ Some o
          by_set true found = found
          by_set false found = absurd cc
        in-word None same found = absurd cc
  word-spelled None is e = name-spelled (is_name_of (row c.word).names word && nat_lt (length c.names) (row c.word).most) e

spells : (words : List (List ℕ)) → Spells words
unfolding with_words
spells [] c None to awaits e =
    let same : c ≡ to = let whole : into_reading c ≡ into_reading to = cc in ap (λ (r : Reading). r.command) whole in
    record { items = []; is = refl; grows = subst (Grows c []) same (grows-itself c) }
spells [] c (Some o) to awaits e =
    let whole : record { command = c; awaited = Some o } ≡ into_reading to = cc in
    let none : Some o ≡ None = ap (λ (r : Reading). r.awaited) whole in absurd cc
spells (word ∷ rest) c None to awaits e =
    word-spelled word rest (spells rest) c to (option_in (row c.word).options word) refl e
spells (word ∷ rest) c (Some o) to awaits e =
    value-spelled word rest (spells rest) c to o awaits (number_of word) refl e

pub into_command-is : (r : Reading) (c : CommandValue) → into_command r ≡ Some c → r ≡ into_reading c
into_command-is r c e = by_whole (is_whole r) refl e where
  none-awaited : (awaited : Option OptionWord) → is_none awaited ≡ true → awaited ≡ None
  none-awaited (Some o) e = absurd cc
  none-awaited None e = refl

  by_whole : (b : Bool) → is_whole r ≡ b → cond b (Some r.command) None ≡ Some c → r ≡ into_reading c
  by_whole true whole found =
      let least = nat_le (row r.command.word).least (length r.command.names) in
      let outer = and_parts (is_none r.awaited && least) (not (has_conflict r.command.options)) whole in
      let inner = and_parts (is_none r.awaited) least outer.0 in
      let none : r.awaited ≡ None = none-awaited r.awaited inner.0 in
      let same : r.command ≡ c = cc in
      ap (λ (a : Option OptionWord). record { command = r.command; awaited = a }) none ∙ ap into_reading same
  by_whole false whole found = absurd cc

-- the words in full are spelled
pub spelled : (words : List (List ℕ)) (c : CommandValue) → read_long_form words ≡ Some c
    → (items : List Item) × (words ≡ (row c.word).word ∷ words_in items) × Gives items c
spelled [] c e = absurd cc
spelled (first ∷ rest) c e = by_command (command_word first) refl e where
  by_read : (word : CommandWord) → command_word first ≡ Some word → (o : Option Reading) → with_words rest (bare_command word) ≡ o
      → option_and_then into_command o ≡ Some c → (items : List Item) × (first ∷ rest ≡ (row c.word).word ∷ words_in items) × Gives items c
  by_read word is None told found = absurd cc
  by_read word is (Some r) told found =
      let s = spells rest (bare_command word).command None c tt (told ∙ ap (λ (x : Reading). Some x) (into_command-is r c found)) in
      let own : (row c.word).word ≡ first = ap (λ (w : CommandWord). (row w).word) s.grows.word ∙ command-is first word is in (
        s.items,
        ap (λ (w : List ℕ). w ∷ rest) (sym own) ∙ ap (λ (ws : List (List ℕ)). (row c.word).word ∷ ws) s.is,
        record {
          names = sym s.grows.names;
          options = λ o. sym (s.grows.options o ∙ ap (λ (v : Option ℕ). option_to_list v ++ values_in o s.items) (not_given o));
        },
      )

  by_command : (o : Option CommandWord) → command_word first ≡ o → option_and_then (read_by rest) o ≡ Some c
      → (items : List Item) × (first ∷ rest ≡ (row c.word).word ∷ words_in items) × Gives items c
  by_command None is found = absurd cc
  by_command (Some word) is found = by_read word is (with_words rest (bare_command word)) refl found
