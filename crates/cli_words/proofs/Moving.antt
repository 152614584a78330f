-- An option with its value may be anywhere after the command.
use Rattle.std.proofs.Common.{◌≡◌, ℕ, ◌≤◌, List, [], ◌∷◌, ◌++◌, length, Bool, true, false, ◌&&◌, cond, nat_lt, refl, sym, ◌∙◌, ap, subst}
use Rattle.std.proofs.Common.{arith, length-append}
use Rattle.std.specs.Prelude.{Option, Some, None, IfSome, All, is_some, decimal, option_to_list}
use Rattle.std.specs.Option.{option_and_then}
use Rattle.std.proofs.lemmas.List.Elements.{All-head, All-tail, All-append, All-cons}
use Rattle.cli_words.specs.declared.table.CommandWord.{CommandWord}
use Rattle.cli_words.specs.declared.table.OptionWord.{OptionWord}
use Rattle.cli_words.specs.Names.{is_name, is_name_of, is_of_kind}
use Rattle.cli_words.specs.Table.{row, command_word, option_row, is_among}
use Rattle.cli_words.specs.Command.{CommandValue, is_given, with_given}
use Rattle.cli_words.specs.Ranges.{value_of, IsWithin, IsInRange}
use Rattle.cli_words.specs.Reading.{Reading, into_reading, bare_command, with_word, with_words, into_command, read_by}
use Rattle.cli_words.specs.Reading.{command_of}
use Rattle.cli_words.specs.Items.{Item, name, option, option_words, item_words, words_in, names_in, is_same, values_in, Gives, IsItem}
use Rattle.cli_words.proofs.Ranging.{full-fits, not_given}
use Rattle.cli_words.proofs.Parting.{has-own, not-own, own-option, name-no-option, more, option-step, not_given-none}
use Rattle.cli_words.proofs.Growing.{Grows, read-given}
use Rattle.cli_words.proofs.Spelling.{grown-name, grown-option, grows-itself, into_command-is}
use Rattle.cli_words.proofs.Canon.{names-append, values-append}
use Rattle.cli_words.proofs.Choosing.{with_option_or_name}
use Rattle.cli_words.specs.FirstWord.{read}

-- ---- items that are read as a command give it

-- if an option's word can't be at a place, the arguments from there on give nothing
refused : (o : OptionWord) (n : ℕ) (rest : List (List ℕ)) (c : CommandValue) → with_word (option_row o).word (into_reading c) ≡ None
    → with_words (option_words o n ++ rest) (into_reading c) ≡ None
refused o n rest c none = by_valued (is_some (option_row o).range) where
  by_valued : (valued : Bool)
      → with_words (cond valued ((option_row o).word ∷ decimal n ∷ []) ((option_row o).word ∷ []) ++ rest) (into_reading c) ≡ None
  by_valued true = more (option_row o).word (decimal n ∷ rest) (into_reading c) ∙ ap (option_and_then (with_words (decimal n ∷ rest))) none
  by_valued false = more (option_row o).word rest (into_reading c) ∙ ap (option_and_then (with_words rest)) none

not-had : (o : OptionWord) (c : CommandValue) → is_among (row c.word).options o ≡ false
    → with_word (option_row o).word (into_reading c) ≡ None
not-had o c not =
    ap (λ (p : Option OptionWord). with_option_or_name p (option_row o).word c) (not-own (row c.word).options o not)
    ∙ ap (λ (b : Bool). cond ((b && is_of_kind (row c.word).names (option_row o).word) && nat_lt (length c.names) (row c.word).most)
    (Some (into_reading (record c { names = c.names ++ (option_row o).word ∷ [] }))) None) (own-option o).1

twice : (o : OptionWord) (c : CommandValue) → is_among (row c.word).options o ≡ true → is_given o c.options ≡ true
    → with_word (option_row o).word (into_reading c) ≡ None
twice o c has told =
    ap (λ (p : Option OptionWord). with_option_or_name p (option_row o).word c) (has-own (row c.word).options o has)
    ∙ ap (λ (b : Bool). cond b None (cond (is_some (option_row o).range) (Some (record { command = c; awaited = Some o }))
    (Some (into_reading (record c { options = with_given o 0 c.options }))))) told

abbrev GivesBack : List Item → Type 0
GivesBack items = (c to : CommandValue) → with_words (words_in items) (into_reading c) ≡ Some (into_reading to) → Grows c items to

name-back : (word : List ℕ) (rest : List Item) → is_name word ≡ true → GivesBack rest → GivesBack (name word ∷ rest)
name-back word rest is later c to e =
    by_test (is_name_of (row c.word).names word && nat_lt (length c.names) (row c.word).most)
    (sym (more word (words_in rest) (into_reading c)
    ∙ ap (λ (o : Option OptionWord). option_and_then (with_words (words_in rest)) (with_option_or_name o word c))
    (name-no-option (row c.word).options word is))
    ∙ e) where
      by_test : (b : Bool)
          → option_and_then (with_words (words_in rest)) (cond b (Some (into_reading (record c { names = c.names ++ word ∷ [] }))) None)
          ≡ Some (into_reading to)
          → Grows c (name word ∷ rest) to
      by_test true found = grown-name word rest c to (later (record c { names = c.names ++ word ∷ [] }) to found)
      by_test false found = absurd cc

option-back : (o : OptionWord) (n : ℕ) (rest : List Item) → IsWithin (option_row o).range n → GivesBack rest → GivesBack (option o n ∷ rest)
option-back o n rest within later c to e = by_case (is_among (row c.word).options o) (is_given o c.options) refl refl where
  by_case : (has told : Bool) → is_among (row c.word).options o ≡ has → is_given o c.options ≡ told → Grows c (option o n ∷ rest) to
  by_case false told not is = let none = refused o n (words_in rest) c (not-had o c not) in absurd cc
  by_case true true has is = let none = refused o n (words_in rest) c (twice o c has is) in absurd cc
  by_case true false has is =
      grown-option o n rest c to (not_given-none o c.options is) within
      (later (record c { options = with_given o n c.options }) to (sym (option-step o c has is n (words_in rest) within) ∙ e))

gives-back : (items : List Item) → All IsItem items → GivesBack items
unfolding with_words
gives-back [] all c to e =
    let same : c ≡ to = let whole : into_reading c ≡ into_reading to = cc in ap (λ (r : Reading). r.command) whole in
    subst (Grows c []) same (grows-itself c)
gives-back (name word ∷ rest) all c to e =
    name-back word rest (All-head IsItem (name word) rest all) (gives-back rest (All-tail IsItem (name word) rest all)) c to e
gives-back (option o n ∷ rest) all c to e =
    option-back o n rest (All-head IsItem (option o n) rest all) (gives-back rest (All-tail IsItem (option o n) rest all)) c to e

record ReadBack (first : List ℕ) (items : List Item) (c : CommandValue) : Type 0 where
  word : command_word first ≡ Some c.word
  gives : Gives items c
  range : IsInRange c

read-back : (first : List ℕ) (items : List Item) (c : CommandValue) → All IsItem items → read first (words_in items) ≡ Some c
    → ReadBack first items c
read-back first items c all e = by_command (command_word first) refl e where
  range : IsInRange c
  range = let P : Option CommandValue → Type 0 = λ o. IfSome o IsInRange in subst P e (full-fits (first ∷ words_in items))

  by_read : (word : CommandWord) → command_word first ≡ Some word → (o : Option Reading)
      → with_words (words_in items) (bare_command word) ≡ o
      → option_and_then into_command o ≡ Some c → ReadBack first items c
  by_read word is None told found = absurd cc
  by_read word is (Some r) told found =
      let g = gives-back items all (bare_command word).command c (told ∙ ap (λ (x : Reading). Some x) (into_command-is r c found)) in record {
        word = is ∙ ap (λ (w : CommandWord). Some w) (sym g.word);
        gives = record {
          names = sym g.names;
          options = λ o. sym (g.options o ∙ ap (λ (v : Option ℕ). option_to_list v ++ values_in o items) (not_given o));
        };
        range = range;
      }

  by_command : (o : Option CommandWord) → command_word first ≡ o → option_and_then (read_by (words_in items)) o ≡ Some c
      → ReadBack first items c
  by_command None is found = absurd cc
  by_command (Some word) is found = by_read word is (with_words (words_in items) (bare_command word)) refl found

-- ---- an option that is moved

not-empty : (xs ys : List ℕ) (n : ℕ) → xs ++ n ∷ ys ≡ [] → ⊥
not-empty [] ys n e = cc
not-empty (x ∷ xs) ys n e = cc

to-front : (v : Option ℕ) (xs ys : List ℕ) (n : ℕ) → xs ++ n ∷ ys ≡ option_to_list v → n ∷ (xs ++ ys) ≡ option_to_list v
to-front v [] ys n e = e
to-front None (x ∷ xs) ys n e = absurd cc
to-front (Some m) (x ∷ xs) ys n e = let rest : xs ++ n ∷ ys ≡ [] = cc in absurd (not-empty xs ys n rest)

from-front : (v : Option ℕ) (xs ys : List ℕ) (n : ℕ) → n ∷ (xs ++ ys) ≡ option_to_list v → xs ++ n ∷ ys ≡ option_to_list v
from-front v [] ys n e = e
from-front None (x ∷ xs) ys n e = absurd cc
from-front (Some m) (x ∷ xs) ys n e = absurd cc

module _ (front back : List Item) (o : OptionWord) (n : ℕ) where
  abbrev inside : List Item
  inside = front ++ option o n ∷ back

  abbrev ahead : List Item
  ahead = option o n ∷ (front ++ back)

  same-names : names_in inside ≡ names_in ahead
  same-names = names-append front (option o n ∷ back) ∙ sym (names-append front back)

  values-inside : (p : OptionWord) (v : Option ℕ) (same : Bool)
      → values_in p front ++ cond same (n ∷ values_in p back) (values_in p back) ≡ option_to_list v
      → cond same (n ∷ (values_in p front ++ values_in p back)) (values_in p front ++ values_in p back) ≡ option_to_list v
  values-inside p v true e = to-front v (values_in p front) (values_in p back) n e
  values-inside p v false e = e

  values-ahead : (p : OptionWord) (v : Option ℕ) (same : Bool)
      → cond same (n ∷ (values_in p front ++ values_in p back)) (values_in p front ++ values_in p back) ≡ option_to_list v
      → values_in p front ++ cond same (n ∷ values_in p back) (values_in p back) ≡ option_to_list v
  values-ahead p v true e = from-front v (values_in p front) (values_in p back) n e
  values-ahead p v false e = e

  joined : (p : OptionWord)
      → cond (is_same p o) (n ∷ (values_in p front ++ values_in p back)) (values_in p front ++ values_in p back) ≡ values_in p ahead
  joined p = ap (λ (vs : List ℕ). cond (is_same p o) (n ∷ vs) vs) (sym (values-append p front back))

  moved-ahead : (c : CommandValue) → Gives inside c → Gives ahead c
  moved-ahead c g = record {
    names = sym same-names ∙ g.names;
    options = λ p. sym (joined p)
        ∙ values-inside p (value_of p c.options) (is_same p o) (sym (values-append p front (option o n ∷ back)) ∙ g.options p);
  }

  moved-inside : (c : CommandValue) → Gives ahead c → Gives inside c
  moved-inside c g = record {
    names = same-names ∙ g.names;
    options = λ p. values-append p front (option o n ∷ back) ∙ values-ahead p (value_of p c.options) (is_same p o) (joined p ∙ g.options p);
  }

same-outcome : (x y : Option CommandValue) → ((c : CommandValue) → x ≡ Some c → y ≡ Some c) → ((c : CommandValue) → y ≡ Some c → x ≡ Some c)
    → x ≡ y
same-outcome (Some c) y there back = sym (there c refl)
same-outcome None (Some c) there back = back c refl
same-outcome None None there back = refl

three-words : (first : List ℕ) (rest : List (List ℕ)) → 2 ≤ length rest → command_of (first ∷ rest) ≡ read first rest
three-words first [] enough = absurd (omega arith)
three-words first (second ∷ []) enough = absurd (omega arith)
three-words first (second ∷ third ∷ rest) enough = refl

item-long : (item : Item) → 1 ≤ length (item_words item)
item-long (name word) = omega arith
item-long (option o n) = by_valued (is_some (option_row o).range) where
  by_valued : (valued : Bool) → 1 ≤ length (cond valued ((option_row o).word ∷ decimal n ∷ []) ((option_row o).word ∷ []))
  by_valued true = omega arith
  by_valued false = omega arith

words-long : (items : List Item) → length items ≤ length (words_in items)
words-long [] = omega arith
words-long (item ∷ rest) = omega (arith, item-long item, words-long rest, length-append (item_words item) (words_in rest))

pub option_position_law : (first : List ℕ) (front back : List Item) (o : OptionWord) (n : ℕ) → All IsItem front → All IsItem back
    → IsWithin (option_row o).range n
    → command_of (first ∷ words_in (front ++ option o n ∷ back)) ≡ command_of (first ∷ words_in (option o n ∷ (front ++ back)))
option_position_law first [] back o n fronts backs within = refl
option_position_law first (item ∷ front) back o n fronts backs within =
    let a = item ∷ front in
    let own : IsItem (option o n) = within in
    let inside-items = All-append IsItem a (option o n ∷ back) fronts (All-cons IsItem (option o n) back own backs) in
    let ahead-items = All-cons IsItem (option o n) (a ++ back) own (All-append IsItem a back fronts backs) in
    three-words first (words_in (a ++ option o n ∷ back))
    (omega (arith, words-long (a ++ option o n ∷ back), length-append a (option o n ∷ back)))
    ∙ same-outcome (read first (words_in (a ++ option o n ∷ back))) (read first (words_in (option o n ∷ (a ++ back))))
    (λ c e. let b = read-back first (a ++ option o n ∷ back) c inside-items e in
    read-given first (option o n ∷ (a ++ back)) c b.range (moved-ahead a back o n c b.gives) b.word)
    (λ c e. let b = read-back first (option o n ∷ (a ++ back)) c ahead-items e in
    read-given first (a ++ option o n ∷ back) c b.range (moved-inside a back o n c b.gives) b.word)
    ∙ sym (three-words first (words_in (option o n ∷ (a ++ back)))
    (omega (arith, words-long (option o n ∷ (a ++ back)), length-append a back)))
