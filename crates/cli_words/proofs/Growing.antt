-- Items that give a command are read as it.
use Rattle.std.proofs.Common.{◌≡◌, ℕ, ◌<◌, ◌≤◌, List, [], ◌∷◌, ◌++◌, length, Bool, true, false, not, cond, nat_le, refl, sym, ◌∙◌, ap}
use Rattle.std.proofs.Common.{subst, arith, append-nil, append_assoc, length-append}
use Rattle.std.specs.Prelude.{Option, Some, None, All, option_to_list}
use Rattle.std.specs.Option.{option_and_then}
use Rattle.std.proofs.lemmas.Bool.{and_parts, and_from, le-leb, not_from_false}
use Rattle.std.proofs.lemmas.List.Elements.{All-head, All-tail}
use Rattle.cli_words.specs.declared.table.CommandWord.{CommandWord}
use Rattle.cli_words.specs.declared.table.OptionWord.{OptionWord}
use Rattle.cli_words.specs.declared.options.Options.{Options}
use Rattle.cli_words.specs.Names.{is_name, is_name_of, is_of_kind}
use Rattle.cli_words.specs.Table.{row, command_word, option_row, is_among}
use Rattle.cli_words.specs.Command.{CommandValue, with_given, has_conflict}
use Rattle.cli_words.specs.Ranges.{value_of, IsWithin, IsInRange}
use Rattle.cli_words.specs.Reading.{into_reading, bare_command, with_words, into_command, read_by}
use Rattle.cli_words.specs.Items.{Item, name, option, words_in, names_in, is_same, values_in, Gives}
use Rattle.cli_words.proofs.Ranging.{Fits, IsOptionOf, not_given}
use Rattle.cli_words.proofs.Parting.{name-step, option-step, told-value, same-itself, none-not_given, same-options}
use Rattle.cli_words.specs.FirstWord.{read}

abbrev pub told_list : OptionWord → CommandValue → List ℕ
told_list o c = option_to_list (value_of o c.options)

-- a command, with what these items add
pub record Grows (from : CommandValue) (items : List Item) (to : CommandValue) : Type 0 where
  pub word : to.word ≡ from.word
  pub names : to.names ≡ from.names ++ names_in items
  pub options : (o : OptionWord) → told_list o to ≡ told_list o from ++ values_in o items

same-command : (a b : CommandValue) → a.word ≡ b.word → a.names ≡ b.names → a.options ≡ b.options → a ≡ b
same-command a b word names options =
    ap (λ (w : CommandWord). record a { word = w }) word
    ∙ ap (λ (n : List (List ℕ)). record a { word = b.word; names = n }) names
    ∙ ap (λ (o : Options). record b { options = o }) options

grown-none : (from to : CommandValue) → Grows from [] to → from ≡ to
grown-none from to g = sym (same-command to from g.word (g.names ∙ append-nil from.names)
    (same-options to.options from.options (λ o. g.options o ∙ append-nil (told_list o from))))

-- the last of some elements
All-last : (P : List ℕ → Type 0) (xs ys : List (List ℕ)) → All P (xs ++ ys) → All P ys
All-last P [] ys all = all
All-last P (x ∷ xs) ys all = All-last P xs ys (All-tail P x (xs ++ ys) all)

-- one value is the first and the only one
only-one : (v before : Option ℕ) (n : ℕ) (rest : List ℕ) → option_to_list v ≡ option_to_list before ++ n ∷ rest
    → (before ≡ None) × (v ≡ Some n)
only-one None None n rest e = absurd cc
only-one None (Some y) n rest e = absurd cc
only-one (Some x) None n rest e = (refl, cc)
only-one (Some x) (Some y) n [] e = absurd cc
only-one (Some x) (Some y) n (m ∷ rest) e = absurd cc

module _ (from to : CommandValue) (fits : Fits to) where
  -- the first of the items is a name
  module _ (word : List ℕ) (rest : List Item) (g : Grows from (name word ∷ rest) to) where
    is-name : is_name_of (row from.word).names word ≡ true
    is-name =
        let P : List ℕ → Type 0 = λ n. is_name_of (row to.word).names n ≡ true in
        let all : All P (from.names ++ word ∷ names_in rest) = subst (All P) g.names fits.names in
        let own : P word = All-head P word (names_in rest) (All-last P from.names (word ∷ names_in rest) all) in
        subst (λ (w : CommandWord). is_name_of (row w).names word ≡ true) g.word own

    has-room : length from.names < (row from.word).most
    has-room =
        let long : length to.names ≡ length (from.names ++ word ∷ names_in rest) = ap (λ (n : List (List ℕ)). length n) g.names in
        let most : length to.names ≤ (row from.word).most = subst (λ (w : CommandWord). length to.names ≤ (row w).most) g.word fits.most in
        omega (arith, long, most, length-append from.names (word ∷ names_in rest))

    with-name : CommandValue
    with-name = record from { names = from.names ++ word ∷ [] }

    name-grows : Grows with-name rest to
    unfolding with-name
    name-grows = record {
      word = g.word;
      names = g.names ∙ sym (append_assoc from.names (word ∷ []) (names_in rest));
      options = g.options;
    }

  -- the first of the items is an option
  module _ (o : OptionWord) (n : ℕ) (rest : List Item) (g : Grows from (option o n ∷ rest) to) where
    at-own : told_list o to ≡ told_list o from ++ n ∷ values_in o rest
    at-own = g.options o ∙ ap (λ (b : Bool). told_list o from ++ cond b (n ∷ values_in o rest) (values_in o rest)) (same-itself o)

    once : (value_of o from.options ≡ None) × (value_of o to.options ≡ Some n)
    once = only-one (value_of o to.options) (value_of o from.options) n (values_in o rest) at-own

    has-it : IsOptionOf from o × IsWithin (option_row o).range n
    has-it =
        let own = fits.options o n once.1 in
        (subst (λ (w : CommandWord). is_among (row w).options o ≡ true) g.word own.0, own.1)

    with-option : CommandValue
    with-option = record from { options = with_given o n from.options }

    option-values : (p : OptionWord) (same : Bool)
        → told_list p to ≡ told_list p from ++ cond same (n ∷ values_in p rest) (values_in p rest)
        → told_list p to ≡ option_to_list (cond same (Some n) (value_of p from.options)) ++ values_in p rest
    option-values p true e =
        let first = only-one (value_of p to.options) (value_of p from.options) n (values_in p rest) e in
        e ∙ ap (λ (v : Option ℕ). option_to_list v ++ n ∷ values_in p rest) first.0
    option-values p false e = e

    option-grows : Grows with-option rest to
    unfolding with-option
    option-grows = record {
      word = g.word;
      names = g.names;
      options = λ p. option-values p (is_same p o) (g.options p)
          ∙ ap (λ (v : Option ℕ). option_to_list v ++ values_in p rest) (sym (told-other p));
    } where
      told-other : (p : OptionWord) → value_of p (with_given o n from.options) ≡ cond (is_same p o) (Some n) (value_of p from.options)
      told-other p = told-value o p n from.options has-it.1

reads : (items : List Item) (from to : CommandValue) → Fits to → Grows from items to
    → with_words (words_in items) (into_reading from) ≡ Some (into_reading to)
unfolding with_words with-name with-option
reads [] from to fits g = ap (λ (c : CommandValue). Some (into_reading c)) (grown-none from to g)
reads (name word ∷ rest) from to fits g =
    let is = is-name from to fits word rest g in
    let both = and_parts (is_name word) (is_of_kind (row from.word).names word) is in
    name-step word (words_in rest) from is both.0 (has-room from to fits word rest g)
    ∙ reads rest (with-name from to fits word rest g) to fits (name-grows from to fits word rest g)
reads (option o n ∷ rest) from to fits g =
    let has = has-it from to fits o n rest g in
    option-step o from has.0 (none-not_given o from.options (once from to fits o n rest g).0) n (words_in rest) has.1
    ∙ reads rest (with-option from to fits o n rest g) to fits (option-grows from to fits o n rest g)

fits-range : (c : CommandValue) → IsInRange c → Fits c
fits-range c range = record { names = range.names; most = range.most; options = range.options }

finishes : (c : CommandValue) → IsInRange c → into_command (into_reading c) ≡ Some c
finishes c range =
    ap (λ (b : Bool). cond b (Some c) None)
    (and_from (nat_le (row c.word).least (length c.names)) (not (has_conflict c.options))
    (le-leb (row c.word).least (length c.names) range.least) (not_from_false (has_conflict c.options) range.apart))

begins : (items : List Item) (c : CommandValue) → Gives items c → Grows (bare_command c.word).command items c
begins items c gives = record {
  word = refl;
  names = sym gives.names;
  options = λ o. sym (gives.options o) ∙ ap (λ (v : Option ℕ). option_to_list v ++ values_in o items) (sym (not_given o));
}

-- a command's word, and after it items that give it
pub read-given : (first : List ℕ) (items : List Item) (c : CommandValue) → IsInRange c → Gives items c → command_word first ≡ Some c.word
    → read first (words_in items) ≡ Some c
read-given first items c range gives is =
    ap (option_and_then (read_by (words_in items))) is
    ∙ ap (option_and_then into_command) (reads items (bare_command c.word).command c (fits-range c range) (begins items c gives))
    ∙ finishes c range
