-- What arguments give keeps to the table.
use Rattle.std.proofs.Common.{◌≡◌, ℕ, ◌<◌, ◌≤◌, List, [], ◌∷◌, ◌++◌, length, Bool, true, false, ◌&&◌, cond, not, nat_le, nat_lt, refl, sym}
use Rattle.std.proofs.Common.{◌∙◌, subst, inl, inr, arith, length-append}
use Rattle.std.specs.Prelude.{Option, Some, None, IfSome, is_some, is_none, All, ◌⊎◌}
use Rattle.std.specs.Option.{option_and_then}
use Rattle.std.proofs.lemmas.Bool.{and_parts, ltb-true, leb-true, not-true}
use Rattle.std.proofs.lemmas.List.Elements.{All-nil, All-push}
use Rattle.cli_words.specs.declared.table.CommandWord.{CommandWord}
use Rattle.cli_words.specs.declared.table.OptionWord.{OptionWord}
use Rattle.cli_words.specs.declared.table.OptionWord.TheVariants.{Workers, Seed, Cycle, Reports, Dissent, Strict, Json}
use Rattle.cli_words.specs.declared.options.Options.{Options}
use Rattle.cli_words.specs.declared.options.TheConstants.{NOTHING_GIVEN}
use Rattle.cli_words.specs.Number.{number_of}
use Rattle.cli_words.specs.Names.{is_name_of}
use Rattle.cli_words.specs.Table.{row, command_word, option_row, option_word, option_in, is_among}
use Rattle.cli_words.specs.Command.{CommandValue, is_given, with_given, has_conflict}
use Rattle.cli_words.specs.Ranges.{value_of, IsWithin, IsInRange}
use Rattle.cli_words.specs.Reading.{Reading, into_reading, bare_command, with_name, is_in_range, with_number, with_value, with_option}
use Rattle.cli_words.specs.Reading.{with_next, with_word, with_words, is_whole, into_command, read_by, in_long_form}
use Rattle.cli_words.specs.Reading.{read_long_form, command_of}
use Rattle.cli_words.proofs.Choosing.{with_option_or_name}

-- the value of an option after one more was given
pub told-cases : (o p : OptionWord) (n m : ℕ) (options : Options) → IsWithin (option_row o).range n
    → value_of p (with_given o n options) ≡ Some m → ((p ≡ o) × (m ≡ n)) ⊎ (value_of p options ≡ Some m)
told-cases Workers Workers n m options within e = inl (refl, cc)
told-cases Workers p n m options within e = inr e
told-cases Seed Seed n m options within e = inl (refl, cc)
told-cases Seed p n m options within e = inr e
told-cases Cycle Cycle n m options within e = inl (refl, cc)
told-cases Cycle p n m options within e = inr e
told-cases Reports Reports n m options within e = inl (refl, cc)
told-cases Reports p n m options within e = inr e
told-cases Dissent Dissent n m options within e = inl (refl, cc)
told-cases Dissent p n m options within e = inr e
told-cases Strict Strict n m options within e = inl (refl, cc)
told-cases Strict p n m options within e = inr e
told-cases Json Json n m options within e = inl (refl, cc)
told-cases Json p n m options within e = inr e

pub not_given : (o : OptionWord) → value_of o NOTHING_GIVEN ≡ None
not_given Workers = refl
not_given Seed = refl
not_given Cycle = refl
not_given Reports = refl
not_given Dissent = refl
not_given Strict = refl
not_given Json = refl

pub within-range : (range : Option (ℕ × ℕ)) (n : ℕ) → is_in_range range n ≡ true → IsWithin range n
within-range (Some (least, most)) n e = let both =
    and_parts (nat_le least n) (nat_le n most) e in (leb-true least n both.0, leb-true n most both.1)
within-range None n e = cc

-- the table has the option among those of the command
abbrev pub IsOptionOf : CommandValue → OptionWord → Type 0
IsOptionOf c o = is_among (row c.word).options o ≡ true

pub record Fits (c : CommandValue) : Type 0 where
  pub names : All (λ name. is_name_of (row c.word).names name ≡ true) c.names
  pub most : length c.names ≤ (row c.word).most
  pub options : (o : OptionWord) (n : ℕ) → value_of o c.options ≡ Some n → IsOptionOf c o × IsWithin (option_row o).range n

abbrev FitsSoFar : Reading → Type 0
FitsSoFar r = Fits r.command × IfSome r.awaited (IsOptionOf r.command)

pub fits-bare_command : (word : CommandWord) → Fits (bare_command word).command
fits-bare_command word = record {
  names = All-nil (λ name. is_name_of (row word).names name ≡ true);
  most = omega arith;
  options = λ o n e. let clash : None ≡ Some n = sym (not_given o) ∙ e in cc;
}

if_true : {T : Type 0} (P : T → Type 0) (b : Bool) (x : T) → (b ≡ true → P x) → IfSome (cond b (Some x) None) P
if_true P true x holds = holds refl
if_true P false x holds = tt

pub fits-name : (name : List ℕ) (c : CommandValue) → Fits c → is_name_of (row c.word).names name ≡ true → length c.names < (row c.word).most
    → Fits (record c { names = c.names ++ name ∷ [] })
fits-name name c fits is room = record {
  names = All-push (λ n. is_name_of (row c.word).names n ≡ true) c.names name fits.names is;
  most = omega (arith, length-append c.names (name ∷ []));
  options = fits.options;
}

pub fits-told : (o : OptionWord) (n : ℕ) (c : CommandValue) → Fits c → IsOptionOf c o → IsWithin (option_row o).range n
    → Fits (record c { options = with_given o n c.options })
fits-told o n c fits has within = record {
  names = fits.names;
  most = fits.most;
  options = λ p m e. by_case p m (told-cases o p n m c.options within e);
} where
  by_case : (p : OptionWord) (m : ℕ) → ((p ≡ o) × (m ≡ n)) ⊎ (value_of p c.options ≡ Some m)
      → IsOptionOf c p × IsWithin (option_row p).range m
  by_case p m (inl same) =
      let P : OptionWord → Type 0 = λ q. IsOptionOf c q × IsWithin (option_row q).range m in
      let Q : ℕ → Type 0 = λ k. IsWithin (option_row o).range k in
      subst P (sym same.0) (has, subst Q (sym same.1) within)
  by_case p m (inr e) = fits.options p m e

name-fits : (name : List ℕ) (c : CommandValue) → Fits c → IfSome (with_name name c) FitsSoFar
name-fits name c fits =
    if_true FitsSoFar (is_name_of (row c.word).names name && nat_lt (length c.names) (row c.word).most)
    (into_reading (record c { names = c.names ++ name ∷ [] }))
    (λ passed. let both = and_parts (is_name_of (row c.word).names name) (nat_lt (length c.names) (row c.word).most) passed in
    (fits-name name c fits both.0 (ltb-true (length c.names) (row c.word).most both.1), tt))

value-fits : (o : OptionWord) (text : List ℕ) (c : CommandValue) → Fits c → IsOptionOf c o → IfSome (with_value o text c) FitsSoFar
value-fits o text c fits has = by_number (number_of text) where
  by_number : (number : Option ℕ) → IfSome (option_and_then (λ n. with_number o n c) number) FitsSoFar
  by_number (Some n) =
      if_true FitsSoFar (is_in_range (option_row o).range n) (into_reading (record c { options = with_given o n c.options }))
      (λ passed. (fits-told o n c fits has (within-range (option_row o).range n passed), tt))
  by_number None = tt

pub none-within : (range : Option (ℕ × ℕ)) → is_some range ≡ false → IsWithin range 0
none-within (Some range) e = cc
none-within None e = refl

option-fits : (o : OptionWord) (c : CommandValue) → Fits c → IsOptionOf c o → IfSome (with_option o c) FitsSoFar
option-fits o c fits has = by_told (is_given o c.options) (is_some (option_row o).range) refl where
  by_told : (told valued : Bool) → is_some (option_row o).range ≡ valued
      → IfSome (cond told None (cond valued (Some (record { command = c; awaited = Some o }))
      (Some (into_reading (record c { options = with_given o 0 c.options }))))) FitsSoFar
  by_told true valued e = tt
  by_told false true e = (fits, has)
  by_told false false e = (fits-told o 0 c fits has (none-within (option_row o).range e), tt)

has-option : (c : CommandValue) (word : List ℕ) → IfSome (option_in (row c.word).options word) (IsOptionOf c)
has-option c word = by_word (option_word word) where
  by_word : (o : Option OptionWord) → IfSome (option_and_then (λ o. cond (is_among (row c.word).options o) (Some o) None) o) (IsOptionOf c)
  by_word (Some o) = if_true (IsOptionOf c) (is_among (row c.word).options o) o (λ e. e)
  by_word None = tt

word-fits : (word : List ℕ) (r : Reading) → FitsSoFar r → IfSome (with_word word r) FitsSoFar
word-fits word r fits = by_awaited r.awaited fits.1 where
  by_option : (o : Option OptionWord) → IfSome o (IsOptionOf r.command) → IfSome (with_option_or_name o word r.command) FitsSoFar
  by_option (Some o) has = option-fits o r.command fits.0 has
  by_option None has = name-fits word r.command fits.0

  by_awaited : (o : Option OptionWord) → IfSome o (IsOptionOf r.command) → IfSome (with_next o word r.command) FitsSoFar
  by_awaited (Some o) has = value-fits o word r.command fits.0 has
  by_awaited None has = by_option (option_in (row r.command.word).options word) (has-option r.command word)

words-fit : (words : List (List ℕ)) (r : Reading) → FitsSoFar r → IfSome (with_words words r) FitsSoFar
unfolding with_words
words-fit [] r fits = fits
words-fit (first ∷ rest) r fits = by_more (with_word first r) (word-fits first r fits) (words-fit rest) where
  by_more : (o : Option Reading) → IfSome o FitsSoFar → ((more : Reading) → FitsSoFar more → IfSome (with_words rest more) FitsSoFar)
      → IfSome (option_and_then (with_words rest) o) FitsSoFar
  by_more (Some more) further each = each more further
  by_more None further each = tt

into_command-fits : (r : Reading) → FitsSoFar r → IfSome (into_command r) IsInRange
into_command-fits r fits = if_true IsInRange (is_whole r) r.command (λ passed.
    let least = nat_le (row r.command.word).least (length r.command.names) in
    let outer = and_parts (is_none r.awaited && least) (not (has_conflict r.command.options)) passed in
    let inner = and_parts (is_none r.awaited) least outer.0 in record {
      names = fits.0.names;
      least = leb-true (row r.command.word).least (length r.command.names) inner.1;
      most = fits.0.most;
      options = fits.0.options;
      apart = not-true (has_conflict r.command.options) outer.1;
    })

read-fits : (rest : List (List ℕ)) (word : CommandWord) → IfSome (read_by rest word) IsInRange
read-fits rest word = by_told (with_words rest (bare_command word)) (words-fit rest (bare_command word) (fits-bare_command word, tt)) where
  by_told : (o : Option Reading) → IfSome o FitsSoFar → IfSome (option_and_then into_command o) IsInRange
  by_told (Some r) fits = into_command-fits r fits
  by_told None fits = tt

pub full-fits : (words : List (List ℕ)) → IfSome (read_long_form words) IsInRange
full-fits [] = tt
full-fits (first ∷ rest) = by_command (command_word first) where
  by_command : (o : Option CommandWord) → IfSome (option_and_then (read_by rest) o) IsInRange
  by_command (Some word) = read-fits rest word
  by_command None = tt

pub in_range : (words : List (List ℕ)) (c : CommandValue) → command_of words ≡ Some c → IsInRange c
in_range words c e = let P : Option CommandValue → Type 0 = λ o. IfSome o IsInRange in subst P e (full-fits (in_long_form words))
