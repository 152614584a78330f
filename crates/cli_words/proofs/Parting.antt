-- The items of arguments: what one item more adds.
use Rattle.std.proofs.Common.{◌≡◌, ℕ, ◌^◌, ◌<◌, List, [], ◌∷◌, ◌++◌, length, Bool, true, false, cond, nat_le, nat_lt, refl, sym, ◌∙◌, ap}
use Rattle.std.proofs.Common.{subst, arith}
use Rattle.std.specs.Prelude.{Option, Some, None, is_some, find, option_to_list, decimal}
use Rattle.std.specs.Option.{option_and_then}
use Rattle.std.specs.Str.{bytes_eq}
use Rattle.std.proofs.lemmas.Bool.{and_from, le-leb, lt-ltb}
use Rattle.std.proofs.lemmas.Slice.Eq.{bytes_eq-Decides}
use Rattle.cli_words.specs.declared.table.CommandWord.{CommandWord}
use Rattle.cli_words.specs.declared.table.CommandWord.TheVariants as words
use Rattle.cli_words.specs.declared.table.OptionWord.{OptionWord}
use Rattle.cli_words.specs.declared.table.OptionWord.TheVariants.{Workers, Seed, Cycle, Reports, Dissent, Strict, Json}
use Rattle.cli_words.specs.declared.table.OptionSet.{OptionSet}
use Rattle.cli_words.specs.declared.table.TheConstants.{OPTIONS, COMMANDS}
use Rattle.cli_words.specs.declared.options.Options.{Options}
use Rattle.cli_words.specs.Names.{is_name, is_name_of}
use Rattle.cli_words.specs.Table.{row, command_word, option_row, option_word, option_in, is_among}
use Rattle.cli_words.specs.Command.{CommandValue, is_given, with_given}
use Rattle.cli_words.specs.Ranges.{value_if, value_of, IsWithin}
use Rattle.cli_words.specs.Reading.{Reading, into_reading, is_in_range, with_number, with_value, with_word, with_words}
use Rattle.cli_words.specs.Items.{option_words, is_same}
use Rattle.cli_words.proofs.Decimals.{number_of-decimal}
use Rattle.cli_words.proofs.Choosing.{with_option_or_name}

find-true : {X : Type 0} (p : X → Bool) (xs : List X) (x : X) → find p xs ≡ Some x → p x ≡ true
find-true {X} p [] x e = absurd cc
find-true {X} p (a ∷ rest) x e = by_test (p a) refl e (find-true p rest x) where
  by_test : (b : Bool) → p a ≡ b → cond b (Some a) (find p rest) ≡ Some x → (find p rest ≡ Some x → p x ≡ true) → p x ≡ true
  by_test true is found later = let same : a ≡ x = cc in subst (λ (y : X). p y ≡ true) same is
  by_test false is found later = later found

-- an option's word is its own, and no name
pub own-option : (o : OptionWord) → (option_word (option_row o).word ≡ Some o) × (is_name (option_row o).word ≡ false)
own-option Workers = (refl, refl)
own-option Seed = (refl, refl)
own-option Cycle = (refl, refl)
own-option Reports = (refl, refl)
own-option Dissent = (refl, refl)
own-option Strict = (refl, refl)
own-option Json = (refl, refl)

pub option-is : (word : List ℕ) (o : OptionWord) → option_word word ≡ Some o → (option_row o).word ≡ word
option-is word o e =
    (bytes_eq-Decides (option_row o).word word).0 (find-true (λ (p : OptionWord). bytes_eq (option_row p).word word) OPTIONS o e)

pub command-is : (word : List ℕ) (c : CommandWord) → command_word word ≡ Some c → (row c).word ≡ word
command-is word c e = (bytes_eq-Decides (row c).word word).0 (find-true (λ (d : CommandWord). bytes_eq (row d).word word) COMMANDS c e)

pub own-command : (c : CommandWord) → command_word (row c).word ≡ Some c
own-command words.Demo = refl
own-command words.Record = refl
own-command words.Replay = refl
own-command words.Check = refl
own-command words.Compare = refl
own-command words.Show = refl
own-command words.Needs = refl
own-command words.Sim = refl
own-command words.Salvage = refl
own-command words.Upgrade = refl
own-command words.Vote = refl
own-command words.Chain = refl
own-command words.Help = refl
own-command words.Version = refl

chosen : OptionSet → Option OptionWord → Option OptionWord
chosen set o = option_and_then (λ (p : OptionWord). cond (is_among set p) (Some p) None) o

pub has-own : (set : OptionSet) (o : OptionWord) → is_among set o ≡ true → option_in set (option_row o).word ≡ Some o
unfolding chosen
has-own set o has = ap (chosen set) (own-option o).0 ∙ ap (λ (b : Bool). cond b (Some o) None) has

pub not-own : (set : OptionSet) (o : OptionWord) → is_among set o ≡ false → option_in set (option_row o).word ≡ None
unfolding chosen
not-own set o not = ap (chosen set) (own-option o).0 ∙ ap (λ (b : Bool). cond b (Some o) None) not

-- a name is no option
pub name-no-option : (set : OptionSet) (word : List ℕ) → is_name word ≡ true → option_in set word ≡ None
unfolding chosen
name-no-option set word is = by_option (option_word word) refl where
  by_option : (o : Option OptionWord) → option_word word ≡ o → chosen set o ≡ None
  by_option (Some o) e = let other : is_name word ≡ false =
      subst (λ (w : List ℕ). is_name w ≡ false) (option-is word o e) (own-option o).1 in absurd cc
  by_option None e = refl

pub in-range : (range : Option (ℕ × ℕ)) (n : ℕ) → is_some range ≡ true → IsWithin range n → is_in_range range n ≡ true
in-range (Some (least, most)) n e within = and_from (nat_le least n) (nat_le n most) (le-leb least n within.0) (le-leb n most within.1)
in-range None n e within = absurd cc

pub small : (o : OptionWord) (n : ℕ) → is_some (option_row o).range ≡ true → IsWithin (option_row o).range n → n < 2 ^ 64
small Workers n e within = omega (arith, within.1)
small Seed n e within = omega (arith, within.1)
small Cycle n e within = omega (arith, within.1)
small Reports n e within = absurd cc
small Dissent n e within = absurd cc
small Strict n e within = absurd cc
small Json n e within = absurd cc

flag-value : (range : Option (ℕ × ℕ)) (n : ℕ) → is_some range ≡ false → IsWithin range n → n ≡ 0
flag-value (Some range) n e within = absurd cc
flag-value None n e within = within

pub more : (word : List ℕ) (rest : List (List ℕ)) (r : Reading)
    → with_words (word ∷ rest) r ≡ option_and_then (with_words rest) (with_word word r)
unfolding with_words
more word rest r = refl

-- a name more
pub name-step : (word : List ℕ) (rest : List (List ℕ)) (c : CommandValue) → is_name_of (row c.word).names word ≡ true → is_name word ≡ true
    → length c.names < (row c.word).most
    → with_words (word ∷ rest) (into_reading c) ≡ with_words rest (into_reading (record c { names = c.names ++ word ∷ [] }))
name-step word rest c is name room =
    more word rest (into_reading c)
    ∙ ap (λ (o : Option OptionWord). option_and_then (with_words rest) (with_option_or_name o word c))
    (name-no-option (row c.word).options word name)
    ∙ ap (λ (b : Bool). option_and_then (with_words rest) (cond b (Some (into_reading (record c { names = c.names ++ word ∷ [] }))) None))
    (and_from (is_name_of (row c.word).names word)
    (nat_lt (length c.names) (row c.word).most) is (lt-ltb (length c.names) (row c.word).most room))

module _ (o : OptionWord) (c : CommandValue) (has : is_among (row c.word).options o ≡ true) (not_given : is_given o c.options ≡ false) where
  awaiting : Reading
  awaiting = record { command = c; awaited = Some o }

  with_it : ℕ → CommandValue
  with_it n = record c { options = with_given o n c.options }

  first-step : (valued : Bool) → is_some (option_row o).range ≡ valued
      → with_word (option_row o).word (into_reading c) ≡ cond valued (Some awaiting) (Some (into_reading (with_it 0)))
  unfolding awaiting with_it
  first-step valued e =
      ap (λ (p : Option OptionWord). with_option_or_name p (option_row o).word c) (has-own (row c.word).options o has)
      ∙ ap (λ (b : Bool). cond b None (cond (is_some (option_row o).range) (Some awaiting) (Some (into_reading (with_it 0))))) not_given
      ∙ ap (λ (b : Bool). cond b (Some awaiting) (Some (into_reading (with_it 0)))) e

  value-step : (n : ℕ) → is_some (option_row o).range ≡ true → IsWithin (option_row o).range n
      → with_value o (decimal n) c ≡ Some (into_reading (with_it n))
  unfolding with_it
  value-step n e within =
      ap (option_and_then (λ (m : ℕ). with_number o m c)) (number_of-decimal n (small o n e within))
      ∙ ap (λ (b : Bool). cond b (Some (into_reading (with_it n))) None) (in-range (option_row o).range n e within)

  -- an option more, with its value
  pub option-step : (n : ℕ) (rest : List (List ℕ)) → IsWithin (option_row o).range n
      → with_words (option_words o n ++ rest) (into_reading c) ≡ with_words rest (into_reading (record c {
        options = with_given o n
            c.options;
      }))
  unfolding awaiting with_it
  option-step n rest within = by_valued (is_some (option_row o).range) refl where
    by_valued : (valued : Bool) → is_some (option_row o).range ≡ valued
        → with_words (cond valued ((option_row o).word ∷ decimal n ∷ []) ((option_row o).word ∷ []) ++ rest) (into_reading c)
        ≡ with_words rest (into_reading (record c { options = with_given o n c.options }))
    by_valued true e =
        more (option_row o).word (decimal n ∷ rest) (into_reading c)
        ∙ ap (option_and_then (with_words (decimal n ∷ rest))) (first-step true e)
        ∙ more (decimal n) rest awaiting ∙ ap (option_and_then (with_words rest)) (value-step n e within)
    by_valued false e =
        more (option_row o).word rest (into_reading c) ∙ ap (option_and_then (with_words rest)) (first-step false e)
        ∙ ap (λ (m : ℕ). with_words rest (into_reading (record c { options = with_given o m c.options })))
        (sym (flag-value (option_row o).range n e within))

-- the value of an option after one more was given
pub told-value : (o p : OptionWord) (n : ℕ) (options : Options) → IsWithin (option_row o).range n
    → value_of p (with_given o n options) ≡ cond (is_same p o) (Some n) (value_of p options)
told-value Workers Workers n options within = refl
told-value Workers p n options within = refl
told-value Seed Seed n options within = refl
told-value Seed p n options within = refl
told-value Cycle Cycle n options within = refl
told-value Cycle p n options within = refl
told-value Reports Reports n options within = ap (λ (m : ℕ). Some m) (sym within)
told-value Reports p n options within = refl
told-value Dissent Dissent n options within = ap (λ (m : ℕ). Some m) (sym within)
told-value Dissent p n options within = refl
told-value Strict Strict n options within = ap (λ (m : ℕ). Some m) (sym within)
told-value Strict p n options within = refl
told-value Json Json n options within = ap (λ (m : ℕ). Some m) (sym within)
told-value Json p n options within = refl

pub same-itself : (o : OptionWord) → is_same o o ≡ true
same-itself Workers = refl
same-itself Seed = refl
same-itself Cycle = refl
same-itself Reports = refl
same-itself Dissent = refl
same-itself Strict = refl
same-itself Json = refl

flag-none : (flag : Bool) → value_if flag ≡ None → flag ≡ false
flag-none true e = absurd cc
flag-none false e = refl

pub none-not_given : (o : OptionWord) (options : Options) → value_of o options ≡ None → is_given o options ≡ false
none-not_given Workers options e = ap (λ (v : Option ℕ). is_some v) e
none-not_given Seed options e = ap (λ (v : Option ℕ). is_some v) e
none-not_given Cycle options e = ap (λ (v : Option ℕ). is_some v) e
none-not_given Reports options e = flag-none options.reports e
none-not_given Dissent options e = flag-none options.dissent e
none-not_given Strict options e = flag-none options.strict e
none-not_given Json options e = flag-none options.json e

not_given-some : (v : Option ℕ) → is_some v ≡ false → v ≡ None
not_given-some (Some n) e = absurd cc
not_given-some None e = refl

pub not_given-none : (o : OptionWord) (options : Options) → is_given o options ≡ false → value_of o options ≡ None
not_given-none Workers options e = not_given-some options.workers e
not_given-none Seed options e = not_given-some options.seed e
not_given-none Cycle options e = not_given-some options.cycle e
not_given-none Reports options e = ap value_if e
not_given-none Dissent options e = ap value_if e
not_given-none Strict options e = ap value_if e
not_given-none Json options e = ap value_if e

same-value : (a b : Option ℕ) → option_to_list a ≡ option_to_list b → a ≡ b
same-value (Some x) (Some y) e = cc
same-value (Some x) None e = absurd cc
same-value None (Some y) e = absurd cc
same-value None None e = refl

same-flag : (a b : Bool) → option_to_list (value_if a) ≡ option_to_list (value_if b) → a ≡ b
same-flag true true e = refl
same-flag true false e = absurd cc
same-flag false true e = absurd cc
same-flag false false e = refl

-- options with the same values are the same
pub same-options : (a b : Options) → ((o : OptionWord) → option_to_list (value_of o a) ≡ option_to_list (value_of o b)) → a ≡ b
same-options a b each =
    ap (λ (v : Option ℕ). record a { workers = v }) (same-value a.workers b.workers (each Workers))
    ∙ ap (λ (v : Option ℕ). record a { workers = b.workers; seed = v }) (same-value a.seed b.seed (each Seed))
    ∙ ap (λ (v : Option ℕ). record a { workers = b.workers; seed = b.seed; cycle = v }) (same-value a.cycle b.cycle (each Cycle))
    ∙ ap (λ (v : Bool). record b { reports = v; dissent = a.dissent; strict = a.strict; json = a.json })
    (same-flag a.reports b.reports (each Reports))
    ∙ ap (λ (v : Bool). record b { dissent = v; strict = a.strict; json = a.json }) (same-flag a.dissent b.dissent (each Dissent))
    ∙ ap (λ (v : Bool). record b { strict = v; json = a.json }) (same-flag a.strict b.strict (each Strict))
    ∙ ap (λ (v : Bool). record b { json = v }) (same-flag a.json b.json (each Json))
