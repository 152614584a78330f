-- How a command's run meets the outcome of the words.
use Rattle.std.proofs.Common.{◌≡◌, ◌≤◌, ℕ, List, [], ◌∷◌, length, map, get_or, refl, ap, ◌∙◌, sym, subst, arith}
use Rattle.std.specs.Prelude.{Option, Some, None, IfSome, Bool, true, false, MatchOption}
use Rattle.std.proofs.lemmas.List.{nil_from_length, length-map}
use Rattle.det_io.specs.Shelf.{ShelfState}
use Rattle.det_io.specs.Sink.{GrewByPrefix}
use Rattle.det_io.specs.Traffic.{SinkRun}
use Rattle.det_io.proofs.Growth.{grew-none}
use Rattle.probes.specs.Reports.{AudienceState}
use Rattle.cli_answers.specs.declared.answer.Answer.{Answer}
use Rattle.cli_answers.specs.declared.answer.Answer.TheVariants.{Differs, BadWords}
use Rattle.cli_answers.specs.Ends.{Work, can_end}
use Rattle.cli_answers.proofs.AnswerMeets.{unwritten}
use Rattle.cli_words.specs.declared.table.CommandWord.{CommandWord}
use Rattle.cli_words.specs.declared.table.OptionWord.TheVariants.{Workers}
use Rattle.cli_words.specs.Table.{row}
use Rattle.cli_words.specs.Command.{CommandValue, name_at}
use Rattle.cli_words.specs.Ranges.{IsInRange}
use Rattle.record_text.specs.declared.show_part.ShowPart.{ShowPart}
use Rattle.record_text.specs.declared.show_part.ShowPart.TheVariants as parts
use Rattle.cmd_records.specs.record_show.PrintedItems.{Kept}
use Rattle.cmd_records.specs.record_show.ShowEnds as showing
use Rattle.cmd_records.specs.record_show.ShowEnds.{IsGone}
use Rattle.cmd_records.specs.salvage_command.ReportEnds as salvaging
use Rattle.det_cli.specs.Texts.{help_text}
use Rattle.cmd_records.specs.record_show.Text.{has_reports}
use Rattle.det_cli.specs.Promise.{Runs, Refuses, reports_only}

-- a command by its word and its names
pub same-command : (c : CommandValue) (word : CommandWord) (names : List (List ℕ)) → c.word ≡ word → c.names ≡ names
    → c ≡ record { word = word; names = names; options = c.options }
same-command c word names is same = λ i. record { word = is i; names = same i; options = c.options }

-- the same, with what it says of reports
pub same-reports : (c : CommandValue) (word : CommandWord) (names : List (List ℕ)) (reports : Bool) → c.word ≡ word → c.names ≡ names
    → c.options.reports ≡ reports
    → c ≡ record { word = word; names = names; options = record c.options { reports = reports } }
same-reports c word names reports is same told =
    λ i. record { word = is i; names = same i; options = record c.options { reports = told i } }

-- the same, with what it says of dissent
pub same-dissent : (c : CommandValue) (word : CommandWord) (names : List (List ℕ)) (dissent : Bool) → c.word ≡ word → c.names ≡ names
    → c.options.dissent ≡ dissent
    → c ≡ record { word = word; names = names; options = record c.options { dissent = dissent } }
same-dissent c word names dissent is same told =
    λ i. record { word = is i; names = same i; options = record c.options { dissent = told i } }

one-name : (names : List (List ℕ)) → 1 ≤ length names → length names ≤ 1 → names ≡ get_or names 0 [] ∷ []
one-name [] least most = absurd (omega arith)
one-name (a ∷ []) least most = refl
one-name (a ∷ b ∷ rest) least most = absurd (omega arith)

two-names : (names : List (List ℕ)) → 2 ≤ length names → length names ≤ 2 → names ≡ get_or names 0 [] ∷ get_or names 1 [] ∷ []
two-names [] least most = absurd (omega arith)
two-names (a ∷ []) least most = absurd (omega arith)
two-names (a ∷ b ∷ []) least most = refl
two-names (a ∷ b ∷ d ∷ rest) least most = absurd (omega arith)

three-names : (names : List (List ℕ)) → 3 ≤ length names → length names ≤ 3
    → names ≡ get_or names 0 [] ∷ get_or names 1 [] ∷ get_or names 2 [] ∷ []
three-names [] least most = absurd (omega arith)
three-names (a ∷ []) least most = absurd (omega arith)
three-names (a ∷ b ∷ []) least most = absurd (omega arith)
three-names (a ∷ b ∷ d ∷ []) least most = refl
three-names (a ∷ b ∷ d ∷ e ∷ rest) least most = absurd (omega arith)

-- the names of a command that has one, of one that has two, and of one that has three
module _ (c : CommandValue) (word : CommandWord) (range : IsInRange c) (is : c.word ≡ word) where
  pub sole-name : (row word).least ≡ 1 → (row word).most ≡ 1 → (name : List ℕ) → name ≡ name_at 0 c → c.names ≡ name ∷ []
  sole-name least most name first =
      let low : (row word).least ≤ length c.names = subst (λ (w : CommandWord). (row w).least ≤ length c.names) is range.least in
      let high : length c.names ≤ (row word).most = subst (λ (w : CommandWord). length c.names ≤ (row w).most) is range.most in
      one-name c.names (omega (arith, least, low)) (omega (arith, most, high)) ∙ ap (λ (n : List ℕ). n ∷ []) (sym first)

  pub no-name : (row word).most ≡ 0 → c.names ≡ []
  no-name most =
      let high : length c.names ≤ (row word).most = subst (λ (w : CommandWord). length c.names ≤ (row w).most) is range.most in
      nil_from_length c.names (omega (arith, most, high))

  -- the names, seen through a slice, are at least this number
  pub names-enough : {A : Type 0} (names : List A) (text : A → List ℕ) → map text names ≡ c.names → (least : ℕ)
      → (row word).least ≡ least → least ≤ length names
  names-enough names text same least few =
      let low : (row word).least ≤ length c.names = subst (λ (w : CommandWord). (row w).least ≤ length c.names) is range.least in
      let long : length names ≡ length c.names = sym (length-map names text) ∙ ap length same in
      omega (arith, few, low, long)

  pub both-names : (row word).least ≡ 2 → (row word).most ≡ 2 → (name other : List ℕ) → name ≡ name_at 0 c → other ≡ name_at 1 c
      → c.names ≡ name ∷ other ∷ []
  both-names least most name other first second =
      let low : (row word).least ≤ length c.names = subst (λ (w : CommandWord). (row w).least ≤ length c.names) is range.least in
      let high : length c.names ≤ (row word).most = subst (λ (w : CommandWord). length c.names ≤ (row w).most) is range.most in
      two-names c.names (omega (arith, least, low)) (omega (arith, most, high))
      ∙ ap (λ (n : List ℕ). n ∷ name_at 1 c ∷ []) (sym first) ∙ ap (λ (n : List ℕ). name ∷ n ∷ []) (sym second)

  -- and at most this number
  pub names-few : {A : Type 0} (names : List A) (text : A → List ℕ) → map text names ≡ c.names → (most : ℕ)
      → (row word).most ≡ most → length names ≤ most
  names-few names text same most few =
      let high : length c.names ≤ (row word).most = subst (λ (w : CommandWord). length c.names ≤ (row w).most) is range.most in
      let long : length names ≡ length c.names = sym (length-map names text) ∙ ap length same in
      omega (arith, few, high, long)

  pub all-names : (row word).least ≡ 3 → (row word).most ≡ 3 → (name other last : List ℕ) → name ≡ name_at 0 c → other ≡ name_at 1 c
      → last ≡ name_at 2 c → c.names ≡ name ∷ other ∷ last ∷ []
  all-names least most name other last first second third =
      let low : (row word).least ≤ length c.names = subst (λ (w : CommandWord). (row w).least ≤ length c.names) is range.least in
      let high : length c.names ≤ (row word).most = subst (λ (w : CommandWord). length c.names ≤ (row w).most) is range.most in
      three-names c.names (omega (arith, least, low)) (omega (arith, most, high))
      ∙ ap (λ (n : List ℕ). n ∷ name_at 1 c ∷ name_at 2 c ∷ []) (sym first)
      ∙ ap (λ (n : List ℕ). name ∷ n ∷ name_at 2 c ∷ []) (sym second)
      ∙ ap (λ (n : List ℕ). name ∷ other ∷ n ∷ []) (sym third)

-- what a part of a record leaves of an audience
pub is-kept : (part : ShowPart) (old now : AudienceState) → Kept part old now → has_reports part ≡ false → now ≡ old
is-kept parts.All old now kept e = absurd cc
is-kept parts.Reports old now kept e = absurd cc
is-kept (parts.Cycle number) old now kept e = kept

pub is-gone : (part : ShowPart) (now : AudienceState) → IsGone part now → has_reports part ≡ true → now.seeing ≡ []
is-gone parts.All now gone e = gone
is-gone parts.Reports now gone e = gone
is-gone (parts.Cycle number) now gone e = absurd cc

-- a command that compares nothing finds no difference
pub no-difference : (work : Work) (answer : Answer) → answer ≡ Differs → can_end work answer ≡ true → work.compares ≡ false → ⊥
no-difference work answer e ends alone = let h = rw e at ends in let none = sym alone ∙ h in cc

-- runs that were reported of a record have no lines
pub reported-runs : {old now : AudienceState} {record_bytes bytes : List ℕ} {out : SinkRun}
    → salvaging.SawFirst old now record_bytes → GrewByPrefix out.before out.after bytes
    → showing.SawFirst reports_only old now record_bytes out
reported-runs saw part = record {
  seen = saw.seen;
  first = saw.first;
  saw = saw.saw;
  taken = part.0;
  lines = (part.0, refl);
  grew = part.2;
}

-- the text of help that was looked up
pub help-is : (found : Option (List ℕ)) (names asked : List (List ℕ)) → names ≡ asked → found ≡ help_text names → help_text asked ≡ found
help-is found names asked same is = sym (is ∙ ap help_text same)

-- the number of workers that is given is 1 to 64
pub workers-fit : (c : CommandValue) → IsInRange c → IfSome c.options.workers (λ n. (1 ≤ n) × (n ≤ 64))
workers-fit c range = by_told c.options.workers refl where
  by_told : (told : Option ℕ) → c.options.workers ≡ told → IfSome told (λ n. (1 ≤ n) × (n ≤ 64))
  by_told (Some n) e = (range.options Workers n e).1
  by_told None e = tt

-- what is promised of a command is promised of the same one
pub runs-command : (first last : ShelfState) (out : SinkRun) (audience stayed : AudienceState) (answer : Answer)
    (command same : CommandValue) → command ≡ same
    → Runs same first last out audience stayed answer → Runs command first last out audience stayed answer
runs-command first last out audience stayed answer command same is =
    subst (λ c. Runs c first last out audience stayed answer) (sym is)

-- a run of the command that words are, or their refusal
abbrev pub RunsWords : Option CommandValue → (first last : ShelfState) → SinkRun → (seeing stayed : AudienceState) → Answer → Type 0
RunsWords command first last out seeing stayed answer =
    MatchOption command (Refuses first last out seeing stayed answer) (λ c. Runs c first last out seeing stayed answer)

-- and of the words that give it
pub runs-words : (first last : ShelfState) (out : SinkRun) (audience stayed : AudienceState) (answer : Answer)
    (command : Option CommandValue) (read : Option CommandValue) → command ≡ read
    → RunsWords read first last out audience stayed answer → RunsWords command first last out audience stayed answer
runs-words first last out audience stayed answer command read is =
    subst (λ c. RunsWords c first last out audience stayed answer) (sym is)

-- words that are no command are refused, and nothing else happens
pub refuses : (shelf : ShelfState) (before : List ℕ → Type 0) (m n : ℕ) (audience : AudienceState)
    → Refuses shelf shelf (unwritten before m n) audience audience BadWords
refuses shelf before m n audience = record { is = refl; shelf = refl; wrote = grew-none before; left = refl }
