-- A vote is done exactly where more than half of the copies are one whole record.
use Rattle.std.proofs.Common.{◌≡◌, ◌<◌, ◌≤◌, ℕ, Bool, true, false, List, [], ◌∷◌, length, Option, Some, None}
use Rattle.std.proofs.Common.{refl, sym, ap, subst, ◌∙◌, arith}
use Rattle.std.specs.List.{count_by, AllByRecursion}
use Rattle.std.specs.Str.{bytes_eq}
use Rattle.std.proofs.lemmas.Slice.Eq.{bytes_eq-Decides}
use Rattle.record_grammar.specs.declared.item.Item.{Item}
use Rattle.record_grammar.specs.Record.{items as items_in, fault as fault_in}
use Rattle.record_grammar.specs.Spelling.{AreBytes}
use Rattle.cmd_records.specs.voter.Majority.{is_record, is_majority, majority, spelled_items}
use Rattle.cmd_records.specs.voter.VotersState.{IsRecord}
use Rattle.cmd_records.proofs.lemmas.voter.Counting.{most-true, most-is, count-cons}
use Rattle.cmd_records.proofs.lemmas.voter.Held.{record-is_known, record-yes, majority-is, majority-passes}
use Rattle.cmd_records.proofs.lemmas.voter.Spelled.{whole-spelled}
use Rattle.cli_answers.specs.declared.answer.Answer.TheVariants.{Done}
use Rattle.cmd_records.specs.vote_command.Vote.{voted_by, vote_outcome}
use Rattle.run_laws.specs.Votes.{IsMajority, MajorityIsWritten, DoneIsMajority}

-- what passes one test of copies that are bytes passes the other
pub fewer : (f g : List ℕ → Bool) (copies : List (List ℕ)) → AllByRecursion AreBytes copies
    → ((copy : List ℕ) → AreBytes copy → f copy ≡ true → g copy ≡ true) → count_by f copies ≤ count_by g copies
fewer f g [] bytes on = omega arith
fewer f g (c ∷ copies) bytes on = by (f c) refl (g c) refl (fewer f g copies bytes.1 on)
  where
    by : (a : Bool) → f c ≡ a → (b : Bool) → g c ≡ b → count_by f copies ≤ count_by g copies
        → count_by f (c ∷ copies) ≤ count_by g (c ∷ copies)
    by true e true d rest = let n = count-cons f c copies true e in let m = count-cons g c copies true d in omega (arith, rest, n, m)
    by true e false d rest = let no : false ≡ true = sym d ∙ on c bytes.0 e in absurd cc
    by false e true d rest = let n = count-cons f c copies false e in let m = count-cons g c copies true d in omega (arith, rest, n, m)
    by false e false d rest = let n = count-cons f c copies false e in let m = count-cons g c copies false d in omega (arith, rest, n, m)

-- one of them passes
pub one-passes : (f : List ℕ → Bool) (copies : List (List ℕ)) → AllByRecursion AreBytes copies → 0 < count_by f copies
    → (copy : List ℕ) × AreBytes copy × (f copy ≡ true)
one-passes f [] bytes some = absurd (omega (arith, some))
one-passes f (c ∷ copies) bytes some = by (f c) refl (one-passes f copies bytes.1)
  where
    by : (b : Bool) → f c ≡ b → (0 < count_by f copies → (copy : List ℕ) × AreBytes copy × (f copy ≡ true))
        → (copy : List ℕ) × AreBytes copy × (f copy ≡ true)
    by true e rest = (c, bytes.0, e)
    by false e rest = let n = count-cons f c copies false e in rest (omega (arith, some, n))

pub same-bytes : (a b : List ℕ) → bytes_eq a b ≡ true → a ≡ b
same-bytes a b e = (bytes_eq-Decides a b).0 e

pub equal-bytes : (a b : List ℕ) → a ≡ b → bytes_eq a b ≡ true
equal-bytes a b e = (bytes_eq-Decides a b).1 e

module _ (copies : List (List ℕ)) (bytes : AllByRecursion AreBytes copies) where
  -- a copy that is a whole record of these items is their spelling
  pub spelling : (given : List Item) (copy : List ℕ) → AreBytes copy → is_record given copy ≡ true → spelled_items given ≡ copy
  spelling given copy are e =
      let r = record-is_known given copy e in
      sym (whole-spelled copy are r.whole ∙ ap spelled_items r.items)

  module _ (whole : List ℕ) (h : IsMajority whole copies) where
    passes : is_majority copies (items_in whole) ≡ true
    passes =
        let more = fewer (bytes_eq whole) (is_record (items_in whole)) copies bytes
        (λ copy are e. record-yes (items_in whole) copy
        (subst (IsRecord (items_in whole)) (same-bytes whole copy e) (record { items = refl; whole = h.sound }))) in
        let a = h.most in
        most-is (count_by (is_record (items_in whole)) copies) (length copies) (omega (arith, a, more))

    is-spelled : spelled_items (items_in whole) ≡ whole
    is-spelled =
        let a = h.most in
        let one = one-passes (bytes_eq whole) copies bytes (omega (arith, a)) in
        sym (whole-spelled whole (subst AreBytes (sym (same-bytes whole one.0 one.2)) one.1) h.sound)

    written : vote_outcome copies ≡ record { answer = Done; bytes = whole }
    written = ap (λ m. voted_by m copies) (majority-is copies (items_in whole) passes)
        ∙ ap (λ (b : List ℕ). record { answer = Done; bytes = b }) is-spelled

  -- the spelling of the majority's items is the record of more than half of the copies
  elected : (given : List Item) → is_majority copies given ≡ true → IsMajority (spelled_items given) copies
  elected given e =
      let a = most-true (count_by (is_record given) copies) (length copies) e in
      let one = one-passes (is_record given) copies bytes (omega (arith, a)) in
      let r = record-is_known given one.0 one.2 in
      let more = fewer (is_record given) (bytes_eq (spelled_items given)) copies bytes
      (λ copy are f. equal-bytes (spelled_items given) copy (spelling given copy are f)) in
      record {
        sound = ap fault_in (spelling given one.0 one.1 one.2) ∙ r.whole;
        most = omega (arith, a, more);
      }

  by-done : (m : Option (List Item)) → majority copies ≡ m → (voted_by m copies).answer ≡ Done → IsMajority (voted_by m copies).bytes copies
  by-done (Some given) is done = elected given (majority-passes copies given is)
  by-done None is done = absurd cc

pub majority_is_written : MajorityIsWritten
majority_is_written whole copies bytes h = written copies bytes whole h

pub done_is_majority : DoneIsMajority
done_is_majority copies bytes done = by-done copies bytes (majority copies) refl done
