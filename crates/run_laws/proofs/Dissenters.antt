-- The dissenters that a vote names are the copies that aren't its record.
use Rattle.std.proofs.Common.{◌≡◌, ◌+◌, ℕ, Bool, true, false, cond, List, [], ◌∷◌, map, length, Option, Some, None}
use Rattle.std.proofs.Common.{refl, sym, ap, subst, ◌∙◌, arith, codes, append-nil}
use Rattle.std.specs.List.{count_by, AllByRecursion}
use Rattle.std.specs.Str.{bytes_eq}
use Rattle.record_grammar.specs.declared.item.Item.{Item}
use Rattle.record_grammar.specs.Record.{items as items_in}
use Rattle.record_grammar.specs.Spelling.{AreBytes}
use Rattle.record_reader.specs.Salvaged.{cycles_of}
use Rattle.record_text.specs.Words.{number_line}
use Rattle.copies.specs.Verdict.{shared}
use Rattle.cmd_records.specs.declared.voter.outcome.Dissenter.{Dissenter}
use Rattle.cmd_records.specs.voter.Majority.{is_record, is_majority, majority, dissent, spelled_items}
use Rattle.cmd_records.specs.voter.VotersState.{IsRecord}
use Rattle.cmd_records.proofs.lemmas.voter.Counting.{most-true, most-is, count-cons}
use Rattle.cmd_records.proofs.lemmas.voter.Held.{record-is_known, record-yes, majority-is, majority-passes}
use Rattle.cli_answers.specs.declared.answer.Answer.TheVariants.{Done}
use Rattle.cmd_records.specs.vote_command.Vote.{voted_by, dissent_text, dissent_by}
use Rattle.run_laws.specs.Votes.{others_than, AreNamed, AnsweredAlike, OthersAreNamed, NoneIsNamed}
use Rattle.run_laws.proofs.Voted.{spelling, one-passes, same-bytes, equal-bytes}

-- ---- the answer

answered_alike_by : (m : Option (List Item)) (copies : List (List ℕ)) → (dissent_by m copies).answer ≡ (voted_by m copies).answer
answered_alike_by (Some whole) copies = refl
answered_alike_by None copies = refl

pub answered_alike : AnsweredAlike
answered_alike copies = answered_alike_by (majority copies) copies

-- ---- the copies that are named

same_test : (a b : Bool) → (a ≡ true → b ≡ true) → (b ≡ true → a ≡ true) → a ≡ b
same_test true b there back = sym (there refl)
same_test false true there back = back refl
same_test false false there back = refl

module _ (given : List Item) (whole : List ℕ) (spelled : whole ≡ spelled_items given) (record_is : IsRecord given whole) where
  -- a copy is the record of these items where it is these bytes
  one_test : (copies : List (List ℕ)) → AllByRecursion AreBytes copies → (copy : List ℕ) → AreBytes copy
      → is_record given copy ≡ bytes_eq whole copy
  one_test copies bytes copy are =
      same_test (is_record given copy) (bytes_eq whole copy)
      (λ e. equal-bytes whole copy (spelled ∙ spelling copies bytes given copy are e))
      (λ e. record-yes given copy (subst (IsRecord given) (same-bytes whole copy e) record_is))

  all_named : (number : ℕ) (copies : List (List ℕ)) → AllByRecursion AreBytes copies
      → map (λ (d : Dissenter). d.copy) (dissent given number copies) ≡ others_than whole number copies
  all_named number [] bytes = refl
  all_named number (c ∷ copies) bytes =
      by (all_named (number + 1) copies bytes.1) (is_record given c)
      ∙ ap (λ (b : Bool). cond b (others_than whole (number + 1) copies) (number ∷ others_than whole (number + 1) copies))
      (one_test copies bytes.1 c bytes.0)
    where
      by : map (λ (d : Dissenter). d.copy) (dissent given (number + 1) copies) ≡ others_than whole (number + 1) copies → (b : Bool)
          → map (λ (d : Dissenter). d.copy) (cond b (dissent given (number + 1) copies)
          (record { copy = number; row = length (shared given (items_in c)) } ∷ dissent given (number + 1) copies))
          ≡ cond b (others_than whole (number + 1) copies) (number ∷ others_than whole (number + 1) copies)
      by rest true = rest
      by rest false = ap (λ (ns : List ℕ). number ∷ ns) rest

module _ (copies : List (List ℕ)) (bytes : AllByRecursion AreBytes copies) where
  -- the items of the majority's record
  whole_is : (given : List Item) → is_majority copies given ≡ true → IsRecord given (spelled_items given)
  whole_is given e =
      let a = most-true (count_by (is_record given) copies) (length copies) e in
      let one = one-passes (is_record given) copies bytes (omega (arith, a)) in
      subst (IsRecord given) (sym (spelling copies bytes given one.0 one.1 one.2)) (record-is_known given one.0 one.2)

  named_by : (m : Option (List Item)) → majority copies ≡ m → (voted_by m copies).answer ≡ Done
      → AreNamed (voted_by m copies).bytes copies
  named_by (Some given) is done =
      let r = whole_is given (majority-passes copies given is) in
      record {
        text = ap (λ (o : Option (List Item)). (dissent_by o copies).bytes) is
            ∙ ap (λ (xs : List Item). dissent_text (cycles_of xs) (dissent xs 0 copies)) (sym r.items);
        named = ap (λ (xs : List Item). map (λ (d : Dissenter). d.copy) (dissent xs 0 copies)) r.items
            ∙ all_named given (spelled_items given) refl r 0 copies bytes;
      }
  named_by None is done = absurd cc

pub others_are_named : OthersAreNamed
others_are_named copies bytes done = named_by copies bytes (majority copies) refl done

-- ---- copies that are one record

all_pass : (given : List Item) (first : List ℕ) → is_record given first ≡ true → (others : List (List ℕ))
    → AllByRecursion (λ copy. copy ≡ first) others
    → (count_by (is_record given) others ≡ length others) × ((n : ℕ) → dissent given n others ≡ [])
all_pass given first e [] same = (refl, λ n. refl)
all_pass given first e (c ∷ others) same =
    let passes : is_record given c ≡ true = ap (is_record given) same.0 ∙ e in
    let rest = all_pass given first e others same.1 in
    let n = count-cons (is_record given) c others true passes in
    let m = rest.0 in (
      omega (arith, n, m),
      λ k. ap (λ (b : Bool). cond b (dissent given (k + 1) others)
          (record { copy = k; row = length (shared given (items_in c)) } ∷ dissent given (k + 1) others)) passes ∙ rest.1 (k + 1),
    )

pub none_is_named : NoneIsNamed
none_is_named first others cycles h =
    let given : List Item = items_in first in
    let copies : List (List ℕ) = first ∷ others in
    let e = record-yes given first (record { items = refl; whole = h.whole }) in
    let all = all_pass given first e copies (refl, h.same) in
    let n = all.0 in
    let most = most-is (count_by (is_record given) copies) (length copies) (omega (arith, n)) in
    ap (λ (m : Option (List Item)). dissent_by m copies) (majority-is copies given most)
    ∙ (λ i. record { answer = Done; bytes = dissent_text (sym h.count i) (all.1 0 i) })
    ∙ ap (λ (b : List ℕ). record { answer = Done; bytes = b }) (append-nil (number_line (codes "agree") cycles))

-- what the law of `vote --dissent` states
pub ruleset dissenters = (answered_alike, others_are_named, none_is_named)
