-- How a vote ends.
use Rattle.std.proofs.Common.{◌≡◌, ◌≤◌, ◌+◌, ℕ, true, false, cond, List, [], ◌∷◌, ◌++◌, length, Option, Some, None, Ok, Err}
use Rattle.std.proofs.Common.{refl, sym, ap, subst, ◌∙◌, append_assoc, arith}
use Rattle.std.specs.Prelude.{is_none, unwrap_or, ◌==◌}
use Rattle.std.specs.List.{count_by, list_any}
use Rattle.std.proofs.lemmas.Bool.{cond-true, cond-false, eq-eqb, false_from_ne_true, or_right, or_left}
use Rattle.std.proofs.lemmas.List.Folds.{list_any-append}
use Rattle.det_io.specs.declared.failure.Failure.TheVariants.{Read, Write, OutOfMemory}
use Rattle.det_io.specs.declared.failure.Stopped.{Stopped}
use Rattle.det_io.specs.declared.failure.Stopped.TheVariants.{Refused, Failed}
use Rattle.det_io.specs.Prefix.{IsProperPrefix}
use Rattle.det_io.specs.Shelf.{ShelfState, IsAtEnd}
use Rattle.det_io.specs.Sink.{Grew}
use Rattle.det_io.specs.Traffic.{SinkRun, SinkTraffic, failure_in}
use Rattle.det_io.proofs.Prefixes.{proper-then, proper-behind}
use Rattle.det_io.proofs.Growth.{grew-then}
use Rattle.record_grammar.specs.declared.item.Item.{Item}
use Rattle.record_grammar.specs.Record.{items as items_in}
use Rattle.copies.specs.Verdict.{shared}
use Rattle.copies.specs.CompareCopies.{AreLeft}
use Rattle.cmd_records.specs.declared.voter.outcome.Dissenter.{Dissenter}
use Rattle.cmd_records.specs.declared.voter.outcome.NoMajority.{NoMajority}
use Rattle.cmd_records.specs.declared.voter.outcome.Vote.{Vote}
use Rattle.cmd_records.specs.declared.voter.voter_rows.Voter.{Voter}
use Rattle.cmd_records.specs.declared.voter.voters.Voters.{Voters}
use Rattle.cmd_records.specs.voter.Majority.{is_record, is_most, dissent, common, voted, spelled_items}
use Rattle.cmd_records.specs.voter.VoteResult.{Elects, dissents, OthersEnd, HasVoted}
use Rattle.cmd_records.specs.voter.Rows.{is_in_step, AreVoters, FailedAmong}
use Rattle.cmd_records.specs.voter.VotersState.{Writes, AreMost, Stand, EndIs, AreEnded, Decided, RowTaken, dissenter, dissenters}
use Rattle.cmd_records.proofs.lemmas.voter.Counting.{most-true, most-is, count-cons}
use Rattle.cmd_records.proofs.lemmas.voter.Held.{record-is_known, record-yes, majority-is, voted-from}
use Rattle.cmd_records.proofs.lemmas.voter.RowsHeld.{held-told}

-- ---- how many are in step

pub all-most : (voters : List Voter) (n : ℕ) → count_by is_in_step voters ≡ n → length voters ≡ n → 1 ≤ n → AreMost voters
all-most voters n count len some = most-is (count_by is_in_step voters) (length voters) (omega (arith, count, len, some))

left-many : (copy : ℕ) (voters : List Voter) → count_by is_in_step voters + length (dissenters copy voters) ≡ length voters
left-many copy [] = refl
left-many copy (v ∷ voters) = by v.left refl (left-many (copy + 1) voters)
  where
    by : (left : Option ℕ) → v.left ≡ left
        → count_by is_in_step voters + length (dissenters (copy + 1) voters) ≡ length voters
        → count_by is_in_step (v ∷ voters) + length (dissenter left copy ++ dissenters (copy + 1) voters) ≡ length (v ∷ voters)
    by None e rest = let n = count-cons is_in_step v voters true (ap (λ o. is_none o) e) in omega (arith, n, rest)
    by (Some row) e rest = let n = count-cons is_in_step v voters false (ap (λ o. is_none o) e) in omega (arith, n, rest)

-- of at most seven copies at most three left
pub few-left : (voters : List Voter) → AreMost voters → length voters ≤ 7 → length (dissenters 0 voters) ≤ 3
few-left voters most few =
    let n = most-true (count_by is_in_step voters) (length voters) most in
    let all = left-many 0 voters in
    omega (arith, n, all, few)

-- ---- a call that failed

read-failed : (first old last : ShelfState) (given : List Item) (slots : List ℕ) (voters : List Voter) (out : SinkRun)
    → AreVoters first old given slots voters → AreMost voters → Grew out.before out.after (spelled_items given)
    → FailedAmong Read first last given slots → HasVoted (Err (Failed Read)) first last slots out
read-failed first old last given slots voters out h most grew failed = record {
  answers = λ copies l. let held = held-told first old given slots voters copies h most l in record {
    rows = given;
    slot = failed.0;
    among = failed.1;
    shown = failed.2;
    held = held;
    grew = grew;
    part = (spelled_items given, voted-from copies given held, grew);
  };
  ends = tt;
}

pub memory-failed : (first old last : ShelfState) (given : List Item) (slots : List ℕ) (voters : List Voter) (out : SinkRun)
    → AreVoters first old given slots voters → AreMost voters → Grew out.before out.after (spelled_items given)
    → HasVoted (Err (Failed OutOfMemory)) first last slots out
memory-failed first old last given slots voters out h most grew = record {
  answers = λ copies l.
      (spelled_items given, voted-from copies given (held-told first old given slots voters copies h most l), grew);
  ends = tt;
}

pub row-stopped : (first old last : ShelfState) (given : List Item) (slots : List ℕ) (voters new : Voters) (out : SinkRun)
    (stop : Stopped NoMajority) → Stand first old given slots voters → Grew out.before out.after (spelled_items given)
    → RowTaken (Err stop) first last given slots new → HasVoted (Err stop) first last slots out
row-stopped first old last given slots voters new out (Failed Read) h grew taken =
    read-failed first old last given slots voters.voters.items out h.readers h.most grew taken
row-stopped first old last given slots voters new out (Failed OutOfMemory) h grew taken =
    memory-failed first old last given slots voters.voters.items out h.readers h.most grew
row-stopped first old last given slots voters new out (Failed Write) h grew taken = absurd taken.2
row-stopped first old last given slots voters new out (Refused split) h grew taken = record {
  answers = λ copies l. let s = taken.1 copies l in record {
    none = s.none;
    row = taken.0 ∙ ap length (sym s.common);
    grew = subst (λ b. Grew out.before out.after b)
        (ap spelled_items (sym s.common) ∙ ap (λ o. spelled_items (unwrap_or o (common copies))) (sym s.none)) grew;
  };
  ends = tt;
}

-- it was no write that failed
pub no-write : (first last : ShelfState) (given : List Item) (slots : List ℕ) (new : Voters) (out : SinkRun) (stop : Stopped NoMajority)
    → RowTaken (Err stop) first last given slots new → SinkTraffic out None
    → SinkTraffic out (failure_in {A = Vote} (Err stop))
no-write first last given slots new out (Refused split) taken t = record { cause = λ e. absurd cc; counted = t.counted }
no-write first last given slots new out (Failed Read) taken t = record { cause = λ e. absurd cc; counted = t.counted }
no-write first last given slots new out (Failed OutOfMemory) taken t = record { cause = λ e. absurd cc; counted = t.counted }
no-write first last given slots new out (Failed Write) taken t = absurd taken.2

pub write-stopped : (first last : ShelfState) (given : List Item) (x : Item) (slots : List ℕ) (voters : Voters) (piece : List ℕ)
    (step out : SinkRun) (stop : Stopped NoMajority) → Stand first last (given ++ x ∷ []) slots voters
    → Grew out.before step.before (spelled_items given) → step.after ≡ out.after
    → spelled_items (given ++ x ∷ []) ≡ spelled_items given ++ piece → Writes (Err stop) piece step
    → HasVoted (Err stop) first last slots out
write-stopped first last given x slots voters piece step out (Refused split) h grew same more w = absurd w
write-stopped first last given x slots voters piece step out (Failed Read) h grew same more w = absurd w
write-stopped first last given x slots voters piece step out (Failed OutOfMemory) h grew same more w = absurd w
write-stopped first last given x slots voters piece step out (Failed Write) h grew same more w = record {
  answers = λ copies l. (
    spelled_items given ++ w.0,
    proper-then (spelled_items given ++ w.0) (spelled_items (given ++ x ∷ [])) (voted copies)
        (subst (λ b. IsProperPrefix (spelled_items given ++ w.0) b) (sym more) (proper-behind (spelled_items given) w.0 piece w.1))
        (voted-from copies (given ++ x ∷ [])
        (held-told first last (given ++ x ∷ []) slots voters.voters.items copies h.readers h.most l)),
    subst (λ p. Grew out.before p (spelled_items given ++ w.0)) same (grew-then grew w.2),
  );
  ends = tt;
}

-- ---- the vote is decided

module _ (first now : ShelfState) (given : List Item) where
  end-told : (slot : ℕ) (left : Option ℕ) (copy : List ℕ) → EndIs left first now given slot → first.left slot ≡ Some copy
      → is_none left ≡ is_record given copy
  end-told slot None copy h l = sym (record-yes given copy (h.1 copy l))
  end-told slot (Some row) copy h l =
      sym (false_from_ne_true (is_record given copy) (λ e. (h copy l).other (record-is_known given copy e)))

  ended-told : (slots : List ℕ) (voters : List Voter) (copies : List (List ℕ)) → AreEnded first now given slots voters
      → AreLeft first slots copies
      → (count_by is_in_step voters ≡ count_by (is_record given) copies) × (length voters ≡ length copies)
  ended-told [] [] [] h l = (refl, refl)
  ended-told (s ∷ slots) (v ∷ voters) (c ∷ copies) h l =
      let rest = ended-told slots voters copies h.1 l.1 in
      let same = rest.1 in
      let yes = is_record given c in (
        count-cons is_in_step v voters yes (end-told s v.left c h.0 l.0)
            ∙ ap (λ n. cond yes 1 0 + n) rest.0 ∙ sym (count-cons (is_record given) c copies yes refl),
        omega (arith, same),
      )
  ended-told [] [] (c ∷ copies) h l = absurd l
  ended-told (s ∷ slots) (v ∷ voters) [] h l = absurd l
  ended-told [] (v ∷ voters) copies h l = absurd h
  ended-told (s ∷ slots) [] copies h l = absurd h

  one-dissents : (slot : ℕ) (left : Option ℕ) (number : ℕ) (copy : List ℕ) (rest : List Dissenter)
      → EndIs left first now given slot → first.left slot ≡ Some copy
      → dissenter left number ++ rest ≡ cond (is_record given copy) rest
      (record { copy = number; row = length (shared given (items_in copy)) } ∷ rest)
  one-dissents slot None number copy rest h l =
      sym (cond-true (is_record given copy) rest (record { copy = number; row = length (shared given (items_in copy)) } ∷ rest)
      (sym (end-told slot None copy h l)))
  one-dissents slot (Some row) number copy rest h l =
      ap (λ (k : ℕ). record { copy = number; row = k } ∷ rest) (sym ((h copy l).row))
      ∙ sym (cond-false (is_record given copy) rest (record { copy = number; row = length (shared given (items_in copy)) } ∷ rest)
      (sym (end-told slot (Some row) copy h l)))

  dissent-told : (number : ℕ) (slots : List ℕ) (voters : List Voter) (copies : List (List ℕ)) → AreEnded first now given slots voters
      → AreLeft first slots copies → dissenters number voters ≡ dissent given number copies
  dissent-told number [] [] [] h l = refl
  dissent-told number (s ∷ slots) (v ∷ voters) (c ∷ copies) h l =
      ap (λ rest. dissenter v.left number ++ rest) (dissent-told (number + 1) slots voters copies h.1 l.1)
      ∙ one-dissents s v.left number c (dissent given (number + 1) copies) h.0 l.0
  dissent-told number [] [] (c ∷ copies) h l = absurd l
  dissent-told number (s ∷ slots) (v ∷ voters) [] h l = absurd l
  dissent-told number [] (v ∷ voters) copies h l = absurd h
  dissent-told number (s ∷ slots) [] copies h l = absurd h

dissents-here : (front rest : List Dissenter) (copy row : ℕ) → dissents (front ++ (record { copy = copy; row = row } ∷ rest)) copy ≡ true
dissents-here front rest copy row =
    list_any-append (λ (d : Dissenter). d.copy == copy) front (record { copy = copy; row = row } ∷ rest)
    ∙ or_right (list_any (λ (d : Dissenter). d.copy == copy) front)
    (list_any (λ (d : Dissenter). d.copy == copy) (record { copy = copy; row = row } ∷ rest))
    (or_left (copy == copy) (list_any (λ (d : Dissenter). d.copy == copy) rest) (eq-eqb copy copy refl))

others-end : (first now : ShelfState) (given : List Item) (front all : List Dissenter) (copy : ℕ) (slots : List ℕ) (voters : List Voter)
    → AreEnded first now given slots voters → front ++ dissenters copy voters ≡ all → OthersEnd all now copy slots
others-end first now given front all copy [] [] h e = tt
others-end first now given front all copy [] (v ∷ voters) h e = absurd h
others-end first now given front all copy (s ∷ slots) [] h e = absurd h
others-end first now given front all copy (s ∷ slots) (v ∷ voters) h e = (
  by v.left h.0 e,
  others-end first now given (front ++ dissenter v.left copy) all (copy + 1) slots voters h.1
      (append_assoc front (dissenter v.left copy) (dissenters (copy + 1) voters) ∙ e),
)
  where
    by : (left : Option ℕ) → EndIs left first now given s → front ++ (dissenter left copy ++ dissenters (copy + 1) voters) ≡ all
        → dissents all copy ≡ false → IsAtEnd now s
    by None end is none = end.0
    by (Some row) end is none =
        let yes = dissents-here front (dissenters (copy + 1) voters) copy row in
        let no : true ≡ false = sym yes ∙ ap (λ ds. dissents ds copy) is ∙ none in absurd cc

pub elected : (first now : ShelfState) (given : List Item) (slots : List ℕ) (voters : Voters) (vote : Vote) (out : SinkRun)
    → Decided first now given slots voters → vote.cycles ≡ voters.cycles → vote.dissent ≡ dissenters 0 voters.voters.items
    → Grew out.before out.after (spelled_items given) → HasVoted (Ok vote) first now slots out
elected first now given slots voters vote out h cycles left grew = record {
  answers = answers;
  ends = others-end first now given [] vote.dissent 0 slots voters.voters.items h.ended (sym left);
}
  where
    answers : (copies : List (List ℕ)) → AreLeft first slots copies → Elects vote copies out
    answers copies l =
        let same = ended-told first now given slots voters.voters.items copies h.ended l in
        record {
          whole = given;
          is = majority-is copies given (subst (λ k. is_most (count_by (is_record given) copies) k ≡ true) same.1
              (subst (λ k. is_most k (length voters.voters.items) ≡ true) same.0 h.most));
          cycles = cycles ∙ h.cycles;
          dissent = left ∙ dissent-told first now given 0 slots voters.voters.items copies h.ended l;
          grew = grew;
        }
