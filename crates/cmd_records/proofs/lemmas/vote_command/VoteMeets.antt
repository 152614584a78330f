-- How a vote meets its outcome, by its end.
use Rattle.std.proofs.Common.{◌≡◌, ◌≤◌, ℕ, List, [], Bor, map, refl, sym, ap, subst, ◌∙◌}
use Rattle.std.specs.Prelude.{Option, Some, None, Result, Ok, Err}
use Rattle.std.specs.Option.{unwrap_or}
use Rattle.det_io.specs.Count.{Rose}
use Rattle.det_io.specs.Shelf.{ShelfState}
use Rattle.det_io.specs.Sink.{Grew, GrewByPrefix}
use Rattle.det_io.specs.Traffic.{ShelfRun, SinkRun, ShelfTraffic, SinkTraffic, failure_in}
use Rattle.det_io.specs.declared.failure.Failure.TheVariants.{Read, Write, OutOfMemory}
use Rattle.det_io.specs.declared.failure.Stopped.{Stopped}
use Rattle.det_io.specs.declared.failure.Stopped.TheVariants.{Refused, Failed}
use Rattle.det_io.proofs.Counts.{rose-before}
use Rattle.det_io.proofs.Growth.{short-part}
use Rattle.record_grammar.specs.declared.item.Item.{Item}
use Rattle.cmd_records.specs.open_names.OpenedSlots.{Opened}
use Rattle.cmd_records.proofs.lemmas.open_names.Copies.{texts, are-left}
use Rattle.cmd_records.specs.declared.voter.outcome.NoMajority as voting
use Rattle.cmd_records.specs.declared.voter.outcome.Vote.{Vote}
use Rattle.cmd_records.specs.voter.Majority.{majority, common, spelled_items, voted}
use Rattle.cmd_records.specs.voter.VoteResult.{Answers, Elects, Splits, HasVoted}
use Rattle.cli_answers.specs.declared.answer.Answer.{Answer}
use Rattle.cli_answers.specs.declared.answer.Answer.TheVariants.{Done, NoMajority}
use Rattle.cli_answers.specs.Outcome.{Meets, HasRisen, KnowsBytes, known_bytes}
use Rattle.cli_answers.proofs.AnswerMeets.{unwritten, meets-under, meets-read-fault, meets-no-memory, meets-refusal}
use Rattle.cmd_records.specs.command_ends.Results.{answer_by, Gives}
use Rattle.cmd_records.proofs.lemmas.command_ends.Meeting.{meets-printed, gives-meets}
use Rattle.cmd_records.specs.vote_command.Vote.{split_answer, voted_by, vote_outcome, dissent_text, dissent_by, dissent_outcome}

-- ---- the bytes of an outcome

bytes-are : (copies : List (List ℕ)) → (vote_outcome copies).bytes ≡ voted copies
bytes-are copies = by (majority copies) where
  by : (m : Option (List Item)) → (voted_by m copies).bytes ≡ spelled_items (unwrap_or m (common copies))
  by (Some whole) = refl
  by None = refl

elected : (vote : Vote) (copies : List (List ℕ)) (out : SinkRun) → Elects vote copies out
    → ((vote_outcome copies).answer ≡ Done) × Grew out.before out.after (vote_outcome copies).bytes
elected vote copies out e = rw e.is (refl, e.grew)

split : (row : ℕ) (copies : List (List ℕ)) (out : SinkRun) → Splits row copies out
    → ((vote_outcome copies).answer ≡ NoMajority row) × Grew out.before out.after (vote_outcome copies).bytes
split row copies out s = (
  ap (λ m. (voted_by m copies).answer) s.none ∙ ap NoMajority (sym s.row),
  subst (Grew out.before out.after) (sym (bytes-are copies)) s.grew,
)

dissent-is : (vote : Vote) (copies : List (List ℕ)) (out : SinkRun) → Elects vote copies out
    → dissent_outcome copies ≡ record { answer = Done; bytes = dissent_text vote.cycles vote.dissent }
dissent-is vote copies out e = rw (e.is, e.cycles, e.dissent) refl

module _ {first mid : ShelfState} {slots here : List ℕ} (recorded : List (Bor (List ℕ))) (same : here ≡ slots)
    (opened : Opened first mid (texts recorded) slots) where
  abbrev is_known : Type 0
  is_known = KnowsBytes first (texts recorded)

  abbrev copies : List (List ℕ)
  copies = map (known_bytes first) (texts recorded)

  module _ (last : ShelfState) (stays : Type 0) (counted : first.faults ≤ mid.faults) (out : SinkRun) where
    abbrev rose : Type 0
    rose = Rose first.faults last.faults

    abbrev shelf : ShelfRun
    shelf = record { first = mid; last = last; stays = stays }

    answered : (result : Result Vote (Stopped voting.NoMajority)) → HasVoted result mid last here out → is_known
        → Answers result mid last here copies out
    answered result h t = h.answers copies (are-left recorded same opened t)

    part-of : GrewByPrefix out.before out.after (voted copies) → GrewByPrefix out.before out.after (vote_outcome copies).bytes
    part-of part = subst (GrewByPrefix out.before out.after) (sym (bytes-are copies)) part

    read-failed : Rose mid.faults last.faults → rose
    read-failed r = rose-before first.faults mid.faults last.faults counted r

    gives : (result : Result Vote (Stopped voting.NoMajority)) → HasVoted result mid last here out → is_known
        → Gives split_answer result (vote_outcome copies) out
    gives (Ok vote) h t = elected vote copies out (answered (Ok vote) h t)
    gives (Err (Refused why)) h t = split why.row copies out (answered (Err (Refused why)) h t)
    gives (Err (Failed Read)) h t = part-of (answered (Err (Failed Read)) h t).part
    gives (Err (Failed Write)) h t = part-of (short-part _ _ _ (answered (Err (Failed Write)) h t))
    gives (Err (Failed OutOfMemory)) h t = part-of (answered (Err (Failed OutOfMemory)) h t)

    -- the record was written
    pub meets-voted : (result : Result Vote (Stopped voting.NoMajority)) → HasVoted result mid last here out
        → ShelfTraffic shelf (failure_in result) → SinkTraffic out (failure_in result)
        → Meets (vote_outcome copies) is_known rose out (answer_by split_answer result)
    meets-voted result h reads writes =
        meets-under _ _ _ _ _ _ _ (λ t. t) read-failed
        (gives-meets split_answer (λ why. record { not_read = λ e. cc; not_write = λ e. cc }) (vote_outcome copies) is_known shelf out
        result
        (gives result h) reads writes)

    -- the dissenters were printed
    pub meets-dissent : {rose : Type 0} {err : SinkRun} {answer : Answer} (vote : Vote) → HasVoted (Ok vote) mid last here out
        → Meets (record { answer = Done; bytes = dissent_text vote.cycles vote.dissent }) (Unit {0}) ⊥ err answer
        → Meets (dissent_outcome copies) is_known rose err answer
    meets-dissent vote h m = meets-printed (λ t. dissent-is vote copies out (answered (Ok vote) h t)) m

    -- nothing was printed, since there is no majority or something failed
    pub meets-unprinted : {took : List ℕ → Type 0} {m n : ℕ} (why : Stopped voting.NoMajority) → HasVoted (Err why) mid last here out
        → ShelfTraffic shelf (failure_in {A = Vote} (Err why)) → SinkTraffic out (failure_in {A = Vote} (Err why)) → (HasRisen out → ⊥)
        → Meets (dissent_outcome copies) is_known rose (unwritten took m n) (answer_by {T = Vote} split_answer (Err why))
    meets-unprinted {took = took} (Refused why) h reads writes none =
        meets-refusal _ _ _ took _ _ (NoMajority why.row) (λ e. cc) (λ e. cc)
        (λ t. let s : Splits why.row copies out = answered (Err (Refused why)) h t in
        ap (λ m. dissent_by m copies) s.none ∙ ap (λ row. record { answer = NoMajority row; bytes = [] }) (sym s.row))
    meets-unprinted {took = took} (Failed Read) h reads writes none = meets-read-fault _ _ _ took _ _ (read-failed (reads.cause refl))
    meets-unprinted (Failed Write) h reads writes none = absurd (none (writes.cause refl))
    meets-unprinted {took = took} (Failed OutOfMemory) h reads writes none = meets-no-memory _ _ _ took _ _
