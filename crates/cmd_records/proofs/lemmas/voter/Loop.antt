-- The loop over the rows.
use Rattle.std.proofs.Common.{◌≡◌, ◌<◌, ◌≤◌, ◌-◌, ℕ, false, List, [], ◌∷◌, ◌++◌, map, length, Option, Some, None, Result, Ok, Err}
use Rattle.std.proofs.Common.{refl, sym, ap, subst, ◌∙◌, length-append, arith}
use Rattle.std.proofs.lemmas.List.{length-map}
use Rattle.std.specs.Prelude.{is_none}
use Rattle.std.specs.List.{count_by, AllByRecursion}
use Rattle.det_io.specs.declared.failure.Failure.TheVariants.{Read, Write, OutOfMemory}
use Rattle.det_io.specs.declared.failure.Stopped.{Stopped}
use Rattle.det_io.specs.declared.failure.Stopped.TheVariants.{Refused, Failed}
use Rattle.det_io.specs.Shelf.{ShelfState}
use Rattle.det_io.specs.Sink.{Grew}
use Rattle.det_io.specs.Traffic.{ShelfRun, SinkRun, ShelfTraffic, SinkTraffic, failure_in}
use Rattle.det_io.proofs.Prefixes.{prefix-length}
use Rattle.record_grammar.specs.declared.item.Item.{Item}
use Rattle.record_reader.specs.item_reader.StandsFor.{unread}
use Rattle.record_reader.specs.ItemTaker.{AreFirst}
use Rattle.record_reader.proofs.Items.{few_first}
use Rattle.record_reader.proofs.Pieces.{cycles-few}
use Rattle.copies.specs.CompareCopies.{AreGiven, AreLeft, ReadsAmong}
use Rattle.copies.specs.Needed.{AllNeeded}
use Rattle.copies.proofs.Needed.{needed-wider}
use Rattle.copies.proofs.SideBySide.{among-again}
use Rattle.cmd_records.specs.declared.voter.outcome.NoMajority.{NoMajority}
use Rattle.cmd_records.specs.declared.voter.outcome.Vote.{Vote}
use Rattle.cmd_records.specs.declared.voter.voter_rows.Voter.{Voter}
use Rattle.cmd_records.specs.declared.voter.voters.HeldItem.{HeldItem}
use Rattle.cmd_records.specs.declared.voter.voters.Voters.{Voters}
use Rattle.cmd_records.specs.voter.Majority.{voted_items, spelled_items}
use Rattle.cmd_records.specs.voter.VoteResult.{HasVoted}
use Rattle.cmd_records.specs.voter.Rows.{is_in_step, voter_slot, VoterIs, AreVoters}
use Rattle.cmd_records.specs.voter.VotersState.{Writes, Stand, AreEnded, Decided, IsVoteOf}
use Rattle.cmd_records.proofs.lemmas.voter.Counting.{most-true, count-cons}
use Rattle.cmd_records.proofs.lemmas.voter.Held.{items-from}
use Rattle.cmd_records.proofs.lemmas.voter.RowsHeld.{held-told}
use Rattle.cmd_records.proofs.lemmas.voter.InTurn.{voters-slots}
use Rattle.cmd_records.proofs.lemmas.voter.Deciding.{memory-failed, elected}

-- ---- a copy in step

one-first : (first now : ShelfState) (given : List Item) (slots : List ℕ) (voters : List Voter) → AreVoters first now given slots voters
    → 0 < count_by is_in_step voters → AreFirst given
one-first first now given [] [] h some = absurd (omega (arith, some))
one-first first now given [] (v ∷ voters) h some = absurd h
one-first first now given (s ∷ slots) [] h some = absurd h
one-first first now given (s ∷ slots) (v ∷ voters) h some = by v.left refl h.0 (one-first first now given slots voters h.1)
  where
    by : (left : Option ℕ) → v.left ≡ left → VoterIs left first now given s v.reader → (0 < count_by is_in_step voters → AreFirst given)
        → AreFirst given
    by None e b on = record { bytes = b.read; place = v.reader.place; rest = unread v.reader; leads = b.stands.leads }
    by (Some row) e b on = let n = count-cons is_in_step v voters false (ap (λ o. is_none o) e) in on (omega (arith, some, n))

pub stand-first : {first now : ShelfState} {given : List Item} {slots : List ℕ} {voters : Voters} → Stand first now given slots voters
    → AreFirst given
stand-first {first} {now} {given} {slots} {voters} h =
    let n = most-true (count_by is_in_step voters.voters.items) (length voters.voters.items) h.most in
    one-first first now given slots voters.voters.items h.readers (omega (arith, n))

pub stand-few : {first now : ShelfState} {given : List Item} {slots : List ℕ} {voters : Voters} → Stand first now given slots voters
    → voters.rows ≤ 1000005
stand-few {given = given} h = let few = few_first given (stand-first h) in let n = h.rows in omega (arith, few, n)

pub stand-rows : {first now : ShelfState} {given : List Item} {slots : List ℕ} {voters : Voters} → Stand first now given slots voters
    → voters.rows < 4294967295
stand-rows h = let few = stand-few h in omega (arith, few)

pub stand-cycles : {first now : ShelfState} {given : List Item} {slots : List ℕ} {voters : Voters} → Stand first now given slots voters
    → voters.cycles ≤ voters.rows
stand-cycles {given = given} h = let few = cycles-few given in let n = h.rows in let m = h.cycles in omega (arith, few, n, m)

pub stand-slots : {first now : ShelfState} {given : List Item} {slots : List ℕ} {voters : Voters} → Stand first now given slots voters
    → map voter_slot voters.voters.items ≡ slots
stand-slots {first} {now} {given} {slots} {voters} h = voters-slots first now given slots voters.voters.items h.readers

pub stand-given : {first now : ShelfState} {given : List Item} {slots : List ℕ} {voters : Voters} → Stand first now given slots voters
    → AreGiven first slots → ReadsAmong first now slots → AreGiven now (map voter_slot voters.voters.items)
stand-given {first} {now} {slots = slots} h all reads =
    subst (λ ks. AreGiven now ks) (sym (stand-slots h))
    (subst (λ (n : ℕ). AllByRecursion (λ slot. slot < n) slots) (sym reads.kept.slots) all)

pub stand-reads : {first mid now : ShelfState} {given : List Item} {slots : List ℕ} {voters : Voters} → Stand first mid given slots voters
    → ReadsAmong first mid slots → ReadsAmong mid now (map voter_slot voters.voters.items) → ReadsAmong first now slots
stand-reads {mid = mid} {now = now} h p q = among-again p (subst (λ ks. ReadsAmong mid now ks) (stand-slots h) q)

-- ---- an item that is written

pub none-item : (o : Option HeldItem) → ((item : HeldItem) → o ≡ Some item → ⊥) → o ≡ None
none-item (Some item) none = absurd (none item refl)
none-item None none = refl

-- the vote continues after the item
pub smaller : {first now later : ShelfState} (given : List Item) (x : Item) {slots : List ℕ} {old new : Voters}
    → Stand first now given slots old → Stand first later (given ++ x ∷ []) slots new → 1000006 - new.rows < 1000006 - old.rows
smaller given x h k =
    let n = h.rows in let m = k.rows in let all = length-append given (x ∷ []) in let few = stand-few h in
    omega (arith, n, m, all, few)

-- it was no read that failed
pub no-read : (piece : List ℕ) (step : SinkRun) (run : ShelfRun) (stop : Stopped NoMajority) → Writes (Err stop) piece step
    → ShelfTraffic run None → ShelfTraffic run (failure_in {A = Vote} (Err stop))
no-read piece step run (Refused split) w t = absurd w
no-read piece step run (Failed Read) w t = absurd w
no-read piece step run (Failed Write) w t = record { cause = λ e. absurd cc; counted = t.counted; stays = t.stays }
no-read piece step run (Failed OutOfMemory) w t = absurd w

-- ---- the end

ended-many : (first now : ShelfState) (given : List Item) (slots : List ℕ) (voters : List Voter) → AreEnded first now given slots voters
    → length voters ≡ length slots
ended-many first now given [] [] h = refl
ended-many first now given [] (v ∷ voters) h = absurd h
ended-many first now given (s ∷ slots) [] h = absurd h
ended-many first now given (s ∷ slots) (v ∷ voters) h = let n = ended-many first now given slots voters h.1 in omega (arith, n)

voters-many : (first now : ShelfState) (given : List Item) (slots : List ℕ) (voters : List Voter)
    → AreVoters first now given slots voters → length voters ≡ length slots
voters-many first now given slots voters h =
    sym (length-map voters voter_slot) ∙ ap length (voters-slots first now given slots voters h)

pub stand-seven : {first now : ShelfState} {given : List Item} {slots : List ℕ} {voters : Voters} → Stand first now given slots voters
    → length slots ≤ 7 → length voters.voters.items ≤ 7
stand-seven {first} {now} {given} {slots} {voters} h few =
    let n = voters-many first now given slots voters.voters.items h.readers in omega (arith, n, few)

pub decided-few : {first now : ShelfState} {given : List Item} {slots : List ℕ} {voters : Voters} → Decided first now given slots voters
    → length slots ≤ 7 → length voters.voters.items ≤ 7
decided-few {first} {now} {given} {slots} {voters} h few =
    let n = ended-many first now given slots voters.voters.items h.ended in omega (arith, n, few)

pub decided : (first old now : ShelfState) (given : List Item) (slots : List ℕ) (voters new : Voters) (out : SinkRun)
    (result : Result Vote (Stopped NoMajority)) → Stand first old given slots voters → Decided first now given slots new
    → IsVoteOf result new → Grew out.before out.after (spelled_items given) → HasVoted result first now slots out
decided first old now given slots voters new out (Ok vote) h d t grew = elected first now given slots new vote out d t.0 t.1 grew
decided first old now given slots voters new out (Err (Failed OutOfMemory)) h d t grew =
    memory-failed first old now given slots voters.voters.items out h.readers h.most grew
decided first old now given slots voters new out (Err (Failed Read)) h d t grew = absurd t
decided first old now given slots voters new out (Err (Failed Write)) h d t grew = absurd t
decided first old now given slots voters new out (Err (Refused split)) h d t grew = absurd t

pub is_known-shelf : (run : ShelfRun) (new : Voters) (result : Result Vote (Stopped NoMajority)) → IsVoteOf result new
    → ShelfTraffic run None → ShelfTraffic run (failure_in result)
is_known-shelf run new (Ok vote) t s = s
is_known-shelf run new (Err (Failed OutOfMemory)) t s = record { cause = λ e. absurd cc; counted = s.counted; stays = s.stays }
is_known-shelf run new (Err (Failed Read)) t s = absurd t
is_known-shelf run new (Err (Failed Write)) t s = absurd t
is_known-shelf run new (Err (Refused split)) t s = absurd t

pub is_known-sink : (out : SinkRun) (new : Voters) (result : Result Vote (Stopped NoMajority)) → IsVoteOf result new
    → SinkTraffic out None → SinkTraffic out (failure_in result)
is_known-sink out new (Ok vote) t s = s
is_known-sink out new (Err (Failed OutOfMemory)) t s = record { cause = λ e. absurd cc; counted = s.counted }
is_known-sink out new (Err (Failed Read)) t s = absurd t
is_known-sink out new (Err (Failed Write)) t s = absurd t
is_known-sink out new (Err (Refused split)) t s = absurd t

-- ---- what was read

-- what the row after the given items needs is needed after all items that are voted
pub needed-by : (first old now : ShelfState) (given : List Item) (slots : List ℕ) (voters : Voters) (copies : List (List ℕ))
    → Stand first old given slots voters → AllNeeded first now (length given) slots → AreLeft first slots copies
    → AllNeeded first now (length (voted_items copies)) slots
needed-by first old now given slots voters copies h all l =
    needed-wider first now (length given) (length (voted_items copies)) slots
    (prefix-length given (voted_items copies)
    (items-from copies given (held-told first old given slots voters.voters.items copies h.readers h.most l))) all
