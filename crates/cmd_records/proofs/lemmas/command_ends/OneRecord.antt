-- A record that was opened by its name and read from its slot: how the command ends.
use Rattle.std.proofs.Common.{◌≡◌, ◌≢◌, ◌≤◌, ℕ, List, [], ◌∷◌, refl, sym, ap, subst, ◌∙◌, inl, inr, arith}
use Rattle.std.specs.Prelude.{Option, Some, Result, Ok, Err, IfSome, OnOk}
use Rattle.det_io.specs.Shelf.{ShelfState, Opens, Reads, SlotsStay}
use Rattle.det_io.specs.Sink.{Grew}
use Rattle.det_io.specs.Traffic.{SinkRun, ShelfTraffic, SinkTraffic, failure_in}
use Rattle.det_io.specs.declared.failure.Failure.TheVariants.{Read, Write, OutOfMemory}
use Rattle.det_io.specs.declared.failure.Stopped.{Stopped}
use Rattle.det_io.specs.declared.failure.Stopped.TheVariants.{Refused, Failed}
use Rattle.det_io.proofs.Counts.{rose-before}
use Rattle.det_io.proofs.Growth.{grew-none}
use Rattle.det_io.proofs.Opening.{opens-left}
use Rattle.det_io.proofs.SlotReads.{reads-told}
use Rattle.record_grammar.specs.declared.record_fault.RecordFault.{RecordFault}
use Rattle.record_reader.specs.ItemTaker.{OfSlot}
use Rattle.record_reader.proofs.ItemTaker.{told}
use Rattle.cli_answers.specs.declared.answer.Answer.{Answer}
use Rattle.cli_answers.specs.declared.answer.Answer.TheVariants as answers
use Rattle.cli_answers.specs.BreaksOff.{BreaksOff}
use Rattle.cli_answers.specs.Outcome.{Outcome, KnowsBytes, known_bytes}
use Rattle.cli_answers.specs.Slots.{KeepsSlots}
use Rattle.cli_answers.proofs.AnswerMeets.{unwritten, meets-under}
use Rattle.cli_answers.proofs.Keeping.{keeps-read}
use Rattle.cli_answers.proofs.KnownBytes.{held}
use Rattle.cmd_records.specs.command_ends.Results.{answer_by, Gives, UnlessNoMemory}
use Rattle.cmd_records.specs.command_ends.Meeting.{MeetsRecord}
use Rattle.cmd_records.proofs.lemmas.command_ends.Meeting.{IsOther, gives-meets}

-- ---- by the answer

bad-other : (fault : RecordFault) → IsOther (answers.BadRecord 0 fault)
bad-other fault = record { not_read = λ e. cc; not_write = λ e. cc }

-- where the command is done its work was
pub at-done : {T P : Type 0} (result : Result T (Stopped RecordFault)) (answer : Answer) → answer ≡ answer_by (answers.BadRecord 0) result
    → OnOk result P → answer ≡ answers.Done → P
at-done (Ok value) answer is p done = p
at-done (Err (Refused f)) answer is p done = absurd cc
at-done (Err (Failed Read)) answer is p done = absurd cc
at-done (Err (Failed Write)) answer is p done = absurd cc
at-done (Err (Failed OutOfMemory)) answer is p done = absurd cc

-- if the command reports a read fault, a read failed
pub at-fault : {T P : Type 0} (result : Result T (Stopped RecordFault)) (answer : Answer) → answer ≡ answer_by (answers.BadRecord 0) result
    → (result ≡ Err (Failed Read) → P) → answer ≡ answers.ReadFault → P
at-fault (Ok value) answer is p e = absurd cc
at-fault (Err (Refused f)) answer is p e = absurd cc
at-fault (Err (Failed Read)) answer is p e = p refl
at-fault (Err (Failed Write)) answer is p e = absurd cc
at-fault (Err (Failed OutOfMemory)) answer is p e = absurd cc

-- a fact that is known unless memory could not be had
pub unless-no-memory : {T P : Type 0} (result : Result T (Stopped RecordFault)) (answer : Answer)
    → answer ≡ answer_by (answers.BadRecord 0) result → UnlessNoMemory result P → answer ≢ answers.OutOfMemory → P
unless-no-memory (Ok value) answer is p ne = p
unless-no-memory (Err (Refused f)) answer is p ne = p
unless-no-memory (Err (Failed Read)) answer is p ne = p
unless-no-memory (Err (Failed Write)) answer is p ne = p
unless-no-memory (Err (Failed OutOfMemory)) answer is p ne = absurd (ne is)

-- ---- the name couldn't be opened

pub unopened : (written : List ℕ → List ℕ) {first last : ShelfState} {name : List ℕ} {m n : ℕ} (took : List ℕ → Type 0)
    → written [] ≡ [] → SlotsStay first last → BreaksOff first last name written (unwritten took m n)
unopened written {first} {last} {name} took nothing stay = record {
  read = [];
  rest = known_bytes first name;
  all = refl;
  left = inr (stay.slots, refl);
  grew = subst (Grew took took) (sym nothing) (grew-none took);
}

-- ---- the record was read

told-at : (left : Option (List ℕ)) (bytes : List ℕ) (P : List ℕ → Type 0) → left ≡ Some bytes → IfSome left P → P bytes
told-at left bytes P e p = rw e at p

-- the slot had what the name held
had : {first mid : ShelfState} {name : List ℕ} {slot here : ℕ} → Opens first mid name slot → here ≡ slot → KnowsBytes first (name ∷ [])
    → mid.left here ≡ Some (known_bytes first name)
had {first} {mid} {name} opens same is_known =
    ap mid.left same ∙ opens-left (known_bytes first name) opens (held (first.holds name) (is_known 0 name (omega arith)))

module _ {first mid last : ShelfState} {stays : Type 0} {name : List ℕ} {slot here : ℕ} {read : List ℕ} (opens : Opens first mid name slot)
    (same : here ≡ slot) where
  -- what is true of each content of the slot is true of what the name held
  pub of-name : (Fact : List ℕ → Type 0) → OfSlot (record { first = mid; last = last; stays = stays }) here read Fact
      → KnowsBytes first (name ∷ []) → Fact (known_bytes first name)
  of-name Fact given is_known = told-at (mid.left here) (known_bytes first name) Fact (had opens same is_known) (told Fact given)

  pub meets-record : {T : Type 0} (result : Result T (Stopped RecordFault)) (answer : Answer) (outcome : List ℕ → Outcome) (out : SinkRun)
      → answer ≡ answer_by (answers.BadRecord 0) result
      → OfSlot (record { first = mid; last = last; stays = stays }) here read
      (λ bytes. Gives (answers.BadRecord 0) result (outcome bytes) out) → first.faults ≤ mid.faults
      → ShelfTraffic (record { first = mid; last = last; stays = stays }) (failure_in result) → SinkTraffic out (failure_in result)
      → MeetsRecord outcome first last name out answer
  meets-record result answer outcome out is given counted reads writes =
      rw is
      (meets-under _ _ _ _ _ _ _ (λ t. t) (λ r. rose-before first.faults mid.faults last.faults counted r)
      (gives-meets (answers.BadRecord 0) bad-other (outcome (known_bytes first name)) (KnowsBytes first (name ∷ []))
      (record { first = mid; last = last; stays = stays }) out result
      (of-name (λ bytes. Gives (answers.BadRecord 0) result (outcome bytes) out) given) reads writes))

module _ {first mid last : ShelfState} {name : List ℕ} {slot here : ℕ} {read : List ℕ} (opens : Opens first mid name slot)
    (same : here ≡ slot) where
  -- a read failed
  pub broken-off : {T : Type 0} (result : Result T (Stopped RecordFault)) {answer : Answer} (written : List ℕ → List ℕ) (out : SinkRun)
      → answer ≡ answer_by (answers.BadRecord 0) result → Reads mid last here read
      → (result ≡ Err (Failed Read) → Grew out.before out.after (written read))
      → answer ≡ answers.ReadFault → KnowsBytes first (name ∷ []) → BreaksOff first last name written out
  broken-off result {answer} written out is reads grew fault is_known =
      let r = reads-told (known_bytes first name) reads (had opens same is_known) in
      record {
        read = read;
        rest = r.0;
        all = sym r.2;
        left = inl (subst (λ (k : ℕ). last.left k ≡ Some r.0) (same ∙ opens.number) r.1);
        grew = at-fault result answer is grew fault;
      }

  pub keeps-earlier : Reads mid last here read → KeepsSlots first last
  keeps-earlier reads = keeps-read opens (subst (λ (k : ℕ). Reads mid last k read) same reads)
