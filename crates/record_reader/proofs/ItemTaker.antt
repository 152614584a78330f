-- The result of a loop that passes the items of a record to a taker, for any reader.
use Rattle.std.proofs.Common.{◌≡◌, ◌⊎◌, inl, inr, ℕ, List, [], ◌++◌, Option, Some, None, Err, refl, sym, ap, subst}
use Rattle.std.proofs.Common.{◌∙◌, append-nil}
use Rattle.std.specs.Prelude.{IfSome}
use Rattle.std.specs.Option.{option_map}
use Rattle.det_io.specs.declared.failure.Failure.{Failure}
use Rattle.det_io.specs.declared.failure.Failure.TheVariants.{Read, Write, OutOfMemory}
use Rattle.det_io.specs.declared.failure.Stopped.{Stopped}
use Rattle.det_io.specs.declared.failure.Stopped.TheVariants.{Refused, Failed}
use Rattle.det_io.specs.Traffic.{ShelfRun, SinkRun, ShelfTraffic, SinkTraffic, failure_in}
use Rattle.record_grammar.specs.declared.record_fault.RecordFault.{RecordFault}
use Rattle.record_grammar.specs.declared.item.Item.{Item}
use Rattle.record_reader.specs.item_reader.StandsFor.{IsFaulty, FoundFault}
use Rattle.record_reader.specs.ItemTaker.{ItemTaker, Takes, AreAll, OfSlot}

-- ---- what a slot can have had

pub at_none : (P : List ℕ → Type 0) (read rest : List ℕ) → rest ≡ [] → P read → P (read ++ rest)
at_none P read rest none h = subst P (sym (ap (λ (xs : List ℕ). read ++ xs) none ∙ append-nil read)) h

-- a fact that follows from another of each list of bytes
pub of-slot : {shelf : ShelfRun} {slot : ℕ} {read : List ℕ} (P Q : List ℕ → Type 0) → ((bytes : List ℕ) → P bytes → Q bytes)
    → OfSlot shelf slot read P → OfSlot shelf slot read Q
of-slot {read = read} P Q then h = record { reads = h.reads; each = λ rest end. then (read ++ rest) (h.each rest end) }

-- a fact of what the slot had left, if the shelf says it
pub told : {shelf : ShelfRun} {slot : ℕ} {read : List ℕ} (P : List ℕ → Type 0) → OfSlot shelf slot read P → IfSome (shelf.first.left slot) P
told {shelf} {slot} {read} P h = subst (λ (left : Option (List ℕ)). IfSome left P) (sym h.reads.left) (by (shelf.last.left slot) h.each)
  where
    by : (left : Option (List ℕ)) → ((rest : List ℕ) → (IfSome left (λ r. r ≡ []) → rest ≡ []) → P (read ++ rest))
        → IfSome (option_map (λ rest. read ++ rest) left) P
    by (Some rest) each = each rest (λ end. end)
    by None each = tt

-- ---- the loop

-- what a reader's stop is to a taker that may refuse with an E
abbrev pub Lifts : {E : Type 0} → ItemTaker E → Stopped RecordFault → Stopped E → Type 0
Lifts taking (Refused f) (Refused why) = taking.fault_of why ≡ Some f
Lifts taking (Refused f) (Failed failure) = ⊥
Lifts taking (Failed failure) stop = stop ≡ Failed failure

-- a taker that refuses nothing by itself passes the reader's stop on
pub lifts-same : (taking : ItemTaker RecordFault) → ((f : RecordFault) → taking.fault_of f ≡ Some f) → (stop : Stopped RecordFault)
    → Lifts taking stop stop
lifts-same taking same (Refused f) = same f
lifts-same taking same (Failed failure) = refl

-- a sink over one step of a loop
abbrev pub step : (List ℕ → Type 0) → (List ℕ → Type 0) → ℕ → ℕ → SinkRun
step before after a b = record { before = before; after = after; faults_before = a; faults_after = b }

-- a later run of a sink after one, and both together
abbrev pub behind : SinkRun → (List ℕ → Type 0) → ℕ → SinkRun
behind one last faults = record { before = one.after; after = last; faults_before = one.faults_after; faults_after = faults }

abbrev pub over : SinkRun → (List ℕ → Type 0) → ℕ → SinkRun
over one last faults = record { before = one.before; after = last; faults_before = one.faults_before; faults_after = faults }

pub all-before : {f : RecordFault} {at_end : Type 0} {read : List ℕ} {given : List Item} → FoundFault f at_end read given → (rest : List ℕ)
    → (at_end → rest ≡ []) → AreAll given (Some f) (read ++ rest)
all-before {f} {at_end} {read} {given} found rest end = by found.found
  where
    by : IsFaulty f read given ⊎ at_end → AreAll given (Some f) (read ++ rest)
    by (inl faulty) = record { items = (faulty rest).0; fault = (faulty rest).1 }
    by (inr at) = at_none (AreAll given (Some f)) read rest (end at) (record { items = found.before; fault = found.is })

-- ---- traffic

pub quiet-sink : {out : SinkRun} {failure : Option Failure} → (failure ≡ Some Write → ⊥) → SinkTraffic out None → SinkTraffic out failure
quiet-sink other h = record { cause = λ e. absurd (other e); counted = h.counted }

quiet-shelf : {shelf : ShelfRun} {failure : Option Failure} → (failure ≡ Some Read → ⊥) → ShelfTraffic shelf None
    → ShelfTraffic shelf failure
quiet-shelf other h = record { cause = λ e. absurd (other e); counted = h.counted; stays = h.stays }

-- a taker reads nothing
pub no-read : {E : Type 0} {taking : ItemTaker E} {given : List Item} {item : Item} {front : List ℕ} {shelf : ShelfRun} {out : SinkRun}
    (stop : Stopped E) → Takes (Err stop) taking given item front out → ShelfTraffic shelf None
    → ShelfTraffic shelf (failure_in {A = Unit {0}} (Err stop))
no-read (Refused why) take h = quiet-shelf (λ e. cc) h
no-read (Failed Read) take h = absurd take.after
no-read (Failed Write) take h = quiet-shelf (λ e. cc) h
no-read (Failed OutOfMemory) take h = quiet-shelf (λ e. cc) h
