-- What salvaging a record ends with, by the record's bytes.
use Rattle.std.specs.Prelude.{◌≡◌, ◌⊎◌, ℕ, List, [], ◌++◌, Bool, true, Option, Some, None}
use Rattle.std.specs.Prelude.{Result, Ok, Err}
use Rattle.det_io.specs.declared.failure.Failure.TheVariants.{Read, Write, OutOfMemory}
use Rattle.det_io.specs.declared.failure.Stopped.{Stopped}
use Rattle.det_io.specs.declared.failure.Stopped.TheVariants.{Refused, Failed}
use Rattle.det_io.specs.Prefix.{IsPrefix, IsProperPrefix}
use Rattle.det_io.specs.Shelf.{IsAtEnd}
use Rattle.det_io.specs.Sink.{Grew}
use Rattle.det_io.specs.Traffic.{ShelfRun, SinkRun}
use Rattle.record_grammar.specs.declared.record_fault.RecordFault.{RecordFault}
use Rattle.record_grammar.specs.Record.{items as items_in, fault as fault_in, fault_so_far}
use Rattle.record_reader.specs.declared.salvage.Salvaged.{Salvaged}
use Rattle.record_reader.specs.item_reader.Needed.{ReadsWhile}
use Rattle.record_reader.specs.item_reader.StandsFor.{IsFaulty}
use Rattle.record_reader.specs.Salvaged.{salvaged, saved_of, cycles_of, refused_of}
use Rattle.record_reader.specs.ItemTaker.{OfSlot}

-- a prefix of the salvaged record; nothing where there is none
abbrev pub IsFront : List ℕ → Option (List ℕ) → Type 0
IsFront front None = front ≡ []
IsFront front (Some bytes) = IsPrefix front bytes

-- a proper prefix of the salvaged record, which there is
abbrev pub IsCut : List ℕ → Option (List ℕ) → Type 0
IsCut front None = ⊥
IsCut front (Some bytes) = IsProperPrefix front bytes

-- all of the salvaged record was written, and counted
pub record Salvages (record_bytes : List ℕ) (counts : Salvaged) (out : SinkRun) : Type 0 where
  pub bytes : List ℕ
  pub is : salvaged record_bytes ≡ Some bytes
  pub grew : Grew out.before out.after bytes
  pub cycles : counts.cycles ≡ cycles_of (items_in record_bytes)
  pub refused : counts.refused ≡ refused_of (items_in record_bytes)

-- there is nothing to salvage, and nothing was written
pub record HasNothing (record_bytes : List ℕ) (f : RecordFault) (out : SinkRun) : Type 0 where
  pub is : salvaged record_bytes ≡ None
  pub fault : fault_in record_bytes ≡ Some f
  pub grew : Grew out.before out.after []

-- a prefix of the salvaged record was written
pub record Begins (record_bytes : List ℕ) (out : SinkRun) : Type 0 where
  pub front : List ℕ
  pub within : IsFront front (salvaged record_bytes)
  pub grew : Grew out.before out.after front

-- a proper prefix of the salvaged record was written
pub record BreaksOff (record_bytes : List ℕ) (out : SinkRun) : Type 0 where
  pub front : List ℕ
  pub within : IsCut front (salvaged record_bytes)
  pub grew : Grew out.before out.after front

-- what a result says of a record, and of what the sink took
abbrev pub Answers : Result Salvaged (Stopped RecordFault) → List ℕ → SinkRun → Type 0
Answers (Ok counts) record_bytes out = Salvages record_bytes counts out
Answers (Err (Refused f)) record_bytes out = HasNothing record_bytes f out
Answers (Err (Failed Read)) record_bytes out = Begins record_bytes out
Answers (Err (Failed Write)) record_bytes out = BreaksOff record_bytes out
Answers (Err (Failed OutOfMemory)) record_bytes out = Begins record_bytes out

-- how far the record was read: until its items and its fault were certain, whatever comes after
abbrev pub ReadsTo : Result Salvaged (Stopped RecordFault) → List ℕ → Type 0 → Type 0
ReadsTo (Ok counts) read at_end =
    ((tail : List ℕ) → items_in (read ++ tail) ≡ items_in read) ⊎ at_end
ReadsTo (Err (Refused f)) read at_end = IsFaulty f read (items_in read) ⊎ at_end
ReadsTo (Err (Failed Read)) read at_end = fault_so_far read ≡ None
ReadsTo (Err stop) read at_end = Unit {0}

-- after a failed read, all that can be saved of the bytes read was written
abbrev pub SavesRead : Result Salvaged (Stopped RecordFault) → List ℕ → SinkRun → Type 0
SavesRead (Err (Failed Read)) read out = Grew out.before out.after (saved_of read)
SavesRead result read out = Unit {0}

-- how a salvage ended that read these bytes
pub record Ended (result : Result Salvaged (Stopped RecordFault)) (read : List ℕ)
    (shelf : ShelfRun) (slot : ℕ) (out : SinkRun) : Type 0 where
  pub reads_to : ReadsTo result read (IsAtEnd shelf.last slot)
  pub needed : ReadsWhile (λ first. fault_so_far first ≡ None) read
  pub saves : SavesRead result read out
  pub answers : OfSlot shelf slot read (λ bytes. Answers result bytes out)

-- a fault after Init is no reason to stop
abbrev pub settled_by : Bool → Result (Unit {0}) (Stopped RecordFault)
    → Result (Unit {0}) (Stopped RecordFault)
settled_by true (Err (Refused f)) = Ok tt
settled_by has_begun read = read
