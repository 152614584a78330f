-- The effect of a call on a shelf and on a sink.
use Rattle.std.specs.Prelude.{◌≡◌, ℕ, ◌≤◌, List, Option, Some, None, Result, Ok, Err}
use Rattle.det_io.specs.declared.failure.Failure.{Failure}
use Rattle.det_io.specs.declared.failure.Failure.TheVariants.{Read, Write}
use Rattle.det_io.specs.declared.failure.Stopped.{Stopped}
use Rattle.det_io.specs.declared.failure.Stopped.TheVariants.{Refused, Failed}
use Rattle.det_io.specs.Count.{Rose}
use Rattle.det_io.specs.Shelf.{ShelfState}

-- a shelf before and after a call, and the fact that its calls leave unchanged
pub record ShelfRun : Type 1 where
  pub first : ShelfState
  pub last : ShelfState
  pub stays : Type 0

-- a sink before and after a call: the bytes it took, and the number of its faults
pub record SinkRun : Type 1 where
  pub before : List ℕ → Type 0
  pub after : List ℕ → Type 0
  pub faults_before : ℕ
  pub faults_after : ℕ

-- the run of a shelf, from the members of its type
abbrev pub shelf_run : {S : Type 0} → (S → ShelfState) → (S → S → Type 0) → S → S → ShelfRun
shelf_run sees stays old new =
    record { first = sees old; last = sees new; stays = stays old new }

-- the run of a sink, from the members of its type
abbrev pub sink_run : {K : Type 0} → (K → List ℕ → Type 0) → (K → ℕ) → K → K → SinkRun
sink_run took faults old new = record {
  before = took old;
  after = took new;
  faults_before = faults old;
  faults_after = faults new;
}

-- the failure in a result, or none
abbrev pub failure_of : {A : Type 0} → Result A Failure → Option Failure
failure_of (Ok value) = None
failure_of (Err failure) = Some failure

-- the same for a result that may also be a refusal
abbrev pub failure_in : {A E : Type 0} → Result A (Stopped E) → Option Failure
failure_in (Ok value) = None
failure_in (Err (Refused why)) = None
failure_in (Err (Failed failure)) = Some failure

-- a fact about a refusal; no claim if the call failed
abbrev pub IfRefused : {E : Type 0} → Stopped E → (E → Type 0) → Type 0
IfRefused (Refused why) P = P why
IfRefused (Failed failure) P = Unit {0}

-- a read failed only if the count of faults rose; the count never falls
pub record ShelfTraffic (run : ShelfRun) (failure : Option Failure) : Type 0 where
  pub cause : failure ≡ Some Read → Rose run.first.faults run.last.faults
  pub counted : run.first.faults ≤ run.last.faults
  pub stays : run.stays

-- a write failed only if the count of faults rose; the count never falls
pub record SinkTraffic (run : SinkRun) (failure : Option Failure) : Type 0 where
  pub cause : failure ≡ Some Write → Rose run.faults_before run.faults_after
  pub counted : run.faults_before ≤ run.faults_after
