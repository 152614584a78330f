-- The results that the phases of a cycle may return, from the definition of a cycle.
use Rattle.std.specs.Prelude.{◌≡◌, ℕ, List, Result, Ok, Err, IsErr}
use Rattle.std.specs.Arc.{arc_value}
use Rattle.det_values.specs.Values.{RefusedAtValue}
use Rattle.std.specs.declared.alloc.AllocError.{AllocError}
use Rattle.det_values.specs.declared.frames.Outcome.{Outcome}
use Rattle.det_values.specs.declared.frames.Outcome.TheVariants as outcomes
use Rattle.det_values.specs.declared.refused_at.Phase.{Phase}
use Rattle.job.specs.declared.job_results.JobFault.{JobFault}
use Rattle.job.specs.declared.job_results.JobFault.TheVariants as job
use Rattle.job.specs.Pass.{PassResult}
use Rattle.job.specs.Cycle.{Done, refused_in_pool}
use Rattle.job.specs.declared.pass.PoolFault.{PoolFault}
use Rattle.job.specs.declared.pass.PoolFault.TheVariants as pool
use Rattle.cycle_engine.specs.declared.cycle_fault.CycleFault.{CycleFault}
use Rattle.cycle_engine.specs.declared.cycle_fault.CycleFault.TheVariants.{Refused, OutOfMemory}
use Rattle.cycle_engine.specs.declared.passes.PassesDone.{PassesDone}
use Rattle.cycle_engine.specs.declared.phases.CycleDone.{CycleDone}

-- the data that all passes of one cycle share
pub record SharedValue (S L : Type 0) : Type 0 where
  pub job : S
  pub plan : L
  pub seed : ℕ
  pub cycle : ℕ

-- the data that a pass gets from the passes before it
pub record StageValue (E P : Type 0) : Type 0 where
  pub number : ℕ
  pub carry : P
  pub elements : List E
  pub earlier : List ℕ

abbrev pub left_by : {E P : Type 0} → PassesDone E P → PassResult E P
left_by done = record { elements = done.elements; draws = done.draws; part = done.part }

-- the result of the passes is the defined one; only "out of memory" may be returned without a cause
-- here
abbrev pub ArePasses : {E P : Type 0} → Result (PassesDone E P) CycleFault
    → Result (PassResult E P) RefusedAtValue → Type 0
ArePasses (Ok done) passes = passes ≡ Ok (left_by done)
ArePasses (Err (Refused at)) passes = passes ≡ Err at
ArePasses (Err OutOfMemory) passes = Unit {0}

abbrev pub done_of : {G E : Type 0} → CycleDone G E → ℕ → Done G E
done_of done seed = record {
  state = record { globals = done.globals; elements = arc_value done.elements; seed = seed };
  shown = done.shown;
  output = done.output;
}

-- the result of a cycle, with the client's seed afterwards, is the defined one; only "out of
-- memory" may be returned without a cause here
abbrev pub IsCycle : {G E : Type 0} → Result (CycleDone G E) CycleFault → ℕ
    → Result (Done G E) RefusedAtValue → Type 0
IsCycle (Ok done) seed cycle = cycle ≡ Ok (done_of done seed)
IsCycle (Err (Refused at)) seed cycle = cycle ≡ Err at
IsCycle (Err OutOfMemory) seed cycle = Unit {0}

-- the fault of a cycle, from the pool's fault in a pass
abbrev pub PoolEnds : ℕ → PoolFault → CycleFault → Type 0
PoolEnds pass (pool.Refused element code) (Refused at) =
    at ≡ refused_in_pool pass (record { element = element; code = code })
PoolEnds pass (pool.Refused element code) OutOfMemory = ⊥
PoolEnds pass pool.OutOfMemory (Refused at) = ⊥
PoolEnds pass pool.OutOfMemory OutOfMemory = Unit {0}

-- the fault of a cycle, from a job's fault in a phase outside the pool
abbrev pub JobEnds : Phase → JobFault → CycleFault → Type 0
JobEnds phase (job.Code code) (Refused at) =
    at ≡ record { phase = phase; pass = 0; element = 0; code = code }
JobEnds phase (job.Code code) OutOfMemory = ⊥
JobEnds phase job.OutOfMemory (Refused at) = ⊥
JobEnds phase job.OutOfMemory OutOfMemory = Unit {0}

-- a refusal is an outcome, "out of memory" is none
abbrev pub FaultOutcome : CycleFault → Result Outcome AllocError → Type 0
FaultOutcome (Refused at) outcome = outcome ≡ Ok (outcomes.Refused at)
FaultOutcome OutOfMemory outcome = IsErr outcome
