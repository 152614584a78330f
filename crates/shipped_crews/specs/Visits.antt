-- What a call with a visitor did: what the visitor gives of its answer, or nothing, since memory
-- ran out before the visit.
use Rattle.std.specs.Prelude.{◌≡◌, ℕ, List, Result, IfOk, OnErr}
use Rattle.det_values.specs.Values.{ProfileValue}
use Rattle.det_values.specs.declared.job_kind.JobKind.{JobKind}
use Rattle.det_io.specs.Shelf.{ShelfState}
use Rattle.det_io.specs.Traffic.{ShelfRun, SinkRun, shelf_run, sink_run}
use Rattle.job.specs.Meaning.{Meaning}
use Rattle.jobs.specs.Kinds.{of_kind}
use Rattle.probes.specs.Reports.{AudienceState}

-- a call with a visitor of one run; `gives` is what the visitor gives for that run
pub record HasVisited {S K T F : Type 0} (sees : S → ShelfState) (stays : S → S → Type 0)
    (took : K → List ℕ → Type 0) (faults : K → ℕ)
    (gives : ShelfRun → SinkRun → AudienceState → AudienceState → T → Type 0)
    (old new : S) (before after : K) (first last : AudienceState) (result : Result T F)
    : Type 0 where
  pub given : IfOk result
      (gives (shelf_run sees stays old new) (sink_run took faults before after) first last)
  pub shelf : OnErr result (new ≡ old)
  pub sink : OnErr result (after ≡ before)
  pub audience : OnErr result (last ≡ first)

-- what a visitor of two runs gives for a second run of this kind; `gives` is for any second job
abbrev pub GivesSecond : {V T : Type 0}
    → ((S G E L P : Type 0) → Meaning S G E L P → ProfileValue → V → ShelfRun → SinkRun → SinkRun
    → T → Type 0)
    → JobKind → ProfileValue → V → ShelfRun → SinkRun → SinkRun → T → Type 0
GivesSecond gives kind profile visitor shelf one two answer =
    of_kind (λ S G E L P m. gives S G E L P m profile visitor shelf one two answer) kind

-- a call with a visitor of two runs
pub record HasVisitedTwo {S K L T F : Type 0} (sees : S → ShelfState) (stays : S → S → Type 0)
    (gives : ShelfRun → SinkRun → SinkRun → T → Type 0)
    (took : K → List ℕ → Type 0) (faults : K → ℕ) (took2 : L → List ℕ → Type 0) (faults2 : L → ℕ)
    (old new : S) (before after : K) (before2 after2 : L) (result : Result T F)
    : Type 0 where
  pub given : IfOk result (gives (shelf_run sees stays old new)
      (sink_run took faults before after) (sink_run took2 faults2 before2 after2))
  pub shelf : OnErr result (new ≡ old)
  pub first_sink : OnErr result (after ≡ before)
  pub second_sink : OnErr result (after2 ≡ before2)
