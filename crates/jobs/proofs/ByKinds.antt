-- Facts about the jobs of all kinds.
use Rattle.std.proofs.Common.{◌≡◌}
use Rattle.det_values.specs.declared.job_kind.JobKind.{JobKind}
use Rattle.det_values.specs.declared.job_kind.JobKind.TheVariants.{Bank, Cloud, Guard}
use Rattle.job.specs.Meaning.{Meaning}
use Rattle.jobs.specs.Kinds.{by_kind, of_kind}

-- two functions that are equal for each meaning are equal for the job of a kind
pub by_kind-same : {A : Type 0} (f h : (S G E L P : Type 0) → Meaning S G E L P → A) →
    ((S G E L P : Type 0) (m : Meaning S G E L P) → f S G E L P m ≡ h S G E L P m) → (k : JobKind) → by_kind f k ≡ by_kind h k
by_kind-same f h same Bank = same _ _ _ _ _ _
by_kind-same f h same Cloud = same _ _ _ _ _ _
by_kind-same f h same Guard = same _ _ _ _ _ _

-- a fact of a value that is made by kind
pub by_kind-has : {A : Type 0} (f : (S G E L P : Type 0) → Meaning S G E L P → A) (P : A → Type 0) →
    ((S G E L Q : Type 0) (m : Meaning S G E L Q) → P (f S G E L Q m)) → (k : JobKind) → P (by_kind f k)
by_kind-has f P all Bank = all _ _ _ _ _ _
by_kind-has f P all Cloud = all _ _ _ _ _ _
by_kind-has f P all Guard = all _ _ _ _ _ _

-- a fact about each meaning is a fact about the job of a kind
pub of_all : (f : (S G E L P : Type 0) → Meaning S G E L P → Type 0) →
    ((S G E L P : Type 0) (m : Meaning S G E L P) → f S G E L P m) → (k : JobKind) → of_kind f k
of_all f all Bank = all _ _ _ _ _ _
of_all f all Cloud = all _ _ _ _ _ _
of_all f all Guard = all _ _ _ _ _ _

-- a consequence of a fact about each meaning, for a value that is made by kind
pub by_kind-then : {A : Type 0} (f : (S G E L P : Type 0) → Meaning S G E L P → A)
    (Fact : (S G E L P : Type 0) → Meaning S G E L P → Type 0) (P : A → Type 0) →
    ((S G E L Q : Type 0) (m : Meaning S G E L Q) → Fact S G E L Q m → P (f S G E L Q m)) → (k : JobKind)
    → of_kind Fact k → P (by_kind f k)
by_kind-then f Fact P then Bank = then _ _ _ _ _ _
by_kind-then f Fact P then Cloud = then _ _ _ _ _ _
by_kind-then f Fact P then Guard = then _ _ _ _ _ _

-- a consequence of a fact about each meaning, for any job
pub of_kind-gives : (Fact : (S G E L P : Type 0) → Meaning S G E L P → Type 0) (Q : Type 0) →
    ((S G E L P : Type 0) (m : Meaning S G E L P) → Fact S G E L P m → Q) → (k : JobKind) → of_kind Fact k → Q
of_kind-gives Fact Q then Bank = then _ _ _ _ _ _
of_kind-gives Fact Q then Cloud = then _ _ _ _ _ _
of_kind-gives Fact Q then Guard = then _ _ _ _ _ _
