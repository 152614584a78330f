-- What `needs` gives for its manifest.
use Rattle.std.specs.Prelude.{ℕ, Bool, true, List, codes}
use Rattle.det_values.specs.declared.job_kind.JobKind.{JobKind}
use Rattle.det_values.specs.declared.job_kind.JobKind.TheVariants.{Bank, Cloud, Guard}
use Rattle.cli_answers.specs.Ends.{Work, reads_nothing}
use Rattle.cli_answers.specs.Outcome.{Outcome, text_outcome}
use Rattle.needs_text.specs.Lines.{needs_lines}
use Rattle.run_setup.specs.Setup.{setup_of, with_manifest}

-- it reads a manifest
abbrev pub needs_work : Work
needs_work = record reads_nothing { manifest = true }

abbrev pub job_name : JobKind → List ℕ
job_name Bank = codes "bank"
job_name Cloud = codes "cloud"
job_name Guard = codes "guard"

-- the lines of the manifest, or its refusal
abbrev pub needs_outcome : (strict : Bool) → List ℕ → Outcome
needs_outcome strict bytes = with_manifest (λ m. text_outcome (needs_lines (job_name m.kind)
    m.cycle_time m.workers m.platform m.init_needs m.run_needs)) (setup_of strict bytes)
