-- The records of `record` and of `demo` are read.
use Rattle.std.proofs.Common.{◌≡◌, ◌<◌, ◌^◌, ℕ, Bool, ℤ, pos, List, [], ◌∷◌, length, Option, Some, None, Result, Ok, Err}
use Rattle.std.proofs.Common.{refl, sym, ap, subst, arith, codes}
use Rattle.std.specs.Prelude.{FitsSigned}
use Rattle.std.specs.Int.{w64}
use Rattle.std.specs.Option.{unwrap_or, option_map_or}
use Rattle.std.specs.List.{All}
use Rattle.std.proofs.lemmas.Int.{ints}
use Rattle.std.proofs.lemmas.List.Elements.{All-nil, All-cons}
use Rattle.det_values.specs.declared.event.Policy.TheVariants.{Last}
use Rattle.det_values.specs.declared.job_kind.JobKind.{JobKind}
use Rattle.det_values.specs.declared.job_kind.JobKind.TheVariants.{Bank, Cloud, Guard}
use Rattle.det_values.specs.Values.{ProfileValue, EventSpecValue}
use Rattle.job_shared.proofs.Ranges.{wide_fits}
use Rattle.jobs.specs.bank.Meaning as bank
use Rattle.jobs.specs.bank.Ranges as bank_ranges
use Rattle.jobs.specs.bank.Laws.{bank_laws}
use Rattle.jobs.specs.cloud.Meaning as cloud
use Rattle.jobs.specs.cloud.Ranges as cloud_ranges
use Rattle.jobs.specs.cloud.Laws.{cloud_laws}
use Rattle.jobs.specs.guard.Meaning as guard
use Rattle.jobs.specs.guard.Ranges as guard_ranges
use Rattle.jobs.specs.guard.Laws.{guard_laws}
use Rattle.record_grammar.specs.Spelling.{IsHeader, IsEvent}
use Rattle.manifest.specs.Values.{ManifestValue}
use Rattle.manifest.specs.Profiles.{profile_of}
use Rattle.manifest.specs.Meaning.{manifest_of}
use Rattle.manifest.specs.declared.manifest_fault.ManifestFault.{ManifestFault}
use Rattle.cli_answers.specs.declared.answer.BadManifest.{BadManifest}
use Rattle.cli_answers.specs.declared.answer.BadManifest.TheVariants.{Parameter}
use Rattle.jobs.specs.Kinds.{bad_param}
use Rattle.run_setup.specs.Setup.{setup_from, setup_of}
use Rattle.cmd_run.specs.record_command.Outcomes.{demo_profile, demo_outcome, recorded_by_kind}
use Rattle.cmd_run.proofs.lemmas.record_command.ByManifest.{recorded_by}
use Rattle.run_laws.specs.Statements.{frames_by_kind, IsRecordRead, RecordIsRead, DemoIsRead}
use Rattle.run_laws.proofs.Shipped.{bank_spelled, cloud_spelled, guard_spelled}
use Rattle.run_laws.proofs.Parameters.{bank_fits, cloud_fits, guard_fits}
use Rattle.run_laws.proofs.Headers.{header_is}
use Rattle.run_laws.proofs.Reading.{record_is_read}

-- the record of a good header, by the kind of its job
kind_is_read : (kind : JobKind) (profile : ProfileValue) → IsHeader profile → (stimulus : List ℕ)
    → IsRecordRead profile (frames_by_kind kind profile) stimulus (recorded_by_kind kind profile stimulus).bytes
kind_is_read Bank profile header stimulus =
    record_is_read bank.meaning bank_ranges.Covers bank_ranges.Own bank_ranges.Fit bank_laws bank_spelled profile header stimulus
kind_is_read Cloud profile header stimulus =
    record_is_read cloud.meaning cloud_ranges.Covers cloud_ranges.Own cloud_ranges.Fit cloud_laws cloud_spelled profile header stimulus
kind_is_read Guard profile header stimulus =
    record_is_read guard.meaning guard_ranges.Covers guard_ranges.Own guard_ranges.Fit guard_laws guard_spelled profile header stimulus

params_fit : (kind : JobKind) (params : List ℤ) (events : ℕ) → bad_param kind params events ≡ None → All (FitsSigned w64) params
params_fit Bank params events good = bank_fits params events good
params_fit Cloud params events good = cloud_fits params events good
params_fit Guard params events good = guard_fits params events good

-- a manifest that is taken: what the text says, and no parameter is refused
pub record IsTaken (read : Result ManifestValue ManifestFault) (m : ManifestValue) : Type 0 where
  pub tree_manifest : read ≡ Ok m
  pub good : bad_param m.kind m.params (length m.events) ≡ None

unless_taken : (bad : Option ℕ) (n m : ManifestValue) → bad_param n.kind n.params (length n.events) ≡ bad
    → ◌≡◌ {A = Result ManifestValue BadManifest} (option_map_or (λ i. Err (Parameter i)) bad (Ok n)) (Ok m) → IsTaken (Ok n) m
unless_taken (Some index) n m is e = absurd cc
unless_taken None n m is e = let same : n ≡ m = cc in
    record { tree_manifest = ap Ok same; good = subst (λ (x : ManifestValue). bad_param x.kind x.params (length x.events) ≡ None) same is }

pub is_taken : (read : Result ManifestValue ManifestFault) (m : ManifestValue) → setup_from read ≡ Ok m → IsTaken read m
is_taken (Err fault) m e = absurd cc
is_taken (Ok n) m e = unless_taken (bad_param n.kind n.params (length n.events)) n m refl e

-- the profile of a manifest that is taken can be spelled
pub is_header : (strict : Bool) (manifest : List ℕ) (m : ManifestValue) (seed : ℕ) → seed < 2 ^ 64 → setup_of strict manifest ≡ Ok m
    → IsHeader (profile_of m seed)
is_header strict manifest m seed small set =
    let taken = is_taken (manifest_of strict manifest) m set in
    header_is strict manifest m seed small taken.tree_manifest (params_fit m.kind m.params (length m.events) taken.good)

pub record_read : RecordIsRead
record_read strict manifest stimulus seed m small set =
    let header = is_header strict manifest m (unwrap_or seed 0) small set in
    let profile : ProfileValue = profile_of m (unwrap_or seed 0) in
    let Reads : Result ManifestValue BadManifest → Type 0 =
    λ r. IsRecordRead profile (frames_by_kind m.kind profile) stimulus (recorded_by (unwrap_or seed 0) stimulus r).bytes in
    subst Reads (sym set) (kind_is_read m.kind profile header stimulus)

-- ---- the built-in profile

abbrev event_x : EventSpecValue
event_x = record { capacity = 2; name = codes "x"; policy = Last }

demo_header : IsHeader demo_profile
demo_header = record {
  job = omega arith;
  seed = omega arith;
  cycle_time = (omega arith, omega arith);
  few_params = omega arith;
  params =
      All-cons (FitsSigned w64) (pos 4) (pos 2 ∷ []) (wide_fits (pos 4) (omega (arith, ints)) (omega (arith, ints)))
      (All-cons (FitsSigned w64) (pos 2) [] (wide_fits (pos 2) (omega (arith, ints)) (omega (arith, ints))) (All-nil (FitsSigned w64)));
  few_events = omega arith;
  events = All-cons IsEvent event_x [] ((omega arith, omega arith), refl) (All-nil IsEvent);
  policies = tt;
}

pub demo_read : DemoIsRead
unfolding demo_outcome
demo_read stimulus = kind_is_read Bank demo_profile demo_header stimulus
