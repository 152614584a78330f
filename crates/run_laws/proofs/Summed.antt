-- What `sim` prints is what its record sums up to.
use Rattle.std.proofs.Common.{◌≡◌, ℕ, List, [], ◌∷◌, ◌++◌, length, map, Bool, true, false, Some, refl, sym, ap}
use Rattle.std.proofs.Common.{subst, ◌∙◌, cond, arith}
use Rattle.std.specs.List.{count_by}
use Rattle.std.proofs.lemmas.List.Sums.{sum_by-cons}
use Rattle.sha2.specs.Sha256.{sha256}
use Rattle.det_values.specs.Jobs.{number_of_kind}
use Rattle.det_values.specs.Values.{ProfileValue}
use Rattle.det_values.specs.declared.frames.CycleInput.{CycleInput}
use Rattle.det_values.specs.declared.frames.Outcome.{Outcome}
use Rattle.det_values.specs.declared.frames.Outcome.TheVariants.{Finished, Refused}
use Rattle.det_values.specs.declared.frames.RunFrame.{RunFrame}
use Rattle.det_values.specs.declared.frames.Frame.{Frame}
use Rattle.det_values.specs.declared.frames.Frame.TheVariants.{Register, Discover, Init, Run, Terminate}
use Rattle.det_values.specs.declared.job_kind.JobKind.{JobKind}
use Rattle.det_values.specs.declared.job_kind.JobKind.TheVariants.{Bank, Cloud, Guard}
use Rattle.job.specs.Meaning.{Meaning}
use Rattle.jobs.specs.cloud.Meaning as cloud
use Rattle.cycle_engine.specs.Frames.{frames, init_of, runs}
use Rattle.record_grammar.specs.declared.item.Item.{Item}
use Rattle.record_grammar.specs.declared.item.Item.TheVariants as items
use Rattle.record_grammar.specs.Record.{items as items_in}
use Rattle.record_grammar.specs.Laws.{items_of}
use Rattle.record_reader.specs.Salvaged.{refusals_of, refusals_in, cycles_of, refused_of}
use Rattle.record_text.specs.Summaries.{summary_lines}
use Rattle.record_reader.specs.InItems.{runs_in}
use Rattle.probes.specs.Reports.{AudienceState, reported}
use Rattle.probes.specs.Shipped.{outcome_refused, is_refused}
use Rattle.stimulus.specs.GeneratedText.{made}
use Rattle.stimulus.specs.Reading.{blocks, ending}
use Rattle.recorder.specs.run_writer.Record.{counted}
use Rattle.recorder.specs.Record.{is_terminated, record_of}
use Rattle.cli_answers.specs.Outcome.{text_outcome}
use Rattle.cmd_run.specs.record_command.Outcomes.{record_outcome, recorded_by_kind}
use Rattle.cmd_run.proofs.lemmas.record_command.ByManifest.{recorded_by}
use Rattle.cmd_run.specs.sim_command.Sim.{sim_profile, runs_over, summary_over, sim_runs, summary_of, sim_text, sim_outcome}
use Rattle.run_laws.specs.Statements.{IsRecordRead, frames_by_kind}
use Rattle.run_laws.specs.Sums.{summed_up, SimIsRecorded}
use Rattle.run_laws.proofs.Commands.{record_read}

-- ---- what is counted of the frames of a run

-- items without a run
record AreNoRuns (tail : List Item) : Type 0 where
  cycles : cycles_of tail ≡ 0
  refused : refused_of tail ≡ 0
  runs : runs_in tail ≡ []

one_refused : (outcome : Outcome) → refusals_of outcome ≡ cond (outcome_refused outcome) 1 0
one_refused (Finished elements output) = refl
one_refused (Refused at) = refl

record AreCounted (rs : List RunFrame) (xs : List Item) : Type 0 where
  cycles : cycles_of xs ≡ length rs
  refused : refused_of xs ≡ count_by is_refused rs
  runs : runs_in xs ≡ rs

runs_counted : (rs : List RunFrame) (tail : List Frame) → AreNoRuns (map items.Frame tail)
    → AreCounted rs (map items.Frame (map (λ run. Run run) rs ++ tail))
runs_counted [] tail none = record { cycles = none.cycles; refused = none.refused; runs = none.runs }
runs_counted (r ∷ rs) tail none =
    let rest = runs_counted rs tail none in
    let xs = map items.Frame (map (λ run. Run run) rs ++ tail) in
    let two = sum_by-cons refusals_in (items.Frame (Run r)) xs in
    let all = sum_by-cons (λ run. cond (is_refused run) 1 0) r rs in
    let here = one_refused r.outcome in
    let f = rest.refused in
    record {
      cycles = ap (λ (zs : List RunFrame). length (r ∷ zs)) rest.runs;
      refused = omega (arith, two, all, here, f);
      runs = ap (λ (zs : List RunFrame). r ∷ zs) rest.runs;
    }

all_counted : (profile : ProfileValue) (elements : List (List ℕ)) (rs : List RunFrame) (behind : List Frame)
    → AreCounted rs (map items.Frame behind)
    → AreCounted rs (items_of profile (Register ∷ Discover ∷ Init elements ∷ behind))
all_counted profile elements rs behind h = record { cycles = h.cycles; refused = h.refused; runs = h.runs }

module _ {S G E L P : Type 0} (m : Meaning S G E L P) (profile : ProfileValue) where
  run_counted : (given : List CycleInput) (ended : Bool)
      → AreCounted (runs m profile given) (items_of profile (frames m profile given ended))
  run_counted given true = all_counted profile (init_of m profile) (runs m profile given) _
      (runs_counted (runs m profile given) (Terminate ∷ []) (record { cycles = refl; refused = refl; runs = refl }))
  run_counted given false = all_counted profile (init_of m profile) (runs m profile given) _
      (runs_counted (runs m profile given) [] (record { cycles = refl; refused = refl; runs = refl }))

  -- what is reported of a run is what its record sums up to
  run_summed : (audience : AudienceState) (number : ℕ) (text bytes : List ℕ) → bytes ≡ record_of m profile text
      → IsRecordRead profile (frames m profile) text bytes
      → text_outcome (summary_lines (summary_over m profile text number) ++ reported audience (runs_over m profile text))
      ≡ summed_up audience number bytes
  run_summed audience number text bytes is read =
      let given : List CycleInput = blocks (length profile.events) text in
      let all = run_counted given (is_terminated (ending (length profile.events) text)) in
      let cycles : length (runs m profile given) ≡ cycles_of (items_in bytes) = sym (ap cycles_of read.items ∙ all.cycles) in
      let refused : count_by is_refused (runs m profile given) ≡ refused_of (items_in bytes) =
      sym (ap refused_of read.items ∙ all.refused) in
      let shown : runs m profile given ≡ runs_in (items_in bytes) = sym (ap runs_in read.items ∙ all.runs) in
      let same : record_of m profile text ≡ bytes = sym is in
      λ i. text_outcome (summary_lines (record {
        number = number;
        cycles = cycles i;
        refused = refused i;
        bytes = counted (length (same i));
        digest = sha256 (same i);
      }) ++ reported audience (shown i))

-- ---- the run of `sim`

is_cloud : (kind : JobKind) → number_of_kind kind ≡ 2 → kind ≡ Cloud
is_cloud Bank e = absurd (omega (arith, e))
is_cloud Cloud e = refl
is_cloud Guard e = absurd (omega (arith, e))

pub sim_is_recorded : SimIsRecorded
unfolding sim_outcome sim_text summary_of sim_runs
sim_is_recorded audience strict manifest number m small set says =
    let text : List ℕ = made number in
    let bytes : List ℕ = (record_outcome strict manifest text (Some number)).bytes in
    let kind : m.kind ≡ Cloud = is_cloud m.kind (ap (λ (p : ProfileValue). p.job) says) in
    let is : bytes ≡ record_of cloud.meaning (sim_profile number) text =
    ap (λ r. (recorded_by number text r).bytes) set ∙ (λ i. (recorded_by_kind (kind i) (says i) text).bytes) in
    let read : IsRecordRead (sim_profile number) (frames cloud.meaning (sim_profile number)) text bytes =
    subst (λ (k : JobKind). IsRecordRead (sim_profile number) (frames_by_kind k (sim_profile number)) text bytes) kind
    (subst (λ (p : ProfileValue). IsRecordRead p (frames_by_kind m.kind p) text bytes) says
    (record_read strict manifest text (Some number) m small set)) in
    run_summed cloud.meaning (sim_profile number) audience number text bytes is read
