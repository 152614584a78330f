-- What check, replay and upgrade say of one record, by the run that its header names.
use Rattle.std.proofs.Common.{◌≡◌, ℕ, ◌↔◌, List, ◌∷◌, length, true, cond, is_none, Option, Some, None, refl, sym, ap, subst, ◌∙◌}
use Rattle.det_values.specs.Values.{ProfileValue}
use Rattle.det_values.specs.declared.format.Format.TheVariants.{Two}
use Rattle.det_values.specs.declared.frames.CycleInput.{CycleInput}
use Rattle.det_values.specs.declared.frames.Frame.{Frame}
use Rattle.det_values.specs.declared.job_kind.JobKind.{JobKind}
use Rattle.det_values.specs.declared.job_kind.JobKind.TheVariants.{Bank, Cloud, Guard}
use Rattle.job.specs.Meaning.{Meaning}
use Rattle.job.specs.Laws.{JobLaws}
use Rattle.jobs.specs.bank.Meaning as bank
use Rattle.jobs.specs.bank.Ranges as bank_ranges
use Rattle.jobs.specs.bank.Laws.{bank_laws}
use Rattle.jobs.specs.cloud.Meaning as cloud
use Rattle.jobs.specs.cloud.Ranges as cloud_ranges
use Rattle.jobs.specs.cloud.Laws.{cloud_laws}
use Rattle.jobs.specs.guard.Meaning as guard
use Rattle.jobs.specs.guard.Ranges as guard_ranges
use Rattle.jobs.specs.guard.Laws.{guard_laws}
use Rattle.cycle_engine.specs.Frames.{frames}
use Rattle.record_grammar.specs.declared.record_fault.RecordFault.{RecordFault}
use Rattle.record_grammar.specs.declared.item.Item.{Item}
use Rattle.record_grammar.specs.declared.item.Item.TheVariants as items
use Rattle.record_grammar.specs.Record.{items as items_in, fault as fault_in}
use Rattle.record_grammar.specs.Spelling.{AreBytes, SpellsWhole}
use Rattle.record_grammar.specs.Laws.{items_of}
use Rattle.record_grammar.proofs.lemmas.record_laws.Spelled.{spelled_is_read}
use Rattle.copies.specs.declared.difference.Difference.{Difference}
use Rattle.probes.specs.Reports.{AudienceState, reported}
use Rattle.rerun.specs.replayer.ReplayRecord.{inputs}
use Rattle.rerun.specs.checker.Departure.{departure, checked_runs}
use Rattle.rerun.specs.checker.CheckVerdict.{verdict_by}
use Rattle.rerun.specs.upgrader.UpgradedRecord.{in_format_two, upgraded}
use Rattle.cli_answers.specs.declared.answer.Answer.TheVariants.{Done, Differs}
use Rattle.cli_answers.specs.Answers.{by_fault}
use Rattle.cli_answers.specs.Outcome.{Outcome}
use Rattle.cmd_rerun.specs.replay_command.Replay.{replayed_with}
use Rattle.cmd_rerun.specs.replay_command.ReplayVisit.{replayed}
use Rattle.cmd_rerun.specs.check_command.Check.{outcome_by, checked_with}
use Rattle.cmd_rerun.specs.check_command.CheckVisit.{checked}
use Rattle.cmd_rerun.specs.upgrade_command.Upgrade.{upgraded_with}
use Rattle.cmd_rerun.specs.upgrade_command.UpgradeVisit.{upgraded_by_kind}
use Rattle.run_laws.specs.Statements.{IsRunRead, given_again}
use Rattle.run_laws.proofs.SpelledJob.{IsSpelledJob}
use Rattle.run_laws.proofs.Shipped.{bank_spelled, cloud_spelled, guard_spelled}
use Rattle.run_laws.proofs.WholeRecords.{whole_record}
use Rattle.run_laws.proofs.OfInputs.{departs_not, gives_again, was_given, inputs_are, run_verdict}
use Rattle.run_laws.proofs.InFormatTwo.{upgraded_read, upgraded_stays}

-- ---- answers that are done

checked_done : (at : Option Difference) (end : Option RecordFault) (cycles : ℕ) (reports : List ℕ)
    → (outcome_by (verdict_by at end cycles) reports).answer ≡ Done → (at ≡ None) × (end ≡ None)
checked_done (Some at) end cycles reports e = absurd cc
checked_done None (Some fault) cycles reports e = absurd cc
checked_done None None cycles reports e = (refl, refl)

no_fault : (end : Option RecordFault) → by_fault end ≡ Done → end ≡ None
no_fault None e = refl
no_fault (Some fault) e = absurd cc

same_profile : (p q : ProfileValue) (xs ys : List Item) → items.Header p ∷ xs ≡ items.Header q ∷ ys → p ≡ q
same_profile p q xs ys e = cc

-- ---- one record

-- what is upgraded of a genuine record: it is done, and the same check is done with what it gives of the same inputs
pub record IsUpgradedTo (profile : ProfileValue) (record_bytes : List ℕ) (check : ProfileValue → List ℕ → Outcome) (upgrade : Outcome)
    : Type 0 where
  pub done : upgrade.answer ≡ Done
  pub run : List Frame
  pub items : items_in upgrade.bytes ≡ items_of (in_format_two profile) run
  pub inputs : inputs upgrade.bytes ≡ inputs record_bytes
  pub genuine : (check (in_format_two profile) upgrade.bytes).answer ≡ Done
  pub stays : profile.format ≡ Two → upgrade.bytes ≡ record_bytes

-- how the answers on a record go together
pub record GoTogether (profile : ProfileValue) (record_bytes : List ℕ) (check : ProfileValue → List ℕ → Outcome) (replay upgrade : Outcome)
    : Type 0 where
  pub replayed : ((check profile record_bytes).answer ≡ Done) ↔ (replay ≡ given_again record_bytes None)
  pub upgraded : (check profile record_bytes).answer ≡ Done → IsUpgradedTo profile record_bytes check upgrade

-- bytes with this header
abbrev Heads : ProfileValue → List ℕ → Type 0
Heads profile record_bytes = (rest : List Item) × (items_in record_bytes ≡ items.Header profile ∷ rest)

module _ {S G E L P : Type 0} (m : Meaning S G E L P) (Covers : S → P → ℕ → Type 0) (Own : S → E → Type 0) (Fit : S → L → Type 0)
    (laws : JobLaws m Covers Own Fit) (spells : IsSpelledJob m) (audience : AudienceState) where
  abbrev check : ProfileValue → List ℕ → Outcome
  check profile record_bytes = checked_with m profile audience record_bytes

  -- a record of a run that was ended is genuine
  done_if : (profile : ProfileValue) (given : List CycleInput) (record_bytes : List ℕ)
      → IsRunRead profile (frames m profile given true) true record_bytes → (check profile record_bytes).answer ≡ Done
  done_if profile given record_bytes read =
      ap (λ v. (outcome_by v (reported audience (checked_runs m profile record_bytes))).answer)
      (run_verdict m profile given true record_bytes read)

  module _ (profile : ProfileValue) (record_bytes : List ℕ) (are : AreBytes record_bytes) (heads : Heads profile record_bytes) where
    sound_run : fault_in record_bytes ≡ None → (run : List Frame) × SpellsWhole profile run record_bytes
    sound_run none =
        let w = whole_record record_bytes are none in
        let same : w.profile ≡ profile =
        same_profile w.profile profile _ heads.0 (sym (spelled_is_read w.profile w.run record_bytes w.spells.0).items ∙ heads.1) in
        (w.run, subst (λ (p : ProfileValue). SpellsWhole p w.run record_bytes) same w.spells)

    if_done : (check profile record_bytes).answer ≡ Done → (departure m profile record_bytes ≡ None) × (fault_in record_bytes ≡ None)
    if_done e = checked_done (departure m profile record_bytes) (fault_in record_bytes) (length (inputs record_bytes))
        (reported audience (checked_runs m profile record_bytes)) e

    back : (check profile record_bytes).answer ≡ Done → replayed_with m profile record_bytes ≡ given_again record_bytes None
    back e =
        let none = if_done e in
        let w = sound_run none.1 in
        let same = gives_again m profile record_bytes w.0 w.1 (departs_not m profile record_bytes w.0 w.1 none.0 none.1) in
        λ i. record { answer = by_fault (none.1 i); bytes = same i }

    forth : replayed_with m profile record_bytes ≡ given_again record_bytes None → (check profile record_bytes).answer ≡ Done
    forth e =
        let none = no_fault (fault_in record_bytes) (ap (λ (o : Outcome). o.answer) e) in
        let w = sound_run none in
        done_if profile (inputs record_bytes) record_bytes
        (was_given m profile record_bytes w.0 w.1 Covers Own Fit laws spells none (ap (λ (o : Outcome). o.bytes) e))

    is_upgraded : (check profile record_bytes).answer ≡ Done
        → IsUpgradedTo profile record_bytes check (upgraded_with m profile record_bytes)
    is_upgraded e =
        let none = if_done e in
        let w = sound_run none.1 in
        let own = departs_not m profile record_bytes w.0 w.1 none.0 none.1 in
        let two : ProfileValue = in_format_two profile in
        let read = upgraded_read m profile record_bytes own w.0 w.1 Covers Own Fit laws spells in
        let more : List ℕ = upgraded m profile record_bytes in
        record {
          done = λ i. cond (is_none (none.0 i)) (by_fault (none.1 i)) Differs;
          run = frames m two (inputs record_bytes) true;
          items = read.items;
          inputs = inputs_are m two (inputs record_bytes) true more read;
          genuine = done_if two (inputs record_bytes) more read;
          stays = upgraded_stays m profile record_bytes own w.0 w.1;
        }

    pub go_together : GoTogether profile record_bytes check (replayed_with m profile record_bytes)
        (upgraded_with m profile record_bytes)
    go_together = record { replayed = (back, forth); upgraded = is_upgraded }

-- by the kind of the record's job
pub kind_go_together : (kind : JobKind) (audience : AudienceState) (profile : ProfileValue) (record_bytes : List ℕ)
    → AreBytes record_bytes → Heads profile record_bytes
    → GoTogether profile record_bytes (λ p bytes. checked kind p audience bytes) (replayed kind profile record_bytes)
    (upgraded_by_kind kind profile record_bytes)
kind_go_together Bank audience profile record_bytes are heads =
    go_together bank.meaning bank_ranges.Covers bank_ranges.Own bank_ranges.Fit bank_laws bank_spelled audience profile record_bytes are
    heads
kind_go_together Cloud audience profile record_bytes are heads =
    go_together cloud.meaning cloud_ranges.Covers cloud_ranges.Own cloud_ranges.Fit cloud_laws cloud_spelled audience profile record_bytes
    are heads
kind_go_together Guard audience profile record_bytes are heads =
    go_together guard.meaning guard_ranges.Covers guard_ranges.Own guard_ranges.Fit guard_laws guard_spelled audience profile record_bytes
    are heads
