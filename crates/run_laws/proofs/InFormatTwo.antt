-- A record of what its inputs give is upgraded to such a record in format 2.
use Rattle.std.proofs.Common.{◌≡◌, ℕ, List, length, take, Bool, true, sym, ap, subst, ◌∙◌, arith}
use Rattle.std.specs.Option.{is_none}
use Rattle.std.proofs.lemmas.List.{take_all}
use Rattle.det_values.specs.Values.{ProfileValue}
use Rattle.det_values.specs.declared.format.Format.TheVariants.{Two}
use Rattle.det_values.specs.declared.frames.CycleInput.{CycleInput}
use Rattle.det_values.specs.declared.frames.Frame.{Frame}
use Rattle.job.specs.Meaning.{Meaning}
use Rattle.job.specs.Laws.{JobLaws}
use Rattle.cycle_engine.specs.Frames.{frames}
use Rattle.record_grammar.specs.Spelling.{IsHeader, SpellsWhole, spelled}
use Rattle.recorder.specs.run_writer.Record.{record_with}
use Rattle.rerun.specs.replayer.ReplayRecord.{inputs}
use Rattle.rerun.specs.upgrader.UpgradedRecord.{in_format_two, upgraded_with, upgraded}
use Rattle.run_laws.specs.Statements.{IsRunRead}
use Rattle.run_laws.proofs.SpelledJob.{IsSpelledJob}
use Rattle.run_laws.proofs.Reading.{run_is_read}
use Rattle.run_laws.proofs.OfInputs.{IsOfInputs, all_genuine, frames_counted, gives_again, inputs_good, inputs_few}

header_in_two : (profile : ProfileValue) → IsHeader profile → IsHeader (in_format_two profile)
header_in_two profile h = record {
  job = h.job;
  seed = h.seed;
  cycle_time = h.cycle_time;
  few_params = h.few_params;
  params = h.params;
  few_events = h.few_events;
  events = h.events;
  policies = tt;
}

stays_in_two : (profile : ProfileValue) → profile.format ≡ Two → in_format_two profile ≡ profile
stays_in_two profile e = λ i. record profile { format = (sym e) i }

module _ {S G E L P : Type 0} (m : Meaning S G E L P) (profile : ProfileValue) where
  -- ---- what is upgraded

  module _ (record_bytes : List ℕ) (read : IsOfInputs m profile record_bytes) where
    abbrev given : List CycleInput
    given = inputs record_bytes

    -- it is the record of the run over the same inputs in format 2
    pub upgraded_is : upgraded m profile record_bytes ≡ record_with m (in_format_two profile) given true
    unfolding upgraded_with record_with
    upgraded_is =
        let two : ProfileValue = in_format_two profile in
        let all : List Frame = frames m two given true in
        let as_many = frames_counted m profile given ∙ sym (frames_counted m two given) in
        ap (λ (end : Bool). upgraded_with m profile record_bytes end) (ap is_none read.fault)
        ∙ ap (λ (n : ℕ). spelled two (take n all)) (all_genuine m profile given true record_bytes read ∙ as_many)
        ∙ ap (spelled two) (take_all (length all) all (omega arith))

    module _ (run : List Frame) (whole : SpellsWhole profile run record_bytes) where
      -- and it is read as the frames of that run
      pub upgraded_read : (Covers : S → P → ℕ → Type 0) (Own : S → E → Type 0) (Fit : S → L → Type 0) → JobLaws m Covers Own Fit
          → IsSpelledJob m
          → IsRunRead (in_format_two profile) (frames m (in_format_two profile) given true) true (upgraded m profile record_bytes)
      upgraded_read Covers Own Fit laws spells =
          let two : ProfileValue = in_format_two profile in
          subst (λ (bytes : List ℕ). IsRunRead two (frames m two given true) true bytes) (sym upgraded_is)
          (run_is_read m Covers Own Fit laws spells two (header_in_two profile whole.0.header) given true
          (inputs_good m profile record_bytes run whole) (inputs_few m profile record_bytes run whole))

      -- a record in format 2 stays as it is
      pub upgraded_stays : profile.format ≡ Two → upgraded m profile record_bytes ≡ record_bytes
      upgraded_stays e =
          upgraded_is ∙ ap (λ (p : ProfileValue). record_with m p given true) (stays_in_two profile e)
          ∙ ap (λ (end : Bool). record_with m profile given end) (sym (ap is_none read.fault))
          ∙ gives_again m profile record_bytes run whole read
