-- The record of a run is read as its profile and its frames.
use Rattle.std.proofs.Common.{ℕ, ◌≤◌, List, length, Bool, true, false, append-nil}
use Rattle.std.specs.List.{All}
use Rattle.det_values.specs.declared.frames.CycleInput.{CycleInput}
use Rattle.det_values.specs.Values.{ProfileValue}
use Rattle.job.specs.Meaning.{Meaning}
use Rattle.job.specs.Laws.{JobLaws}
use Rattle.cycle_engine.specs.Frames.{frames, init_of, runs}
use Rattle.record_grammar.specs.Spelling.{IsHeader, IsInput}
use Rattle.record_grammar.proofs.lemmas.record_laws.Spelled.{spelled_is_read}
use Rattle.stimulus.specs.Reading.{blocks, ending}
use Rattle.stimulus.proofs.Counting.{few_blocks}
use Rattle.recorder.specs.run_writer.Record.{record_with}
use Rattle.recorder.specs.Record.{is_terminated, record_of}
use Rattle.run_laws.specs.Statements.{IsRunRead, IsRecordRead}
use Rattle.run_laws.proofs.SpelledJob.{IsSpelledJob}
use Rattle.run_laws.proofs.Inputs.{all_held}
use Rattle.run_laws.proofs.Framing.{whole_spelled, begun_spelled}
use Rattle.run_laws.proofs.Unended.{ends_early}

module _ {S G E L P : Type 0} (m : Meaning S G E L P) (Covers : S → P → ℕ → Type 0) (Own : S → E → Type 0) (Fit : S → L → Type 0)
    (laws : JobLaws m Covers Own Fit) (spells : IsSpelledJob m) (profile : ProfileValue) (header : IsHeader profile) where
  pub run_is_read : (inputs : List CycleInput) (ended : Bool) → All (IsInput (length profile.events)) inputs → length inputs ≤ 1000000
      → IsRunRead profile (frames m profile inputs ended) ended (record_with m profile inputs ended)
  unfolding record_with
  run_is_read inputs true good few =
      let s = whole_spelled m Covers Own Fit laws spells profile header inputs good few in
      let read = spelled_is_read profile (frames m profile inputs true) (record_with m profile inputs true) s.0 in
      record { items = read.items; fault = read.whole s }
  run_is_read inputs false good few =
      let s = begun_spelled m Covers Own Fit laws spells profile header inputs good few in
      let read = spelled_is_read profile (frames m profile inputs false) (record_with m profile inputs false) s in
      record {
        items = read.items;
        fault = ends_early profile (init_of m profile) (runs m profile inputs) (frames m profile inputs false)
            (record_with m profile inputs false) (append-nil _) s;
      }

  pub record_is_read : (stimulus : List ℕ) → IsRecordRead profile (frames m profile) stimulus (record_of m profile stimulus)
  record_is_read stimulus =
      run_is_read (blocks (length profile.events) stimulus) (is_terminated (ending (length profile.events) stimulus))
      (all_held (length profile.events) stimulus) (few_blocks (length profile.events) stimulus)
