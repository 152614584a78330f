-- The record in format 2 of a run, as far as a record is what its inputs give.
use Rattle.std.specs.Prelude.{ℕ, List, take, Bool}
use Rattle.det_values.specs.Values.{ProfileValue}
use Rattle.det_values.specs.declared.format.Format.TheVariants.{Two}
use Rattle.job.specs.Meaning.{Meaning}
use Rattle.cycle_engine.specs.Frames.{frames}
use Rattle.record_grammar.specs.Spelling.{spelled}
use Rattle.rerun.specs.replayer.ReplayRecord.{inputs, is_whole}
use Rattle.rerun.specs.checker.Departure.{genuine_frames}

abbrev pub in_format_two : ProfileValue → ProfileValue
in_format_two profile = record profile { format = Two }

module _ {S G E L P : Type 0} (m : Meaning S G E L P) (profile : ProfileValue) where
  -- The header of a record and its genuine frames in format 2: each frame that is what the inputs
  -- give, up to the first one that isn't. Terminate is among them where the run is ended.
  unfoldable pub upgraded_with : List ℕ → Bool → List ℕ
  upgraded_with record_bytes ended = spelled (in_format_two profile)
      (take (genuine_frames m profile record_bytes)
      (frames m (in_format_two profile) (inputs record_bytes) ended))

  -- the same of the inputs of a record, with Terminate where the record is whole
  abbrev pub upgraded : List ℕ → List ℕ
  upgraded record_bytes = upgraded_with record_bytes (is_whole record_bytes)
