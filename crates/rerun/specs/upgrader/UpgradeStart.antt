-- What `upgrade_run` requires of the recording and of the original.
use Rattle.std.specs.Prelude.{◌≡◌}
use Rattle.det_values.specs.declared.format.Format.{Format}
use Rattle.det_values.specs.declared.format.Format.TheVariants.{Two}
use Rattle.det_values.specs.Values.{ProfileValue}
use Rattle.det_io.specs.Shelf.{ShelfState}
use Rattle.job.specs.Meaning.{Meaning}
use Rattle.record_reader.specs.Frames.{IsOpen}
use Rattle.recorder.specs.declared.run_writer.recording.Recording.{Recording}
use Rattle.recorder.specs.run_writer.Recording.{IsNew}
use Rattle.rerun.specs.declared.upgrader.original.Original.{Original}

-- the same profile in another format
abbrev pub in_format_of : Format → ProfileValue → ProfileValue
in_format_of format profile = record profile { format = format }

-- the header of a record, by the profile of the run that is written of it
abbrev pub header_of : Original → ProfileValue → ProfileValue
header_of original profile = in_format_of original.format profile

-- nothing of the run was written, and it is one of format 2; of the record only the header was
-- read, and it is the run's except for the format
pub record IsBegun {S G E L P : Type 0} (m : Meaning S G E L P) (recording : Recording S G E L P)
    (original : Original) (shelf : ShelfState) : Type 0 where
  pub new : IsNew m recording
  pub two : recording.profile.format ≡ Two
  pub opened : IsOpen original.frames (header_of original recording.profile) shelf
