-- What `record_run` requires of the recording and of the reader.
use Rattle.std.specs.Prelude.{◌≡◌, ◌<◌, [], length}
use Rattle.det_io.specs.Shelf.{ShelfState}
use Rattle.job.specs.Meaning.{Meaning}
use Rattle.recorder.specs.declared.run_writer.recording.Recording.{Recording}
use Rattle.recorder.specs.run_writer.Recording.{IsNew}
use Rattle.stimulus.specs.declared.slot_reader.stimulus_reader.StimulusReader.{StimulusReader}
use Rattle.stimulus.specs.slot_reader.StandsFor.{StandsFor, slot_of, events_of}

-- nothing of the run was written, and nothing of its stimulus read
pub record IsBegun {S G E L P : Type 0} (m : Meaning S G E L P) (recording : Recording S G E L P)
    (stimulus : StimulusReader) (shelf : ShelfState) : Type 0 where
  pub new : IsNew m recording
  pub reader : StandsFor stimulus [] []
  pub events : events_of stimulus ≡ length recording.profile.events
  pub slot : slot_of stimulus < shelf.slots
