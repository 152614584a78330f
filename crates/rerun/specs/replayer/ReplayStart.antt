-- What `replay_run` and `check_run` require of the recording and of the reader.
use Rattle.det_io.specs.Shelf.{ShelfState}
use Rattle.job.specs.Meaning.{Meaning}
use Rattle.record_reader.specs.declared.frame_reader.FrameReader.{FrameReader}
use Rattle.record_reader.specs.Frames.{IsOpen}
use Rattle.recorder.specs.declared.run_writer.recording.Recording.{Recording}
use Rattle.recorder.specs.run_writer.Recording.{IsNew}

-- nothing of the run was written; of the record only the header was read, and it is the run's
pub record IsBegun {S G E L P : Type 0} (m : Meaning S G E L P) (recording : Recording S G E L P)
    (frames : FrameReader) (shelf : ShelfState) : Type 0 where
  pub new : IsNew m recording
  pub opened : IsOpen frames recording.profile shelf
