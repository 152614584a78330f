use Rattle.det_reading_c.proofs.Written.{spelled_header_is_read, spelled_frame_is_read}
use Rattle.det_reading_c.proofs.reading_c_laws.spelled_is_read.Goals as goal

pub returns : goal.returns
returns c = record { header = spelled_header_is_read; frame = spelled_frame_is_read }
