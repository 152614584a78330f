use Rattle.c_types.specs.Places.{place_of}
use Rattle.det_reading_c.proofs.Readings.{scanned_more}
use Rattle.det_reading_c.proofs.reading.DetReading.keep.Goals as goal

pub returns-clause-scanned : goal.returns-clause-scanned
returns-clause-scanned c bytes more h =
    scanned_more c.from_scan-self.result (place_of c.args.self.now.record) c.args.scan bytes more c.from_scan-self.ensures.scan h
