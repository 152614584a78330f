-- A sink over a writer as contracts see it.
use Rattle.std.specs.Prelude.{ℕ, List}
use Rattle.det_io.specs.declared.std_sink.StdSink.{StdSink}

-- a sink whose bytes are not known is related to no list
abbrev pub NoBytesKnown : List ℕ → Type 0
NoBytesKnown m = ⊥

-- the number of its faults
abbrev pub std_sink_faults : {W : Type 0} → StdSink W → ℕ
std_sink_faults s = s.faults
