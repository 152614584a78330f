-- A sink in memory: its bytes, and the condition under which its next call fails.
use Rattle.std.specs.Prelude.{◌≡◌, ℕ, ◌+◌, ◌-◌, List, [], min, length, Bool, nat_eq, not, ◌||◌}
use Rattle.std.specs.Prelude.{◌&&◌}
use Rattle.det_io.specs.PlannedCalls.{is_listed}
use Rattle.det_io.specs.declared.mem_sink.MemSink.{MemSink}

-- the bytes that it took
abbrev pub sink_bytes : MemSink → List ℕ
sink_bytes s = s.bytes.items

-- it took exactly the bytes that it keeps
abbrev pub SinkTook : MemSink → List ℕ → Type 0
SinkTook s m = m ≡ sink_bytes s

abbrev pub sink_faults : MemSink → ℕ
sink_faults s = s.faults

-- the arguments that a sink was made of, which no call changes
pub record MemSinkSetup : Type 0 where
  -- the bytes for which there is room
  pub room : ℕ
  -- the most bytes that a write takes
  pub most : ℕ
  -- the numbers of the writes that are to fail
  pub fails : List ℕ

abbrev pub sink_setup : MemSink → MemSinkSetup
sink_setup s = record { room = s.room; most = s.most; fails = s.calls.fails }

-- the number of writes
abbrev pub sink_calls : MemSink → ℕ
sink_calls s = s.calls.made

-- a new sink: it took nothing, and no write was made
pub record IsNewMemSink (s : MemSink) (made_of : MemSinkSetup) : Type 0 where
  pub setup : sink_setup s ≡ made_of
  pub calls : sink_calls s ≡ 0
  pub faults : sink_faults s ≡ 0
  pub bytes : sink_bytes s ≡ []

-- the next write fails at this piece: its number is listed, or the piece has bytes and there is no
-- room
abbrev pub write_fails : MemSink → List ℕ → Bool
write_fails s piece =
    is_listed (sink_setup s).fails (sink_calls s + 1)
    || (nat_eq (length (sink_bytes s)) (sink_setup s).room && not (nat_eq (length piece) 0))

-- the number of bytes of a piece that the next write takes, if it doesn't fail
abbrev pub amount_taken : MemSink → List ℕ → ℕ
amount_taken s piece =
    min (min (length piece) (sink_setup s).most) ((sink_setup s).room - length (sink_bytes s))
