-- The state of a sink that only counts and digests.
use Rattle.std.specs.Prelude.{◌≡◌, ℕ, ◌-◌, ◌^◌, List, min, length}
use Rattle.sha2.specs.Hashers.{Holds256}
use Rattle.record_reader.specs.declared.digest_sink.DigestSink.{DigestSink}

-- a count of bytes in 64 bits, which saturates
abbrev pub counted : List ℕ → ℕ
counted bytes = min (length bytes) (2 ^ 64 - 1)

-- the state and the count are those of these bytes
abbrev pub Digested : DigestSink → List ℕ → Type 0
Digested sink bytes = Holds256 sink.hasher bytes × (sink.length ≡ counted bytes)
