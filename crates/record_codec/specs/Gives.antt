-- How a header's decoder agrees with the grammar's reader.
use Rattle.std.specs.Prelude.{◌≡◌, ℕ, List, Result, Ok, Err}
use Rattle.record_codec.specs.declared.header_stop.HeaderStop.{HeaderStop}
use Rattle.record_codec.specs.declared.header_stop.HeaderStop.TheVariants as stops
use Rattle.record_grammar.specs.Read.{Read, Got}
use Rattle.record_view.specs.Gives.{Stops as GivesNone}

-- the grammar's reader stops for this reason, unless memory ran out
abbrev pub Stops : {Y : Type 0} → HeaderStop → Read Y → Type 0
Stops stops.Memory read = Unit {0}
Stops (stops.Bytes stop) read = GivesNone stop read

-- the decoder's value, as `view` shows it, is the one that the grammar's reader returns
abbrev pub Gives : {X Y : Type 0} → (X → Y × List ℕ) → Result X HeaderStop → Read Y → Type 0
Gives view (Ok x) read = read ≡ Got (view x)
Gives view (Err stop) read = Stops stop read
