-- How a result agrees with the grammar's reader.
use Rattle.std.specs.Prelude.{◌≡◌, ℕ, List, Result, Ok, Err}
use Rattle.record_view.specs.declared.stop.Stop.{Stop}
use Rattle.record_view.specs.declared.stop.Stop.TheVariants as stops
use Rattle.record_grammar.specs.Read.{Read, Got, More, Bad}

-- the grammar's reader stops for the same reason
abbrev pub Stops : {Y : Type 0} → Stop → Read Y → Type 0
Stops stops.More read = read ≡ More
Stops (stops.Bad reason left) read = read ≡ Bad reason left

-- the grammar's reader returns the same value, or stops for the same reason
abbrev pub Gives : {X Y : Type 0} → (X → Y × List ℕ) → Result X Stop → Read Y → Type 0
Gives view (Ok x) read = read ≡ Got (view x)
Gives view (Err stop) read = Stops stop read
