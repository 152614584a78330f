-- A sink that took nothing took a prefix of any bytes.
use Rattle.std.proofs.Common.{List, ℕ}
use Rattle.std.specs.Prelude.{Option, Some, None, IfSome}
use Rattle.det_io.specs.Sink.{GrewByPrefix}
use Rattle.det_io.proofs.Growth.{part-none}

pub none-taken : (took : List ℕ → Type 0) (bytes : List ℕ) → GrewByPrefix took took bytes
none-taken took bytes = part-none took took bytes (record { kept = λ m h. h; no_more = λ m h. h })

-- nothing of a line was taken, whether its text is known or not
pub known-untaken : (took : List ℕ → Type 0) (line : List ℕ → List ℕ) (text : Option (List ℕ))
    → IfSome text (λ t. GrewByPrefix took took (line t))
known-untaken took line (Some t) = none-taken took (line t)
known-untaken took line None = tt
