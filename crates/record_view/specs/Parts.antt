-- The parts of an item, as accessors return them.
use Rattle.std.specs.Prelude.{◌≡◌, ℕ, ℤ, List}
use Rattle.det_values.specs.Values.{SampleValue}
use Rattle.det_values.specs.declared.frames.DrawnElement.{DrawnElement}
use Rattle.det_values.specs.declared.frames.Outcome.{Outcome}
use Rattle.det_values.specs.declared.frames.Outcome.TheVariants.{Finished, Refused}

abbrev pub ElementsOf : List DrawnElement → Outcome → Type 0
ElementsOf es (Finished elements output) = es ≡ elements
ElementsOf es (Refused at) = ⊥

abbrev pub OutputOf : List ℕ → Outcome → Type 0
OutputOf bytes (Finished elements output) = bytes ≡ output
OutputOf bytes (Refused at) = ⊥

-- a sample of an event
abbrev pub a_sample : ℕ → ℤ → SampleValue
a_sample event value = record { event = event; value = value }

-- an element without draws
abbrev pub undrawn : List ℕ → DrawnElement
undrawn bytes = record { bytes = bytes; draws = 0 }
