-- Which of the records of a command a hint is on.
use Rattle.std.specs.Prelude.{ℕ, ◌<◌, Option, None, Some, ⊤}
use Rattle.cli_answers.specs.declared.status.Status.{Status}
use Rattle.cli_answers.specs.declared.status.Status.TheVariants.{BadRecord}

-- a hint on a record has the number of one of so many, and no other hint has a number
abbrev pub IsCopy : Status → ℕ → Option ℕ → Type 0
IsCopy BadRecord copies (Some copy) = copy < copies
IsCopy BadRecord copies None = ⊥
IsCopy other copies (Some copy) = ⊥
IsCopy other copies None = ⊤
