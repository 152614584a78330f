-- The lines of a manifest: its job, its cycle time, its workers, its platform and its needs.
use Rattle.std.specs.Prelude.{ℕ, List, ◌++◌, Option, Some, None, unwrap_or, codes}
use Rattle.manifest.specs.declared.needs.Needs.{Needs}
use Rattle.record_text.specs.Words.{number_line}

-- a line of a keyword and a text
abbrev pub text_line : List ℕ → List ℕ → List ℕ
text_line word text = word ++ (codes " " ++ (text ++ codes "\n"))

-- the needs of an initialisation or of a run, each line after that keyword
abbrev pub needs_text : List ℕ → Option Needs → List ℕ
needs_text word None = word ++ codes " none\n"
needs_text word (Some needs) = word ++ (number_line (codes " instructions") needs.instructions
    ++ (word ++ (number_line (codes " sequential_begin") needs.sequential_begin
    ++ (word ++ (number_line (codes " sequential_end") needs.sequential_end
    ++ (word ++ number_line (codes " speedup") needs.speedup))))))

abbrev pub needs_lines : List ℕ → ℕ → ℕ → Option (List ℕ) → Option Needs → Option Needs → List ℕ
needs_lines job cycle_time workers platform init run = text_line (codes "job") job
    ++ (number_line (codes "cycle_time") cycle_time ++ (number_line (codes "workers") workers
    ++ (text_line (codes "platform") (unwrap_or platform (codes "none"))
    ++ (needs_text (codes "init") init ++ needs_text (codes "run") run))))
