-- What is printed in place of a record.
use Rattle.std.specs.Prelude.{ℕ, List, ◌++◌, codes}
use Rattle.record_text.specs.declared.summary_lines.Summary.{Summary}
use Rattle.record_text.specs.Words.{hex_text, number_line}

abbrev pub digest_line : List ℕ → List ℕ
digest_line digest = codes "sha256 " ++ (hex_text digest ++ codes "\n")

-- of a simulated run: its number, its cycles, the refused ones, and the length and digest of its
-- record
abbrev pub summary_lines : Summary → List ℕ
summary_lines s =
    number_line (codes "sim") s.number
    ++ (number_line (codes "cycles") s.cycles ++ (number_line (codes "refused") s.refused
    ++ (number_line (codes "bytes") s.bytes ++ digest_line s.digest)))
