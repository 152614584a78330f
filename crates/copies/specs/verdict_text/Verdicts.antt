-- The lines of `compare` and of `check`: whether copies agree, or a record is what its inputs give,
-- and else the first place of a difference.
use Rattle.std.specs.Prelude.{ℕ, List, ◌++◌, codes, decimal}
use Rattle.record_text.specs.Words.{number_line}
use Rattle.copies.specs.declared.difference.Difference.{Difference}
use Rattle.copies.specs.declared.difference.Difference.TheVariants.{Header, Kind, Time}
use Rattle.copies.specs.declared.difference.Difference.TheVariants.{Samples, Result, Element}
use Rattle.copies.specs.declared.difference.Difference.TheVariants.{Output}
use Rattle.copies.specs.declared.check_verdict.CheckVerdict.{CheckVerdict}
use Rattle.copies.specs.declared.check_verdict.CheckVerdict.TheVariants.{Genuine, Departs}
use Rattle.copies.specs.declared.verdict.Verdict.{Verdict}
use Rattle.copies.specs.declared.verdict.Verdict.TheVariants.{Agree, Differ}

abbrev pub place_text : Difference → List ℕ
place_text Header = codes "header"
place_text (Kind frame) = codes "kind " ++ decimal frame
place_text (Time cycle) = codes "time " ++ decimal cycle
place_text (Samples cycle) = codes "samples " ++ decimal cycle
place_text (Result cycle) = codes "result " ++ decimal cycle
place_text (Element cycle at) = codes "element " ++ (decimal cycle ++ (codes " " ++ decimal at))
place_text (Output cycle) = codes "output " ++ decimal cycle

-- the line of a verdict
abbrev pub verdict_line : Verdict → List ℕ
verdict_line (Agree cycles) = number_line (codes "agree") cycles
verdict_line (Differ copy at) =
    codes "differ copy " ++ (decimal copy ++ (codes " " ++ (place_text at ++ codes "\n")))

-- the line of a check
abbrev pub check_line : CheckVerdict → List ℕ
check_line (Genuine cycles) = number_line (codes "genuine") cycles
check_line (Departs at) = codes "departs " ++ (place_text at ++ codes "\n")
