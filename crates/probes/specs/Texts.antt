-- The lines that the shipped probes report, with numbers as `Display` writes them.
use Rattle.std.specs.Prelude.{ℕ, List, ◌++◌, Option, Some, None, codes}
use Rattle.std.specs.Fmt.{decimal}
use Rattle.det_values.specs.Values.{RefusedAtValue, phase_word}

-- the numbers of finished and of refused runs
abbrev pub count_text : ℕ → ℕ → List ℕ
count_text finished refused =
    codes "count " ++ (decimal finished ++ (codes " " ++ (decimal refused ++ codes "\n")))

-- the greatest gap in nanoseconds, if there is one
abbrev pub gap_text : Option ℕ → List ℕ
gap_text (Some gap) = codes "gap " ++ (decimal gap ++ codes "\n")
gap_text None = codes "gap none\n"

-- the number of runs, and of refused ones among them
abbrev pub limit_text : ℕ → ℕ → List ℕ
limit_text runs refused =
    codes "limit " ++ (decimal runs ++ (codes " " ++ (decimal refused ++ codes "\n")))

-- the number of runs seen, and where the last of them was refused, if it was
abbrev pub refusal_text : ℕ → Option RefusedAtValue → List ℕ
refusal_text runs None = codes "refusal none\n"
refusal_text runs (Some at) =
    codes "refusal " ++ (decimal runs ++ (codes " " ++ (phase_word at.phase ++ (codes " "
    ++ (decimal at.pass ++ (codes " " ++ (decimal at.element ++ (codes " "
    ++ (decimal at.code ++ codes "\n")))))))))
