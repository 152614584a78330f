-- Reports while a run is being shown.
use Rattle.std.specs.Prelude.{ℕ, ◌+◌, List, ◌∷◌, ◌++◌, map, take, drop}
use Rattle.std.specs.Option.{option_map}
use Rattle.det_values.specs.declared.frames.RunFrame.{RunFrame}
use Rattle.probes.specs.Reports.{ProbeLife, Report, report_of}

-- the same report, with one run more before it
abbrev pub later : Report → Report
later r = record r { before = option_map (λ n. n + 1) r.before }

-- the first ones of these saw the run and stayed, and the others didn't see it yet
unfoldable pub partly : RunFrame → List RunFrame → ℕ → List ProbeLife → List Report
partly run runs at ps = map later (map (report_of runs) (take at ps)) ++ map (report_of (run ∷ runs)) (drop at ps)
