-- What probes report, and in which order.
use Rattle.std.specs.Prelude.{◌≡◌, ℕ, ◌+◌, List, [], ◌∷◌, ◌++◌, map, nat_eq, Option, Some, None}
use Rattle.std.specs.Prelude.{if◌then◌else◌, flat_map}
use Rattle.std.specs.Option.{option_map}
use Rattle.det_values.specs.declared.frames.RunFrame.{RunFrame}
use Rattle.probes.specs.declared.probe.ProbeStep.{ProbeStep}
use Rattle.probes.specs.declared.probe.ProbeStep.TheVariants.{Stay, Leave}

-- What a probe reports once it has seen these runs, up to the one at which it leaves. Then, how
-- many of them come before that one, or none if it stays.
pub record ProbeLife : Type 0 where
  pub report_after : List RunFrame → List ℕ
  pub runs_before : List RunFrame → Option ℕ

-- the number of the run at which a probe leaves, counted from 1, or none
abbrev pub leaves : ProbeLife → List RunFrame → Option ℕ
leaves p runs = option_map (λ n. n + 1) (p.runs_before runs)

-- a probe saw a run: what it does at later ones, it would have done at this one and them before
abbrev pub Sees : ProbeStep → ProbeLife → ProbeLife → RunFrame → Type 0
Sees Stay old new run =
    (runs : List RunFrame) → (old.report_after (run ∷ runs) ≡ new.report_after runs)
    × (leaves old (run ∷ runs) ≡ option_map (λ n. n + 1) (leaves new runs))
Sees Leave old new run =
    (runs : List RunFrame) → (old.report_after (run ∷ runs) ≡ new.report_after [])
    × (leaves old (run ∷ runs) ≡ Some 1)

-- a probe's report, and how many runs come before the one at which it leaves
pub record Report : Type 0 where
  pub bytes : List ℕ
  pub before : Option ℕ

abbrev pub report_of : List RunFrame → ProbeLife → Report
report_of runs p = record { bytes = p.report_after runs; before = p.runs_before runs }

-- the report, if it comes after k runs and the next one
abbrev pub bytes_at : ℕ → Report → List ℕ
bytes_at k r = elim r.before [ Some n ↦ (if nat_eq n k then r.bytes else []) | None ↦ [] ]

-- the report, if it comes at the end
abbrev pub bytes_last : Report → List ℕ
bytes_last r = elim r.before [ Some n ↦ [] | None ↦ r.bytes ]

-- the reports of the probes that leave at these runs, run by run and in the order of the list,
-- after k runs before
unfoldable pub in_turn : ℕ → List RunFrame → List Report → List ℕ
in_turn k [] rs = []
in_turn k (run ∷ runs) rs = flat_map (bytes_at k) rs ++ in_turn (k + 1) runs rs

-- those reports, and then the reports of the probes that stay
abbrev pub joined : List RunFrame → List Report → List ℕ
joined runs rs = in_turn 0 runs rs ++ flat_map bytes_last rs

-- all that probes report on these runs
unfoldable pub reports : List ProbeLife → List RunFrame → List ℕ
reports probes runs = joined runs (map (report_of runs) probes)

-- probes, and the reports of those that have left
pub record AudienceState : Type 0 where
  pub seeing : List ProbeLife
  pub left : List ℕ

-- all reports on these runs: those that there are, and those that the probes will make
abbrev pub reported : AudienceState → List RunFrame → List ℕ
reported audience runs = audience.left ++ reports audience.seeing runs
