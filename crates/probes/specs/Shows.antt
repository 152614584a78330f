-- What an audience has seen.
use Rattle.std.specs.Prelude.{◌≡◌, ◌⊎◌, ℕ, List, [], ◌∷◌, ◌++◌, map}
use Rattle.std.specs.Global.{Global}
use Rattle.std.specs.declared.dyn_box.DynBox.{DynBox}
use Rattle.det_values.specs.declared.frames.RunFrame.{RunFrame}
use Rattle.probes.specs.declared.audience.Audience.{Audience}
use Rattle.probes.specs.declared.probe.ProbeStep.TheVariants.{Stay, Leave}
use Rattle.probes.specs.Reports.{ProbeLife, AudienceState, Sees, reported}

-- These runs were shown. Whatever runs come later, the audience would have reported on all of them
-- what it now reports on the later ones.
pub record Shows (before now : AudienceState) (shown : List RunFrame) : Type 0 where
  pub each : (later : List RunFrame) → reported before (shown ++ later) ≡ reported now later

-- An audience has seen these runs: what it now reports on no more runs is what it would have
-- reported on them.
abbrev pub SawRuns : AudienceState → AudienceState → List RunFrame → Type 0
SawRuns before now runs = reported now [] ≡ reported before runs

-- an audience as its state, from the lives of its boxed probes
abbrev pub seen : {X : Type 0} {IsProbe : X → Type 0}
    → (DynBox X Global IsProbe → ProbeLife) → Audience X IsProbe → AudienceState
seen life audience = record { seeing = map life audience.remaining.items; left = audience.left }

-- these probes saw a run, in order: `stayed` are those that stayed, and `new_reports` the reports
-- of those that left
abbrev pub Saw : RunFrame → (probes stayed : List ProbeLife) → (new_reports : List ℕ) → Type 0
Saw run [] stayed new_reports = (stayed ≡ []) × (new_reports ≡ [])
Saw run (p ∷ ps) stayed new_reports =
    ((q : ProbeLife) × (others : List ProbeLife) × Sees Stay p q run × (stayed ≡ q ∷ others)
    × Saw run ps others new_reports)
    ⊎ ((q : ProbeLife) × (others : List ℕ) × Sees Leave p q run
    × (new_reports ≡ q.report_after [] ++ others) × Saw run ps stayed others)

-- A run was shown until a report couldn't be made. The probes in front saw it. The next one left,
-- and its report is lost. Those after it didn't see the run.
pub record ShowsPartly (before now : AudienceState) (run : RunFrame) : Type 0 where
  pub front : List ProbeLife
  pub lost : ProbeLife
  pub gone : ProbeLife
  pub behind : List ProbeLife
  pub stayed : List ProbeLife
  pub new_reports : List ℕ
  pub all : before.seeing ≡ front ++ lost ∷ behind
  pub saw : Saw run front stayed new_reports
  pub leaves : Sees Leave lost gone run
  pub seeing : now.seeing ≡ stayed ++ behind
  pub reports : now.left ≡ before.left ++ new_reports

-- these runs were shown, the last one maybe only to a part of the audience
abbrev pub ShowsFirst : AudienceState → AudienceState → List RunFrame → Type 0
ShowsFirst before now runs = Shows before now runs
    ⊎ ((earlier : List RunFrame) × (run : RunFrame) × (mid : AudienceState)
    × (runs ≡ earlier ++ run ∷ []) × Shows before mid earlier × ShowsPartly mid now run)
