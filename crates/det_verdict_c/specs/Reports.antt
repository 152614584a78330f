-- What was seen of the runs of a record, and the reports on them.
use Rattle.std.specs.Prelude.{◌≡◌, ◌≤◌, ℕ, ◌==◌, Bool, List, [], ◌∷◌, Option, Some, None}
use Rattle.std.specs.Prelude.{if◌then◌else◌}
use Rattle.det_values.specs.Values.{RefusedAtValue}
use Rattle.det_values.specs.declared.frames.RunFrame.{RunFrame}
use Rattle.c_types.specs.declared.frame.DetFrame.{DetFrame}
use Rattle.c_types.specs.CValues.{time_of, place_of_refusal}
use Rattle.probes.specs.Reports.{ProbeLife, AudienceState}
use Rattle.probes.specs.Shows.{Shows}
use Rattle.probes.specs.Shipped.{refusal_of, count_life, gap_life, refusal_life}
use Rattle.probes.specs.Texts.{refusal_text}
use Rattle.det_verdict_c.specs.declared.reports.DetReports.{DetReports}

-- a frame shows a run: its time, and where it was refused, if it was
abbrev pub refusal_in : DetFrame → Option RefusedAtValue
refusal_in f = if f.refused then Some (place_of_refusal f.refusal) else None

pub record IsViewOf (f : DetFrame) (run : RunFrame) : Type 0 where
  pub time : run.input.time ≡ time_of f.time
  pub refusal : refusal_of run.outcome ≡ refusal_in f

-- the audience of `det`, before the first run
abbrev pub first_audience : AudienceState
first_audience = record {
  seeing = count_life 0 0 ∷ gap_life None None ∷ refusal_life 0 None ∷ [];
  left = [];
}

abbrev pub number_if : Bool → ℕ → Option ℕ
number_if known n = if known then Some n else None

-- the time of the last run, and the greatest gap
abbrev pub last_of : DetReports → Option ℕ
last_of r = number_if r.has_last r.last_time

abbrev pub gap_of : DetReports → Option ℕ
gap_of r = number_if r.has_gap r.gap

-- the probe of the first refusal has left if one was seen
abbrev pub refusal_probe : DetReports → List ProbeLife
refusal_probe r = if r.refused_at == 0 then refusal_life r.finished None ∷ [] else []

abbrev pub first_refusal : DetReports → List ℕ
first_refusal r =
    if r.refused_at == 0 then []
    else refusal_text r.refused_at (Some (place_of_refusal r.refusal))

-- the audience that C's counters stand for
abbrev pub audience_of : DetReports → AudienceState
audience_of r = record {
  seeing = count_life r.finished r.refused ∷ gap_life (last_of r) (gap_of r) ∷ refusal_probe r;
  left = first_refusal r;
}

-- these runs were seen
abbrev pub HasSeen : DetReports → List RunFrame → Type 0
HasSeen r runs = Shows first_audience (audience_of r) runs

-- counts of 32 bits, as their type has it
abbrev pub AreCounts : DetReports → Type 0
AreCounts r = (r.finished ≤ 4294967295) × (r.refused ≤ 4294967295)
