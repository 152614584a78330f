-- Which values from C are in their ranges, beyond what their types ensure.
use Rattle.std.specs.Prelude.{ℕ, ℤ, ◌≤◌, List, length}
use Rattle.std.specs.List.{All}
use Rattle.det_values.specs.Limits.{IsCycleTime, IsPlace}
use Rattle.record_grammar.specs.Grammar.{phase_of}
use Rattle.record_grammar.specs.Spelling.{IsEvent, IsSample}
use Rattle.c_types.specs.declared.profile.DetProfile.{DetProfile}
use Rattle.c_types.specs.declared.profile.DetEvent.{DetEvent}
use Rattle.c_types.specs.declared.cycle.DetSample.{DetSample}
use Rattle.c_types.specs.declared.cycle.DetElement.{DetElement}
use Rattle.c_types.specs.declared.cycle.DetRefusal.{DetRefusal}
use Rattle.c_types.specs.CValues.{event_of, sample_of}

-- a name is within its field, and a policy is one of two numbers
abbrev pub IsSoundEvent : DetEvent → Type 0
IsSoundEvent e = IsEvent (event_of e) × (e.len ≤ 32) × (e.policy ≤ 1)

pub record IsSoundHeader (p : DetProfile) (params : List ℤ) (given : List DetEvent) : Type 0 where
  pub cycle_time : IsCycleTime p.cycle_time
  pub few_params : length params ≤ 16
  pub few_events : length given ≤ 256
  pub events : All IsSoundEvent given

abbrev pub AreSoundElements : List DetElement → Type 0
AreSoundElements elements = (length elements ≤ 65536) × All (λ e. e.len ≤ 64) elements

-- samples of events below `events`
abbrev pub AreSoundSamples : ℕ → List DetSample → Type 0
AreSoundSamples events samples = (length samples ≤ 4096)
    × All (λ s. IsSample events (sample_of s)) samples

pub record IsSoundFinish (events : ℕ) (given : List DetSample) (left : List DetElement)
    (bytes : List ℕ) : Type 0 where
  pub samples : AreSoundSamples events given
  pub elements : AreSoundElements left
  pub output : length bytes ≤ 1048576

abbrev pub IsSoundPlace : DetRefusal → Type 0
IsSoundPlace r = (r.phase ≤ 2) × IsPlace (phase_of r.phase) r.pass r.element

pub record IsSoundRefusal (events : ℕ) (given : List DetSample) (r : DetRefusal) : Type 0 where
  pub samples : AreSoundSamples events given
  pub place : IsSoundPlace r
