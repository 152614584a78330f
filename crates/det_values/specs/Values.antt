-- What contracts see of types that keep ranges: the fields, without the ranges. In code the ranges
-- are invariants of the types, so no value out of range can be made. Here the values are plain
-- records, which definitions build without proofs.
use Rattle.std.specs.Prelude.{ℕ, ℤ, List, codes}
use Rattle.det_values.specs.declared.format.Format.{Format}
use Rattle.det_values.specs.declared.event.Policy.{Policy}
use Rattle.det_values.specs.declared.refused_at.Phase.{Phase}
use Rattle.det_values.specs.declared.refused_at.Phase.TheVariants.{Prepare, Pool, Conclude}

pub record SampleValue : Type 0 where
  pub event : ℕ
  pub value : ℤ

pub record EventSpecValue : Type 0 where
  pub capacity : ℕ
  pub name : List ℕ
  pub policy : Policy

pub record RefusedAtValue : Type 0 where
  pub phase : Phase
  pub pass : ℕ
  pub element : ℕ
  pub code : ℕ

pub record ProfileValue : Type 0 where
  pub format : Format
  pub job : ℕ
  pub seed : ℕ
  pub cycle_time : ℕ
  pub params : List ℤ
  pub events : List EventSpecValue

-- a phase's name in texts
abbrev pub phase_word : Phase → List ℕ
phase_word Prepare = codes "prepare"
phase_word Pool = codes "pool"
phase_word Conclude = codes "conclude"
