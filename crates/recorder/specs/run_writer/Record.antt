-- The record of a run: the frames of a profile and of its inputs, spelled.
use Rattle.std.specs.Prelude.{◌≡◌, ℕ, ◌-◌, ◌^◌, List, [], ◌∷◌, length, min, Bool}
use Rattle.std.specs.List.{count_by}
use Rattle.det_values.specs.Values.{ProfileValue}
use Rattle.det_values.specs.declared.frames.CycleInput.{CycleInput}
use Rattle.det_values.specs.declared.frames.RunFrame.{RunFrame}
use Rattle.det_values.specs.declared.frames.Frame.TheVariants.{Register, Discover, Init}
use Rattle.job.specs.Meaning.{Meaning}
use Rattle.cycle_engine.specs.Frames.{frames, init_of}
use Rattle.record_grammar.specs.Spelling.{spelled}
use Rattle.probes.specs.Shipped.{is_refused}
use Rattle.recorder.specs.declared.run_writer.counts.Counts.{Counts}

-- a count of bytes saturates at the last value of its type
abbrev pub counted : ℕ → ℕ
counted n = min n (2 ^ 64 - 1)

-- the counts of a record with these runs
pub record Counted (counts : Counts) (done : List RunFrame) (spelling : List ℕ) : Type 0 where
  pub cycles : counts.cycles ≡ length done
  pub refused : counts.refused ≡ count_by is_refused done
  pub bytes : counts.bytes ≡ counted (length spelling)

module _ {S G E L P : Type 0} (m : Meaning S G E L P) (profile : ProfileValue) where
  -- the record of a run over these inputs, with Terminate where it is ended
  unfoldable pub record_with : List CycleInput → Bool → List ℕ
  record_with inputs ended = spelled profile (frames m profile inputs ended)

  -- the bytes of a record before its first run
  unfoldable pub opening : List ℕ
  opening = spelled profile (Register ∷ Discover ∷ Init (init_of m profile) ∷ [])
