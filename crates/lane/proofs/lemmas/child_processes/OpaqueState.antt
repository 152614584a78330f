-- A process was started.
use Rattle.std.proofs.Common.{ℕ, ◌≡◌, zero, suc, List, [], ◌∷◌, ◌++◌, length, get_or, Bool, false, refl, length-append}
use Rattle.lane.specs.child_processes.Spawners.{Words, Starts}
use Rattle.lane.specs.child_processes.Processes.{opaque_state}

more-same : (finished : List Bool) (k : ℕ) → get_or (finished ++ false ∷ []) k false ≡ get_or finished k false
more-same [] zero = refl
more-same [] (suc k) = refl
more-same (f ∷ finished) zero = refl
more-same (f ∷ finished) (suc k) = more-same finished k

more-runs : (finished : List Bool) → get_or (finished ++ false ∷ []) (length finished) false ≡ false
more-runs [] = refl
more-runs (f ∷ finished) = more-runs finished

-- one more child, which runs
pub opaque_state-starts : (finished lost : List Bool) (faults : ℕ) (words : Words)
    → Starts (opaque_state finished lost faults) (opaque_state (finished ++ false ∷ []) (lost ++ false ∷ []) faults) words (length finished)
opaque_state-starts finished lost faults words = record {
  number = refl;
  children = length-append finished (false ∷ []);
  running = more-runs finished;
  left = tt;
  other_left = λ k ne. refl;
  other_words = λ k ne. refl;
  other_finished = λ k ne. more-same finished k;
}
