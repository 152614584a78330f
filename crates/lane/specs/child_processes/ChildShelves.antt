-- What contracts see of a shelf over children.
use Rattle.std.specs.Prelude.{ℕ, None, IsSome}
use mathlib.Core.Path.{refl, ◌∙◌}
use Rattle.det_io.specs.Shelf.{ShelfState}
use Rattle.lane.specs.child_processes.Spawners.{SpawnerState, Stays}

-- slot k is child k; what is under a name isn't known
abbrev pub shelf_state : SpawnerState → ShelfState
shelf_state s = record {
  slots = s.children;
  faults = s.faults;
  holds = λ name. None;
  asked = None;
  left = s.left;
}

-- Reads change only the count of faults and what children have left. What was known to be left
-- stays known.
pub record ShelfStays (before after : SpawnerState) : Type 0 where
  pub stays : Stays before after
  pub told : (child : ℕ) → IsSome (before.left child) → IsSome (after.left child)

abbrev pub stays_same : (s : SpawnerState) → ShelfStays s s
stays_same s = record {
  stays = record {
    children = refl;
    words = refl;
    finished = refl;
    asked = refl;
    gives = refl;
    ends = refl;
  };
  told = λ child t. t;
}

abbrev pub stays_on : {a b c : SpawnerState} → ShelfStays a b → ShelfStays b c → ShelfStays a c
stays_on p q = record {
  stays = record {
    children = q.stays.children ∙ p.stays.children;
    words = q.stays.words ∙ p.stays.words;
    finished = q.stays.finished ∙ p.stays.finished;
    asked = q.stays.asked ∙ p.stays.asked;
    gives = q.stays.gives ∙ p.stays.gives;
    ends = q.stays.ends ∙ p.stays.ends;
  };
  told = λ child t. q.told child (p.told child t);
}
