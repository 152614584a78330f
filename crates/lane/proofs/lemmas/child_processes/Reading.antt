-- A read of a child, as what its shelf leaves.
use Rattle.std.proofs.Common.{◌≡◌, ◌≢◌, ◌⊎◌, inl, inr, ℕ, eqb, true, false, List, ◌++◌, refl}
use Rattle.std.proofs.lemmas.Bool.Decides.{eqb_tells}
use Rattle.std.specs.Prelude.{Option, Some, None, IsSome}
use Rattle.std.specs.Option.{option_map}
use Rattle.lane.specs.child_processes.Spawners.{SpawnerState, ReadsChild}
use Rattle.lane.specs.child_processes.ChildShelves.{ShelfStays}

some-behind : (bytes : List ℕ) (before after : Option (List ℕ)) → before ≡ option_map (λ rest. bytes ++ rest) after → IsSome before
    → IsSome after
some-behind bytes before (Some rest) e t = refl
some-behind bytes before None e t = let s = rw e at t in s

some-same : (before after : Option (List ℕ)) → after ≡ before → IsSome before → IsSome after
some-same before after e t = rw e t

-- a read leaves what a shelf over children leaves
pub reads-stays : {before after : SpawnerState} {child : ℕ} {bytes : List ℕ} → ReadsChild before after child bytes
    → ShelfStays before after
reads-stays {before = before} {after = after} {child = child} {bytes = bytes} p = record {
  stays = p.stays;
  told = λ k t. at k t (eqb_tells k child);
}
  where
    at : (k : ℕ) → IsSome (before.left k) → ((eqb k child ≡ true) × (k ≡ child)) ⊎ ((eqb k child ≡ false) × (k ≢ child))
        → IsSome (after.left k)
    at k t (inl same) = let s = rw same.1 at t in rw same.1 (some-behind bytes (before.left child) (after.left child) p.left s)
    at k t (inr other) = some-same (before.left k) (after.left k) (p.others k other.1) t
