-- The bytes that a window holds, and how its calls change them.
use Rattle.std.specs.Prelude.{◌≡◌, ◌≢◌, ℕ, ◌-◌, ◌≤◌, ◌⊎◌, List, [], ◌++◌, length}
use Rattle.std.specs.Prelude.{take, drop, Result, Ok, Err}
use Rattle.det_io.specs.Shelf.{ShelfState, Reads, IsAtEnd}
use Rattle.det_io.specs.declared.failure.Failure.{Failure}
use Rattle.det_io.specs.declared.failure.Failure.TheVariants.{Read, Write, OutOfMemory}
use Rattle.record_grammar.specs.Spelling.{AreBytes}
use Rattle.record_reader.specs.declared.item_reader.window.Window.{Window}

abbrev pub held : Window → List ℕ
held w = drop w.from (take w.to w.buffer.items)

-- what a result says of the bytes that were read
abbrev pub Told : Result ℕ Failure → List ℕ → Type 0 → Type 0
Told (Ok n) more at_end = (n ≡ length more) × (more ≡ [] → at_end)
Told (Err Read) more at_end = more ≡ []
Told (Err Write) more at_end = ⊥
Told (Err OutOfMemory) more at_end = more ≡ []

-- these bytes were read, and are held after those before
pub record Took (result : Result ℕ Failure) (before after : ShelfState) (slot : ℕ)
    (old new : List ℕ) : Type 0 where
  pub more : List ℕ
  pub reads : Reads before after slot more
  pub is : new ≡ old ++ more
  pub told : Told result more (IsAtEnd after slot)
  pub are : AreBytes more

-- The bytes from one offset up to another were held first and are dropped. After them `bytes` end,
-- or no more is held, or the next byte differs.
pub record Matched (bytes : List ℕ) (from to : ℕ) (old new : List ℕ) : Type 0 where
  pub order : from ≤ to
  pub within : to ≤ length bytes
  pub is : old ≡ take (to - from) (drop from bytes) ++ new
  pub ends : (to ≡ length bytes) ⊎ ((new ≡ []) ⊎ (take 1 new ≢ take 1 (drop to bytes)))
  pub are : AreBytes new
