-- What is known of bytes that were read from a name whose bytes are known.
use Rattle.std.proofs.Common.{◌≡◌, ℕ, List, [], ◌++◌, refl}
use Rattle.std.specs.Prelude.{Option, Some, None, IsSome}
use Rattle.std.specs.Option.{unwrap_or}
use Rattle.det_io.specs.Shelf.{ShelfState, Reads, Opens, IsAtEnd}
use Rattle.det_io.proofs.Opening.{opens-left}
use Rattle.det_io.proofs.SlotReads.{reads-all, reads-told}
use Rattle.cli_answers.specs.Outcome.{known_bytes}

pub held : (o : Option (List ℕ)) → IsSome o → o ≡ Some (unwrap_or o [])
held (Some bytes) h = refl
held None h = cc

-- a text that was read to its end is what the name held
pub whole-text : (first mid last : ShelfState) (name : List ℕ) (slot : ℕ) (text : List ℕ) → Opens first mid name slot
    → Reads mid last slot text → IsAtEnd last slot → IsSome (first.holds name)
    → text ≡ known_bytes first name
whole-text first mid last name slot text opens reads end is_known =
    reads-all (known_bytes first name) reads end (opens-left (known_bytes first name) opens (held (first.holds name) is_known))

-- what was read begins what the name held
pub read-part : (first mid last : ShelfState) (name : List ℕ) (slot : ℕ) (text : List ℕ) → Opens first mid name slot
    → Reads mid last slot text → IsSome (first.holds name)
    → (more : List ℕ) × (text ++ more ≡ known_bytes first name)
read-part first mid last name slot text opens reads is_known =
    let t = reads-told (known_bytes first name) reads (opens-left (known_bytes first name) opens (held (first.holds name) is_known)) in
    (t.0, t.2)
