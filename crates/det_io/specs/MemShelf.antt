-- A shelf in memory: its files and its state, and the condition under which its next call fails.
use Rattle.std.specs.Prelude.{◌≡◌, ℕ, ◌+◌, List, [], map, length, drop, Bool, cond, nat_eq, not}
use Rattle.std.specs.Prelude.{◌||◌, ◌&&◌, is_some, Option, Some, None, string_bytes, unwrap_or}
use Rattle.std.specs.Prelude.{slice_get, slice_index_or, position}
use Rattle.std.specs.Option.{option_map}
use Rattle.std.specs.Str.{bytes_eq}
use Rattle.det_io.specs.Shelf.{ShelfState}
use Rattle.det_io.specs.PlannedCalls.{is_listed}
use Rattle.det_io.specs.declared.mem_shelf.MemFile.{MemFile}
use Rattle.det_io.specs.declared.mem_shelf.place.FilePlace.{FilePlace}
use Rattle.det_io.specs.declared.mem_shelf.MemShelf.{MemShelf}

-- the index of the first file with a name
abbrev pub index_of : List MemFile → List ℕ → Option ℕ
index_of files name = position (λ file. bytes_eq (string_bytes file.name) name) files

abbrev pub names_of : List MemFile → List (List ℕ)
names_of files = map (λ file. string_bytes file.name) files

abbrev pub texts_of : List MemFile → List (List ℕ)
texts_of files = map (λ file. file.bytes.items) files

-- the bytes of the first file with a name
abbrev pub bytes_under : List MemFile → List ℕ → Option (List ℕ)
bytes_under files name = option_map (λ i. slice_index_or (texts_of files) i [])
    (index_of files name)

-- the bytes from a place to the end of its file
abbrev pub rest_of : List MemFile → FilePlace → List ℕ
rest_of files p = drop p.at (slice_index_or (texts_of files) p.file [])

abbrev pub asked_in : Bool → List MemFile → List ℕ → Option (List (List ℕ))
asked_in told files asked = cond told (Some (map (λ i. slice_index_or (names_of files) i []) asked))
    None

abbrev pub state_of : List MemFile → List FilePlace → Bool → List ℕ → ℕ → ShelfState
state_of files places told asked faults = record {
  slots = length places;
  faults = faults;
  holds = bytes_under files;
  asked = asked_in told files asked;
  left = slice_get (map (rest_of files) places);
}

-- its state: all bytes are known, and the names asked for as long as `names_known` holds
abbrev pub mem_shelf_state : MemShelf → ShelfState
mem_shelf_state s = state_of s.files s.slots.items s.names_known s.asked.items s.faults

-- the arguments that a shelf was made of, which no call changes
pub record MemShelfSetup : Type 0 where
  pub files : List MemFile
  -- the numbers of the calls that are to fail
  pub fails : List ℕ
  -- the calls of open_input for which there is room
  pub opens : ℕ
  -- the most bytes that a read moves
  pub most : ℕ

abbrev pub setup_of : MemShelf → MemShelfSetup
setup_of s = record { files = s.files; fails = s.calls.fails; opens = s.opens; most = s.most }

-- the number of calls of open_input and read
abbrev pub calls_of : MemShelf → ℕ
calls_of s = s.calls.made

-- the number of calls of open_input that took room
abbrev pub opened_of : MemShelf → ℕ
opened_of s = s.opened

-- a new shelf: no call was made, no slot is open, and it is known that no name was asked for
pub record IsNewMemShelf (s : MemShelf) (made_of : MemShelfSetup) : Type 0 where
  pub setup : setup_of s ≡ made_of
  pub calls : calls_of s ≡ 0
  pub opened : opened_of s ≡ 0
  pub state : mem_shelf_state s ≡ record {
    slots = 0;
    faults = 0;
    holds = bytes_under made_of.files;
    asked = Some [];
    left = λ slot. None;
  }

-- an open of this name finds room and a file, whether or not it is to fail
abbrev pub has_room_for : MemShelf → List ℕ → Bool
has_room_for s name = not (nat_eq (opened_of s) (setup_of s).opens)
    && is_some (bytes_under (setup_of s).files name)

-- an open of this name fails as the next call: its number is listed, its name is unknown, or there
-- is no room
abbrev pub open_fails : MemShelf → List ℕ → Bool
open_fails s name = is_listed (setup_of s).fails (calls_of s + 1) || not (has_room_for s name)

-- the rest of a slot
abbrev pub rest_in : MemShelf → ℕ → List ℕ
rest_in s slot = unwrap_or ((mem_shelf_state s).left slot) []
