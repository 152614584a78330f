-- The bytes of elements with their draws in a record, and the elements that bytes spell.
use Rattle.std.specs.Prelude.{◌≡◌, ℕ, zero, suc, ◌^◌, ◌<◌, ◌≤◌, List, [], ◌∷◌, ◌++◌, length, take}
use Rattle.std.specs.Prelude.{drop}
use Rattle.std.specs.List.{flat_map, All}
use Rattle.std.specs.Int.{w16, w32, to_be_bytes, from_be_bytes}
use Rattle.det_values.specs.declared.frames.DrawnElement.{DrawnElement}

abbrev pub AreBytes : List ℕ → Type 0
AreBytes bytes = All (λ b. b < 256) bytes

unfoldable pub spelled_u16 : ℕ → List ℕ
spelled_u16 n = to_be_bytes w16 n

unfoldable pub spelled_u32 : ℕ → List ℕ
spelled_u32 n = to_be_bytes w32 n

-- an element with these bytes and draws
abbrev pub an_element : List ℕ → ℕ → DrawnElement
an_element bytes draws = record { bytes = bytes; draws = draws }

-- the length, the bytes, the draws
unfoldable pub spelled_drawn : DrawnElement → List ℕ
spelled_drawn e = spelled_u16 (length e.bytes) ++ (e.bytes ++ spelled_u32 e.draws)

-- an element that a finished cycle can have
pub record IsDrawn (e : DrawnElement) : Type 0 where
  pub short : length e.bytes ≤ 64
  pub bytes : AreBytes e.bytes
  pub draws : e.draws < 2 ^ 32

-- the bytes of elements in order
abbrev pub spelled_all : List DrawnElement → List ℕ
spelled_all es = flat_map spelled_drawn es

-- ---- the same, read

-- the length of the first element's bytes
abbrev pub first_length : List ℕ → ℕ
first_length bytes = from_be_bytes w16 (take 2 bytes)

-- the first element
abbrev pub first_of : List ℕ → DrawnElement
first_of bytes = an_element (take (first_length bytes) (drop 2 bytes))
    (from_be_bytes w32 (take 4 (drop (first_length bytes) (drop 2 bytes))))

-- the bytes after the first element
abbrev pub after_first : List ℕ → List ℕ
after_first bytes = drop 4 (drop (first_length bytes) (drop 2 bytes))

-- the first n elements that the bytes spell, read in order
unfoldable pub elements_in : ℕ → List ℕ → List DrawnElement
elements_in zero bytes = []
elements_in (suc n) bytes = first_of bytes ∷ elements_in n (after_first bytes)

-- the bytes spell exactly `count` elements
pub record IsFlat (count : ℕ) (bytes : List ℕ) : Type 0 where
  pub spelling : bytes ≡ spelled_all (elements_in count bytes)
  pub fields : All IsDrawn (elements_in count bytes)
  pub few : count ≤ 65536

-- some elements, this many, are spelled by these bytes
abbrev pub SpellElements : List ℕ → ℕ → Type 0
SpellElements bytes count = (es : List DrawnElement) × (bytes ≡ spelled_all es)
    × (length es ≡ count) × All IsDrawn es

-- the elements that these bytes spell, this many, were added at the end
abbrev pub IsExtended : List ℕ → ℕ → List DrawnElement → List DrawnElement → Type 0
IsExtended bytes count old new = (es : List DrawnElement) → bytes ≡ spelled_all es
    → length es ≡ count → All IsDrawn es → new ≡ old ++ es

-- the new bytes begin with the old ones
pub record Grows (old new : List ℕ) : Type 0 where
  pub added : List ℕ
  pub is : new ≡ old ++ added

-- the bytes begin with an element, and `rest` follows
pub record BeginsWith (e : DrawnElement) (rest bytes : List ℕ) : Type 0 where
  pub fields : IsDrawn e
  pub spelling : bytes ≡ spelled_drawn e ++ rest

-- the bytes begin with no element
abbrev pub BeginsWithNone : List ℕ → Type 0
BeginsWithNone bytes = (e : DrawnElement) (rest : List ℕ) → BeginsWith e rest bytes → ⊥

-- the bytes from the first index up to the second spell an element
pub record FirstAt (bytes : List ℕ) (at end : ℕ) : Type 0 where
  pub element : DrawnElement
  pub begins : BeginsWith element (drop end bytes) (drop at bytes)
  pub within : end ≤ length bytes

-- no element begins at this index
abbrev pub NoneAt : List ℕ → ℕ → Type 0
NoneAt bytes at = BeginsWithNone (drop at bytes)
