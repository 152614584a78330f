-- Elements of a finished cycle, spelled one after another.
use Rattle.std.specs.Prelude.{◌≡◌, ℕ, List, length}
use Rattle.std.specs.List.{flat_map, All}
use Rattle.det_values.specs.declared.format.Format.{Format}
use Rattle.det_values.specs.declared.frames.DrawnElement.{DrawnElement}
use Rattle.record_grammar.specs.Spelling.{spelled_drawn, IsDrawn}

-- the bytes spell these elements
pub record SpellElements (format : Format) (elements : List DrawnElement) (bytes : List ℕ)
    : Type 0 where
  pub fields : All (IsDrawn format) elements
  pub spelling : bytes ≡ flat_map (spelled_drawn format) elements

-- the bytes spell `count` elements
abbrev pub AreElements : Format → ℕ → List ℕ → Type 0
AreElements format count bytes =
    (elements : List DrawnElement) × (length elements ≡ count) × SpellElements format elements bytes
