-- A record that breaks off, cut after its last whole frame and completed.
use Rattle.std.specs.Prelude.{ℕ, List, [], ◌∷◌, ◌++◌, Bool, true, false, Option, Some, None, sum_by}
use Rattle.std.specs.Prelude.{length}
use Rattle.std.specs.Prelude.{if◌then◌else◌}
use Rattle.std.specs.List.{flat_map, list_any}
use Rattle.det_values.specs.declared.frames.Outcome.{Outcome}
use Rattle.det_values.specs.declared.frames.Outcome.TheVariants.{Finished, Refused}
use Rattle.det_values.specs.declared.frames.Frame.{Frame}
use Rattle.det_values.specs.declared.frames.Frame.TheVariants.{Init, Run, Terminate}
use Rattle.record_grammar.specs.declared.item.Item.{Item}
use Rattle.record_grammar.specs.declared.item.Item.TheVariants as items
use Rattle.record_grammar.specs.Record.{items as items_in}
use Rattle.record_grammar.specs.Spelling.{spelled}
use Rattle.record_reader.specs.InItems.{runs_in, spelled_by}

-- the frame of an item, but none for Terminate
abbrev pub kept : Item → List Frame
kept (items.Header p) = []
kept (items.Frame Terminate) = []
kept (items.Frame f) = f ∷ []

abbrev pub is_init : Item → Bool
is_init (items.Frame (Init elements)) = true
is_init item = false

-- what is written of the first items of a record: nothing before Init was read, and then all but
-- Terminate
abbrev pub written_items : List Item → List ℕ
written_items given = if list_any is_init given then spelled_by kept given else []

-- what is written for the bytes that were read, while more may come
abbrev pub saved_of : List ℕ → List ℕ
saved_of bytes = written_items (items_in bytes)

-- the header, the whole frames and then Terminate
abbrev pub salvaged_from : List Item → Option (List ℕ)
salvaged_from (items.Header profile ∷ rest) = if list_any is_init rest then Some
    (spelled profile (flat_map kept rest ++ Terminate ∷ [])) else None
salvaged_from other = None

-- none if Init isn't among the items
abbrev pub salvaged : List ℕ → Option (List ℕ)
salvaged bytes = salvaged_from (items_in bytes)

-- ---- what is counted

abbrev pub refusals_of : Outcome → ℕ
refusals_of (Finished elements output) = 0
refusals_of (Refused at) = 1

abbrev pub refusals_in : Item → ℕ
refusals_in (items.Frame (Run r)) = refusals_of r.outcome
refusals_in item = 0

-- the number of cycles, and of refused ones
abbrev pub cycles_of : List Item → ℕ
cycles_of items = length (runs_in items)

abbrev pub refused_of : List Item → ℕ
refused_of items = sum_by refusals_in items
