-- The majority of copies of a record, and the rows that more than half of them have in common.
use Rattle.std.specs.Prelude.{ℕ, ◌+◌, List, [], ◌∷◌, ◌++◌, length, map, Bool, ◌&&◌}
use Rattle.std.specs.Prelude.{nat_le, nat_lt, find, Option, if◌then◌else◌}
use Rattle.std.specs.List.{count_by, starts_with}
use Rattle.std.specs.Option.{is_none, unwrap_or}
use Rattle.std.specs.Cmp.Lexicographic.{pointwise}
use Rattle.record_grammar.specs.declared.item.Item.{Item}
use Rattle.record_grammar.specs.contracts.item.ItemPartialEq.TheImpl as item
use Rattle.record_grammar.specs.Record.{items as items_in, fault}
use Rattle.record_reader.specs.InItems.{frame_in, spelled_by}
use Rattle.copies.specs.Verdict.{shared}
use Rattle.cmd_records.specs.declared.voter.outcome.Dissenter.{Dissenter}

-- whether a part is more than half of all
abbrev pub is_most : (part all : ℕ) → Bool
is_most part all = nat_lt all (part + part)

-- ---- the majority

-- whether a copy is a whole record of these items
abbrev pub is_record : List Item → List ℕ → Bool
is_record given copy = is_none (fault copy) && pointwise item.eq-value.it given (items_in copy)

-- whether more than half of the copies are a whole record of these items
abbrev pub is_majority : List (List ℕ) → List Item → Bool
is_majority copies given = is_most (count_by (is_record given) copies) (length copies)

-- the items of the record that more than half of the copies are; there is at most one
abbrev pub majority : List (List ℕ) → Option (List Item)
majority copies = find (is_majority copies) (map items_in copies)

-- The copies, counted on from `copy`, that aren't the record of these items. Each has the first row
-- in which it differs, which is the one after the items with which both begin.
abbrev pub dissent : (whole : List Item) → ℕ → List (List ℕ) → List Dissenter
dissent whole copy [] = []
dissent whole copy (other ∷ others) =
    if is_record whole other then dissent whole (copy + 1) others
    else record { copy = copy; row = length (shared whole (items_in other)) }
    ∷ dissent whole (copy + 1) others

-- ---- the rows in common

-- whether more than half of the copies begin with these items
abbrev pub are_held : List (List ℕ) → List Item → Bool
are_held copies given =
    is_most (count_by (λ copy. starts_with item.eq-value.it (items_in copy) given) copies)
    (length copies)

-- `given` and the items after it, as far as more than half of the copies begin with them
abbrev pub held : List (List ℕ) → (given behind : List Item) → List Item
held copies given [] = given
held copies given (next ∷ behind) = if are_held copies (given ++ next ∷ []) then
    held copies (given ++ next ∷ []) behind else given

-- the longest of several lists
abbrev pub longest : List (List Item) → List Item
longest [] = []
longest (first ∷ others) =
    if nat_le (length (longest others)) (length first) then first else longest others

-- the longest list of items with which more than half of the copies begin
abbrev pub common : List (List ℕ) → List Item
common copies = longest (map (λ copy. held copies [] (items_in copy)) copies)

-- ---- what is written

-- the bytes of the first items of a record
abbrev pub spelled_items : List Item → List ℕ
spelled_items xs = spelled_by frame_in xs

-- the majority's record, or else the rows that more than half of the copies have in common
abbrev pub voted_items : List (List ℕ) → List Item
voted_items copies = unwrap_or (majority copies) (common copies)

abbrev pub voted : List (List ℕ) → List ℕ
voted copies = spelled_items (voted_items copies)
