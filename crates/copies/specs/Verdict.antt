-- The verdict on copies of a record.
use Rattle.std.specs.Prelude.{ℕ, ◌+◌, ◌-◌, List, [], ◌∷◌, length, map, Option, Some, None, Result}
use Rattle.std.specs.Prelude.{Ok, Err, if◌then◌else◌}
use Rattle.std.specs.Option.{option_or, option_map, unwrap_or}
use Rattle.det_values.specs.contracts.profile.ProfilePartialEq.TheImpl as profile
use Rattle.record_grammar.specs.declared.item.Item.{Item}
use Rattle.record_grammar.specs.declared.item.Item.TheVariants as items
use Rattle.record_grammar.specs.contracts.item.ItemPartialEq.TheImpl as item
use Rattle.record_grammar.specs.Record.{items as items_in}
use Rattle.record_reader.specs.Salvaged.{cycles_of}
use Rattle.copies.specs.declared.difference.Difference.{Difference}
use Rattle.copies.specs.declared.difference.Difference.TheVariants as differences
use Rattle.copies.specs.declared.row.Row.{Row}
use Rattle.copies.specs.declared.row.Row.TheVariants as rows
use Rattle.copies.specs.declared.verdict.BadCopy.{BadCopy}
use Rattle.copies.specs.declared.verdict.Verdict.{Verdict}
use Rattle.copies.specs.declared.verdict.Verdict.TheVariants.{Agree, Differ}
use Rattle.copies.specs.FirstDifference.{frame_difference}
use Rattle.copies.specs.Rows.{row_at}

-- ---- one row

-- The first difference of two rows after this number of items. After equal items no record is whole
-- while another goes on, so one kind of row is enough there.
abbrev pub row_difference : ℕ → Row → Row → Option Difference
row_difference n (rows.Item (items.Frame frame)) (rows.Item (items.Frame other)) =
    frame_difference (n - 1) frame other
row_difference n (rows.Item (items.Header header)) (rows.Item (items.Header other)) =
    if profile.eq-value.it header other then None else Some differences.Header
row_difference n rows.Whole rows.Whole = None
row_difference n row other = Some (differences.Kind (n - 1))

-- the least copy, counted on from `copy`, that has a fault in its row
abbrev pub first_bad : ℕ → List Row → Option BadCopy
first_bad copy [] = None
first_bad copy (rows.Fault found ∷ more) = Some (record { copy = copy; fault = found })
first_bad copy (row ∷ more) = first_bad (copy + 1) more

-- the least copy, counted on from `copy`, whose row isn't the first one, and where it differs
abbrev pub first_other : ℕ → Row → ℕ → List Row → Option Verdict
first_other n first copy [] = None
first_other n first copy (row ∷ more) =
    option_or (option_map (Differ copy) (row_difference n first row))
    (first_other n first (copy + 1) more)

-- a fault comes before a difference; with neither of them the copies agree
abbrev pub judged : Option BadCopy → Option Verdict → ℕ → Result Verdict BadCopy
judged (Some bad) other cycles = Err bad
judged None other cycles = Ok (unwrap_or other (Agree cycles))

-- the verdict on the rows after the items with which all copies begin
abbrev pub row_verdict : List Item → List Row → Result Verdict BadCopy
row_verdict given [] = Ok (Agree 0)
row_verdict given (ours ∷ others) = judged (first_bad 0 (ours ∷ others))
    (first_other (length given) ours 1 others) (cycles_of given)

-- ---- all rows

-- the items with which both lists begin
abbrev pub shared : List Item → List Item → List Item
shared (x ∷ xs) (y ∷ ys) = if item.eq-value.it x y then x ∷ shared xs ys else []
shared xs ys = []

-- the items with which these and all copies begin
abbrev pub shared_by : List Item → List (List ℕ) → List Item
shared_by given [] = given
shared_by given (copy ∷ copies) = shared_by (shared given (items_in copy)) copies

-- The first row in which not all copies hold an equal item decides. It comes after the items with
-- which all copies begin.
abbrev pub verdict : List (List ℕ) → Result Verdict BadCopy
verdict [] = Ok (Agree 0)
verdict (first ∷ others) =
    let given = shared_by (items_in first) others in
    row_verdict given (map (row_at (length given)) (first ∷ others))
