-- The lines of items after others.
use Rattle.std.proofs.Common.{◌≡◌, ℕ, ◌+◌, List, [], ◌∷◌, ◌++◌, length, refl, sym, ap, ◌∙◌, arith, append_assoc, append-nil, add-zero}
use Rattle.std.proofs.Common.{zero-add, length-append}
use Rattle.std.proofs.lemmas.Grind.{flat_map-append}
use Rattle.det_values.specs.declared.format.Format.{Format}
use Rattle.det_values.specs.declared.format.Format.TheVariants.{One}
use Rattle.det_values.specs.declared.frames.Frame.{Frame}
use Rattle.det_values.specs.declared.frames.Frame.TheVariants.{Register, Discover, Init, Run, Terminate}
use Rattle.det_values.specs.Values.{ProfileValue}
use Rattle.det_io.specs.Prefix.{IsPrefix}
use Rattle.record_grammar.specs.declared.item.Item.{Item}
use Rattle.record_grammar.specs.declared.item.Item.TheVariants as items
use Rattle.record_text.specs.Records.{header_lines, frame_lines, run_lines, item_lines, record_lines}
use Rattle.record_json.specs.declared.element_layout.ElementLayout.{ElementLayout}
use Rattle.record_reader.specs.InItems.{runs_in}
use Rattle.record_reader.specs.InItems.{run_in}
use Rattle.cmd_records.specs.declared.record_show.show_form.Notation.TheVariants.{Lines}
use Rattle.cmd_records.specs.record_show.PrintedItems.{format_by, format_behind, lines_at}

-- the lines of one item

header_is : (format : Format) (runs : ℕ) (p : ProfileValue) → item_lines format runs (items.Header p ∷ []) ≡ header_lines p
unfolding item_lines
header_is format runs p = append-nil (header_lines p)

frame_is : (format : Format) (runs : ℕ) (f : Frame) → item_lines format runs (items.Frame f ∷ [])
    ≡ frame_lines format (runs + length (run_in (items.Frame f))) f
unfolding item_lines
frame_is format runs Register = append-nil (frame_lines format runs Register)
frame_is format runs Discover = append-nil (frame_lines format runs Discover)
frame_is format runs (Init elements) = append-nil (frame_lines format runs (Init elements))
frame_is format runs (Run run) = append-nil (run_lines format (runs + 1) run)
frame_is format runs Terminate = append-nil (frame_lines format runs Terminate)

pub format_one : (format : Format) (x : Item) → format_behind format (x ∷ []) ≡ format_by format x
unfolding format_behind
format_one format x = refl

-- the lines of one item and of those after it

one_then : (lines : List ℕ) (format : Format) (runs : ℕ) (more : List Item) → lines ++ item_lines format runs more ≡ (lines ++ [])
    ++ item_lines format (runs + 0) more
one_then lines format runs more = rw (append-nil, add-zero) refl

lines_cons : (format : Format) (runs : ℕ) (x : Item) (more : List Item) → item_lines format runs (x ∷ more)
    ≡ item_lines format runs (x ∷ []) ++ item_lines (format_by format x) (runs + length (run_in x)) more
unfolding item_lines
lines_cons format runs (items.Header p) more = one_then (header_lines p) p.format runs more
lines_cons format runs (items.Frame Register) more = one_then (frame_lines format runs Register) format runs more
lines_cons format runs (items.Frame Discover) more = one_then (frame_lines format runs Discover) format runs more
lines_cons format runs (items.Frame (Init elements)) more = one_then (frame_lines format runs (Init elements)) format runs more
lines_cons format runs (items.Frame (Run run)) more =
    ap (λ (lines : List ℕ). lines ++ item_lines format (runs + 1) more) (sym (append-nil (run_lines format (runs + 1) run)))
lines_cons format runs (items.Frame Terminate) more = one_then (frame_lines format runs Terminate) format runs more

lines_none : (format : Format) (runs : ℕ) (ys : List Item) → item_lines format runs ys ≡ item_lines format runs []
    ++ item_lines (format_behind format []) (runs + 0) ys
unfolding item_lines format_behind
lines_none format runs ys = ap (λ (n : ℕ). item_lines format n ys) (sym (add-zero runs))

pub format-cons : (format : Format) (x : Item) (xs : List Item) → format_behind format (x ∷ xs) ≡ format_behind (format_by format x) xs
unfolding format_behind
format-cons format x xs = refl

pub runs-cons : (n : ℕ) (x : Item) (xs : List Item) → n + length (run_in x) + length (runs_in xs) ≡ n + length (runs_in (x ∷ xs))
runs-cons n x xs = let m : length (runs_in (x ∷ xs)) ≡ length (run_in x) + length (runs_in xs) = length-append (run_in x) (runs_in xs) in
    omega arith

-- the lines of items are those of the first ones and, by the format and the runs after these, those
-- of the others
pub lines_append : (format : Format) (runs : ℕ) (xs ys : List Item)
    → item_lines format runs (xs ++ ys) ≡ item_lines format runs xs ++ item_lines (format_behind format xs) (runs + length (runs_in xs)) ys
lines_append format runs [] ys = lines_none format runs ys
lines_append format runs (x ∷ xs) ys =
    let mid : Format = format_by format x in
    let count : ℕ = runs + length (run_in x) in
    let first : List ℕ = item_lines format runs (x ∷ []) in
    lines_cons format runs x (xs ++ ys)
    ∙ ap (λ (lines : List ℕ). first ++ lines) (lines_append mid count xs ys)
    ∙ sym (append_assoc first (item_lines mid count xs) (item_lines (format_behind mid xs) (count + length (runs_in xs)) ys))
    ∙ ap (λ (lines : List ℕ). lines ++ item_lines (format_behind mid xs) (count + length (runs_in xs)) ys)
    (sym (lines_cons format runs x xs))
    ∙ ap (λ (n : ℕ). item_lines format runs (x ∷ xs) ++ item_lines (format_behind mid xs) n ys) (runs-cons runs x xs)
    ∙ ap (λ (f : Format). item_lines format runs (x ∷ xs) ++ item_lines f (runs + length (runs_in (x ∷ xs))) ys)
    (sym (format-cons format x xs))

pub behind_append : (format : Format) (xs ys : List Item) → format_behind format (xs ++ ys) ≡ format_behind (format_behind format xs) ys
unfolding format_behind
behind_append format [] ys = refl
behind_append format (x ∷ xs) ys = behind_append (format_by format x) xs ys

pub runs_append : (xs ys : List Item) → runs_in (xs ++ ys) ≡ runs_in xs ++ runs_in ys
runs_append xs ys = flat_map-append run_in xs ys

pub runs_next : (xs : List Item) (x : Item) → runs_in (xs ++ x ∷ []) ≡ runs_in xs ++ run_in x
runs_next xs x = runs_append xs (x ∷ []) ∙ ap (λ (runs : List _). runs_in xs ++ runs) (append-nil (run_in x))

-- the lines of the first items of a record come first of its lines
pub lines_first : (xs ys : List Item) → IsPrefix (record_lines xs) (record_lines (xs ++ ys))
lines_first xs ys = (_, sym (lines_append One 0 xs ys))

-- one item more
pub lines_next : (xs : List Item) (x : Item) → record_lines (xs ++ x ∷ []) ≡ record_lines xs
    ++ item_lines (format_behind One xs) (length (runs_in xs)) (x ∷ [])
lines_next xs x = lines_append One 0 xs (x ∷ []) ∙ ap (λ (n : ℕ). record_lines xs ++ item_lines (format_behind One xs) n (x ∷ []))
    (zero-add (length (runs_in xs)))

pub lines_none_yet : record_lines [] ≡ []
unfolding item_lines
lines_none_yet = refl

pub format_none_yet : format_behind One [] ≡ One
unfolding format_behind
format_none_yet = refl

-- the lines of a single item
pub item_is : (format : Format) (layout : ElementLayout) (runs : ℕ) (x : Item) → item_lines format runs (x ∷ [])
    ≡ lines_at Lines (format_by format x) layout (runs + length (run_in x)) x
item_is format layout runs (items.Header p) = header_is format runs p
item_is format layout runs (items.Frame f) = frame_is format runs f
