-- The lines of items in JSON after others.
use Rattle.std.proofs.Common.{◌≡◌, ℕ, ◌+◌, List, [], ◌∷◌, ◌++◌, length, refl, sym, ap, ◌∙◌, append_assoc, append-nil, add-zero, zero-add}
use Rattle.det_values.specs.declared.format.Format.{Format}
use Rattle.det_values.specs.declared.format.Format.TheVariants.{One}
use Rattle.det_values.specs.declared.frames.Frame.{Frame}
use Rattle.det_values.specs.declared.frames.Frame.TheVariants.{Register, Discover, Init, Run, Terminate}
use Rattle.det_values.specs.Values.{ProfileValue}
use Rattle.det_io.specs.Prefix.{IsPrefix}
use Rattle.record_grammar.specs.declared.item.Item.{Item}
use Rattle.record_grammar.specs.declared.item.Item.TheVariants as items
use Rattle.record_json.specs.declared.element_layout.ElementLayout.{ElementLayout}
use Rattle.record_json.specs.declared.element_layout.ElementLayout.TheVariants.{Unknown}
use Rattle.record_json.specs.Elements.{layout_of}
use Rattle.record_json.specs.Records.{header_line, frame_line, run_line, lines_behind, json_lines}
use Rattle.record_reader.specs.InItems.{run_in, runs_in}
use Rattle.cmd_records.specs.declared.record_show.show_form.Notation.TheVariants.{Json}
use Rattle.cmd_records.specs.record_show.PrintedItems.{format_by, format_behind, layout_by, layout_behind, lines_at}
use Rattle.cmd_records.proofs.lemmas.record_show.Lines.{format-cons, runs-cons}

pub layout-one : (layout : ElementLayout) (x : Item) → layout_behind layout (x ∷ []) ≡ layout_by layout x
unfolding layout_behind
layout-one layout x = refl

pub layouts-append : (layout : ElementLayout) (xs ys : List Item)
    → layout_behind layout (xs ++ ys) ≡ layout_behind (layout_behind layout xs) ys
unfolding layout_behind
layouts-append layout [] ys = refl
layouts-append layout (x ∷ xs) ys = layouts-append (layout_by layout x) xs ys

pub layout-none-yet : layout_behind Unknown [] ≡ Unknown
unfolding layout_behind
layout-none-yet = refl

layout-cons : (layout : ElementLayout) (x : Item) (xs : List Item)
    → layout_behind layout (x ∷ xs) ≡ layout_behind (layout_by layout x) xs
unfolding layout_behind
layout-cons layout x xs = refl

-- ---- the line of one item

header-is : (format : Format) (layout : ElementLayout) (runs : ℕ) (p : ProfileValue)
    → lines_behind format layout runs (items.Header p ∷ []) ≡ header_line p
unfolding lines_behind
header-is format layout runs p = append-nil (header_line p)

frame-is : (format : Format) (layout : ElementLayout) (runs : ℕ) (f : Frame) → lines_behind format layout runs (items.Frame f ∷ [])
    ≡ frame_line format layout (runs + length (run_in (items.Frame f))) f
unfolding lines_behind
frame-is format layout runs Register = append-nil (frame_line format layout runs Register)
frame-is format layout runs Discover = append-nil (frame_line format layout runs Discover)
frame-is format layout runs (Init elements) = append-nil (frame_line format layout runs (Init elements))
frame-is format layout runs (Run run) = append-nil (run_line format layout (runs + 1) run)
frame-is format layout runs Terminate = append-nil (frame_line format layout runs Terminate)

pub json-item-is : (format : Format) (layout : ElementLayout) (runs : ℕ) (x : Item)
    → lines_behind format layout runs (x ∷ []) ≡ lines_at Json (format_by format x) (layout_by layout x) (runs + length (run_in x)) x
json-item-is format layout runs (items.Header p) = header-is format layout runs p
json-item-is format layout runs (items.Frame f) = frame-is format layout runs f

-- ---- the lines of one item and of those after it

one-then : (line : List ℕ) (format : Format) (layout : ElementLayout) (runs : ℕ) (more : List Item)
    → line ++ lines_behind format layout runs more ≡ (line ++ []) ++ lines_behind format layout (runs + 0) more
one-then line format layout runs more = rw (append-nil, add-zero) refl

lines-cons : (format : Format) (layout : ElementLayout) (runs : ℕ) (x : Item) (more : List Item)
    → lines_behind format layout runs (x ∷ more)
    ≡ lines_behind format layout runs (x ∷ []) ++ lines_behind (format_by format x) (layout_by layout x) (runs + length (run_in x)) more
unfolding lines_behind
lines-cons format layout runs (items.Header p) more = one-then (header_line p) p.format (layout_of p) runs more
lines-cons format layout runs (items.Frame Register) more = one-then (frame_line format layout runs Register) format layout runs more
lines-cons format layout runs (items.Frame Discover) more = one-then (frame_line format layout runs Discover) format layout runs more
lines-cons format layout runs (items.Frame (Init elements)) more =
    one-then (frame_line format layout runs (Init elements)) format layout runs more
lines-cons format layout runs (items.Frame (Run run)) more =
    ap (λ (line : List ℕ). line ++ lines_behind format layout (runs + 1) more) (sym (append-nil (run_line format layout (runs + 1) run)))
lines-cons format layout runs (items.Frame Terminate) more = one-then (frame_line format layout runs Terminate) format layout runs more

lines-none : (format : Format) (layout : ElementLayout) (runs : ℕ) (ys : List Item) → lines_behind format layout runs ys
    ≡ lines_behind format layout runs [] ++ lines_behind (format_behind format []) (layout_behind layout []) (runs + 0) ys
unfolding lines_behind format_behind layout_behind
lines-none format layout runs ys = ap (λ (n : ℕ). lines_behind format layout n ys) (sym (add-zero runs))

-- the lines of items are those of the first ones and, by the format, the layout and the runs after these, those of the others
lines-append : (format : Format) (layout : ElementLayout) (runs : ℕ) (xs ys : List Item)
    → lines_behind format layout runs (xs ++ ys) ≡ lines_behind format layout runs xs
    ++ lines_behind (format_behind format xs) (layout_behind layout xs) (runs + length (runs_in xs)) ys
lines-append format layout runs [] ys = lines-none format layout runs ys
lines-append format layout runs (x ∷ xs) ys =
    let f : Format = format_by format x in
    let l : ElementLayout = layout_by layout x in
    let n : ℕ = runs + length (run_in x) in
    let first : List ℕ = lines_behind format layout runs (x ∷ []) in
    let others : List ℕ = lines_behind (format_behind f xs) (layout_behind l xs) (n + length (runs_in xs)) ys in
    lines-cons format layout runs x (xs ++ ys)
    ∙ ap (λ (lines : List ℕ). first ++ lines) (lines-append f l n xs ys)
    ∙ sym (append_assoc first (lines_behind f l n xs) others)
    ∙ ap (λ (lines : List ℕ). lines ++ others) (sym (lines-cons format layout runs x xs))
    ∙ ap (λ (m : ℕ). lines_behind format layout runs (x ∷ xs) ++ lines_behind (format_behind f xs) (layout_behind l xs) m ys)
    (runs-cons runs x xs)
    ∙ ap (λ (g : Format). lines_behind format layout runs (x ∷ xs)
    ++ lines_behind g (layout_behind l xs) (runs + length (runs_in (x ∷ xs))) ys) (sym (format-cons format x xs))
    ∙ ap (λ (k : ElementLayout). lines_behind format layout runs (x ∷ xs)
    ++ lines_behind (format_behind format (x ∷ xs)) k (runs + length (runs_in (x ∷ xs))) ys) (sym (layout-cons layout x xs))

-- the lines of the first items of a record come first of its lines
pub json-first : (xs ys : List Item) → IsPrefix (json_lines xs) (json_lines (xs ++ ys))
json-first xs ys = (_, sym (lines-append One Unknown 0 xs ys))

-- one item more
pub json-next : (xs : List Item) (x : Item) → json_lines (xs ++ x ∷ []) ≡ json_lines xs
    ++ lines_behind (format_behind One xs) (layout_behind Unknown xs) (length (runs_in xs)) (x ∷ [])
json-next xs x =
    lines-append One Unknown 0 xs (x ∷ [])
    ∙ ap (λ (n : ℕ). json_lines xs ++ lines_behind (format_behind One xs) (layout_behind Unknown xs) n (x ∷ []))
    (zero-add (length (runs_in xs)))

pub json-none-yet : json_lines [] ≡ []
unfolding lines_behind
json-none-yet = refl
