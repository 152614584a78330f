-- A stimulus has at most 1,000,000 blocks.
use Rattle.std.proofs.Common.{◌≡◌, ℕ, ◌+◌, ◌-◌, ◌≤◌, List, [], ◌∷◌, ◌++◌, length, Bool, true, false, cond, nat_lt, Option, Some, None, refl}
use Rattle.std.proofs.Common.{sym, ap, ◌∙◌, arith, length-append, append_assoc}
use Rattle.std.specs.Prelude.{option_and_then}
use Rattle.std.proofs.lemmas.Bool.Decides.{nat_tests}
use Rattle.stimulus.specs.declared.parse_line.Line.{Line}
use Rattle.stimulus.specs.declared.parse_line.Line.TheVariants as lines
use Rattle.stimulus.specs.declared.stimulus_item.StimulusItem.{StimulusItem}
use Rattle.stimulus.specs.declared.stimulus_item.StimulusItem.TheVariants as items
use Rattle.det_values.specs.declared.frames.CycleInput.{CycleInput}
use Rattle.stimulus.specs.Lines.{line_of}
use Rattle.stimulus.specs.Places.{Place, First, Between, Inside, Ended, Step, step, empty_block, with_sample, taken}
use Rattle.stimulus.specs.Reading.{Reading, reading, reading_from, parts, at_end, text_step, go_on, inputs_of}
use Rattle.stimulus.proofs.Going.{open_line}

pub inputs_append : (xs ys : List StimulusItem) → inputs_of (xs ++ ys) ≡ inputs_of xs ++ inputs_of ys
inputs_append [] ys = refl
inputs_append (items.Cycle input ∷ xs) ys = ap (λ l. input ∷ l) (inputs_append xs ys)
inputs_append (items.Terminate ∷ xs) ys = inputs_append xs ys

-- this many blocks may still be completed
abbrev more_blocks : Place → ℕ
more_blocks First = 1000000
more_blocks Between = 1000000
more_blocks (Inside n input) = 1000001 - n
more_blocks Ended = 0

-- no more than 1,000,000 blocks have begun
abbrev IsFew : Place → Type 0
IsFew First = Unit {0}
IsFew Between = Unit {0}
IsFew (Inside n input) = n ≤ 1000000
IsFew Ended = Unit {0}

abbrev IfFew : Place → Option Step → Type 0
IfFew p None = Unit {0}
IfFew p (Some s) = IsFew s.place × (length (inputs_of s.items) + more_blocks s.place ≤ more_blocks p)

cycle_few : (n : ℕ) (input : CycleInput) (time : Option ℕ) → n ≤ 1000000
    → IfFew (Inside n input) (taken (Inside n input) (lines.Cycle time))
cycle_few n input time h = choice (nat_lt n 1000000) refl where
  choice : (t : Bool) → nat_lt n 1000000 ≡ t
      → IfFew (Inside n input) (cond t (step (items.Cycle input ∷ []) (Inside (n + 1) (empty_block time))) None)
  choice true e = let less : n + 1 ≤ 1000000 = grind (arith, nat_tests) in (less, omega arith)
  choice false e = tt

taken_few : (p : Place) (l : Line) → IsFew p → IfFew p (taken p l)
taken_few First lines.Stim h = (tt, omega arith)
taken_few First (lines.Cycle time) h = tt
taken_few First (lines.Sample s) h = tt
taken_few First lines.Terminate h = tt
taken_few Between lines.Stim h = tt
taken_few Between (lines.Cycle time) h = (omega arith, omega arith)
taken_few Between (lines.Sample s) h = tt
taken_few Between lines.Terminate h = (tt, omega arith)
taken_few (Inside n input) lines.Stim h = tt
taken_few (Inside n input) (lines.Cycle time) h = cycle_few n input time h
taken_few (Inside n input) (lines.Sample s) h =
    elim (nat_lt (length input.samples) 4096) as (λ t. IfFew (Inside n input) (cond t (step [] (Inside n (with_sample input s))) None)) [
      | true ↦ (h, omega arith)
      | false ↦ tt
    ]
taken_few (Inside n input) lines.Terminate h = (tt, omega arith)
taken_few Ended lines.Stim h = tt
taken_few Ended (lines.Cycle time) h = tt
taken_few Ended (lines.Sample s) h = tt
taken_few Ended lines.Terminate h = tt

taken_if_few : (p : Place) (o : Option Line) → IsFew p → IfFew p (option_and_then (taken p) o)
taken_if_few p None h = tt
taken_if_few p (Some l) h = taken_few p l h

taken_at_few : (events : ℕ) (p : Place) (line : List ℕ) → IsFew p → IfFew p (text_step events p line)
taken_at_few events p line h =
    elim (nat_lt 128 (length line)) as (λ t. IfFew p (cond t None (option_and_then (taken p) (line_of events line)))) [
      | true ↦ tt
      | false ↦ taken_if_few p (line_of events line) h
    ]

go_on_few : (p : Place) (line : List ℕ) (o : Option Step) (next : Place → Reading) → IfFew p o
    → ((q : Place) → IsFew q → length (inputs_of (next q).items) ≤ more_blocks q)
    → length (inputs_of (go_on line o next).items) ≤ more_blocks p
go_on_few p line None next h all = omega arith
go_on_few p line (Some s) next (few, fits) all =
    let rest = all s.place few in
    let count : length (inputs_of (s.items ++ (next s.place).items))
    ≡ length (inputs_of s.items) + length (inputs_of (next s.place).items) =
    ap (λ (l : List CycleInput). length l) (inputs_append s.items (next s.place).items)
    ∙ length-append (inputs_of s.items) (inputs_of (next s.place).items) in
    omega arith

reading_few : (events : ℕ) (p : Place) (texts : List (List ℕ)) → IsFew p
    → length (inputs_of (reading_from events p texts).items) ≤ more_blocks p
unfolding reading_from
reading_few events p [] h = omega arith
reading_few events p (line ∷ []) h =
    let e : length (inputs_of (at_end p line).items)
    ≡ 0 = ap (λ (l : List StimulusItem). length (inputs_of l)) (open_line p line).0 in omega arith
reading_few events p (line ∷ next ∷ texts) h =
    go_on_few p line (text_step events p line) (λ q. reading_from events q (next ∷ texts)) (taken_at_few events p line h)
    (λ q k. reading_few events q (next ∷ texts) k)

pub few_blocks : (events : ℕ) (text : List ℕ) → length (inputs_of (reading events text).items) ≤ 1000000
few_blocks events text = reading_few events First (parts text) tt

pub next_few : (events : ℕ) (bytes : List ℕ) (given others : List StimulusItem) (item : StimulusItem)
    → (reading events bytes).items ≡ given ++ item
    ∷ others → length (inputs_of (given ++ item ∷ [])) ≤ 1000000
next_few events bytes given others item e =
    let few : length (inputs_of (reading events bytes).items) ≤ 1000000 = few_blocks events bytes in
    let all : inputs_of (reading events bytes).items ≡ inputs_of (given ++ item ∷ []) ++ inputs_of others =
    ap inputs_of (e ∙ sym (append_assoc given (item ∷ []) others)) ∙ inputs_append (given ++ item ∷ []) others in
    let count : length (inputs_of (reading events bytes).items) ≡ length (inputs_of (given ++ item ∷ [])) + length (inputs_of others) =
    ap (λ (l : List CycleInput). length l) all ∙ length-append (inputs_of (given ++ item ∷ [])) (inputs_of others) in
    omega arith
