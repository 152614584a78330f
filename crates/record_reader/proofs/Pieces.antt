-- Items of a record, spelled again and written once Init was read.
use Rattle.std.proofs.Common.{◌≡◌, ◌≤◌, ◌<◌, ℕ, ◌+◌, Bool, true, false, cond, ◌||◌, List, [], ◌∷◌, ◌++◌, length, refl, sym}
use Rattle.std.proofs.Common.{ap, ◌∙◌, append_assoc, append-nil, length-append, add-zero, arith}
use Rattle.std.specs.Prelude.{sum_by}
use Rattle.std.specs.List.{flat_map, list_any}
use Rattle.std.proofs.lemmas.Grind.{flat_map-append}
use Rattle.std.proofs.lemmas.List.Sums.{sum_by-append, sum_by-cons}
use Rattle.std.proofs.lemmas.List.Folds.{list_any-append}
use Rattle.det_values.specs.declared.format.Format.{Format}
use Rattle.det_values.specs.declared.frames.Outcome.{Outcome}
use Rattle.det_values.specs.declared.frames.Outcome.TheVariants.{Finished, Refused}
use Rattle.det_values.specs.declared.frames.Frame.{Frame}
use Rattle.det_values.specs.declared.frames.Frame.TheVariants.{Register, Discover, Init, Run, Terminate}
use Rattle.det_values.specs.declared.frames.RunFrame.{RunFrame}
use Rattle.det_values.specs.Values.{ProfileValue}
use Rattle.record_grammar.specs.declared.item.Item.{Item}
use Rattle.record_grammar.specs.declared.item.Item.TheVariants as items
use Rattle.record_grammar.specs.Spelling.{spelled, spelled_header, spelled_frame}
use Rattle.record_reader.specs.Salvaged.{kept, is_init, refusals_of, refusals_in, cycles_of, refused_of}
use Rattle.record_reader.specs.Salvaged.{written_items}
use Rattle.record_reader.specs.InItems.{run_in, runs_in, spelled_by}
use Rattle.record_reader.specs.SalvageState.{spelled_unless_last, piece_of, format_after, IsHeaded}
use Rattle.record_reader.specs.ItemTaker.{AreFirst}
use Rattle.record_reader.proofs.Items.{NextIs, few_first}

kept_is : (format : Format) (f : Frame) → flat_map (spelled_frame format) (kept (items.Frame f) ++ []) ≡ spelled_unless_last format f
kept_is format Register = append-nil (spelled_frame format Register)
kept_is format Discover = append-nil (spelled_frame format Discover)
kept_is format (Init elements) = append-nil (spelled_frame format (Init elements))
kept_is format (Run r) = append-nil (spelled_frame format (Run r))
kept_is format Terminate = refl

-- the frames of items after others are spelled after theirs
pub spelled_append : (frames : Item → List Frame) (p : ProfileValue) (xs ys : List Item) → spelled p (flat_map frames (xs ++ ys))
    ≡ spelled p (flat_map frames xs) ++ flat_map (spelled_frame p.format) (flat_map frames ys)
spelled_append frames p xs ys =
    let one : flat_map frames (xs ++ ys) ≡ flat_map frames xs ++ flat_map frames ys = flat_map-append frames xs ys in
    let two : flat_map (spelled_frame p.format) (flat_map frames xs ++ flat_map frames ys)
    ≡ flat_map (spelled_frame p.format) (flat_map frames xs) ++ flat_map (spelled_frame p.format) (flat_map frames ys) =
    flat_map-append (spelled_frame p.format) (flat_map frames xs) (flat_map frames ys) in
    ap (λ (fs : List Frame). spelled_header p ++ flat_map (spelled_frame p.format) fs) one
    ∙ ap (λ (bytes : List ℕ). spelled_header p ++ bytes) two
    ∙ sym (append_assoc (spelled_header p) (flat_map (spelled_frame p.format) (flat_map frames xs))
    (flat_map (spelled_frame p.format) (flat_map frames ys)))

-- one item more is spelled after the others
pub spelled-next : (given : List Item) (x : Item) → NextIs given x → spelled_by kept (given ++ x ∷ []) ≡ spelled_by kept given
    ++ piece_of (format_after given) x
spelled-next [] (items.Header p) h = append-nil (spelled_header p)
spelled-next [] (items.Frame f) h = absurd h
spelled-next (items.Header p ∷ xs) (items.Header q) h = absurd h
spelled-next (items.Header p ∷ xs) (items.Frame f) h =
    spelled_append kept p xs (items.Frame f ∷ []) ∙ ap (λ (bytes : List ℕ). spelled p (flat_map kept xs) ++ bytes) (kept_is p.format f)
spelled-next (items.Frame f ∷ xs) x h = absurd h

pub headed-next : (given : List Item) (x : Item) → NextIs given x → IsHeaded (given ++ x ∷ [])
headed-next [] (items.Header p) h = tt
headed-next [] (items.Frame f) h = absurd h
headed-next (items.Header p ∷ xs) x h = tt
headed-next (items.Frame f ∷ xs) x h = absurd h

-- ---- what is written

-- what an item adds to what is written: nothing, or all that was kept and its piece
abbrev pub more_of : Bool → List ℕ → List ℕ
more_of true bytes = bytes
more_of false bytes = []

or_swap : (a b : Bool) → (a || b) ≡ (b || (a || false))
or_swap true true = refl
or_swap true false = refl
or_swap false true = refl
or_swap false false = refl

pub begun-next : (given : List Item) (x : Item) → list_any is_init (given ++ x ∷ []) ≡ (is_init x || list_any is_init given)
begun-next given x = list_any-append is_init given (x ∷ []) ∙ sym (or_swap (is_init x) (list_any is_init given))

written_by : Bool → List Item → List ℕ
written_by begun given = cond begun (spelled_by kept given) []

none_before : (x given : Bool) → (x || given) ≡ false → given ≡ false
none_before true given e = absurd cc
none_before false given e = e

-- what is written of one item more is what was, and what it adds
pub written-next : (given : List Item) (x : Item) (out : List ℕ) → NextIs given x → written_items given ++ out ≡ spelled_by kept given
    → written_items (given ++ x ∷ []) ≡ written_items given
    ++ more_of (is_init x || list_any is_init given) (out ++ piece_of (format_after given) x)
written-next given x out h all = by (is_init x || list_any is_init given) refl
  where
    begun : list_any is_init (given ++ x ∷ []) ≡ (is_init x || list_any is_init given)
    begun = begun-next given x

    by : (b : Bool) → (is_init x || list_any is_init given) ≡ b → written_items (given ++ x ∷ []) ≡ written_items given
        ++ more_of b (out ++ piece_of (format_after given) x)
    by true e = ap (λ (b : Bool). cond b (spelled_by kept (given ++ x ∷ [])) []) (begun ∙ e) ∙ spelled-next given x h
        ∙ ap (λ (bytes : List ℕ). bytes ++ piece_of (format_after given) x) (sym all)
        ∙ append_assoc (written_items given) out (piece_of (format_after given) x)
    by false e = ap (λ (b : Bool). cond b (spelled_by kept (given ++ x ∷ [])) []) (begun ∙ e)
        ∙ sym (append-nil (written_items given) ∙ ap (λ (b : Bool). cond b (spelled_by kept given) [])
        (none_before (is_init x) (list_any is_init given) e))

-- what is written and what is kept of one item more is all that is spelled
pub all-next : (given : List Item) (x : Item) (out : List ℕ) (new : List ℕ) → NextIs given x → written_items given ++ out
    ≡ spelled_by kept given
    → more_of (is_init x || list_any is_init given) (out ++ piece_of (format_after given) x) ++ new ≡ out
    ++ piece_of (format_after given) x
    → written_items (given ++ x ∷ []) ++ new ≡ spelled_by kept (given ++ x ∷ [])
all-next given x out new h all split =
    let more = more_of (is_init x || list_any is_init given) (out ++ piece_of (format_after given) x) in
    ap (λ (bytes : List ℕ). bytes ++ new) (written-next given x out h all) ∙ append_assoc (written_items given) more new
    ∙ ap (λ (bytes : List ℕ). written_items given ++ bytes) split
    ∙ sym (append_assoc (written_items given) out (piece_of (format_after given) x))
    ∙ ap (λ (bytes : List ℕ). bytes ++ piece_of (format_after given) x) all ∙ sym (spelled-next given x h)

-- ---- counts

pub sum-next : (f : Item → ℕ) (xs : List Item) (x : Item) → sum_by f (xs ++ x ∷ []) ≡ sum_by f xs + f x
sum-next f xs x = sum_by-append f xs (x ∷ []) ∙ ap (λ (n : ℕ). sum_by f xs + n) (sum_by-cons f x [] ∙ add-zero (f x))

-- one cycle more for a run
pub cycles-next : (xs : List Item) (x : Item) → cycles_of (xs ++ x ∷ []) ≡ cycles_of xs + length (run_in x)
cycles-next xs x = ap length (flat_map-append run_in xs (x ∷ []) ∙ ap (λ (more : List RunFrame). runs_in xs
    ++ more) (append-nil (run_in x)))
    ∙ length-append (runs_in xs) (run_in x)

runs_few : (x : Item) → length (run_in x) ≤ 1
runs_few (items.Header p) = omega arith
runs_few (items.Frame Register) = omega arith
runs_few (items.Frame Discover) = omega arith
runs_few (items.Frame (Init elements)) = omega arith
runs_few (items.Frame (Run r)) = omega arith
runs_few (items.Frame Terminate) = omega arith

refusals_one : (o : Outcome) → refusals_of o ≤ 1
refusals_one (Finished elements output) = omega arith
refusals_one (Refused at) = omega arith

refusals_few : (x : Item) → refusals_in x ≤ length (run_in x)
refusals_few (items.Header p) = omega arith
refusals_few (items.Frame Register) = omega arith
refusals_few (items.Frame Discover) = omega arith
refusals_few (items.Frame (Init elements)) = omega arith
refusals_few (items.Frame (Run r)) = refusals_one r.outcome
refusals_few (items.Frame Terminate) = omega arith

-- there are no more cycles than items
pub cycles-few : (xs : List Item) → cycles_of xs ≤ length xs
cycles-few [] = omega arith
cycles-few (x ∷ xs) = let n = length-append (run_in x) (runs_in xs) in let one = runs_few x in let others = cycles-few xs in
    omega (arith, n, one, others)

-- no more are refused than there are
pub refused-few : (xs : List Item) → refused_of xs ≤ cycles_of xs
refused-few [] = omega arith
refused-few (x ∷ xs) =
    let n = length-append (run_in x) (runs_in xs) in let m = sum_by-cons refusals_in x xs in
    let one = refusals_few x in let others = refused-few xs in omega (arith, n, m, one, others)

-- so there is room to count one more
pub cycles-room : (given : List Item) (x : Item) → AreFirst (given ++ x ∷ []) → cycles_of given < 4294967295
cycles-room given x first =
    let few = few_first (given ++ x ∷ []) first in let all = length-append given (x ∷ []) in let cycles = cycles-few given in
    omega (arith, few, all, cycles)
