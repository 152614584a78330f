-- Copies have no row that parts them exactly where all have the frames of copy 0.
use Rattle.std.proofs.Common.{◌≡◌, ◌<◌, ◌≤◌, ◌+◌, ℕ, zero, suc, List, [], ◌∷◌, length, map, get_or, Option, Some, None}
use Rattle.std.proofs.Common.{refl, sym, ap, ◌∙◌, arith, eqb, true, false, inl, inr, ◌⊎◌, ◌≢◌}
use Rattle.std.proofs.lemmas.Bool.Decides.{eqb_tells}
use Rattle.std.specs.Option.{option_or, option_map}
use Rattle.std.specs.List.{AllByRecursion}
use Rattle.std.proofs.lemmas.Option.{slice_get-get_or}
use Rattle.det_values.specs.declared.frames.Frame.{Frame}
use Rattle.record_grammar.specs.declared.item.Item.TheVariants as items
use Rattle.frame_queue.specs.declared.row.Row.{Row}
use Rattle.copies.specs.declared.row.Row.TheVariants as reads
use Rattle.copies.specs.declared.verdict.Verdict.{Verdict}
use Rattle.copies.specs.declared.verdict.Verdict.TheVariants.{Differ}
use Rattle.copies.specs.Verdict.{row_difference, first_other}
use Rattle.copies.proofs.Judging.{item-apart, none-other}
use Rattle.twins.specs.Laws.{frames_in}
use Rattle.twins.specs.TwinVerdict.{as_read, row_at, row_verdict, first_verdict}
use Rattle.twins.proofs.Verdicts.{first-none}

-- ---- one row

-- a row within a copy is a frame
within-is : (f : ℕ) (rows : List Row) (d : Row) → f < length rows → row_at f rows ≡ as_read (Some (get_or rows f d))
within-is f rows d h = ap as_read (slice_get-get_or rows f d h)

-- a row has no difference exactly where it is the same
apart : (n f : ℕ) (ours rows : List Row) → f < length ours
    → (row_difference n (row_at f ours) (row_at f rows) ≡ None → row_at f ours ≡ row_at f rows)
    × (row_at f ours ≡ row_at f rows → row_difference n (row_at f ours) (row_at f rows) ≡ None)
apart n f [] rows h = absurd (omega arith)
apart n f (o ∷ ours) rows h =
    let at : row_at f (o ∷ ours) ≡ reads.Item (items.Frame (get_or (o ∷ ours) f o).frame) = within-is f (o ∷ ours) o h in
    rw at (item-apart n (items.Frame (get_or (o ∷ ours) f o).frame) (row_at f rows))

-- where no other row differs, each is the same
same-at : (f : ℕ) (ours : List Row) (others : List (List Row)) → f < length ours → row_verdict f (ours ∷ others) ≡ None
    → AllByRecursion (λ rows. row_at f rows ≡ row_at f ours) others
same-at f ours others h e = each others (none-other (f + 1) (row_at f ours) 1 (map (row_at f) others) e)
  where
    each : (all : List (List Row)) → AllByRecursion (λ r. row_difference (f + 1) (row_at f ours) r ≡ None) (map (row_at f) all)
        → AllByRecursion (λ rows. row_at f rows ≡ row_at f ours) all
    each [] p = tt
    each (rows ∷ all) p = (sym ((apart (f + 1) f ours rows h).0 p.0), each all p.1)

none-at : (f copy : ℕ) (ours : List Row) (others : List (List Row)) → f < length ours
    → AllByRecursion (λ rows. row_at f rows ≡ row_at f ours) others
    → first_other (f + 1) (row_at f ours) copy (map (row_at f) others) ≡ None
none-at f copy ours [] h p = refl
none-at f copy ours (rows ∷ others) h p =
    ap (λ o. option_or (option_map (Differ copy) o) (first_other (f + 1) (row_at f ours) (copy + 1) (map (row_at f) others)))
    ((apart (f + 1) f ours rows h).1 (sym p.0)) ∙ none-at f (copy + 1) ours others h p.1

-- ---- all rows

-- two copies with as many rows, each of them the same
same-frames : (ours rows : List Row) → length rows ≡ length ours → ((f : ℕ) → f < length ours → row_at f rows ≡ row_at f ours)
    → frames_in rows ≡ frames_in ours
same-frames [] [] n same = refl
same-frames [] (r ∷ rows) n same = absurd (omega arith)
same-frames (o ∷ ours) [] n same = absurd (omega arith)
same-frames (o ∷ ours) (r ∷ rows) n same =
    let e = same 0 (omega arith) in
    let first : r.frame ≡ o.frame = cc in
    ap (λ x. x ∷ frames_in rows) first
    ∙ ap (λ xs. o.frame ∷ xs) (same-frames ours rows (omega arith) (λ f h. same (suc f) (omega arith)))

same-rows : (ours rows : List Row) → frames_in rows ≡ frames_in ours → (f : ℕ) → row_at f rows ≡ row_at f ours
same-rows [] [] e f = refl
same-rows [] (r ∷ rows) e f = absurd cc
same-rows (o ∷ ours) [] e f = absurd cc
same-rows (o ∷ ours) (r ∷ rows) e zero = let first : r.frame ≡ o.frame = cc in ap (λ (x : Frame). reads.Item (items.Frame x)) first
same-rows (o ∷ ours) (r ∷ rows) e (suc f) = same-rows ours rows (let rest : frames_in rows ≡ frames_in ours = cc in rest) f

-- in this number of rows no copy differs
none-each : (f more : ℕ) (copies : List (List Row)) → first_verdict f more copies ≡ None → (g : ℕ) → f ≤ g → g < f + more
    → row_verdict g copies ≡ None
none-each f zero copies e g low high = absurd (omega arith)
none-each f (suc more) copies e g low high = by (part (row_verdict f copies) (first_verdict (f + 1) more copies) e) (eqb_tells f g)
    (λ rest above. none-each (f + 1) more copies rest g above (omega arith))
  where
    part : (o rest : Option Verdict) → option_or o rest ≡ None → (o ≡ None) × (rest ≡ None)
    part None rest e = (refl, e)
    part (Some v) rest e = absurd cc

    by : (row_verdict f copies ≡ None) × (first_verdict (f + 1) more copies ≡ None)
        → ((eqb f g ≡ true) × (f ≡ g)) ⊎ ((eqb f g ≡ false) × (f ≢ g))
        → (first_verdict (f + 1) more copies ≡ None → f + 1 ≤ g → row_verdict g copies ≡ None) → row_verdict g copies ≡ None
    by p (inl e) later = ap (λ k. row_verdict k copies) (sym e.1) ∙ p.0
    by p (inr e) later = let ne = e.1 in later p.1 (omega arith)

pub agree-then : (ours : List Row) (others : List (List Row)) → AllByRecursion (λ rows. length rows ≡ length ours) others
    → first_verdict 0 (length ours) (ours ∷ others) ≡ None → AllByRecursion (λ rows. frames_in rows ≡ frames_in ours) others
agree-then ours others long e =
    each others long (λ f h. same-at f ours others h (none-each 0 (length ours) (ours ∷ others) e f (omega arith) (omega arith)))
  where
    each : (all : List (List Row)) → AllByRecursion (λ rows. length rows ≡ length ours) all
        → ((f : ℕ) → f < length ours → AllByRecursion (λ rows. row_at f rows ≡ row_at f ours) all)
        → AllByRecursion (λ rows. frames_in rows ≡ frames_in ours) all
    each [] n same = tt
    each (rows ∷ all) n same = (same-frames ours rows n.0 (λ f h. (same f h).0), each all n.1 (λ f h. (same f h).1))

pub agree-where : (ours : List Row) (others : List (List Row)) → AllByRecursion (λ rows. frames_in rows ≡ frames_in ours) others
    → first_verdict 0 (length ours) (ours ∷ others) ≡ None
agree-where ours others same =
    first-none 0 (length ours) (ours ∷ others) (λ f low high. none-at f 1 ours others (omega (arith, high)) (each f others same))
  where
    each : (f : ℕ) (all : List (List Row)) → AllByRecursion (λ rows. frames_in rows ≡ frames_in ours) all
        → AllByRecursion (λ rows. row_at f rows ≡ row_at f ours) all
    each f [] p = tt
    each f (rows ∷ all) p = (same-rows ours rows p.0 f, each f all p.1)
