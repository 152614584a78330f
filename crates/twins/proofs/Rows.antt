-- Frames and rows in their places.
use Rattle.std.proofs.Common.{◌≡◌, ◌<◌, ◌+◌, ℕ, zero, suc, List, [], ◌∷◌, ◌++◌, length, take, drop, map, Some, add-one}
use Rattle.std.proofs.Common.{refl, sym, ap, ◌∙◌, subst, arith, length-take}
use Rattle.std.specs.List.{slice_get}
use Rattle.std.proofs.lemmas.List.{take-append-drop}
use Rattle.std.proofs.lemmas.Option.{slice_get_within, get_or_from_slice_get}
use Rattle.std.proofs.Math.Seq.{take-suc}
use Rattle.det_io.specs.Prefix.{IsPrefix}
use Rattle.det_values.specs.declared.frames.Frame.{Frame}
use Rattle.frame_queue.specs.declared.row.Row.{Row}
use Rattle.twins.specs.TwinVerdict.{rows_from, row_at, as_read}

-- ---- an item in its place

-- the items up to one, and that one
pub take-at : {X : Type 0} (xs : List X) (k : ℕ) (x : X) → slice_get xs k ≡ Some x → take (k + 1) xs ≡ take k xs ++ x ∷ []
take-at xs k x e =
    rw add-one (take-suc xs k x (slice_get_within xs k x e) ∙ ap (λ y. take k xs ++ y ∷ []) (get_or_from_slice_get xs k x x e))

-- what comes after a list doesn't change what is in it
pub get-before : {X : Type 0} (xs ys : List X) (k : ℕ) → k < length xs → slice_get (xs ++ ys) k ≡ slice_get xs k
get-before [] ys k h = absurd (omega arith)
get-before (x ∷ xs) ys zero h = refl
get-before (x ∷ xs) ys (suc k) h = get-before xs ys k (omega arith)

-- the first item after a list
pub get-behind : {X : Type 0} (xs : List X) (y : X) (ys : List X) → slice_get (xs ++ y ∷ ys) (length xs) ≡ Some y
get-behind [] y ys = refl
get-behind (x ∷ xs) y ys = get-behind xs y ys

pub get-mapped : {X Y : Type 0} (f : X → Y) (xs : List X) (y : X) (ys : List X) (end : List Y)
    → slice_get (map f (xs ++ y ∷ ys) ++ end) (length xs) ≡ Some (f y)
get-mapped f [] y ys end = refl
get-mapped f (x ∷ xs) y ys end = get-mapped f xs y ys end

pub get-end : {X Y : Type 0} (f : X → Y) (xs : List X) (end : Y) → slice_get (map f xs ++ end ∷ []) (length xs) ≡ Some end
get-end f [] end = refl
get-end f (x ∷ xs) end = get-end f xs end

-- ---- the rows of a copy

pub rows-append : (altered : ℕ → Frame → Frame) (f : ℕ) (xs ys : List Frame)
    → rows_from altered f (xs ++ ys) ≡ rows_from altered f xs ++ rows_from altered (f + length xs) ys
rows-append altered f [] ys = let n : f ≡ f + 0 = omega arith in ap (λ k. rows_from altered k ys) n
rows-append altered f (x ∷ xs) ys =
    let n : (f + 1) + length xs ≡ f + length (x ∷ xs) = omega arith in
    ap (λ (l : List Row). record { number = f; frame = altered f x } ∷ l)
    (rows-append altered (f + 1) xs ys ∙ ap (λ k. rows_from altered (f + 1) xs ++ rows_from altered k ys) n)

-- one frame more gives one row more
pub rows-more : (altered : ℕ → Frame → Frame) (frames : List Frame) (n : ℕ) (frame : Frame) → slice_get frames n ≡ Some frame
    → rows_from altered 0 (take (n + 1) frames) ≡ rows_from altered 0 (take n frames) ++ record { number = n; frame = altered n frame } ∷ []
rows-more altered frames n frame e =
    let within = slice_get_within frames n frame e in
    let k : 0 + length (take n frames) ≡ n = omega (arith, length-take n frames, within) in
    ap (rows_from altered 0) (take-at frames n frame e)
    ∙ rows-append altered 0 (take n frames) (frame ∷ [])
    ∙ ap (λ i. rows_from altered 0 (take n frames) ++ record { number = i; frame = altered i frame } ∷ []) k

-- the rows of the first frames are the first rows
pub rows-begin : (altered : ℕ → Frame → Frame) (frames : List Frame) (n : ℕ)
    → IsPrefix (rows_from altered 0 (take n frames)) (rows_from altered 0 frames)
rows-begin altered frames n = (
  rows_from altered (0 + length (take n frames)) (drop n frames),
  sym (rows-append altered 0 (take n frames) (drop n frames)) ∙ ap (rows_from altered 0) (take-append-drop n frames),
)

pub length-rows : (altered : ℕ → Frame → Frame) (f : ℕ) (frames : List Frame) → length (rows_from altered f frames) ≡ length frames
length-rows altered f [] = refl
length-rows altered f (x ∷ xs) = ap suc (length-rows altered (f + 1) xs)

-- a row that was taken is that of the copy
pub row-of-prefix : (xs ys : List Row) (f : ℕ) → IsPrefix xs ys → f < length xs → row_at f xs ≡ row_at f ys
row-of-prefix xs ys f p h = ap as_read (sym (get-before xs p.0 f h)) ∙ ap (row_at f) p.1

-- the last of the rows taken
pub row-last : (xs : List Row) (row : Row) (n : ℕ) → length xs ≡ n → row_at n (xs ++ row ∷ []) ≡ as_read (Some row)
row-last xs row n e = subst (λ k. row_at k (xs ++ row ∷ []) ≡ as_read (Some row)) e (ap as_read (get-behind xs row []))
