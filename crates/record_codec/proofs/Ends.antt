-- What comes before and after the elements of a finished run.
use Rattle.std.proofs.Common.{◌≡◌, ℕ, List, ◌∷◌, ◌++◌, length, take, drop, sym, ap, ◌∙◌, append_assoc}
use Rattle.std.proofs.Math.Seq.{take-append_seam, drop-append_seam}
use Rattle.det_values.specs.Spelling.{spelled_all, spelled_u32}
use Rattle.det_values.specs.declared.format.Format.TheVariants.{Two}
use Rattle.det_values.specs.declared.frames.CycleInput.{CycleInput}
use Rattle.det_values.specs.declared.frames.DrawnElement.{DrawnElement}
use Rattle.record_grammar.specs.Spelling.{spelled_input, spelled_frame}
use Rattle.record_codec.specs.FinishedRun.{finished_run}

-- bytes put in at the end of a first part
put-between : (front back middle : List ℕ) → take (length front) (front ++ back) ++ (middle ++ drop (length front) (front ++ back))
    ≡ front ++ (middle ++ back)
put-between front back middle =
    ap (λ (xs : List ℕ). xs ++ (middle ++ drop (length front) (front ++ back))) (take-append_seam front back)
    ∙ ap (λ (xs : List ℕ). front ++ (middle ++ xs)) (drop-append_seam front back)

abbrev head : CycleInput → ℕ → List ℕ
head input count = 4 ∷ (spelled_input input ++ 0 ∷ spelled_u32 count)

abbrev tail : List ℕ → List ℕ
tail output = spelled_u32 (length output) ++ output

-- a frame is its head, its elements and its tail
in-parts : (input : CycleInput) (elements : List DrawnElement) (output : List ℕ)
    → head input (length elements) ++ (spelled_all elements ++ tail output) ≡ spelled_frame Two (finished_run input elements output)
unfolding spelled_frame
in-parts input elements output = ap (λ (xs : List ℕ). 4 ∷ xs)
    (append_assoc (spelled_input input) (0 ∷ spelled_u32 (length elements)) (spelled_all elements ++ tail output))

pub ends-around : (input : CycleInput) (elements : List DrawnElement) (output old mid new : List ℕ) (count at : ℕ)
    → mid ≡ old ++ head input count → at ≡ length mid → new ≡ mid ++ tail output → length elements ≡ count
    → take at new ++ (spelled_all elements ++ drop at new) ≡ old ++ spelled_frame Two (finished_run input elements output)
ends-around input elements output old mid new count at first place last many =
    ap (λ (n : ℕ). take n new ++ (spelled_all elements ++ drop n new)) place
    ∙ ap (λ (xs : List ℕ). take (length mid) xs ++ (spelled_all elements ++ drop (length mid) xs)) last
    ∙ put-between mid (tail output) (spelled_all elements)
    ∙ ap (λ (xs : List ℕ). xs ++ (spelled_all elements ++ tail output)) first
    ∙ append_assoc old (head input count) (spelled_all elements ++ tail output)
    ∙ ap (λ (n : ℕ). old ++ (head input n ++ (spelled_all elements ++ tail output))) (sym many)
    ∙ ap (λ (xs : List ℕ). old ++ xs) (in-parts input elements output)
