-- What the views of a frame's parts say of its lines.
use Rattle.std.proofs.Common.{◌≡◌, ℕ, ◌+◌, List, [], ◌∷◌, ◌++◌, length, map, Option, refl, sym, ap, ◌∙◌}
use Rattle.std.proofs.Common.{append_assoc}
use Rattle.std.proofs.lemmas.List.{length-map}
use Rattle.std.specs.Prelude.{codes}
use Rattle.std.specs.List.{flat_map}
use Rattle.det_values.specs.Values.{SampleValue}
use Rattle.det_values.specs.declared.format.Format.{Format}
use Rattle.det_values.specs.declared.format.Format.TheVariants.{One}
use Rattle.det_values.specs.declared.frames.DrawnElement.{DrawnElement}
use Rattle.det_values.specs.declared.frames.Outcome.{Outcome}
use Rattle.det_values.specs.declared.frames.Outcome.TheVariants.{Finished, Refused}
use Rattle.det_values.specs.declared.frames.RunFrame.{RunFrame}
use Rattle.record_view.specs.Parts.{undrawn, ElementsOf, OutputOf}
use Rattle.record_text.specs.Words.{number_line, numbered_texts}
use Rattle.record_text.specs.Records.{element_line, drawn_line, run_line, sample_line, output_line, outcome_lines, run_lines}

three : (old x y z a b new : List ℕ) → a ≡ old ++ x → b ≡ a ++ y → new ≡ b ++ z → new ≡ old ++ (x ++ (y ++ z))
three old x y z a b new ea eb en =
    en ∙ ap (λ (l : List ℕ). l ++ z) (eb ∙ ap (λ (l : List ℕ). l ++ y) ea) ∙ append_assoc (old ++ x) y z ∙ append_assoc old x (y ++ z)

-- ---- Init

-- elements of Init have the lines of elements of format 1
undrawn_lines : (i : ℕ) (es : List (List ℕ)) → numbered_texts (drawn_line One) i (map undrawn es) ≡ numbered_texts element_line i es
unfolding numbered_texts
undrawn_lines i [] = refl
undrawn_lines i (e ∷ es) = ap (λ (more : List ℕ). element_line i e ++ more) (undrawn_lines (i + 1) es)

pub init_put : (es : List DrawnElement) (elements : List (List ℕ)) (count : ℕ) (old mid new : List ℕ) → es ≡ map undrawn elements
    → length es ≡ count → mid ≡ old ++ number_line (codes "init") count → new ≡ mid ++ numbered_texts (drawn_line One) 0 es
    → new ≡ old ++ (number_line (codes "init") (length elements) ++ numbered_texts element_line 0 elements)
init_put es elements count old mid new is counted first then =
    let all : count ≡ length elements = sym counted ∙ ap length is ∙ length-map elements undrawn in
    then ∙ ap (λ (l : List ℕ). l ++ numbered_texts (drawn_line One) 0 es) (first ∙ ap (λ (n : ℕ). old ++ number_line (codes "init") n) all)
    ∙ append_assoc old (number_line (codes "init") (length elements)) (numbered_texts (drawn_line One) 0 es)
    ∙ ap (λ (l : List ℕ). old ++ (number_line (codes "init") (length elements) ++ l))
    (ap (numbered_texts (drawn_line One) 0) is ∙ undrawn_lines 0 elements)

-- ---- Run

pub finished_put : (format : Format) (outcome : Outcome) (count : ℕ) (es : List DrawnElement) (bytes old a b new : List ℕ)
    → ElementsOf es outcome → OutputOf bytes outcome → length es ≡ count → a ≡ old ++ number_line (codes "finished") count
    → b ≡ a ++ numbered_texts (drawn_line format) 0 es → new ≡ b ++ output_line bytes → new ≡ old ++ outcome_lines format outcome
finished_put format (Finished elements output) count es bytes old a b new is out counted ea eb en =
    three old (number_line (codes "finished") count) (numbered_texts (drawn_line format) 0 es) (output_line bytes) a b new ea eb en
    ∙ ap (λ (n : ℕ). old ++ (number_line (codes "finished") n ++ (numbered_texts (drawn_line format) 0 es ++ output_line bytes)))
    (sym counted ∙ ap length is)
    ∙ ap (λ (xs : List DrawnElement). old ++ (number_line (codes "finished") (length elements)
    ++ (numbered_texts (drawn_line format) 0 xs ++ output_line bytes))) is
    ∙ ap (λ (xs : List ℕ). old ++ (number_line (codes "finished") (length elements)
    ++ (numbered_texts (drawn_line format) 0 elements ++ output_line xs))) out
finished_put format (Refused at) count es bytes old a b new is out counted ea eb en = absurd is

pub run_put : (format : Format) (cycle : ℕ) (run : RunFrame) (time : Option ℕ) (samples : List SampleValue) (old a b new : List ℕ)
    → run.input.time ≡ time → samples ≡ run.input.samples → a ≡ old ++ run_line cycle time → b ≡ a ++ flat_map sample_line samples
    → new ≡ b ++ outcome_lines format run.outcome → new ≡ old ++ run_lines format cycle run
run_put format cycle run time samples old a b new at is ea eb en =
    three old (run_line cycle run.input.time) (flat_map sample_line run.input.samples) (outcome_lines format run.outcome) a b new
    (ea ∙ ap (λ (t : Option ℕ). old ++ run_line cycle t) (sym at))
    (eb ∙ ap (λ (xs : List SampleValue). a ++ flat_map sample_line xs) is) en
