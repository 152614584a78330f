-- What the views of a frame's parts say of its line.
use Rattle.std.proofs.Common.{◌≡◌, ℕ, List, [], ◌∷◌, ◌++◌, map, Option, refl, sym, ap, ◌∙◌}
use Rattle.std.proofs.Common.{append_assoc}
use Rattle.std.specs.Prelude.{codes}
use Rattle.std.specs.List.{flat_map}
use Rattle.det_values.specs.Values.{SampleValue}
use Rattle.det_values.specs.declared.format.Format.{Format}
use Rattle.det_values.specs.declared.format.Format.TheVariants.{One}
use Rattle.det_values.specs.declared.frames.DrawnElement.{DrawnElement}
use Rattle.det_values.specs.declared.frames.Outcome.{Outcome}
use Rattle.det_values.specs.declared.frames.Outcome.TheVariants.{Finished, Refused}
use Rattle.det_values.specs.declared.frames.RunFrame.{RunFrame}
use Rattle.record_view.specs.Parts.{undrawn, ElementsOf, OutputOf}
use Rattle.record_json.specs.declared.element_layout.ElementLayout.{ElementLayout}
use Rattle.record_json.specs.Texts.{listed}
use Rattle.record_json.specs.Records.{element_text, drawn_text, init_line, finished_text, outcome_text, input_text, run_line}

-- ---- Init

more_undrawn : (layout : ElementLayout) (es : List (List ℕ))
    → flat_map (λ e. codes "," ++ drawn_text One layout e) (map undrawn es) ≡ flat_map (λ e. codes "," ++ element_text layout e) es
more_undrawn layout [] = refl
more_undrawn layout (e ∷ es) = ap (λ (more : List ℕ). (codes "," ++ element_text layout e) ++ more) (more_undrawn layout es)

-- elements of Init have the texts of elements of format 1
all_undrawn : (layout : ElementLayout) (es : List (List ℕ)) → listed (drawn_text One layout) (map undrawn es) ≡ listed (element_text layout) es
all_undrawn layout [] = refl
all_undrawn layout (e ∷ es) = ap (λ (more : List ℕ). element_text layout e ++ more) (more_undrawn layout es)

pub init_put : (layout : ElementLayout) (es : List DrawnElement) (elements : List (List ℕ)) (old a b new : List ℕ) → es ≡ map undrawn elements
    → a ≡ old ++ codes "{\"init\":[" → b ≡ a ++ listed (drawn_text One layout) es → new ≡ b ++ codes "]}\n"
    → new ≡ old ++ init_line layout elements
init_put layout es elements old a b new is ea eb en =
    let texts : List ℕ = listed (element_text layout) elements in
    en ∙ ap (λ (l : List ℕ). l ++ codes "]}\n") (eb ∙ ap (λ (l : List ℕ). l ++ listed (drawn_text One layout) es) ea
    ∙ ap (λ (l : List ℕ). (old ++ codes "{\"init\":[") ++ l) (ap (listed (drawn_text One layout)) is ∙ all_undrawn layout elements))
    ∙ append_assoc (old ++ codes "{\"init\":[") texts (codes "]}\n")
    ∙ append_assoc old (codes "{\"init\":[") (texts ++ codes "]}\n")

-- ---- Run

pub finished_is : (format : Format) (layout : ElementLayout) (outcome : Outcome) (es : List DrawnElement) (bytes : List ℕ)
    → ElementsOf es outcome → OutputOf bytes outcome → finished_text format layout es bytes ≡ outcome_text format layout outcome
finished_is format layout (Finished elements output) es bytes is out =
    ap (λ (xs : List DrawnElement). finished_text format layout xs bytes) is ∙ ap (finished_text format layout elements) out
finished_is format layout (Refused at) es bytes is out = absurd is

pub run_put : (format : Format) (layout : ElementLayout) (cycle : ℕ) (run : RunFrame) (time : Option ℕ) (samples : List SampleValue)
    (old a new : List ℕ) → run.input.time ≡ time → samples ≡ run.input.samples → a ≡ old ++ input_text cycle time samples
    → new ≡ a ++ outcome_text format layout run.outcome → new ≡ old ++ run_line format layout cycle run
run_put format layout cycle run time samples old a new at is ea en =
    en ∙ ap (λ (l : List ℕ). l ++ outcome_text format layout run.outcome)
    (ea ∙ ap (λ (t : Option ℕ). old ++ input_text cycle t samples) (sym at)
    ∙ ap (λ (xs : List SampleValue). old ++ input_text cycle run.input.time xs) is)
    ∙ append_assoc old (input_text cycle run.input.time run.input.samples) (outcome_text format layout run.outcome)
