-- The lines before those of the parameters, one after another.
use Rattle.std.proofs.Common.{◌≡◌, ℕ, List, ◌++◌, ap, ◌∙◌, append_assoc}
use Rattle.std.specs.Prelude.{codes}
use Rattle.det_values.specs.Values.{ProfileValue}
use Rattle.record_text.specs.Words.{number_line}
use Rattle.record_text.specs.Records.{format_line, front_lines}

four : (old w x y z : List ℕ) → (((old ++ w) ++ x) ++ y) ++ z ≡ old ++ (w ++ (x ++ (y ++ z)))
four old w x y z =
    append_assoc ((old ++ w) ++ x) y z ∙ append_assoc (old ++ w) x (y ++ z) ∙ append_assoc old w (x ++ (y ++ z))

pub fronts_put : (p : ProfileValue) (old a b c d : List ℕ) → a ≡ old ++ format_line p.format → b ≡ a ++ number_line (codes "job") p.job
    → c ≡ b ++ number_line (codes "seed") p.seed → d ≡ c ++ number_line (codes "cycle_time") p.cycle_time → d ≡ old ++ front_lines p
unfolding front_lines
fronts_put p old a b c d ea eb ec ed =
    let seed : List ℕ = number_line (codes "seed") p.seed in
    let job : List ℕ = number_line (codes "job") p.job in
    let time : List ℕ = number_line (codes "cycle_time") p.cycle_time in
    ed ∙ ap (λ (l : List ℕ). l ++ time) (ec ∙ ap (λ (l : List ℕ). l ++ seed) (eb ∙ ap (λ (l : List ℕ). l ++ job) ea))
    ∙ four old (format_line p.format) job seed time
