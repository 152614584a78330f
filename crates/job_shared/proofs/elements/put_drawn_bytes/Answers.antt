use Rattle.std.proofs.Common.{◌≡◌, ℕ, ◌++◌, length, replicate, ap, ◌∙◌, arith}
use Rattle.det_values.specs.Spelling.{spelled_u16, spelled_u32, spelled_drawn}
use Rattle.job_shared.proofs.Filling.{filled_parts}
use Rattle.job_shared.proofs.elements.put_drawn_bytes.Goals as goal

pub returns-clause-ok : goal.returns-clause-ok
unfolding spelled_u16 spelled_u32 spelled_drawn
returns-clause-ok c =
    let number = c.copy_from_slice.ensures.after ∙ c.to_be_bytes.ensures in
    let middle = c.copy_from_slice-2.ensures.after in
    let last = c.copy_from_slice-3.ensures.after ∙ c.to_be_bytes-2.ensures in
    let few = c.requires in
    c.in_ok-extend_from_slice.ensures.items
    ∙ ap (λ xs. c.args.out.now.items ++ xs) (filled_parts (replicate {A = ℕ} 70 0) _ _ _ 2 (length c.args.bytes.now) 4 (ap length number)
    (ap length middle) (ap length last) (omega arith) ∙ (λ i. number i ++ (middle i ++ last i)))
