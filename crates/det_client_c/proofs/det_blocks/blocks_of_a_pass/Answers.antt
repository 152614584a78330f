use Rattle.std.proofs.Common.{◌≡◌, ℕ, ◌+◌, ◌-◌, ◌*◌, ◌<◌, List, length, min, take, drop, sym, ap, ◌∙◌, arith, length-drop}
use Rattle.std.proofs.lemmas.List.{take_min}
use Rattle.job.specs.Passes.{blocks_of}
use Rattle.job.specs.Pass.{block_size, taken, nothing, in_block}
use Rattle.job.proofs.Sizes.{begins}
use Rattle.det_client_c.specs.Blocks.{block_begin, block_end}
use Rattle.det_client_c.proofs.det_blocks.blocks_of_a_pass.Goals as goal

least : (len first : ℕ) → first < len → min len first ≡ first
least len first lt = omega arith

left_of : (len first size : ℕ) → min len (first + size) - first ≡ min size (len - first)
left_of len first size = omega arith

begin_of : (len n : ℕ) → n < blocks_of len → block_begin len n ≡ block_size len * n
begin_of len n some = least len (block_size len * n) (begins len n some)

same : {E : Type 0} (elements : List E) (n : ℕ) → n < blocks_of (length elements)
    → take (block_end (length elements) n - block_begin (length elements) n) (drop (block_begin (length elements) n) elements)
    ≡ in_block (length elements) n elements
same elements n some =
    let len = length elements in
    let size = block_size len in
    let begin = begin_of len n some in
    let count = left_of len (size * n) size ∙ ap (min size) (sym (length-drop (size * n) elements)) in
    (λ i. take (block_end len n - begin i) (drop (begin i) elements))
    ∙ (λ i. take (count i) (drop (size * n) elements))
    ∙ take_min size (drop (size * n) elements)

pub returns : goal.returns
returns g c job plan carry seed cycle pass n elements some =
    let m = g.J.Job.meaning in
    λ i. taken m job plan carry seed cycle pass (sym (begin_of (length elements) n some) i) (sym (same elements n some) i)
    (nothing m job plan carry seed cycle pass)
