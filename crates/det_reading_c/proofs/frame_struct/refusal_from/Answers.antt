use Rattle.std.proofs.Common.{List, ℕ, drop, subst}
use Rattle.det_reading_c.specs.Numbers.{IsNumberAt}
use Rattle.det_reading_c.proofs.Parts.{refusal_is}
use Rattle.det_reading_c.proofs.frame_struct.refusal_from.Goals as goal

pub returns : goal.returns
returns c length outcome h =
    let here : (width n at : ℕ) → IsNumberAt width n at c.rest_from-refusal.result.now
    → IsNumberAt width n at (drop c.args.at c.args.bytes.now) = λ width n at is. subst (λ (bytes : List ℕ). IsNumberAt width n at bytes)
    c.rest_from-refusal.ensures is in
    refusal_is (record {
      element = c.u32_from-element.result;
      code = c.u32_from-code.result;
      phase = c.u8_from-phase.result;
      pass = c.u8_from-pass.result;
    }) c.args.at length c.args.bytes.now outcome (here 1 _ 0 c.u8_from-phase.ensures) (here 1 _ 1 c.u8_from-pass.ensures)
    (here 4 _ 2 c.u32_from-element.ensures) (here 4 _ 6 c.u32_from-code.ensures) h
