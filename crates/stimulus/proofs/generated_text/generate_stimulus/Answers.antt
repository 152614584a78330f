use Rattle.std.proofs.Common.{rules, ◌≡◌, ◌≤◌, ◌+◌, ◌*◌, ◌++◌, ℕ, List, length, codes, arith, ap, sym, ◌∙◌, length-append}
use Rattle.std.specs.String.{string_bytes}
use Rattle.std.specs.Int.{w64}
use mir.Val.{SFits}
use Rattle.std.proofs.lemmas.Int.{to_z-of_z}
use Rattle.stimulus.specs.GeneratedText.{state_at, block_text}
use Rattle.stimulus.proofs.Making.{made_more, lines_short, made_none, at_start}
use Rattle.stimulus.proofs.generated_text.generate_stimulus.Goals.{After-as_bytes}
use Rattle.stimulus.proofs.generated_text.generate_stimulus.Goals as goal

-- the lines are those of a block
block_is : (c : After-as_bytes) → string_bytes c.in_ok-lines.lines
    ≡ block_text (10000000 * c.loop-cycle.cycle) c.next_value-first.result c.next_value-second.result
block_is c =
    let f : SFits w64 c.next_value-first.result = search rules in
    let g : SFits w64 c.next_value-second.result = search rules in
    rw (to_z-of_z w64 c.next_value-first.result f, to_z-of_z w64 c.next_value-second.result g) at c.in_ok-lines.ensures

block_short : (c : After-as_bytes) → length (string_bytes c.in_ok-lines.lines) ≤ 100
block_short c = lines_short _ _ _ _ (block_is c) (omega arith) c.next_value-first.type_inv c.next_value-second.type_inv

pub loop-cycle-init : goal.loop-cycle-init
loop-cycle-init c =
    let e : c.extend_from_slice.new.self ≡ codes "stim 1\n" = c.in_ok-extend_from_slice.ensures.ok
    ∙ ap (λ l. l ++ codes "stim 1\n") c.new-text.ensures in
    record {
      text = e ∙ ap (λ l. codes "stim 1\n" ++ l) (sym (made_none c.args.number));
      words = c.seed_from_u64-words.ensures.same ∙ sym (at_start c.args.number);
      short = omega (arith, ap (λ (l : List ℕ). length l) e);
    }

pub extend_from_slice-requires-in-loop-cycle : goal.extend_from_slice-requires-in-loop-cycle
extend_from_slice-requires-in-loop-cycle c =
    let short = block_short (goal.at.extend_from_slice-requires-in-loop-cycle c).After-as_bytes in
    let so_far : length c.loop-cycle.text ≤ 7 + 100 * c.loop-cycle.cycle = c.loop-cycle.invariant.short in
    let room : length c.loop-cycle.text + length c.as_bytes.result.now ≤ 1048576 =
    omega (arith, ap (λ (l : List ℕ). length l) c.as_bytes.ensures.value) in
    search rules

pub loop-cycle-preserved : goal.loop-cycle-preserved
loop-cycle-preserved c =
    let at = (goal.at.loop-cycle-preserved c).After-as_bytes in
    let short = block_short at in
    let later = c.next_value-first.ensures.goes_on c.args.number (2 * c.loop-cycle.cycle) c.loop-cycle.invariant.words in
    let grown : c.extend_from_slice-in-loop-cycle.new.self ≡ c.loop-cycle.text
    ++ string_bytes c.in_ok-lines.lines = c.in_ok-extend_from_slice-2.ensures.ok
    ∙ ap (λ l. c.loop-cycle.text ++ l) c.as_bytes.ensures.value in
    let so_far : length c.loop-cycle.text ≤ 7 + 100 * c.loop-cycle.cycle = c.loop-cycle.invariant.short in
    let twice : 2 * c.loop-cycle.cycle + 1 + 1 ≡ 2 * (c.loop-cycle.cycle + 1) = omega arith in
    record {
      text =
          grown ∙ made_more c.args.number c.loop-cycle.cycle c.loop-cycle.text (string_bytes c.in_ok-lines.lines) c.next_value-first.result
          c.next_value-second.result c.loop-cycle.invariant.text
          (c.next_value-first.ensures.value _ _ c.loop-cycle.invariant.words) (c.next_value-second.ensures.value _ _ later) (block_is at);
      words = c.next_value-second.ensures.goes_on _ _ later ∙ ap (state_at c.args.number) twice;
      short = omega (arith, ap (λ (l : List ℕ). length l) grown, length-append c.loop-cycle.text (string_bytes c.in_ok-lines.lines));
    }
