use Rattle.std.proofs.Common.{◌≡◌, ◌+◌, ◌*◌, ◌≤◌, ◌++◌, length, codes}
use Rattle.stimulus.specs.GeneratedText.{state_at, made_blocks}
use Rattle.stimulus.proofs.generated_text.generate_stimulus.Given as goal

abbrev pub invariant-loop-cycle : goal.invariant-loop-cycle
invariant-loop-cycle l = record {
  text : l.text ≡ codes "stim 1\n" ++ made_blocks l.number l.cycle;
  words : l.words ≡ state_at l.number (2 * l.cycle);
  short : length l.text ≤ 7 + 100 * l.cycle;
}
