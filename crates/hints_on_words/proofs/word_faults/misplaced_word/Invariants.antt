use Rattle.std.proofs.Common.{◌≤◌, length}
use Rattle.hints_on_words.proofs.word_faults.misplaced_word.Given as goal

-- each place so far has a word
abbrev pub invariant-loop-place : goal.invariant-loop-place
invariant-loop-place l = l.place ≤ length l.words
