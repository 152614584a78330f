use Rattle.std.proofs.Common.{◌≡◌, map, take}
use Rattle.lane.specs.child_processes.Spawners.{words_of}
use Rattle.lane.proofs.lane.copy_words.Given as goal

abbrev pub invariant-texts : goal.invariant-texts
invariant-texts l = words_of l.words.items ≡ map (λ text. text.now) (take l.text-index l.texts)
