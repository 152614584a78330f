use Rattle.std.proofs.Common.{◌≡◌, ◌++◌, take}
use Rattle.cli_words.specs.Names.{texts}
use Rattle.lane.specs.child_processes.Spawners.{words_of}
use Rattle.lane.proofs.lane.push_words.Given as goal

abbrev pub invariant-extra : goal.invariant-extra
invariant-extra l = words_of l.words.items ≡ words_of l.fn.words.items ++ texts (take l.word-index l.extra)
