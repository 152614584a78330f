use Rattle.std.proofs.Common.{sym}
use Rattle.std.proofs.lemmas.List.{append-nil}
use Rattle.lane.specs.child_processes.Spawners.{words_of}
use Rattle.lane.proofs.lane.push_words.Goals as goal

pub extra-init : goal.extra-init
extra-init c = sym (append-nil (words_of c.args.words.now.items))
