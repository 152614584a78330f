use Rattle.std.proofs.Common.{◌∙◌}
use Rattle.lane.proofs.lemmas.child_processes.Scripted.{same_words-texts}
use Rattle.lane.proofs.child_processes.mem_spawner.script_search.same_words.Goals as goal

pub returns : goal.returns
returns c = c.eq.ensures ∙ same_words-texts c.args.a.now c.args.b.now
