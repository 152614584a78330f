use Rattle.std.proofs.Common.{◌+◌, ◌*◌, length}
use Rattle.twins.proofs.threads.+fn-send_all-join+arg3+send_all.Given as goal

abbrev pub decreases-join+arg3 : goal.decreases-join+arg3
decreases-join+arg3 g l = 2 * length l.others.items + 1

abbrev pub decreases-send_all : goal.decreases-send_all
decreases-send_all g l = 2 * length l.others.items
