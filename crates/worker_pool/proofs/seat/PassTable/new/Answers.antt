use Rattle.std.proofs.Common.{arith}
use Rattle.worker_pool.proofs.Sharing.{begins_in}
use Rattle.worker_pool.proofs.seat.PassTable.new.Goals as goal

pub of_words-requires : goal.of_words-requires
of_words-requires c = begins_in c.args.blocks (omega (arith, c.requires.few))
