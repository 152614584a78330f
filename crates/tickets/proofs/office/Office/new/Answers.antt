use Rattle.tickets.proofs.Moves.{begins}
use Rattle.tickets.proofs.office.Office.new.Goals as goal

pub of_words-requires : goal.of_words-requires
of_words-requires g c = begins
