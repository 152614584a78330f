use Rattle.std.proofs.Common.{◌≡◌, ◌++◌, map, drop}
use Rattle.page.specs.Shelves.{records_in}
use Rattle.page.proofs.lent_shelf.LentShelf.new.Given as goal

abbrev pub invariant-lengths : goal.invariant-lengths
invariant-lengths l = records_in l.bytes l.lengths
    ≡ map (λ rest. rest.now) l.rests.items ++ records_in l.rest (drop l.length-index l.lengths)
