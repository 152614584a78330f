use Rattle.std.proofs.Common.{◌≡◌, ◌<◌, ℕ, List, ◌∷◌, rules, sym, subst, refl}
use Rattle.std.specs.Prelude.{Ok, map}
use Rattle.std.specs.List.{AllByRecursion}
use Rattle.record_reader.specs.declared.item_reader.reader.ItemReader.{ItemReader}
use Rattle.record_reader.specs.item_reader.StandsFor.{slot_of, room}
use Rattle.copies.specs.ItemRows.{AreReadersAfter}
use Rattle.copies.proofs.Standing.{first-row, others-behind, stop-first, stop-others, all-rows, row-read, fell-first, row-stops}
use Rattle.copies.proofs.Standing.{written-back}
use Rattle.copies.proofs.Needed.{first-needed, all-needed}
use Rattle.copies.proofs.copies.Copies.read_row.Goals as goal

pub returns-in_err-item-clause-row : goal.returns-in_err-item-clause-row
returns-in_err-item-clause-row g c first given slots ne h =
    row-stops first (g.S.Slots.sees c.next_of_copy.new.shelf) given slots (room c.args.self.now.first) _ c.from_residual.result
    c.in_err-item.field-0.0 c.from_residual.ensures.1
    (stop-first first (g.S.Slots.sees c.args.shelf.now) (g.S.Slots.sees c.next_of_copy.new.shelf) given slots c.args.self.now.first
    c.next_of_copy.new.reader c.args.self.now.others.items c.in_err-item.field-0.0 h.readers
    (λ slot b. c.in_err-item.ensures.row first given slot b))

pub compare_others-requires-clause-given : goal.compare_others-requires-clause-given
compare_others-requires-clause-given g c =
    subst (λ (rs : List ItemReader). AllByRecursion (λ k. k < (g.S.Slots.sees c.next_of_copy.new.shelf).slots) (map slot_of rs))
    (search rules)
    (subst (λ (n : ℕ). AllByRecursion (λ k. k < n) (map slot_of c.args.self.now.others.items))
    (sym c.next_of_copy.ensures.read.among.kept.slots) c.requires.given.1)

pub item_bytes-bytes-requires : goal.item_bytes-bytes-requires
item_bytes-bytes-requires g c =
    let s = c.requires.stand in
    let row = first-row s.0 (g.S.Slots.sees c.args.shelf.now) (g.S.Slots.sees c.next_of_copy.new.shelf) s.1 s.2 c.args.self.now.first
    c.next_of_copy.new.reader c.args.self.now.others.items c.in_ok-item.item s.4.readers
    (λ slot b. c.in_ok-item.ensures.row s.0 s.1 slot b) in
    (row.0, row.1)

pub compare_others-requires-clause-item : goal.compare_others-requires-clause-item
compare_others-requires-clause-item g c =
    let s = c.requires.stand in
    let row = first-row s.0 (g.S.Slots.sees c.args.shelf.now) (g.S.Slots.sees c.next_of_copy.new.shelf) s.1 s.2 c.args.self.now.first
    c.next_of_copy.new.reader c.args.self.now.others.items c.in_ok-item.item s.4.readers
    (λ slot b. c.in_ok-item.ensures.row s.0 s.1 slot b) in
    (row.0, c.item_bytes-bytes.ensures row.0 row.1)

pub compare_others-requires-clause-stand : goal.compare_others-requires-clause-stand
compare_others-requires-clause-stand g c =
    let s = c.requires.stand in
    let same : c.args.self.now.others.items ≡ c.deref_mut.result.now = search rules in
    let b = others-behind s.0 (g.S.Slots.sees c.args.shelf.now) (g.S.Slots.sees c.next_of_copy.new.shelf) s.1 s.2
    c.args.self.now.first c.args.self.now.others.items s.3 s.4.readers c.next_of_copy.ensures.read.among in (
      s.0,
      s.1,
      b.0,
      b.1,
      subst (λ rs. AreReadersAfter s.0 (g.S.Slots.sees c.next_of_copy.new.shelf) s.1 b.0 rs) same b.2,
      s.4.rows,
    )

pub returns-in_err-found-clause-row : goal.returns-in_err-found-clause-row
returns-in_err-found-clause-row g c first given slots ne h =
    let same : c.args.self.now.others.items ≡ c.deref_mut.result.now = search rules in
    let behind = subst (λ rs. AreReadersAfter first (g.S.Slots.sees c.args.shelf.now) given slots (c.args.self.now.first ∷ rs)) same
    h.readers in
    let row = first-row first (g.S.Slots.sees c.args.shelf.now) (g.S.Slots.sees c.next_of_copy.new.shelf) given slots c.args.self.now.first
    c.next_of_copy.new.reader c.deref_mut.result.now c.in_ok-item.item behind (c.in_ok-item.ensures.row first given) in
    row-stops first (g.S.Slots.sees c.compare_others.new.shelf) given slots (room c.args.self.now.first) _
    c.from_residual-in_err-found.result c.in_err-found.field-0.0 c.from_residual-in_err-found.ensures.1
    (stop-others first (g.S.Slots.sees c.args.shelf.now) (g.S.Slots.sees c.next_of_copy.new.shelf)
    (g.S.Slots.sees c.compare_others.new.shelf) given c.args.self.now.first c.next_of_copy.new.reader c.deref_mut.result.now
    c.compare_others.new.readers row.0 row.2 c.next_of_copy.ensures.read.among slots c.in_err-found.field-0.0 ne behind
    (λ others different b. c.in_err-found.ensures.others first given others row.0 (c.item_bytes-bytes.ensures row.0 row.1) different b
    h.rows))

pub returns-clause-row : goal.returns-clause-row
returns-clause-row g c first given slots ne h =
    let same : c.args.self.now.others.items ≡ c.deref_mut.result.now = search rules in
    let behind = subst (λ rs. AreReadersAfter first (g.S.Slots.sees c.args.shelf.now) given slots (c.args.self.now.first ∷ rs)) same
    h.readers in
    let row = first-row first (g.S.Slots.sees c.args.shelf.now) (g.S.Slots.sees c.next_of_copy.new.shelf) given slots c.args.self.now.first
    c.next_of_copy.new.reader c.deref_mut.result.now c.in_ok-item.item behind (c.in_ok-item.ensures.row first given) in
    let all = all-rows first (g.S.Slots.sees c.args.shelf.now) (g.S.Slots.sees c.next_of_copy.new.shelf)
    (g.S.Slots.sees c.compare_others.new.shelf) given c.args.self.now.first c.next_of_copy.new.reader c.deref_mut.result.now
    c.compare_others.new.readers row.0 row.2 c.next_of_copy.ensures.read.among slots c.in_ok-found.found ne behind
    (λ others different b. c.in_ok-found.ensures.others first given others row.0 (c.item_bytes-bytes.ensures row.0 row.1) different b
    h.rows) c.compare_others.ensures.reads in
    row-read first (g.S.Slots.sees c.args.shelf.now) (g.S.Slots.sees c.compare_others.new.shelf) given slots
    (c.args.self.now.first ∷ c.args.self.now.others.items) c.compare_others.new.readers c.next_of_copy.new.reader c.in_ok-item.item row.0
    c.in_ok-found.found c.finish_row.result all.0 _ c.finish_row.new.self (room c.args.self.now.first) row.1 h.readers all.1 all.2 all.3
    c.finish_row.ensures refl (written-back c.args.self.now.others.len c.compare_others.new.readers c.args.self.now.others.items (search
    rules)
    (subst (λ rs. map slot_of c.compare_others.new.readers ≡ map slot_of rs) (sym same) c.compare_others.ensures.slots)) h.rows h.cycles
    (fell-first first (g.S.Slots.sees c.args.shelf.now) given slots c.args.self.now.first c.args.self.now.others.items h.readers
    (Ok c.in_ok-item.item) (room c.next_of_copy.new.reader) c.in_ok-item.ensures.room)

-- ---- what was read is needed

pub returns-in_err-item-clause-needed : goal.returns-in_err-item-clause-needed
returns-in_err-item-clause-needed g c first given slots ne h =
    first-needed first (g.S.Slots.sees c.args.shelf.now) (g.S.Slots.sees c.next_of_copy.new.shelf) given slots c.args.self.now.first
    c.next_of_copy.new.reader c.args.self.now.others.items h.readers c.next_of_copy.ensures.read

pub returns-in_err-found-clause-needed : goal.returns-in_err-found-clause-needed
returns-in_err-found-clause-needed g c first given slots ne h =
    all-needed first (g.S.Slots.sees c.args.shelf.now) (g.S.Slots.sees c.next_of_copy.new.shelf) (g.S.Slots.sees c.compare_others.new.shelf)
    given slots c.args.self.now.first c.next_of_copy.new.reader c.args.self.now.others.items c.deref_mut.result.now c.in_ok-item.item
    (search rules) ne h.readers c.next_of_copy.ensures.read (c.in_ok-item.ensures.row first given) (λ row held others different b.
    c.compare_others.ensures.needed first given others row (c.item_bytes-bytes.ensures row held) different b h.rows)
    c.compare_others.ensures.reads

pub returns-clause-needed : goal.returns-clause-needed
returns-clause-needed g c first given slots ne h =
    all-needed first (g.S.Slots.sees c.args.shelf.now) (g.S.Slots.sees c.next_of_copy.new.shelf) (g.S.Slots.sees c.compare_others.new.shelf)
    given slots c.args.self.now.first c.next_of_copy.new.reader c.args.self.now.others.items c.deref_mut.result.now c.in_ok-item.item
    (search rules) ne h.readers c.next_of_copy.ensures.read (c.in_ok-item.ensures.row first given) (λ row held others different b.
    c.compare_others.ensures.needed first given others row (c.item_bytes-bytes.ensures row held) different b h.rows)
    c.compare_others.ensures.reads
