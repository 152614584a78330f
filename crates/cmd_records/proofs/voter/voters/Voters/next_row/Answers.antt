use Rattle.std.proofs.Common.{◌≡◌, ℕ, List, Some, None, Ok, length, get_or, map, rules, refl, sym, subst, arith}
use Rattle.std.specs.Prelude.{Option}
use Rattle.std.specs.Vec.{vec_len}
use Rattle.cmd_records.specs.declared.voter.voter_rows.Voter.{Voter}
use Rattle.cmd_records.specs.declared.voter.voters.HeldItem.{HeldItem}
use Rattle.cmd_records.specs.declared.voter.voters.Voters.{Voters}
use Rattle.cmd_records.specs.voter.Rows.{AreHeld, MostHeld, same_row, voters_after, place_behind}
use Rattle.cmd_records.specs.voter.VotersState.{RowTaken, Counts}
use Rattle.cmd_records.proofs.lemmas.voter.Holding.{held-many}
use Rattle.cmd_records.proofs.lemmas.voter.Parting.{part-by}
use Rattle.cmd_records.proofs.lemmas.voter.RowsHeld.{split-told, row-taken}
use Rattle.cmd_records.proofs.voter.voters.Voters.next_row.Goals as goal

pub majority_holders-requires-clause-rows : goal.majority_holders-requires-clause-rows
majority_holders-requires-clause-rows g c =
    let s = c.requires.stand in
    let same : c.read_voter_rows.new.voters.items ≡ c.deref.result.now = search rules in
    let read = c.in_ok-read_voter_rows.ensures.rows s.0 s.1 s.2 s.3 s.4.readers in
    (place_behind s.1, read.0, subst (λ (vs : List Voter). AreHeld (place_behind s.1) vs read.0) same read.2)

pub returns-in_default-clause-row : goal.returns-in_default-clause-row
returns-in_default-clause-row g c first given slots ne h =
    let same : c.read_voter_rows.new.voters.items ≡ c.deref.result.now = search rules in
    let read = c.in_ok-read_voter_rows.ensures.rows first given slots ne h.readers in (
      h.rows,
      split-told first (g.S.Slots.sees c.args.shelf.now) (g.S.Slots.sees c.read_voter_rows.new.shelf) given slots
          c.args.self.now.voters.items
          c.read_voter_rows.new.voters.items read.0 h.readers h.most read.1
          (c.in_default.ensures (place_behind given) read.0
          (subst (λ (vs : List Voter). AreHeld (place_behind given) vs read.0) same read.2)),
    )

pub index-requires : goal.index-requires
index-requires g c =
    let s = c.requires.stand in
    let same : c.read_voter_rows.new.voters.items ≡ c.deref.result.now = search rules in
    let read = c.in_ok-read_voter_rows.ensures.rows s.0 s.1 s.2 s.3 s.4.readers in
    let most : MostHeld (Some c.in-Some.holders) read.0 = c.in-Some.ensures (place_behind s.1) read.0
    (subst (λ (vs : List Voter). AreHeld (place_behind s.1) vs read.0) same read.2) in
    let many = held-many (place_behind s.1) c.read_voter_rows.new.voters.items read.0 read.2 in
    let less = most.0 in
    let len : vec_len c.mark_leavers.new.voters ≡ length c.mark_leavers.new.voters.items = search rules in
    omega (arith, less, many, len, c.mark_leavers.ensures.all)

pub returns-clause-row : goal.returns-clause-row
returns-clause-row g c first given slots ne h =
    let same : c.read_voter_rows.new.voters.items ≡ c.deref.result.now = search rules in
    let read = c.in_ok-read_voter_rows.ensures.rows first given slots ne h.readers in
    let copy = c.in-Some.holders.first in
    let v = c.index.result.now in
    let mid : Voters = record c.args.self.now { voters = c.mark_leavers.new.voters } in
    let most : MostHeld (Some c.in-Some.holders) read.0 = c.in-Some.ensures (place_behind given) read.0
    (subst (λ (vs : List Voter). AreHeld (place_behind given) vs read.0) same read.2) in
    let many = held-many (place_behind given) c.read_voter_rows.new.voters.items read.0 read.2 in
    let less = most.0 in
    let parts = part-by c.args.self.now.rows c.in-Some.holders (get_or read.0 copy None) c.read_voter_rows.new.voters.items
    c.mark_leavers.new.voters.items read.0 most.1 many c.mark_leavers.ensures.voters_after in
    subst (λ (o : Option HeldItem). RowTaken (Ok o) first (g.S.Slots.sees c.read_voter_rows.new.shelf) given slots c.count.new.self)
    (sym c.majority_item-item.ensures)
    (row-taken first (g.S.Slots.sees c.read_voter_rows.new.shelf) given slots c.read_voter_rows.new.voters.items read.0 read.1 read.2 copy v
    (omega (arith, less, many)) mid c.count.new.self (get_or read.0 copy None) most.2
    (subst (λ (n : ℕ). c.mark_leavers.new.voters.items ≡ voters_after n (map (same_row (get_or read.0 copy None)) read.0)
    c.read_voter_rows.new.voters.items)
    h.rows parts) h.rows h.cycles v (search rules) refl
    (subst (λ (o : Option HeldItem). Counts o mid c.count.new.self) c.majority_item-item.ensures c.count.ensures))
