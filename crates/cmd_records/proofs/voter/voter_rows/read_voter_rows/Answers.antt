use Rattle.std.proofs.Common.{◌<◌, ℕ, rules, sym, refl, subst, ◌∙◌, map}
use Rattle.std.specs.Prelude.{Result, slice_set}
use Rattle.std.specs.List.{AllByRecursion}
use Rattle.record_reader.specs.item_reader.StandsFor.{slot_of}
use Rattle.det_io.specs.declared.failure.Failure.{Failure}
use Rattle.record_reader.proofs.lemmas.item_reader.Passing.{passed-on}
use Rattle.cmd_records.specs.voter.Rows.{voter_slot, RowsRead}
use Rattle.cmd_records.proofs.lemmas.voter.InTurn.{given-here, slots-here, among-here, was-here, rows-here, needed-here, rows-none}
use Rattle.cmd_records.proofs.lemmas.voter.InTurn.{rows-all, voters-needed}
use Rattle.cmd_records.proofs.lemmas.voter.InTurn.{reads-same}
use Rattle.cmd_records.proofs.voter.voter_rows.read_voter_rows.Goals as goal

pub voters-init : goal.voters-init
voters-init g c = record {
  have = λ first given slots ne h. rows-none h;
  needed = λ first given slots ne h. voters-needed first (g.S.Slots.sees c.args.shelf.now) given slots c.args.voters.now.items h;
  all = refl;
  slots = refl;
  reads = reads-same (g.S.Slots.sees c.args.shelf.now) (map voter_slot c.args.voters.now.items);
  traffic = search rules;
}

pub read-requires : goal.read-requires
read-requires g c =
    let h = c.voters.invariant in
    let old = c.index_mut.result.now in
    let all = subst (λ ks. AllByRecursion (λ k. k < (g.S.Slots.sees c.args.shelf.now).slots) ks) (sym h.slots) c.requires.given in
    subst (λ (n : ℕ). slot_of old.reader < n) (sym h.reads.kept.slots)
    (given-here c.voters.voters.items c.voters.index old (search rules) (search rules)
    (λ k. k < (g.S.Slots.sees c.args.shelf.now).slots) all)

pub returns-in_err-read-clause-rows : goal.returns-in_err-read-clause-rows
returns-in_err-read-clause-rows g c first given slots ne voters =
    let old = c.index_mut.result.now in
    let was = was-here c.voters.voters.items c.voters.index old (search rules) (search rules)
    (c.voters.invariant.have first given slots ne voters) in
    passed-on (λ (r : Result (Unit {0}) Failure). RowsRead r first (g.S.Slots.sees c.read.new.shelf) given slots
    (slice_set c.voters.voters.items c.voters.index c.read.new.self)) c.from_residual.result c.from_residual.ensures.1
    (was.0, was.1, c.in_err-read.ensures.row first given was.0 was.2)

pub returns-in_err-read-clause-needed : goal.returns-in_err-read-clause-needed
returns-in_err-read-clause-needed g c first given slots ne voters =
    needed-here c.voters.voters.items c.voters.index c.index_mut.result.now (search rules) (search rules)
    (c.voters.invariant.have first given slots ne voters) (λ slot b. c.read.ensures.needed first given slot b) c.read.ensures.reads
    (c.voters.invariant.needed first given slots ne voters)

pub returns-in_err-read-clause-slots : goal.returns-in_err-read-clause-slots
returns-in_err-read-clause-slots g c =
    slots-here c.voters.voters.items c.voters.index c.index_mut.result.now (search rules) (search rules) c.read.new.self c.read.ensures.slot
    ∙ c.voters.invariant.slots

pub returns-in_err-read-clause-reads : goal.returns-in_err-read-clause-reads
returns-in_err-read-clause-reads g c =
    among-here c.voters.voters.items c.voters.index c.index_mut.result.now (search rules) (search rules) (g.S.Slots.sees c.args.shelf.now)
    (g.S.Slots.sees c.voters.shelf) (g.S.Slots.sees c.read.new.shelf) (map voter_slot c.args.voters.now.items) c.voters.invariant.slots
    c.voters.invariant.reads c.read.ensures.reads

pub voters-preserved : goal.voters-preserved
voters-preserved g c =
    let h = c.voters.invariant in
    let old = c.index_mut.result.now in
    record {
      have = λ first given slots ne voters.
          rows-here c.voters.voters.items c.voters.index old (search rules) (search rules) c.read.new.self
          (h.have first given slots ne voters) ne (λ slot b. c.in_ok-read.ensures.row first given slot b) c.read.ensures.reads;
      needed = λ first given slots ne voters.
          needed-here c.voters.voters.items c.voters.index old (search rules) (search rules) (h.have first given slots ne voters)
          (λ slot b. c.read.ensures.needed first given slot b) c.read.ensures.reads (h.needed first given slots ne voters);
      all = search rules;
      slots = slots-here c.voters.voters.items c.voters.index old (search rules) (search rules) c.read.new.self c.read.ensures.slot
          ∙ h.slots;
      reads = among-here c.voters.voters.items c.voters.index old (search rules) (search rules) (g.S.Slots.sees c.args.shelf.now)
          (g.S.Slots.sees c.voters.shelf) (g.S.Slots.sees c.read.new.shelf) (map voter_slot c.args.voters.now.items) h.slots h.reads
          c.read.ensures.reads;
      traffic = search rules;
    }

pub returns-clause-rows : goal.returns-clause-rows
returns-clause-rows g c first given slots ne voters =
    rows-all c.voters.index first (g.S.Slots.sees c.voters.shelf) given slots c.voters.voters.items
    (c.voters.invariant.have first given slots ne voters) (search rules)

pub returns-clause-needed : goal.returns-clause-needed
returns-clause-needed g c first given slots ne voters = c.voters.invariant.needed first given slots ne voters
