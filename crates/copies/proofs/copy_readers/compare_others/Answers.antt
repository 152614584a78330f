use Rattle.std.proofs.Common.{refl, map, ◌<◌, ℕ, ◌+◌, rules, arith, sym, ap, subst, ◌∙◌, get_or}
use Rattle.std.specs.Prelude.{Option, Result, slice_set}
use Rattle.std.specs.Option.{option_or}
use Rattle.std.specs.List.{AllByRecursion}
use Rattle.det_io.specs.declared.failure.Stopped.{Stopped}
use Rattle.record_reader.specs.item_reader.StandsFor.{slot_of}
use Rattle.record_reader.proofs.lemmas.item_reader.Passing.{passed-on}
use Rattle.copies.specs.declared.verdict.BadCopy.{BadCopy}
use Rattle.copies.specs.declared.verdict.Verdict.{Verdict}
use Rattle.copies.specs.Copies.{row_of, OthersRead}
use Rattle.copies.proofs.SideBySide.{given-at, slots-set, among-more, others-stop, others-next, others-done, others-new, next-behind}
use Rattle.copies.proofs.Standing.{reads-same}
use Rattle.copies.proofs.Needed.{behind-needed, reader-needed}
use Rattle.copies.proofs.copy_readers.compare_others.Goals as goal

pub others-init : goal.others-init
others-init g c = record {
  others = λ first given slots ours spelled ne behind row.
      others-new (row_of ours) first (g.S.Slots.sees c.args.shelf.now) given slots c.args.readers.now behind;
  needed = λ first given slots ours spelled ne behind row.
      behind-needed first (g.S.Slots.sees c.args.shelf.now) given slots c.args.readers.now behind;
  reads = reads-same (g.S.Slots.sees c.args.shelf.now) (map slot_of c.args.readers.now);
  slots = refl;
  traffic = search rules;
}

pub compare_row-requires-clause-slot : goal.compare_row-requires-clause-slot
compare_row-requires-clause-slot g c =
    let h = c.others.invariant in
    let all = subst (λ ks. AllByRecursion (λ k. k < (g.S.Slots.sees c.args.shelf.now).slots) ks) (sym h.slots) c.requires.given in
    let slots = h.reads.kept.slots in
    subst (λ (n : ℕ). slot_of (get_or c.others.readers c.others.index c.index-readers-index.result) < n) (sym slots)
    (given-at (λ k. k < (g.S.Slots.sees c.args.shelf.now).slots) c.others.readers c.others.index c.index-readers-index.result
    (search rules) all)

pub compare_row-requires-clause-behind : goal.compare_row-requires-clause-behind
compare_row-requires-clause-behind g c =
    let s = c.requires.stand in
    let i = c.requires.item in
    let o = c.others.invariant.others s.0 s.1 s.2 i.0 i.1 s.3 s.4 s.5 in
    let b = next-behind (c.others.index + 1) c.others.index c.others.found (row_of i.0) s.0 (g.S.Slots.sees c.others.shelf)
    (g.S.Slots.sees c.others.shelf) s.1 s.2 c.others.readers c.index-readers-index.result c.index-readers-index.result o
    (search rules) (omega arith) in
    (s.0, s.1, b.0, b.1)

pub returns-in_err-difference-clause-others : goal.returns-in_err-difference-clause-others
returns-in_err-difference-clause-others g c first given slots ours spelled ne behind row =
    let o = c.others.invariant.others first given slots ours spelled ne behind row in
    passed-on (λ (r : Result (Option Verdict) (Stopped BadCopy)). OthersRead r (row_of ours) first
    (g.S.Slots.sees c.compare_row.new.shelf) given slots (slice_set c.others.readers c.others.index c.compare_row.new.reader))
    c.from_residual.result c.from_residual.ensures.1
    (others-stop (c.others.index + 1) c.others.index c.others.found (row_of ours) first (g.S.Slots.sees c.others.shelf)
    (g.S.Slots.sees c.compare_row.new.shelf) given slots c.others.readers c.index-readers-index.result c.compare_row.new.reader o
    (search rules) (omega arith) c.in_err-difference.field-0.0 (slice_set c.others.readers c.others.index c.compare_row.new.reader)
    (λ slot b. c.in_err-difference.ensures.row first given slot ours b spelled row))

pub returns-in_err-difference-clause-reads : goal.returns-in_err-difference-clause-reads
returns-in_err-difference-clause-reads g c =
    let h = c.others.invariant in
    among-more _ c.others.readers c.others.index c.index-readers-index.result (search rules) h.slots h.reads
    c.compare_row.ensures.read.among

pub returns-in_err-difference-clause-slots : goal.returns-in_err-difference-clause-slots
returns-in_err-difference-clause-slots g c =
    slots-set c.others.readers c.others.index c.index-readers-index.result c.compare_row.new.reader (search rules)
    c.compare_row.ensures.read.slot ∙ c.others.invariant.slots

pub others-preserved : goal.others-preserved
others-preserved g c =
    let h = c.others.invariant in
    record {
      others = λ first given slots ours spelled ne behind row.
          others-next (c.others.index + 1) c.others.index c.others.found (row_of ours) first (g.S.Slots.sees c.others.shelf)
          (g.S.Slots.sees c.compare_row.new.shelf) given slots c.others.readers c.index-readers-index.result c.compare_row.new.reader
          (h.others first given slots ours spelled ne behind row) (search rules) (omega arith) c.in_ok-difference.difference
          c.or-found.result (λ slot b. c.in_ok-difference.ensures.row first given slot ours b spelled row)
          c.compare_row.ensures.read.among ne
          (c.or-found.ensures ∙ ap (λ o. option_or c.others.found o) c.difference_verdict.ensures);
      needed = λ first given slots ours spelled ne behind row.
          let b = next-behind (c.others.index + 1) c.others.index c.others.found (row_of ours) first (g.S.Slots.sees c.others.shelf)
          (g.S.Slots.sees c.others.shelf) given slots c.others.readers c.index-readers-index.result c.index-readers-index.result
          (h.others first given slots ours spelled ne behind row) (search rules) (omega arith) in
          reader-needed first (g.S.Slots.sees c.others.shelf) (g.S.Slots.sees c.compare_row.new.shelf) given slots
          (get_or c.others.readers c.others.index c.index-readers-index.result) c.compare_row.new.reader b c.compare_row.ensures.read
          (h.needed first given slots ours spelled ne behind row);
      reads = among-more _ c.others.readers c.others.index c.index-readers-index.result (search rules) h.slots h.reads
          c.compare_row.ensures.read.among;
      slots = slots-set c.others.readers c.others.index c.index-readers-index.result c.compare_row.new.reader (search rules)
          c.compare_row.ensures.read.slot ∙ h.slots;
      traffic = search rules;
    }

pub returns-clause-others : goal.returns-clause-others
returns-clause-others g c first given slots ours spelled ne behind row =
    others-done c.others.index c.others.found (row_of ours) first (g.S.Slots.sees c.others.shelf) given slots c.others.readers
    (c.others.invariant.others first given slots ours spelled ne behind row) (search rules)

pub returns-in_err-difference-clause-needed : goal.returns-in_err-difference-clause-needed
returns-in_err-difference-clause-needed g c first given slots ours spelled ne behind row =
    let h = c.others.invariant in
    let b = next-behind (c.others.index + 1) c.others.index c.others.found (row_of ours) first (g.S.Slots.sees c.others.shelf)
    (g.S.Slots.sees c.others.shelf) given slots c.others.readers c.index-readers-index.result c.index-readers-index.result
    (h.others first given slots ours spelled ne behind row) (search rules) (omega arith) in
    reader-needed first (g.S.Slots.sees c.others.shelf) (g.S.Slots.sees c.compare_row.new.shelf) given slots
    (get_or c.others.readers c.others.index c.index-readers-index.result) c.compare_row.new.reader b c.compare_row.ensures.read
    (h.needed first given slots ours spelled ne behind row)

pub returns-clause-needed : goal.returns-clause-needed
returns-clause-needed g c first given slots ours spelled ne behind row =
    c.others.invariant.needed first given slots ours spelled ne behind row
