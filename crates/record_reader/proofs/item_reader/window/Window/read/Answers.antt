use Rattle.std.proofs.Common.{rules, ◌≡◌, ◌<◌, ℕ, ◌+◌, ◌-◌, ◌≤◌, List, [], ◌++◌, Result, refl, length, take, drop, ap, sym, ◌∙◌, arith}
use Rattle.std.proofs.lemmas.List.{append-nil, with_items_is}
use Rattle.std.proofs.lemmas.List.Elements.{All-take}
use Rattle.det_io.specs.declared.failure.Failure.{Failure}
use Rattle.det_io.proofs.SlotReads.{reads-none}
use borrow.Rule.Slice.PartMut.{post_of}
use Rattle.record_reader.specs.item_reader.Held.{held, Took}
use Rattle.record_reader.proofs.lemmas.item_reader.Passing.{passed-on, are_none}
use Rattle.record_reader.proofs.lemmas.item_reader.Lists.{read_behind}
use Rattle.record_reader.proofs.item_reader.window.Window.read.Goals as goal

pub returns-in-Ok-clause-took : goal.returns-in-Ok-clause-took
returns-in-Ok-clause-took g c =
    let w = c.make_room.new.self in
    let n = c.in-Ok.n in
    let xs = c.deref_mut.result.now in
    let piece = c.read_slot.new.buffer in
    let rest : List ℕ = post_of w.to (w.to + 65536 - w.to) xs in
    let value : xs ≡ w.buffer.items = c.deref_mut.ensures.value in
    let long : length piece ≡ 65536 = search rules in
    let fits : n ≤ length piece = search rules in
    let same : length (take w.to xs ++ (piece ++ rest)) ≡ w.buffer.len = search rules in
    record {
      more = take n piece;
      reads = c.in-Ok.ensures.reads;
      is =
          ap (λ (ys : List ℕ). drop w.from (take (w.to + n) ys)) (with_items_is w.buffer (take w.to xs ++ (piece ++ rest)) same)
          ∙ read_behind w.from w.to n xs piece rest (omega arith) (omega (arith, ap length value, w.buffer.ok.0)) fits
          ∙ ap (λ (ys : List ℕ). drop w.from (take w.to ys) ++ take n piece) value
          ∙ ap (λ (ys : List ℕ). ys ++ take n piece) c.make_room.ensures.same;
      told = search rules;
      are = All-take (λ b. b < 256) n piece c.in-Ok.ensures.bytes;
    }

pub returns-in_err-make_room-clause-took : goal.returns-in_err-make_room-clause-took
returns-in_err-make_room-clause-took g c =
    let old : List ℕ = held c.args.self.now in
    let state = g.S.Slots.sees c.args.shelf.now in
    passed-on (λ (r : Result ℕ Failure). Took r state state c.args.slot old (held c.make_room.new.self)) c.from_residual.result
    c.from_residual.ensures.1
    (record { more = []; reads = reads-none _ _; is = c.make_room.ensures.same ∙ sym (append-nil old); told = refl; are = are_none })
