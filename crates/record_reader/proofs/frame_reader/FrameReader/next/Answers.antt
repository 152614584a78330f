use Rattle.std.proofs.Common.{Option, Some, None, Ok, sym, subst}
use Rattle.det_io.specs.Shelf.{IsAtEnd}
use Rattle.record_grammar.specs.declared.item.Item.{Item}
use Rattle.record_grammar.specs.declared.item.Item.TheVariants as items
use Rattle.record_view.specs.declared.view.ItemView.{ItemView}
use Rattle.record_reader.specs.item_reader.StandsFor as inner
use Rattle.record_reader.specs.Frames.{FrameIs, slot_of}
use Rattle.record_reader.proofs.FrameReading.{has_read, gave_frame, held_frame}
use Rattle.record_reader.proofs.frame_reader.FrameReader.next.Goals as goal

pub frame_in-requires : goal.frame_in-requires
frame_in-requires g c =
    let at_end = IsAtEnd (g.S.Slots.sees c.next.new.shelf) (slot_of c.args.self.now) in
    let h = subst (λ (x : Option ItemView). inner.HasRead (g.S.Slots.sees c.args.shelf.now) (g.S.Slots.sees c.next.new.shelf)
    c.args.self.now.items (inner.ItemIs (Ok x) c.next.new.self at_end)) c.in-Some.is c.in_ok-item.ensures.item in
    let q = c.requires.headed in
    let f = held_frame c.args.self.now c.next.new.self c.in-Some.item at_end q.0 q.1 q.2 q.3 h in
    (f.1.kind, f.1.shown)

pub returns-in-Some-clause-frame : goal.returns-in-Some-clause-frame
returns-in-Some-clause-frame g c =
    let at_end = IsAtEnd (g.S.Slots.sees c.next.new.shelf) (slot_of c.args.self.now) in
    has_read c.args.self.now (inner.ItemIs (Ok (Some c.in-Some.item)) c.next.new.self at_end)
    (FrameIs (Ok (Some c.frame_in.result)) (record { items = c.next.new.self }) at_end)
    (λ p read behind gave. gave_frame c.in-Some.item c.frame_in.result (record { items = c.next.new.self }) p read behind
    c.frame_in.ensures gave)
    (subst (λ (x : Option ItemView). inner.HasRead (g.S.Slots.sees c.args.shelf.now) (g.S.Slots.sees c.next.new.shelf)
    c.args.self.now.items (inner.ItemIs (Ok x) c.next.new.self at_end)) c.in-Some.is c.in_ok-item.ensures.item)

pub returns-in-Some-clause-held : goal.returns-in-Some-clause-held
returns-in-Some-clause-held g c =
    let at_end = IsAtEnd (g.S.Slots.sees c.next.new.shelf) (slot_of c.args.self.now) in
    let h = subst (λ (x : Option ItemView). inner.HasRead (g.S.Slots.sees c.args.shelf.now) (g.S.Slots.sees c.next.new.shelf)
    c.args.self.now.items (inner.ItemIs (Ok x) c.next.new.self at_end)) c.in-Some.is c.in_ok-item.ensures.item in
    let q = c.requires.headed in
    let f = held_frame c.args.self.now c.next.new.self c.in-Some.item at_end q.0 q.1 q.2 q.3 h in (
      f.1.frame,
      subst (λ (v : ItemView). inner.Holds c.next.new.self v (items.Frame f.1.frame)) (sym c.frame_in.ensures)
          (subst (λ (x : Item). inner.Holds c.next.new.self c.in-Some.item x) f.1.is f.2),
    )

pub returns-in-None-clause-frame : goal.returns-in-None-clause-frame
returns-in-None-clause-frame g c =
    let at_end = IsAtEnd (g.S.Slots.sees c.next.new.shelf) (slot_of c.args.self.now) in
    has_read c.args.self.now (inner.ItemIs (Ok None) c.next.new.self at_end)
    (FrameIs (Ok None) (record { items = c.next.new.self }) at_end) (λ p read behind gave. gave)
    (subst (λ (x : Option ItemView). inner.HasRead (g.S.Slots.sees c.args.shelf.now) (g.S.Slots.sees c.next.new.shelf)
    c.args.self.now.items (inner.ItemIs (Ok x) c.next.new.self at_end)) c.in-None.is c.in_ok-item.ensures.item)
