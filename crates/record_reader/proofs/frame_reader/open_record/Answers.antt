use Rattle.std.proofs.Common.{◌≡◌, Option, Some, Result, Ok, refl, subst}
use Rattle.det_io.specs.Shelf.{IsAtEnd}
use Rattle.det_io.specs.Traffic.{failure_in}
use Rattle.det_io.specs.declared.failure.Failure.TheVariants.{Write}
use Rattle.det_io.specs.declared.failure.Stopped.{Stopped}
use Rattle.record_grammar.specs.declared.record_fault.RecordFault.{RecordFault}
use Rattle.record_grammar.specs.declared.item.Item.TheVariants as items
use Rattle.record_view.specs.declared.view.ItemView.{ItemView}
use Rattle.record_reader.proofs.lemmas.item_reader.Passing.{passed-on}
use Rattle.record_reader.specs.item_reader.StandsFor as inner
use Rattle.record_reader.specs.declared.frame_reader.OpenRecord.{OpenRecord}
use Rattle.record_reader.specs.Frames.{HasOpened}
use Rattle.record_reader.proofs.FrameReading.{is_header, header_given, opened, stopped, writes_nothing}
use Rattle.record_reader.proofs.frame_reader.open_record.Goals as goal

pub returns-in_err-next-clause-opened : goal.returns-in_err-next-clause-opened
returns-in_err-next-clause-opened g c =
    passed-on (λ (r : Result OpenRecord (Stopped RecordFault)). HasOpened (g.S.Slots.sees c.args.shelf.now)
    (g.S.Slots.sees c.next.new.shelf) c.args.slot r) c.from_residual.result c.from_residual.ensures.1
    (stopped c.next.new.self c.new-items.ensures.stands c.in_err-next.field-0.0 c.args.slot c.new-items.ensures.slot
    c.in_err-next.ensures.item)

pub returns-in_err-next-clause-writes_nothing : goal.returns-in_err-next-clause-writes_nothing
returns-in_err-next-clause-writes_nothing g c =
    passed-on (λ (r : Result OpenRecord (Stopped RecordFault)). failure_in r ≡ Some Write → ⊥) c.from_residual.result
    c.from_residual.ensures.1
    (writes_nothing c.next.new.self c.new-items.ensures.stands c.in_err-next.field-0.0 c.in_err-next.ensures.item)

pub header_in-header-requires : goal.header_in-header-requires
header_in-header-requires g c =
    is_header c.next.new.self c.new-items.ensures.stands c.in_ok-next.field-0 c.in_ok-next.ensures.item

pub decode_profile-requires : goal.decode_profile-requires
decode_profile-requires g c =
    let h = subst (λ (x : Option ItemView). inner.HasRead (g.S.Slots.sees c.args.shelf.now) (g.S.Slots.sees c.next.new.shelf)
    c.new-items.result (inner.ItemIs (Ok x) c.next.new.self (IsAtEnd (g.S.Slots.sees c.next.new.shelf)
    (inner.slot_of c.new-items.result)))) c.header_in-header.ensures c.in_ok-next.ensures.item in
    let k = header_given c.next.new.self c.new-items.ensures.stands c.header_in-header.result h in
    (k.profile, c.bytes.ensures (items.Header k.profile) k.holds)

pub returns-clause-opened : goal.returns-clause-opened
returns-clause-opened g c =
    let h = subst (λ (x : Option ItemView). inner.HasRead (g.S.Slots.sees c.args.shelf.now) (g.S.Slots.sees c.next.new.shelf)
    c.new-items.result (inner.ItemIs (Ok x) c.next.new.self (IsAtEnd (g.S.Slots.sees c.next.new.shelf)
    (inner.slot_of c.new-items.result)))) c.header_in-header.ensures c.in_ok-next.ensures.item in
    let k = header_given c.next.new.self c.new-items.ensures.stands c.header_in-header.result h in
    opened c.next.new.self c.new-items.ensures.stands c.header_in-header.result c.args.slot
    (record { profile = c.in_ok-profile.profile; frames = record { items = c.next.new.self } }) c.new-items.ensures.slot
    c.next.ensures.slot h refl (c.in_ok-profile.ensures k.profile (c.bytes.ensures (items.Header k.profile) k.holds))
