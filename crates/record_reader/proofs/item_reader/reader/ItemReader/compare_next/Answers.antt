use Rattle.std.proofs.Common.{◌≡◌, ◌<◌, ◌++◌, Result, refl, subst, rules, arith}
use Rattle.std.proofs.lemmas.List.Elements.{All-from_get_or}
use Rattle.det_io.specs.Shelf.{IsAtEnd}
use Rattle.det_io.specs.declared.failure.Stopped.{Stopped}
use Rattle.record_grammar.specs.declared.record_fault.RecordFault.{RecordFault}
use Rattle.record_grammar.specs.declared.place.Place.{Place}
use Rattle.record_grammar.specs.Places.{may_come}
use Rattle.record_reader.specs.declared.item_reader.comparison.Comparison.{Comparison}
use Rattle.record_reader.specs.item_reader.StandsFor.{HasRead, slot_of, place_of, room}
use Rattle.record_reader.specs.item_reader.Comparison.{ComparisonIs, ComparisonFell}
use Rattle.record_reader.proofs.lemmas.item_reader.Passing.{passed-on}
use Rattle.record_reader.proofs.lemmas.item_reader.Liking.{compared_as, like_whole, like_falls, like_differs, like_ends_good, like_ends_bad, like_fails}
use Rattle.record_reader.proofs.lemmas.item_reader.Liking.{restored_stands}
use Rattle.record_reader.proofs.item_reader.reader.ItemReader.compare_next.Goals as goal

pub returns-in_err-compare-clause-like : goal.returns-in_err-compare-clause-like
returns-in_err-compare-clause-like g c =
    let old = c.args.self.now in
    let place_is : old.place ≡ c.args.view.place = search rules in
    let at_end = IsAtEnd (g.S.Slots.sees c.compare.new.shelf) (slot_of old) in
    passed-on (λ (r : Result Comparison (Stopped RecordFault)). HasRead (g.S.Slots.sees c.args.shelf.now) (g.S.Slots.sees
    c.compare.new.shelf) old
    (ComparisonIs r c.args.view c.args.bytes.now (place_of old) c.compare.new.self at_end)) c.from_residual.result c.from_residual.ensures.1
    (like_fails c.in_err-compare.field-0.0 c.args.view c.requires.spelled.0 c.args.bytes.now _ _ old c.compare.new.self at_end place_is c.requires.spelled.1
    c.in_err-compare.ensures.compared)

pub returns-in-Whole-clause-like : goal.returns-in-Whole-clause-like
returns-in-Whole-clause-like g c =
    let old = c.args.self.now in
    let mid = c.compare.new.self in
    let place_is : old.place ≡ c.args.view.place = search rules in
    let k = compared_as c.in-Whole.is c.in_ok-compare.ensures.compared in
    like_whole c.args.view c.requires.spelled.0 c.args.bytes.now _ _ old mid _ place_is c.requires.spelled.1 k refl refl refl refl refl
    (λ item len xs. c.place_after-self.ensures item len xs)

pub returns-in-Whole-clause-room : goal.returns-in-Whole-clause-room
returns-in-Whole-clause-room g c read given h =
    let place_is : c.args.self.now.place ≡ c.args.view.place = search rules in
    like_falls c.args.view c.requires.spelled.0 c.args.bytes.now c.args.self.now.place c.place_after-self.result place_is c.requires.spelled.1
    (λ item len xs. c.place_after-self.ensures item len xs)

pub returns-in-Differs-clause-like : goal.returns-in-Differs-clause-like
returns-in-Differs-clause-like g c =
    let old = c.args.self.now in
    let mid = c.compare.new.self in
    let bytes = c.args.bytes.now in
    let place_is : old.place ≡ c.args.view.place = search rules in
    let o = c.next_uncompared-in-Differs in
    let k = compared_as c.in-Differs.is c.in_ok-compare.ensures.compared in
    like_differs c.args.view c.requires.spelled.0 bytes o.result _ _ _ old mid o.new.self c.goes_on_at.ensures.few
    (All-from_get_or (λ b. b < 256) bytes 0 (λ i l. omega (arith, c.type_inv.bytes i))) place_is c.requires.spelled.1 k o.ensures.other

pub returns-in-Differs-clause-room : goal.returns-in-Differs-clause-room
returns-in-Differs-clause-room g c read given h =
    let old = c.args.self.now in
    let mid = c.compare.new.self in
    let o = c.next_uncompared-in-Differs in
    let k = compared_as c.in-Differs.is c.in_ok-compare.ensures.compared in
    subst (λ (place : Place). ComparisonFell o.result (may_come place) (room o.new.self)) k.aside.place
    (o.ensures.room (read ++ k.more) given (restored_stands old read given h mid k.more k.aside k.is.0))

pub returns-in-Ok-clause-like : goal.returns-in-Ok-clause-like
returns-in-Ok-clause-like g c =
    let old = c.args.self.now in
    let mid = c.compare.new.self in
    let place_is : old.place ≡ c.args.view.place = search rules in
    let k = compared_as c.in-Ends.is c.in_ok-compare.ensures.compared in
    like_ends_good c.args.view c.requires.spelled.0 c.args.bytes.now _ _ old mid c.finish.new.self place_is c.requires.spelled.1 k c.in-Ok.ensures.0 c.in-Ok.ensures.1

pub returns-in-Err-clause-like : goal.returns-in-Err-clause-like
returns-in-Err-clause-like g c =
    let old = c.args.self.now in
    let mid = c.compare.new.self in
    let place_is : old.place ≡ c.args.view.place = search rules in
    let k = compared_as c.in-Ends.is c.in_ok-compare.ensures.compared in
    like_ends_bad c.args.view c.requires.spelled.0 c.args.bytes.now _ _ old mid c.finish.new.self c.in-Err.fault place_is c.requires.spelled.1 k c.in-Err.ensures.0
    c.in-Err.ensures.3
