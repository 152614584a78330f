use Rattle.std.proofs.Common.{drop, refl, sym, ap}
use Rattle.record_grammar.specs.Record.{Decoded}
use Rattle.record_grammar.proofs.Leads.{can_follow}
use Rattle.page.proofs.Walking.{view_now, viewed_ok, no_items, item_left, item_shorter}
use Rattle.page.proofs.record_walk.RecordWalk.next_item.Goals as goal

pub returns-in-Ok-clause-some : goal.returns-in-Ok-clause-some
returns-in-Ok-clause-some c =
    let w = c.args.self.now in
    let v = view_now w.place c.no_scan.result w.rest.now c.view_item-answer.result c.no_scan.ensures c.view_item-answer.ensures.viewed in
    let x = viewed_ok w.place c.view_item-answer.result w.rest.now c.in-Ok.span v c.in-Ok.is in
    let to = c.place_after-self.ensures x.0 c.in-Ok.span.len w.rest.now (can_follow w.place w.rest.now x.0 (drop c.in-Ok.span.len w.rest.now) x.1.read) x.1.parts in
    let e = item_left w.place c.place_after-self.result c.in-Ok.span w.rest.now c.bytes_after-self.result.now x.0 x.1 to c.bytes_after-self.ensures in
    record {
      item = x.0;
      shows = x.1;
      items = ap (λ (d : Decoded). d.items) e;
      ending = sym (ap (λ (d : Decoded). d.ending) e);
    }

pub returns-in-Ok-clause-shorter : goal.returns-in-Ok-clause-shorter
returns-in-Ok-clause-shorter c =
    let w = c.args.self.now in
    let v = view_now w.place c.no_scan.result w.rest.now c.view_item-answer.result c.no_scan.ensures c.view_item-answer.ensures.viewed in
    let x = viewed_ok w.place c.view_item-answer.result w.rest.now c.in-Ok.span v c.in-Ok.is in
    item_shorter w.place c.in-Ok.span w.rest.now c.bytes_after-self.result.now x.0 x.1 c.bytes_after-self.ensures

pub returns-in-Err-clause-none : goal.returns-in-Err-clause-none
returns-in-Err-clause-none c =
    let w = c.args.self.now in
    let v = view_now w.place c.no_scan.result w.rest.now c.view_item-answer.result c.no_scan.ensures c.view_item-answer.ensures.viewed in
    (no_items w.place c.view_item-answer.result w.rest.now _ v c.in-Err.is, refl)
