use Rattle.std.proofs.Common.{rules, refl, arith}
use Rattle.record_reader.specs.item_reader.StandsFor.{unread}
use Rattle.record_reader.proofs.lemmas.item_reader.Reading.{viewed_ok, viewed_more, viewed_bad, view_now, view_of, next_ok, next_holds}
use Rattle.record_reader.proofs.lemmas.item_reader.Reading.{next_falls, next_bad}
use Rattle.record_reader.proofs.lemmas.item_reader.Reading.{scan_none}
use Rattle.record_reader.proofs.item_reader.reader.ItemReader.next_held.Goals as goal

pub returns-in-Ok-clause-item : goal.returns-in-Ok-clause-item
returns-in-Ok-clause-item c read given h =
    let r = c.args.self.now in
    let v = view_now r read given c.as_slice.result.now c.view_item-answer.result c.requires.last c.as_slice.ensures.value c.view_item-answer.ensures.viewed h in
    let w = viewed_ok r.place _ (unread r) c.in-Ok.span v c.in-Ok.is in
    next_ok r _ read given c.in-Ok.span c.requires.last refl refl (search rules) c.requires.going h w
    (λ item len xs. c.place_after-self.ensures item len xs) (scan_none _ c.no_scan-self.result _ c.no_scan-self.ensures)

pub returns-in-Ok-clause-room : goal.returns-in-Ok-clause-room
returns-in-Ok-clause-room c read given h =
    let r = c.args.self.now in
    let v = view_now r read given c.as_slice.result.now c.view_item-answer.result c.requires.last c.as_slice.ensures.value c.view_item-answer.ensures.viewed h in
    let w = viewed_ok r.place _ (unread r) c.in-Ok.span v c.in-Ok.is in
    next_falls r c.in-Ok.span c.place_after-self.result w (λ item len xs. c.place_after-self.ensures item len xs)

pub returns-in-Err-More-clause-item : goal.returns-in-Err-More-clause-item
returns-in-Err-More-clause-item c read given h =
    let r = c.args.self.now in
    let v = view_now r read given c.as_slice.result.now c.view_item-answer.result c.requires.last c.as_slice.ensures.value c.view_item-answer.ensures.viewed h in
    let m = viewed_more r.place _ (unread r) v (search rules) in
    record { stands = record { leads = h.leads; scan = m.1; counted = h.counted; going = h.going }; more = m.0 }

pub returns-in-Err-Bad-clause-item : goal.returns-in-Err-Bad-clause-item
returns-in-Err-Bad-clause-item c read given h =
    let r = c.args.self.now in
    let v = view_now r read given c.as_slice.result.now c.view_item-answer.result c.requires.last c.as_slice.ensures.value c.view_item-answer.ensures.viewed h in
    let b = viewed_bad r.place _ (unread r) c.in-Err-Bad.reason c.in-Err-Bad.left v (search rules) in (
      next_bad r read given c.in-Err-Bad.reason c.in-Err-Bad.left _ c.requires.last h b.0
          b.1 (omega (arith, c.len.ensures)),
      refl,
    )

pub returns-in-Ok-clause-scanned : goal.returns-in-Ok-clause-scanned
returns-in-Ok-clause-scanned c scan =
    let r = c.args.self.now in
    let v = view_of r c.as_slice.result.now c.view_item-answer.result c.requires.last c.as_slice.ensures.value c.view_item-answer.ensures.viewed scan in
    let w = viewed_ok r.place _ (unread r) c.in-Ok.span v c.in-Ok.is in (w.0, next_holds r _ c.in-Ok.span c.requires.last refl refl w)

pub returns-in-Err-More-clause-scanned : goal.returns-in-Err-More-clause-scanned
returns-in-Err-More-clause-scanned c scan =
    let r = c.args.self.now in
    let v = view_of r c.as_slice.result.now c.view_item-answer.result c.requires.last c.as_slice.ensures.value c.view_item-answer.ensures.viewed scan in
    (viewed_more r.place _ (unread r) v (search rules)).1
