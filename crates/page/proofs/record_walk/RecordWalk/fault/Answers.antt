use Rattle.std.proofs.Common.{ℕ, Option, Some, sym, ap, ◌∙◌, rules}
use Rattle.record_grammar.specs.declared.record_fault.Reason.{Reason}
use Rattle.record_grammar.specs.declared.record_fault.RecordFault.{RecordFault}
use Rattle.record_grammar.specs.Record.{Ending, fault_from, ending_at}
use Rattle.page.proofs.Walking.{view_now, viewed_ok, ends_at, ends_faulty, ends_early, not_left}
use Rattle.page.proofs.record_walk.RecordWalk.fault.Goals as goal

pub returns-in-Ok : goal.returns-in-Ok
returns-in-Ok c none =
    let w = c.args.self.now in
    let v = view_now w.place c.no_scan.result w.rest.now c.view_item-answer.result c.no_scan.ensures c.view_item-answer.ensures.viewed in
    let x = viewed_ok w.place c.view_item-answer.result w.rest.now c.in-Ok.field-0 v c.in-Ok.is in
    absurd (not_left w.place c.in-Ok.field-0 w.rest.now x.0 x.1 none)

abbrev a_fault : Reason → ℕ → Option RecordFault
a_fault reason offset = Some (record { offset = offset; reason = reason })

pub returns-in-Err-Bad : goal.returns-in-Err-Bad
returns-in-Err-Bad c none =
    let w = c.args.self.now in
    let v = view_now w.place c.no_scan.result w.rest.now c.view_item-answer.result c.no_scan.ensures c.view_item-answer.ensures.viewed in
    let e = ends_faulty w.place c.view_item-answer.result w.rest.now c.in-Err-Bad.reason c.in-Err-Bad.left v (search rules) in
    ap (a_fault c.in-Err-Bad.reason) c.saturating_sub.ensures ∙ sym (ap (λ (x : Ending). fault_from c.args.count x) e)

pub returns-in-End : goal.returns-in-End
returns-in-End c none =
    let w = c.args.self.now in
    let v = view_now w.place c.no_scan.result w.rest.now c.view_item-answer.result c.no_scan.ensures c.view_item-answer.ensures.viewed in
    let e = ends_at w.place c.view_item-answer.result w.rest.now v (search rules) in
    sym (ap (λ (x : Ending). fault_from c.args.count x) (e ∙ ap ending_at c.in-End.is))

pub returns-in_default : goal.returns-in_default
returns-in_default c none =
    let w = c.args.self.now in
    let v = view_now w.place c.no_scan.result w.rest.now c.view_item-answer.result c.no_scan.ensures c.view_item-answer.ensures.viewed in
    let e = ends_at w.place c.view_item-answer.result w.rest.now v (search rules) in
    sym (ap (λ (x : Ending). fault_from c.args.count x) (e ∙ ends_early w.place c.in_default.not-End))
