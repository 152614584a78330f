use Rattle.std.proofs.Common.{rules, ◌≡◌, ◌∙◌, ◌++◌, ◌∷◌, [], None, ap, length, length-append, arith}
use Rattle.toml.specs.View.{view}
use Rattle.manifest.specs.Limits.{IsEvent}
use Rattle.manifest.specs.Keys.{event_keys}
use Rattle.manifest.specs.Faults.{first_fault}
use Rattle.manifest.specs.Meaning.{event_at}
use Rattle.manifest.proofs.Steps.{events_past, values_more, all_more}
use Rattle.manifest.proofs.events.read_events.Goals as goal

pub loop-i-preserved : goal.loop-i-preserved
loop-i-preserved c =
    let tree = view c.args.tree.now in
    let i = c.loop-i.i in
    let n = c.in_ok-count.count in
    let x = c.in_ok-read_event.field-0 in
    let good : first_fault tree (event_keys i) ≡ None = search (rules, c.in_ok-read_event.ensures.judged) in
    let read : x ≡ event_at tree i = search (rules, c.in_ok-read_event.ensures.judged) in
    let pushed : c.push.new.self ≡ c.loop-i.events ++ x ∷ [] = search (rules, c.in_ok-push.ensures) in
    record {
      faults = c.loop-i.invariant.faults ∙ events_past tree i n c.loop-i-test.true good;
      values = c.loop-i.invariant.values ∙ values_more (event_at tree) i n c.loop-i.events c.push.new.self x c.loop-i-test.true read pushed;
      long = omega (arith, simp length-append at (ap length pushed), c.loop-i.invariant.long);
      range = all_more IsEvent c.loop-i.events c.push.new.self x c.loop-i.invariant.range c.in_ok-read_event.ensures.range pushed;
    }
