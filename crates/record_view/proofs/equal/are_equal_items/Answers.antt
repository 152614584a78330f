use Rattle.std.proofs.Common.{◌≤◌, arith}
use Rattle.record_view.specs.Shows.{events_of}
use Rattle.record_view.proofs.EqualItems.{spellings_equal}
use Rattle.record_view.proofs.equal.are_equal_items.Goals as goal

pub returns : goal.returns
returns c a b h k =
    let most : c.events_at-events.result ≤ 65536 = omega (arith, c.events_at-events.type_inv) in
    let few : events_of c.args.one.place ≤ 65536 = rw c.events_at-events.ensures at most in
    let both = spellings_equal c.args.one c.args.other c.args.one_bytes.now c.args.other_bytes.now a b c.requires.place few
    c.same_bytes.ensures.bytes.0 c.same_bytes.ensures.bytes.1 h k in
    (λ e. both.1 (c.same_bytes.ensures.same.0 e), λ e. c.same_bytes.ensures.same.1 (both.0 e))
