use Rattle.std.proofs.Common.{◌≤◌, ◌∙◌, arith}
use Rattle.record_view.specs.Shows.{events_of}
use Rattle.record_reader.proofs.Items.{next_is}
use Rattle.record_reader.proofs.Kept.{adds, piece-is, take-done}
use Rattle.record_reader.proofs.Pieces.{cycles-room, refused-few}
use Rattle.record_reader.proofs.salvage.Salvage.take.Goals as goal

pub count-requires-clause-few : goal.count-requires-clause-few
count-requires-clause-few g c =
    let r = c.requires in let room = cycles-room r.0 r.1 r.3.first in let kept = r.2.cycles in omega (arith, room, kept)

pub count-requires-clause-refused : goal.count-requires-clause-refused
count-requires-clause-refused g c =
    let r = c.requires in let few = refused-few r.0 in let cycles = r.2.cycles in let refused = r.2.refused in
    omega (arith, few, cycles, refused)

pub returns-clause-takes : goal.returns-clause-takes
returns-clause-takes g c given item keeps next =
    let most : c.events_at-events.result ≤ 65536 = omega (arith, c.events_at-events.type_inv) in
    let few : events_of c.args.view.place ≤ 65536 = rw c.events_at-events.ensures at most in
    let kind = c.args.view.span.kind in
    take-done given item kind c.args.self.now c.count.new.self c.put.new.self c.kept_bytes.result.now (record {
      next = next_is given item next.first;
      keeps = keeps;
      adds = adds c.args.view.place kind c.args.view.span.len c.args.bytes.now item next.spelling.shows.parts;
      count = c.count.ensures;
      piece = c.kept_bytes.ensures.value ∙ piece-is given item c.args.view c.args.bytes.now next few c.kept_bytes.ensures.bytes;
    }) c.put.result _ c.put.ensures.same c.put.ensures.puts
