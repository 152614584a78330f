use Rattle.std.proofs.Common.{◌≡◌, refl, length, rules}
use Rattle.det_io.proofs.Places.{places-asked, places-opened}
use Rattle.det_io.proofs.mem_shelf.MemShelfShelf.open_input.Goals as goal

pub returns-clause-opens : goal.returns-clause-opens
returns-clause-opens c =
    let ok = c.args.self.now.slots.ok in
    let count : c.len-slot.result ≡ length c.args.self.now.slots.items = search (rules, c.len-slot.ensures) in
    places-opened c.args.self.now.files _ c.args.self.now.slots.items _ c.args.self.now.names_known c.args.self.now.asked.items _ _ _
    c.len-slot.result (record { file = c.in-Some.file; at = 0 }) c.args.name.now c.as_slice.ensures.items c.in-Some.ensures.value count refl
    c.push_within-2.ensures.items

pub returns-clause-asked : goal.returns-clause-asked
returns-clause-asked c = places-asked c.args.self.now.files _ c.args.self.now.slots.items _ c.args.self.now.names_known
    c.args.self.now.asked.items _ _ _
    c.in-Some.file c.args.name.now c.as_slice.ensures.items c.in-Some.ensures.value c.push_within.ensures.items

pub returns-then-is_listed-clause-asked : goal.returns-then-is_listed-clause-asked
returns-then-is_listed-clause-asked c = places-asked c.args.self.now.files _ c.args.self.now.slots.items _ c.args.self.now.names_known
    c.args.self.now.asked.items _ _ _
    c.in-Some.file c.args.name.now c.as_slice.ensures.items c.in-Some.ensures.value c.push_within.ensures.items
