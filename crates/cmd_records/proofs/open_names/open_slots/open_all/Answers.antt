use Rattle.std.proofs.Common.{◌≤◌, refl, subst, sym, ap, ◌∙◌, is_ok, Bor, List, ℕ, length, take, rules, arith}
use Rattle.std.proofs.lemmas.List.{take_all}
use Rattle.det_io.specs.Shelf.{ShelfState}
use Rattle.cli_answers.specs.Slots.{KeepsSlots}
use Rattle.cli_answers.proofs.Keeping.{keeps-stay, keeps-opens, keeps-then}
use Rattle.cmd_records.specs.open_names.OpenedSlots.{Opened}
use Rattle.cmd_records.proofs.lemmas.open_names.Copies.{texts, as-many, are-given, are-different}
use Rattle.cmd_records.proofs.lemmas.open_names.Opened.{opened-next, pushed, texts-next, texts-fewer, asks-next, asks-first}
use Rattle.cmd_records.proofs.open_names.open_slots.open_all.Goals as goal

pub returns-in_err-slot-clause-asked : goal.returns-in_err-slot-clause-asked
returns-in_err-slot-clause-asked g c =
    asks-first c.args.names.now c.names.name-index _ c.names-test.true c.names.invariant.asked c.in_err-slot.ensures.asked

pub returns-in_err-slot-clause-unopened : goal.returns-in_err-slot-clause-unopened
returns-in_err-slot-clause-unopened g c e =
    let stay = c.in_err-slot.ensures.slots.slots in
    let count = c.names.invariant.opened.count in
    let fewer = texts-fewer c.args.names.now c.names.name-index c.names-test.true in
    omega (arith, stay, count, fewer)

pub returns-in_err-map_err-clause-asked : goal.returns-in_err-map_err-clause-asked
returns-in_err-map_err-clause-asked g c =
    asks-first c.args.names.now c.names.name-index _ c.names-test.true c.names.invariant.asked c.in_ok-slot.ensures.asked

-- one open more keeps the earlier slots
earlier-next : {first mid : ShelfState} {names : List (List ℕ)} {slots : List ℕ} (last : ShelfState) → Opened first mid names slots
    → KeepsSlots first mid → KeepsSlots mid last → KeepsSlots first last
earlier-next {first} {mid} last opened one more = let count = opened.count in keeps-then first mid last (omega (arith, count)) one more

pub returns-in_err-slot-clause-earlier : goal.returns-in_err-slot-clause-earlier
returns-in_err-slot-clause-earlier g c =
    let h = c.names.invariant in earlier-next (g.S.Slots.sees c.open_input.new.self) h.opened h.earlier (keeps-stay
    c.in_err-slot.ensures.slots)

pub returns-in_err-map_err-clause-earlier : goal.returns-in_err-map_err-clause-earlier
returns-in_err-map_err-clause-earlier g c =
    let h = c.names.invariant in earlier-next (g.S.Slots.sees c.open_input.new.self) h.opened h.earlier (keeps-opens
    c.in_ok-slot.ensures.opens)

-- all names were opened
all-opened : {first last : ShelfState} {slots : List ℕ} (i : ℕ) (names : List (Bor (List ℕ))) → length names ≤ i
    → Opened first last (texts (take i names)) slots → Opened first last (texts names) slots
all-opened {first} {last} {slots} i names over h =
    subst (λ (ns : List (Bor (List ℕ))). Opened first last (texts ns) slots) (take_all i names over) h

pub returns-clause-given : goal.returns-clause-given
returns-clause-given g c =
    are-given c.args.names.now refl
    (all-opened c.names.name-index c.args.names.now (omega (arith, c.names-test.false)) c.names.invariant.opened)

pub returns-clause-different : goal.returns-clause-different
returns-clause-different g c =
    are-different c.args.names.now refl
    (all-opened c.names.name-index c.args.names.now (omega (arith, c.names-test.false)) c.names.invariant.opened)

pub returns-clause-many : goal.returns-clause-many
returns-clause-many g c =
    as-many c.args.names.now refl
    (all-opened c.names.name-index c.args.names.now (omega (arith, c.names-test.false)) c.names.invariant.opened)

pub names-preserved : goal.names-preserved
names-preserved g c =
    let first = g.S.Slots.sees c.args.shelf.now in
    let mid = g.S.Slots.sees c.names.shelf in
    let last = g.S.Slots.sees c.open_input.new.self in
    let h = c.names.invariant in
    record {
      opened = subst (λ (names : List (List ℕ)). Opened first last names c.push.new.self.items)
          (sym (texts-next c.args.names.now c.names.name-index _ c.names-test.true))
          (subst (Opened first last _) (sym (pushed c.names.slots.items c.push.new.self.items c.in_ok-slot.slot _ c.push.ensures.items
          (sym c.map_err.ensures.variant ∙ ap is_ok c.in_ok-map_err.was)))
          (opened-next first mid last _ c.in_ok-slot.slot h.holds c.in_ok-slot.ensures.opens _ c.names.slots.items h.opened));
      asked = asks-next c.args.names.now c.names.name-index _ c.names-test.true h.asked c.in_ok-slot.ensures.asked;
      earlier = earlier-next (g.S.Slots.sees c.open_input.new.self) h.opened h.earlier (keeps-opens c.in_ok-slot.ensures.opens);
      holds = c.in_ok-slot.ensures.holds ∙ h.holds;
      traffic = search rules;
    }
