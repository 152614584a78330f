use Rattle.std.proofs.Common.{inl, ℕ, List, [], ◌++◌, Option, Ok, refl, subst}
use Rattle.det_io.specs.Shelf.{Reads, IsAtEnd}
use Rattle.det_io.proofs.SlotReads.{reads-none}
use Rattle.record_view.specs.declared.view.ItemView.{ItemView}
use Rattle.record_reader.specs.item_reader.StandsFor.{FoundFault, GaveItem, slot_of}
use Rattle.record_reader.specs.item_reader.Steps.{HeldIs, StepIs, ScannedOf}
use Rattle.record_reader.proofs.lemmas.item_reader.Passing.{are_none}
use Rattle.record_reader.proofs.lemmas.item_reader.Stepping.{read_none, faulty, gave, needed}
use Rattle.record_reader.proofs.item_reader.reader.ItemReader.step.Goals as goal

pub returns-in-Err-clause-step : goal.returns-in-Err-clause-step
returns-in-Err-clause-step g c =
    let at_end = IsAtEnd (g.S.Slots.sees c.args.shelf.now) (slot_of c.args.self.now) in (
      [],
      reads-none _ _,
      λ read given h. let x = c.in-Err.ensures.item read given h in (
        inl refl,
        (
          read_none (λ (xs : List ℕ). FoundFault c.in-Err.fault at_end xs given) read
              (faulty c.in-Err.fault at_end read given x.0),
          x.1,
        ),
      ),
      are_none,
    )

pub returns-in-Some-clause-step : goal.returns-in-Some-clause-step
returns-in-Some-clause-step g c = (
  [],
  reads-none _ _,
  λ read given h. (
    inl refl,
    read_none (λ (xs : List ℕ). GaveItem c.in-Some.view c.next_held.new.self xs given) read
        (subst (λ (o : Option ItemView). HeldIs (Ok o) c.next_held.new.self read given) c.in-Some.is
        (c.in-Ok.ensures.item read given h)),
  ),
  are_none,
)

pub returns-in-None-clause-step : goal.returns-in-None-clause-step
returns-in-None-clause-step g c =
    let s = c.read_on.ensures.step in (
      s.0,
      subst (λ (slot : ℕ). Reads (g.S.Slots.sees c.args.shelf.now) (g.S.Slots.sees c.read_on.new.shelf) slot s.0)
          c.in-Ok.ensures.slot s.1,
      λ read given h. let k = subst (λ (o : Option ItemView). HeldIs (Ok o) c.next_held.new.self read given) c.in-None.is
          (c.in-Ok.ensures.item read given h) in
          let all = gave c.next_held.new.self read given k in (
            needed read given s.0 all.0 all.1,
            subst (λ (slot : ℕ). StepIs c.read_on.result c.read_on.new.self (IsAtEnd (g.S.Slots.sees c.read_on.new.shelf) slot)
                (read ++ s.0) given) c.in-Ok.ensures.slot (s.2 read given k),
          ),
      s.3,
    )

pub returns-in-Some-clause-scanned : goal.returns-in-Some-clause-scanned
returns-in-Some-clause-scanned g c scan =
    subst (λ (o : Option ItemView). ScannedOf (Ok o) c.next_held.new.self) c.in-Some.is (c.in-Ok.ensures.scanned scan)

pub returns-in-None-clause-scanned : goal.returns-in-None-clause-scanned
returns-in-None-clause-scanned g c scan =
    c.read_on.ensures.scanned
    (subst (λ (o : Option ItemView). ScannedOf (Ok o) c.next_held.new.self) c.in-None.is (c.in-Ok.ensures.scanned scan))
