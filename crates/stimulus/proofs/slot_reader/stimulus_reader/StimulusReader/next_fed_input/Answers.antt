use Rattle.std.proofs.Common.{◌∙◌, sym, ap, subst, arith}
use Rattle.std.specs.Prelude.{None, Some, Ok, Err}
use Rattle.stimulus.specs.declared.stimulus_item.StimulusItem.TheVariants.{Cycle, Terminate}
use Rattle.stimulus.specs.declared.slot_reader.stimulus_reader.StimulusReader.{StimulusReader}
use Rattle.stimulus.specs.slot_reader.StandsFor.{InputIs}
use Rattle.stimulus.specs.slot_reader.Steps.{Hungers}
use Rattle.stimulus.proofs.lemmas.slot_reader.Reading.{answers-as, item-is, fed-input, fed-end, fed-all, fed-stopped, stops-unread}
use Rattle.stimulus.proofs.slot_reader.stimulus_reader.StimulusReader.next_fed_input.Goals as goal

pub items-preserved : goal.items-preserved
items-preserved c =
    let now : StimulusReader = record { slot = c.items.self.slot; text = c.next_cycle.new.self } in
    let next = answers-as (Ok c.in-Ok.item) (Ok (Some Terminate)) c.items.self.text c.next_cycle.new.self
    (item-is c.in-Ok.item c.in-Some.item Terminate c.in-Some.is c.in-Terminate.is) c.in-Ok.ensures.next in
    record {
      stands = λ read given h. fed-end c.items.self now read given next (c.items.invariant.stands read given h);
      room = omega (arith, c.in-Ok.ensures.room, c.items.invariant.room);
      slot = c.items.invariant.slot;
      events = c.in-Ok.ensures.events ∙ c.items.invariant.events;
    }

pub returns-in-Err-clause-input : goal.returns-in-Err-clause-input
returns-in-Err-clause-input c read given h =
    let now : StimulusReader = record { slot = c.items.self.slot; text = c.next_cycle.new.self } in
    subst (λ why. InputIs (Err why) now ⊥ read given) (sym c.stopped.ensures)
    (fed-stopped c.in-Err.error c.items.self now read given c.in-Err.ensures.next (c.items.invariant.stands read given h))

pub returns-in-Err-clause-hungers : goal.returns-in-Err-clause-hungers
returns-in-Err-clause-hungers c =
    let now : StimulusReader = record { slot = c.items.self.slot; text = c.next_cycle.new.self } in
    subst (λ why. Hungers (Err why) now) (sym c.stopped.ensures) (stops-unread c.in-Err.error now)

pub returns-in-None-clause-input : goal.returns-in-None-clause-input
returns-in-None-clause-input c read given h =
    let now : StimulusReader = record { slot = c.items.self.slot; text = c.next_cycle.new.self } in
    fed-all c.items.self now read given
    (answers-as (Ok c.in-Ok.item) (Ok None) c.items.self.text c.next_cycle.new.self (ap Ok c.in-None.is) c.in-Ok.ensures.next)
    (c.items.invariant.stands read given h)

pub returns-in-Cycle-clause-input : goal.returns-in-Cycle-clause-input
returns-in-Cycle-clause-input c read given h =
    let now : StimulusReader = record { slot = c.items.self.slot; text = c.next_cycle.new.self } in
    fed-input c.in-Cycle.input c.items.self now read given
    (answers-as (Ok c.in-Ok.item) (Ok (Some (Cycle c.in-Cycle.input))) c.items.self.text c.next_cycle.new.self
    (item-is c.in-Ok.item c.in-Some.item (Cycle c.in-Cycle.input) c.in-Some.is c.in-Cycle.is) c.in-Ok.ensures.next)
    (c.items.invariant.stands read given h)
