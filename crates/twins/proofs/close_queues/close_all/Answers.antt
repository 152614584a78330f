use Rattle.std.proofs.Common.{sym}
use Rattle.frame_queue.specs.Queues.{IsSenderOf}
use Rattle.twins.specs.declared.twin.Twin.{Twin}
use Rattle.twins.specs.Intakes.{IsIntakeOf}
use Rattle.twins.proofs.Closed.{none-closed, one-closed}
use Rattle.twins.proofs.Pairs.{pair_less}
use Rattle.twins.proofs.close_queues.close_all.Goals as goal

pub copies-init : goal.copies-init
copies-init g c = record {
  senders = c.requires.senders;
  intakes = c.requires.intakes;
  closed = none-closed c.args.intakes.items c.args.twins.items;
}

pub close-rest-requires-clause-sender : goal.close-rest-requires-clause-sender
close-rest-requires-clause-sender g c =
    (pair_less (λ q (twin : Twin _ _ _ _ _). IsSenderOf q twin.sender) c.pop.new.self.items c.pop-in-Some.new.self.items c.in-Some.queue
    c.in-Some-pop.twin (rw (c.in-Some.ensures.items, c.in-Some-pop.ensures.items) at c.copies.invariant.senders)).1

pub close-rest-requires-clause-receiver : goal.close-rest-requires-clause-receiver
close-rest-requires-clause-receiver g c =
    (pair_less IsIntakeOf c.pop.new.self.items c.pop-in-Some-2.new.self.items c.in-Some.queue c.in-Some-pop-2.intake
    (rw (c.in-Some.ensures.items, c.in-Some-pop-2.ensures.items) at c.copies.invariant.intakes)).1

pub copies-preserved : goal.copies-preserved
copies-preserved g c = record {
  senders = (pair_less (λ q (twin : Twin _ _ _ _ _). IsSenderOf q twin.sender) c.pop.new.self.items c.pop-in-Some.new.self.items
      c.in-Some.queue c.in-Some-pop.twin (rw (c.in-Some.ensures.items, c.in-Some-pop.ensures.items) at c.copies.invariant.senders)).0;
  intakes = (pair_less IsIntakeOf c.pop.new.self.items c.pop-in-Some-2.new.self.items c.in-Some.queue c.in-Some-pop-2.intake
      (rw (c.in-Some.ensures.items, c.in-Some-pop-2.ensures.items) at c.copies.invariant.intakes)).0;
  closed = one-closed c.copies.intakes.items c.args.intakes.items c.pop-in-Some-2.new.self.items c.copies.twins.items c.args.twins.items
      c.pop-in-Some.new.self.items c.in-Some-pop-2.intake c.in-Some-pop.twin c.copies.invariant.closed c.in-Some-pop-2.ensures.items
      c.in-Some-pop.ensures.items (c.close-rest.result, sym c.close-rest.ensures);
}
