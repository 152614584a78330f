use Rattle.std.proofs.Common.{◌≡◌, ◌+◌, List, length, refl, sym, ap, ◌∙◌, subst}
use Rattle.std.specs.Vec.{with_items}
use Rattle.std.proofs.lemmas.List.{with_items_is}
use Rattle.twins.specs.declared.taker.Intake.{Intake}
use Rattle.twins.specs.declared.taker.Taker.{Taker}
use Rattle.twins.specs.Pairs.{EachPair}
use Rattle.twins.specs.TwinVerdict.{row_verdict}
use Rattle.twins.specs.TakenRows.{AreIntakes, TookOne, taken_by}
use Rattle.twins.proofs.Judging.{next-judged}
use Rattle.twins.proofs.taker.Taker.take_next.Goals as goal

pub returns-clause-judged : goal.returns-clause-judged
returns-clause-judged g c =
    let new : Taker = record { intakes = with_items c.args.self.now.intakes c.take_round.new.intakes; rows = c.args.self.now.rows + 1 } in
    let took : EachPair TookOne c.args.self.now.intakes.items c.take_round.new.intakes =
    subst (λ (l : List Intake). EachPair TookOne l c.take_round.new.intakes) c.as_mut_slice.ensures.value c.take_round.ensures.took in
    let many : length c.take_round.new.intakes ≡ c.args.self.now.intakes.len = sym took.count ∙ sym c.args.self.now.intakes.ok.0 in
    let is : c.take_round.new.intakes ≡ (with_items c.args.self.now.intakes c.take_round.new.intakes).items =
    sym (with_items_is c.args.self.now.intakes c.take_round.new.intakes many) in
    next-judged c.args.queues.now c.args.self.now new c.take_round.result c.requires.agreed refl
    (subst (λ (l : List Intake). AreIntakes c.args.queues.now l) is c.take_round.ensures.intakes)
    (subst (λ (l : List Intake). EachPair TookOne c.args.self.now.intakes.items l) is took)
    (c.take_round.ensures.found ∙ ap (λ (l : List Intake). row_verdict c.args.self.now.rows (taken_by l)) is)
