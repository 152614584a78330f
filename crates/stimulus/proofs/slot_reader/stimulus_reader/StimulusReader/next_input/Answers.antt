use Rattle.std.proofs.Common.{◌≡◌, [], inl, refl, ◌∙◌, subst, arith}
use Rattle.std.specs.Prelude.{Option, None, Some, Ok, Err, true, false}
use Rattle.std.proofs.lemmas.Result.{err_from_is_err_and}
use Rattle.det_io.specs.Shelf.{IsAtEnd}
use Rattle.det_io.proofs.SlotReads.{reads-none}
use Rattle.det_values.specs.declared.frames.CycleInput.{CycleInput}
use Rattle.stimulus.specs.slot_reader.StandsFor.{StandsFor, InputIs, slot_of}
use Rattle.stimulus.specs.slot_reader.Steps.{FedIs, GaveAll}
use Rattle.stimulus.proofs.lemmas.slot_reader.Reading.{HasRead, read-none, fed-then, read-then, piece-as, stops-as, no-read, none-of}
use Rattle.stimulus.proofs.slot_reader.stimulus_reader.StimulusReader.next_input.Given.{Over}
use Rattle.stimulus.proofs.slot_reader.stimulus_reader.StimulusReader.next_input.Goals.{After-read_on}
use Rattle.stimulus.proofs.slot_reader.stimulus_reader.StimulusReader.next_input.Goals as goal

-- all blocks of what was fed were returned
gave-all : (g : Over) (c : After-read_on g)
    → HasRead (g.S.Slots.sees c.args.shelf.now) (g.S.Slots.sees c.pieces.shelf) c.args.self.now (GaveAll c.next_fed_input.new.self)
gave-all g c =
    let at = c.next_fed_input.new.self in
    let none : c.in_ok-input.field-0 ≡ None = none-of c.in_ok-input.field-0 c.in_default.not-Some in
    fed-then c.args.self.now (StandsFor c.pieces.self) (GaveAll at) c.pieces.invariant.read
    (λ read given h. subst (λ (o : Option CycleInput). FedIs (Ok o) at read given) none (c.in_ok-input.ensures.input read given h))

pub pieces-init : goal.pieces-init
pieces-init g c = record {
  read = ([], reads-none _ _, λ read given h. (inl refl, read-none (λ xs. StandsFor c.args.self.now xs given) read h));
  slot = refl;
  events = refl;
  traffic = record { cause = λ e. cc; counted = omega arith; stays = g.met.S.Slots.stays_same _ };
}

pub returns-in_err-input-clause-input : goal.returns-in_err-input-clause-input
returns-in_err-input-clause-input g c =
    let p = err_from_is_err_and c.from_residual.result c.from_residual.ensures.1 in
    let now = c.next_fed_input.new.self in
    let why = c.in_err-input.field-0.0 in
    let at_end = IsAtEnd (g.S.Slots.sees c.pieces.shelf) (slot_of c.args.self.now) in
    rw (p.1, p.2) (fed-then c.args.self.now (StandsFor c.pieces.self) (InputIs (Err why) now at_end) c.pieces.invariant.read
    (λ read given h. stops-as why now at_end read given (c.in_err-input.ensures.input read given h)))

pub returns-in_err-input-clause-traffic : goal.returns-in_err-input-clause-traffic
returns-in_err-input-clause-traffic g c =
    let p = err_from_is_err_and c.from_residual.result c.from_residual.ensures.1 in
    rw (p.1, p.2) (no-read c.in_err-input.field-0.0 c.next_fed_input.new.self _ c.in_err-input.ensures.hungers c.pieces.invariant.traffic)

pub returns-in-Some-clause-input : goal.returns-in-Some-clause-input
returns-in-Some-clause-input g c =
    let now = c.next_fed_input.new.self in
    fed-then c.args.self.now (StandsFor c.pieces.self)
    (InputIs (Ok (Some c.in-Some.input)) now (IsAtEnd (g.S.Slots.sees c.pieces.shelf) (slot_of c.args.self.now)))
    c.pieces.invariant.read
    (λ read given h. subst (λ (o : Option CycleInput). FedIs (Ok o) now read given) c.in-Some.is (c.in_ok-input.ensures.input read given h))

pub returns-in_err-read_on-clause-input : goal.returns-in_err-read_on-clause-input
returns-in_err-read_on-clause-input g c =
    let p = err_from_is_err_and c.from_residual-in_err-read_on.result c.from_residual-in_err-read_on.ensures.1 in
    let at = c.next_fed_input.new.self in
    let gave = gave-all g (goal.at.returns-in_err-read_on-clause-input g c).After-read_on in
    let why = c.in_err-read_on.field-0.0 in
    rw (p.1, p.2) (read-then c.args.self.now at (λ slot. InputIs (Err why) c.read_on.new.self
    (IsAtEnd (g.S.Slots.sees c.read_on.new.shelf) slot))
    (c.in_ok-input.ensures.slot ∙ c.pieces.invariant.slot) (c.in_ok-input.ensures.events ∙ c.pieces.invariant.events) gave
    c.in_err-read_on.ensures.piece)

pub returns-then-not-branch-clause-input : goal.returns-then-not-branch-clause-input
returns-then-not-branch-clause-input g c =
    let at = c.next_fed_input.new.self in
    let gave = gave-all g (goal.at.returns-then-not-branch-clause-input g c).After-read_on in
    let ends : c.in_ok-read_on.field-0 ≡ false = cc in
    read-then c.args.self.now at (λ slot. InputIs (Ok None) c.read_on.new.self (IsAtEnd (g.S.Slots.sees c.read_on.new.shelf) slot))
    (c.in_ok-input.ensures.slot ∙ c.pieces.invariant.slot) (c.in_ok-input.ensures.events ∙ c.pieces.invariant.events) gave
    (piece-as at c.read_on.new.self _ _ false ends c.in_ok-read_on.ensures.piece)

pub pieces-preserved : goal.pieces-preserved
pieces-preserved g c =
    let at = c.next_fed_input.new.self in
    let gave = gave-all g (goal.at.pieces-preserved g c).After-read_on in
    let goes : c.in_ok-read_on.field-0 ≡ true = cc in
    let slot = c.in_ok-input.ensures.slot ∙ c.pieces.invariant.slot in
    let events = c.in_ok-input.ensures.events ∙ c.pieces.invariant.events in
    let traffic = c.in_ok-read_on.ensures.traffic in
    record {
      read = read-then c.args.self.now at (λ slot. StandsFor c.read_on.new.self) slot events gave
          (piece-as at c.read_on.new.self _ _ true goes c.in_ok-read_on.ensures.piece);
      slot = c.in_ok-read_on.ensures.slot ∙ slot;
      events = c.in_ok-read_on.ensures.events ∙ events;
      traffic = record {
        cause = λ e. cc;
        counted = omega (arith, c.pieces.invariant.traffic.counted, traffic.counted);
        stays = g.met.S.Slots.stays_on _ _ _ c.pieces.invariant.traffic.stays traffic.stays;
      };
    }
