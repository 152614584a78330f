use Rattle.std.proofs.Common.{ℕ, List, [], subst, arith}
use Rattle.std.specs.Prelude.{Ok, Err, None}
use Rattle.std.proofs.lemmas.Result.{err_from_is_err_and}
use Rattle.det_io.specs.Shelf.{Reads, IsAtEnd}
use Rattle.det_io.specs.declared.failure.Stopped.TheVariants.{Refused}
use Rattle.stimulus.specs.slot_reader.StandsFor.{InputIs, slot_of}
use Rattle.stimulus.proofs.lemmas.slot_reader.Reading.{read-none, took-none, ended-whole, ended-bad, fed-on, unfed}
use Rattle.stimulus.proofs.slot_reader.stimulus_reader.StimulusReader.read_on.Given.{Over}
use Rattle.stimulus.proofs.slot_reader.stimulus_reader.StimulusReader.read_on.Goals.{After-finish}
use Rattle.stimulus.proofs.slot_reader.stimulus_reader.StimulusReader.read_on.Goals as goal

-- nothing was read, at the slot's end
no-more : (g : Over) (c : After-finish g)
    → Reads (g.S.Slots.sees c.args.shelf.now) (g.S.Slots.sees c.read.new.self) (slot_of c.args.self.now) []
    × IsAtEnd (g.S.Slots.sees c.read.new.self) (slot_of c.args.self.now)
no-more g c = (
  subst (λ (xs : List ℕ). Reads (g.S.Slots.sees c.args.shelf.now) (g.S.Slots.sees c.read.new.self) (slot_of c.args.self.now) xs)
      (took-none c.in_ok-n.n c.read.new.buf c.if-n-eq0.true) c.in_ok-n.ensures.reads,
  c.in_ok-n.ensures.end c.if-n-eq0.true (omega arith),
)

pub returns-in-Ok-clause-piece : goal.returns-in-Ok-clause-piece
returns-in-Ok-clause-piece g c =
    let r = c.args.self.now in
    let after = g.S.Slots.sees c.read.new.self in
    let end = no-more g (goal.at.returns-in-Ok-clause-piece g c).After-finish in (
      [],
      end.0,
      λ read given h. read-none (λ (xs : List ℕ). InputIs (Ok None) r (IsAtEnd after (slot_of r)) xs given) read
          (ended-whole r _ read given end.1 (c.in-Ok.ensures read) h),
    )

pub returns-in-Err-clause-piece : goal.returns-in-Err-clause-piece
returns-in-Err-clause-piece g c =
    let r = c.args.self.now in
    let after = g.S.Slots.sees c.read.new.self in
    let end = no-more g (goal.at.returns-in-Err-clause-piece g c).After-finish in (
      [],
      end.0,
      λ read given h. read-none (λ (xs : List ℕ). InputIs (Err (Refused c.in-Err.fault)) r (IsAtEnd after (slot_of r)) xs given) read
          (ended-bad c.in-Err.fault r _ read given end.1 (c.in-Err.ensures read) h),
    )

pub returns-clause-piece : goal.returns-clause-piece
returns-clause-piece g c = (
  _,
  c.in_ok-n.ensures.reads,
  λ read given h. fed-on c.args.self.now (record { slot = c.args.self.now.slot; text = c.feed.new.self }) _ read given
      c.in_ok-feed.ensures.ok h,
)

pub returns-in_err-feed-clause-piece : goal.returns-in_err-feed-clause-piece
returns-in_err-feed-clause-piece g c =
    let p = err_from_is_err_and c.from_residual-in_err-feed.result c.from_residual-in_err-feed.ensures.1 in
    rw (p.1, p.2) (
      _,
      c.in_ok-n.ensures.reads,
      λ read given h. unfed c.args.self.now (record { slot = c.args.self.now.slot; text = c.feed.new.self }) _ read given
          c.in_err-feed.ensures.events h,
    )
