use Rattle.std.proofs.Common.{◌≡◌, ◌∙◌, sym, ap, refl, true, false}
use Rattle.stimulus.specs.Reading.{BadLine}
use Rattle.stimulus.proofs.Standing.{finish_found, finish_ended, finish_bad}
use Rattle.stimulus.proofs.parser.StimulusParser.finish.Goals as goal

pub returns-in-Some : goal.returns-in-Some
returns-in-Some c bytes given h = finish_found c.args.self.now c.in-Some.fault bytes given c.in-Some.is h

pub returns-then-is_at_end : goal.returns-then-is_at_end
returns-then-is_at_end c bytes given h =
    let end = (c.if-is_at_end.ensures).0 refl in finish_ended c.args.self.now bytes given c.in_default.is c.requires end.0 end.1 h

pub returns : goal.returns
returns c bytes given h =
    finish_bad c.args.self.now bytes given c.in_default.is c.requires (λ p. let e : false ≡ true = (c.if-is_at_end.ensures).1 p in cc) h
    ∙ ap BadLine (sym c.next_fault.ensures)
