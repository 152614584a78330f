use Rattle.std.proofs.Common.{◌≡◌, ◌∙◌, sym, refl, true, false}
use Rattle.det_stimulus_c.proofs.Steps.{long_found, past_found, open_found, unspelled_found, taken_found}
use Rattle.det_stimulus_c.proofs.det_stimulus.DetStimulus.take.Goals as goal

pub returns-in-TooLong-clause-found : goal.returns-in-TooLong-clause-found
returns-in-TooLong-clause-found c text h = long_found c.args.self.now text c.args.bytes.now c.in-TooLong.ensures h

pub returns-then-is_past_end-clause-found : goal.returns-then-is_past_end-clause-found
returns-then-is_past_end-clause-found c text h =
    let past = (c.if-is_past_end.ensures).0 refl in past_found c.args.self.now text c.args.bytes.now past.0 past.1 h

pub returns-else-is_past_end-clause-found : goal.returns-else-is_past_end-clause-found
returns-else-is_past_end-clause-found c text h =
    open_found c.args.self.now text c.args.bytes.now c.in-Open.ensures
    (λ p. let e : false ≡ true = (c.if-is_past_end.ensures).1 p in cc) h

pub returns-in-None-clause-found : goal.returns-in-None-clause-found
returns-in-None-clause-found c text h =
    unspelled_found c.args.self.now text c.args.bytes.now c.in-Whole.end c.in-Whole.ensures (sym c.parse_line.ensures ∙ c.in-None.is) h

pub returns-in-Some-clause-found : goal.returns-in-Some-clause-found
returns-in-Some-clause-found c text h =
    taken_found c.take_line.result c.args.self.now c.take_line.new.self text c.args.bytes.now c.in-Whole.end c.in-Some.line
    c.in-Whole.ensures (sym c.parse_line.ensures ∙ c.in-Some.is) c.take_line.ensures h
