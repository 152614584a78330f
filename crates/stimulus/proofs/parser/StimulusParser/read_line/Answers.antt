use Rattle.std.proofs.Common.{◌≡◌, ℕ, List, ◌+◌, ◌≤◌, length, take, drop, arith, ap, sym, ◌∙◌, subst, refl, length-take, true, false, ◌++◌}
use Rattle.std.proofs.Common.{take-append-drop, append_assoc}
use Rattle.stimulus.specs.Reading.{parts}
use Rattle.stimulus.specs.Lines.{line_of}
use Rattle.stimulus.specs.declared.parser.StimulusParser.{StimulusParser}
use Rattle.stimulus.specs.declared.first_line.FirstLine.TheVariants.{Whole, Open, TooLong}
use Rattle.stimulus.specs.FirstLine.{FirstLineIs}
use Rattle.stimulus.specs.StandsFor.{left}
use Rattle.stimulus.proofs.Standing.{next_again, next_open, owes_nothing}
use Rattle.stimulus.proofs.Taking.{Begins, line_past, line_long, line_bad, line_taken, last_given, took_shrinks, ends_within}
use Rattle.stimulus.proofs.parser.StimulusParser.read_line.Goals.{After-parse_line}
use Rattle.stimulus.proofs.parser.StimulusParser.read_line.Goals as goal

-- the bytes behind those that were read
rest_is : (r : StimulusParser) (rest pending : List ℕ) → rest ≡ drop r.read pending → pending ≡ r.pending.items → rest ≡ left r
rest_is r rest pending is same = is ∙ ap (drop r.read) same

-- they begin with a whole line
whole : (c : After-parse_line) → FirstLineIs (Whole c.in-Whole.end) (left c.args.self.now)
whole c = subst (FirstLineIs (Whole c.in-Whole.end)) (rest_is c.args.self.now _ _ c.rest_of-bytes.ensures c.deref.ensures.value)
    c.in-Whole.ensures

begins : (c : After-parse_line) → Begins c.in-Whole.end c.args.self.now
begins c =
    let first = whole c in
    let bytes : List ℕ = left c.args.self.now in
    let n : ℕ = c.in-Whole.end + 1 in
    record {
      short = omega (arith, length-take c.in-Whole.end bytes, first.1);
      cut = λ tail.
          ap (λ (l : List ℕ). parts (l ++ tail)) (sym (take-append-drop n bytes))
          ∙ ap parts (append_assoc (take n bytes) (drop n bytes) tail) ∙ first.2 (drop n bytes ++ tail);
    }

parsed : (c : After-parse_line) → line_of c.args.self.now.events (take c.in-Whole.end (left c.args.self.now)) ≡ c.parse_line.result
parsed c =
    ap (λ l. line_of c.args.self.now.events (take c.in-Whole.end l))
    (sym (rest_is c.args.self.now _ _ c.rest_of-bytes.ensures c.deref.ensures.value)) ∙ sym c.parse_line.ensures

pub returns-in-Some-clause-line : goal.returns-in-Some-clause-line
returns-in-Some-clause-line c bytes given h = next_again c.args.self.now c.in-Some.fault bytes given c.in-Some.is h

pub returns-then-is_last-clause-line : goal.returns-then-is_last-clause-line
returns-then-is_last-clause-line c bytes given h =
    last_given c.args.self.now _ bytes given c.in_default.is ((c.if-is_last.ensures).0 refl) refl refl refl refl refl refl h

pub returns-then-is_past_end-clause-line : goal.returns-then-is_past_end-clause-line
returns-then-is_past_end-clause-line c bytes given h =
    line_past c.args.self.now c.bad_line-then-is_past_end.new.self c.bad_line-then-is_past_end.result bytes given c.in_default.is
    (owes_nothing c.args.self.now.state _ c.if-is_last.ensures refl)
    ((c.if-is_past_end.ensures).0 refl) c.bad_line-then-is_past_end.ensures h

pub returns-in-TooLong-clause-line : goal.returns-in-TooLong-clause-line
returns-in-TooLong-clause-line c bytes given h =
    let same = rest_is c.args.self.now _ _ c.rest_of-bytes.ensures c.deref.ensures.value in
    let first : FirstLineIs TooLong (left c.args.self.now) = subst (FirstLineIs TooLong) same c.in-TooLong.ensures in
    line_long c.args.self.now c.bad_line.new.self c.bad_line.result bytes given c.in_default.is
    (owes_nothing c.args.self.now.state _ c.if-is_last.ensures refl) first c.bad_line.ensures h

pub returns-else-is_past_end-clause-line : goal.returns-else-is_past_end-clause-line
returns-else-is_past_end-clause-line c bytes given h =
    let same = rest_is c.args.self.now _ _ c.rest_of-bytes.ensures c.deref.ensures.value in
    let first : FirstLineIs Open (left c.args.self.now) = subst (FirstLineIs Open) same c.in-Open.ensures in
    next_open c.args.self.now _ bytes given c.in_default.is (owes_nothing c.args.self.now.state _ c.if-is_last.ensures refl) first.0 first.1
    (λ p. let e : false ≡ true = (c.if-is_past_end.ensures).1 p in cc) refl refl refl refl refl h

pub returns-in-None-clause-line : goal.returns-in-None-clause-line
returns-in-None-clause-line c bytes given h =
    let at = (goal.at.returns-in-None-clause-line c).After-parse_line in
    line_bad c.args.self.now c.bad_line-in-None.new.self c.bad_line-in-None.result c.in-Whole.end bytes given c.in_default.is
    (owes_nothing c.args.self.now.state _ c.if-is_last.ensures refl) (begins at) (parsed at ∙ c.in-None.is)
    c.bad_line-in-None.ensures h

pub returns-in-Some-parse_line-clause-line : goal.returns-in-Some-parse_line-clause-line
returns-in-Some-parse_line-clause-line c bytes given h =
    let at = (goal.at.returns-in-Some-parse_line-clause-line c).After-parse_line in
    line_taken c.args.self.now c.take.new.self c.take.result c.in-Some-parse_line.line c.in-Whole.end bytes given c.in_default.is
    (owes_nothing c.args.self.now.state _ c.if-is_last.ensures refl) (begins at) (parsed at ∙ c.in-Some-parse_line.is)
    c.take.ensures.taken h

pub returns-in-Some-parse_line-clause-shrinks : goal.returns-in-Some-parse_line-clause-shrinks
returns-in-Some-parse_line-clause-shrinks c =
    let first = whole (goal.at.returns-in-Some-parse_line-clause-shrinks c).After-parse_line in
    let within : c.args.self.now.read + (c.in-Whole.end + 1) ≤ length c.args.self.now.pending.items =
    ends_within c.args.self.now c.in-Whole.end first.0 in
    took_shrinks c.args.self.now c.take.new.self c.take.result c.in-Some-parse_line.line (c.in-Whole.end + 1) (omega arith) within
    (owes_nothing c.args.self.now.state _ c.if-is_last.ensures refl) c.take.ensures.taken
