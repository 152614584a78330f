use Rattle.std.proofs.Common.{sym, ap, ◌∙◌, length, arith, ℕ, List, lit<}
use Rattle.std.specs.List.{position}
use Rattle.std.proofs.lemmas.List.{take_all}
use Rattle.stimulus.proofs.Parts.{is_lf, no_line, long_line, cut}
use Rattle.stimulus.proofs.first_line.first_line.Goals as goal

pub returns-in-Some : goal.returns-in-Some
returns-in-Some c =
    let b : List ℕ = c.args.bytes.now in
    cut (length b) b c.in-Some.end (omega arith) (ap (position is_lf) (take_all (length b) b (omega arith)) ∙ sym c.find.ensures
    ∙ c.in-Some.is)

pub returns-in-None : goal.returns-in-None
returns-in-None c = no_line c.args.bytes.now c.if-bytes-le-MAX_LINE.true (sym c.find.ensures ∙ c.in-None.is)

pub returns-in-Some-find : goal.returns-in-Some-find
returns-in-Some-find c = cut 129 c.args.bytes.now c.in-Some-find.end (omega arith) (sym c.find-2.ensures ∙ c.in-Some-find.is)

pub returns-in-None-find : goal.returns-in-None-find
returns-in-None-find c = long_line 129 c.args.bytes.now (lit< tt) (omega arith) (sym c.find-2.ensures ∙ c.in-None-find.is)
