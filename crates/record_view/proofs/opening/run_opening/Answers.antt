use Rattle.std.proofs.Common.{◌≡◌, eqb, true, false, rules}
use Rattle.record_view.proofs.Reading.{flag_behind, elements_behind, finished_begins, refused_begins}
use Rattle.record_view.proofs.opening.run_opening.Goals as goal

pub overflow_sub-elements_at : goal.overflow_sub-elements_at
overflow_sub-elements_at c =
    let i = c.in_ok-input.ensures in
    (elements_behind c.args.layout.events c.args.bytes.now _ _ _ _ i.0 _ _ i.2 i.3 c.in_ok-flag.ensures.gives
    c.in_ok-elements.ensures.gives).room

pub returns-then-flag-eq0 : goal.returns-then-flag-eq0
returns-then-flag-eq0 c =
    let i = c.in_ok-input.ensures in
    let zero : eqb c.in_ok-flag.flag 0 ≡ true = search rules in
    finished_begins c.args.layout c.args.before c.args.bytes.now _ _ _ _ i.0 _ _ i.1 i.2 i.3 c.in_ok-flag.ensures.gives zero
    c.in_ok-elements.ensures.gives

pub overflow_sub-outcome : goal.overflow_sub-outcome
overflow_sub-outcome c =
    let i = c.in_ok-input.ensures in
    (flag_behind c.args.layout.events c.args.bytes.now _ _ _ i.0 _ i.2 i.3 c.in_ok-flag.ensures.gives).room

pub returns : goal.returns
returns c =
    let i = c.in_ok-input.ensures in
    let other : eqb c.in_ok-flag.flag 0 ≡ false = search rules in
    let r = c.in_ok-rest.ensures in
    refused_begins c.args.layout c.args.before c.args.bytes.now _ _ _ _ i.0 _ r.0 i.1 i.2 i.3 c.in_ok-flag.ensures.gives other r.1
