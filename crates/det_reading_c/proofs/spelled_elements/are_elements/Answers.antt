use Rattle.std.proofs.Common.{◌<◌, [], ◌∷◌, ◌++◌, arith}
use Rattle.std.proofs.lemmas.List.Elements.{All-from_get_or}
use Rattle.record_grammar.specs.Spelling.{AreBytes}
use Rattle.record_grammar.specs.Grammar.{drawn_at}
use Rattle.record_view.proofs.Many.{HasMany, HasMany-begin, HasMany-next, HasMany-done}
use Rattle.det_reading_c.proofs.Elements.{elements_end, no_elements}
use Rattle.det_reading_c.proofs.spelled_elements.are_elements.Goals as goal

pub elements-init : goal.elements-init
elements-init c = ([], HasMany-begin (drawn_at c.args.format) c.args.count c.args.bytes.now)

pub elements-preserved : goal.elements-preserved
elements-preserved c =
    let h = c.elements.invariant in
    let first = c.in-Some.ensures in (
      h.0 ++ first.0 ∷ [],
      HasMany-next (drawn_at c.args.format) c.args.count c.elements.index h.0 c.elements.rest.now c.args.bytes.now first.0
          c.in-Some.after.now c.elements-test.true first.1 h.1,
    )

pub returns-in-None : goal.returns-in-None
returns-in-None c =
    no_elements c.args.format c.args.count c.elements.index c.elements.invariant.0 c.elements.rest.now c.args.bytes.now
    c.elements-test.true c.in-None.ensures c.elements.invariant.1

pub returns : goal.returns
returns c =
    let are : AreBytes c.args.bytes.now = All-from_get_or (λ b. b < 256) c.args.bytes.now 0 (λ i l. omega (arith, c.type_inv.bytes i)) in
    elements_end c.args.format c.args.count c.elements.index c.elements.invariant.0 c.elements.rest.now c.args.bytes.now
    c.is_empty.result c.elements-test.false are c.is_empty.ensures c.elements.invariant.1
