use Rattle.std.proofs.Common.{◌≡◌, ◌<◌, ℕ, ◌+◌, List, [], ◌∷◌, ◌++◌, length, take, set, sym, ap, subst, ◌∙◌, arith}
use Rattle.std.proofs.lemmas.List.{take_more_set, length-set}
use Rattle.record_grammar.specs.Read.{Got, many}
use Rattle.record_grammar.specs.Grammar.{name_byte_at}
use Rattle.record_view.proofs.Many.{HasMany, HasMany-next, HasMany-stops, HasMany-done}
use Rattle.det_reading_c.proofs.header.name_of.Goals as goal

pub returns-in-Err : goal.returns-in-Err
returns-in-Err c =
    HasMany-stops name_byte_at c.args.len c.name.index (take c.name.index c.name.name) c.name.rest.now c.args.bytes.now
    c.in-Err.stop c.name-test.true c.in-Err.ensures c.name.invariant.read

pub name-preserved : goal.name-preserved
name-preserved c =
    let lt : c.name.index < length c.name.name = omega (arith, c.name.invariant.room) in
    let e : take (c.name.index + 1) (set c.name.name c.from.result c.in-Ok.byte) ≡ take c.name.index c.name.name ++ c.in-Ok.byte
    ∷ [] =
    ap (λ (i : ℕ). take (c.name.index + 1) (set c.name.name i c.in-Ok.byte)) c.from.ensures
    ∙ take_more_set c.name.name c.name.index c.in-Ok.byte lt in
    record {
      read =
          subst (λ (front : List ℕ). HasMany name_byte_at c.args.len (c.name.index + 1) front c.in-Ok.after.now c.args.bytes.now) (sym e)
          (HasMany-next name_byte_at c.args.len c.name.index (take c.name.index c.name.name) c.name.rest.now c.args.bytes.now
          c.in-Ok.byte c.in-Ok.after.now c.name-test.true c.in-Ok.ensures c.name.invariant.read);
      room = length-set c.name.name c.from.result c.in-Ok.byte ∙ c.name.invariant.room;
    }

pub returns : goal.returns
returns c =
    let k : c.name.index ≡ c.args.len = omega arith in
    subst (λ (n : ℕ). many name_byte_at c.args.len c.args.bytes.now ≡ Got (take n c.name.name, c.name.rest.now)) k
    (HasMany-done name_byte_at c.args.len c.name.index (take c.name.index c.name.name) c.name.rest.now c.args.bytes.now
    c.name-test.false c.name.invariant.read)
