use Rattle.std.proofs.Common.{◌≡◌, ◌<◌, ℕ, ◌+◌, List, [], ◌∷◌, ◌++◌, length, map, take, set, sym, ap, subst, ◌∙◌, arith}
use Rattle.std.proofs.lemmas.List.{take_more_set, map-append}
use Rattle.det_values.specs.Values.{EventSpecValue}
use Rattle.c_types.specs.CValues.{event_of}
use Rattle.record_grammar.specs.Read.{Got, many}
use Rattle.record_grammar.specs.Grammar.{event_at}
use Rattle.record_view.proofs.Many.{HasMany, HasMany-next, HasMany-stops, HasMany-done}
use Rattle.det_reading_c.proofs.header.fill_events.Goals as goal

pub returns-in-Err : goal.returns-in-Err
returns-in-Err c =
    HasMany-stops (event_at c.args.format) c.args.count c.events.index (map event_of (take c.events.index c.events.events)) c.events.rest.now c.args.bytes.now
    c.in-Err.stop c.events-test.true c.in-Err.ensures c.events.invariant

pub events-preserved : goal.events-preserved
events-preserved c =
    let lt : c.events.index < length c.events.events = omega (arith, c.events.auto.events) in
    let e : map event_of (take (c.events.index + 1) (set c.events.events c.from.result c.in-Ok.event))
    ≡ map event_of (take c.events.index c.events.events) ++ event_of c.in-Ok.event ∷ [] =
    ap (λ (i : ℕ). map event_of (take (c.events.index + 1) (set c.events.events i c.in-Ok.event))) c.from.ensures
    ∙ ap (map event_of) (take_more_set c.events.events c.events.index c.in-Ok.event lt)
    ∙ map-append event_of (take c.events.index c.events.events) (c.in-Ok.event ∷ []) in
    subst (λ (front : List EventSpecValue). HasMany (event_at c.args.format) c.args.count (c.events.index + 1) front c.in-Ok.after.now c.args.bytes.now) (sym e)
    (HasMany-next (event_at c.args.format) c.args.count c.events.index (map event_of (take c.events.index c.events.events)) c.events.rest.now c.args.bytes.now
    (event_of c.in-Ok.event) c.in-Ok.after.now c.events-test.true c.in-Ok.ensures c.events.invariant)

pub returns : goal.returns
returns c =
    let k : c.events.index ≡ c.args.count = omega arith in
    subst (λ (n : ℕ). many (event_at c.args.format) c.args.count c.args.bytes.now ≡ Got (map event_of (take n c.events.events), c.events.rest.now)) k
    (HasMany-done (event_at c.args.format) c.args.count c.events.index (map event_of (take c.events.index c.events.events)) c.events.rest.now c.args.bytes.now
    c.events-test.false c.events.invariant)
