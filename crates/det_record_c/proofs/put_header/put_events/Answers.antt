use Rattle.std.proofs.Common.{ℕ, ◌++◌, map, sym, ap}
use Rattle.std.specs.List.{flat_map}
use Rattle.std.proofs.lemmas.List.{length-map}
use Rattle.det_values.specs.Spelling.{spelled_u16}
use Rattle.record_grammar.specs.Spelling.{spelled_event}
use Rattle.c_types.specs.CValues.{event_of}
use Rattle.det_record_c.proofs.Putting.{puts_then, puts_as}
use Rattle.det_record_c.proofs.put_header.put_events.Goals as goal

pub returns : goal.returns
returns c =
    puts_as _ _ _ _ _ _
    (ap (λ (k : ℕ). spelled_u16 k ++ flat_map (spelled_event c.args.format) (map event_of c.args.events.now))
    (sym (length-map c.args.events.now event_of)))
    (puts_then _ _ _ _ _ _ _ _ c.put_u16-at.ensures c.put_all_events.ensures)
