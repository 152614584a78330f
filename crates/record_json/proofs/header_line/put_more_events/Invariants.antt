use Rattle.std.proofs.Common.{◌≡◌, drop}
use Rattle.std.specs.Prelude.{◌++◌, codes}
use Rattle.std.specs.List.{flat_map}
use Rattle.record_json.specs.Records.{event_text}
use Rattle.record_json.proofs.header_line.put_more_events.Given as goal

abbrev pub invariant-loop-i : goal.invariant-loop-i
invariant-loop-i l = l.out.items ++ flat_map (λ e. codes "," ++ event_text l.format e) (drop l.i l.events)
    ≡ l.initial.out.items ++ flat_map (λ e. codes "," ++ event_text l.format e) (drop 1 l.events)
