-- The outcome of `salvage`, by the bytes of a record: the record made whole, or reports of its
-- runs.
use Rattle.std.specs.Prelude.{ℕ, List, ◌++◌, Option, Some, None, codes}
use Rattle.std.specs.Option.{option_map}
use Rattle.record_grammar.specs.declared.record_fault.RecordFault.{RecordFault}
use Rattle.record_grammar.specs.declared.item.Item.{Item}
use Rattle.record_grammar.specs.Record.{items as items_in, fault as fault_in}
use Rattle.record_text.specs.Words.{number_line}
use Rattle.record_reader.specs.Salvaged.{salvaged, cycles_of}
use Rattle.record_reader.specs.InItems.{runs_in}
use Rattle.probes.specs.Reports.{AudienceState, reported}
use Rattle.cli_answers.specs.Answers.{by_fault}
use Rattle.cli_answers.specs.Outcome.{Outcome, text_outcome, refusal}

-- the bytes that are written if something is saved, or else the refusal by the record's fault
abbrev pub outcome_by : Option (List ℕ) → Option RecordFault → Outcome
outcome_by (Some bytes) end = text_outcome bytes
outcome_by None end = refusal (by_fault end)

-- the salvaged record
abbrev pub salvage_outcome : List ℕ → Outcome
salvage_outcome record_bytes = outcome_by (salvaged record_bytes) (fault_in record_bytes)

-- the number of runs that are saved of these items, and what an audience reports of them
abbrev pub salvaged_text : AudienceState → List Item → List ℕ
salvaged_text audience xs =
    number_line (codes "salvaged") (cycles_of xs) ++ reported audience (runs_in xs)

-- the same with this text in place of the record
abbrev pub salvage_reports_outcome : AudienceState → List ℕ → Outcome
salvage_reports_outcome audience record_bytes =
    outcome_by (option_map (λ saved. salvaged_text audience (items_in record_bytes))
    (salvaged record_bytes)) (fault_in record_bytes)
