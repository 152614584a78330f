-- What salvaging gives of the outcome.
use Rattle.std.proofs.Common.{◌≡◌, ℕ, List, [], Option, Some, None, Result, Ok, Err, refl, sym, ap, subst, ◌∙◌}
use Rattle.det_io.specs.declared.failure.Failure.TheVariants.{Read, Write, OutOfMemory}
use Rattle.det_io.specs.declared.failure.Stopped.{Stopped}
use Rattle.det_io.specs.declared.failure.Stopped.TheVariants.{Refused, Failed}
use Rattle.det_io.specs.Prefix.{IsPrefix}
use Rattle.det_io.specs.Traffic.{ShelfRun, SinkRun}
use Rattle.det_io.proofs.Prefixes.{prefix-same, proper-prefix}
use Rattle.record_grammar.specs.declared.record_fault.RecordFault.{RecordFault}
use Rattle.record_grammar.specs.Record.{fault as fault_in}
use Rattle.record_reader.specs.declared.salvage.Salvaged.{Salvaged}
use Rattle.record_reader.specs.Salvaged.{salvaged}
use Rattle.record_reader.specs.Salvages.{Answers, IsFront, IsCut}
use Rattle.record_reader.specs.ItemTaker.{OfSlot}
use Rattle.record_reader.proofs.ItemTaker.{of-slot}
use Rattle.probes.specs.Reports.{AudienceState}
use Rattle.cli_answers.specs.declared.answer.Answer.TheVariants.{BadRecord}
use Rattle.cli_answers.specs.Outcome.{Outcome}
use Rattle.cmd_records.specs.command_ends.Results.{Gives}
use Rattle.cmd_records.specs.salvage_command.Salvage.{outcome_by, salvage_outcome}
use Rattle.cmd_records.specs.salvage_command.ReportEnds.{SawFirst}

-- ---- the salvaged record

module _ (bytes : List ℕ) (out : SinkRun) where
  front-of : (front : List ℕ) (saved : Option (List ℕ)) (end : Option RecordFault) → IsFront front saved
      → IsPrefix front (outcome_by saved end).bytes
  front-of front (Some all) end h = h
  front-of front None (Some f) h = subst (IsPrefix front) h (prefix-same front)
  front-of front None None h = subst (IsPrefix front) h (prefix-same front)

  cut-of : (front : List ℕ) (saved : Option (List ℕ)) (end : Option RecordFault) → IsCut front saved
      → IsPrefix front (outcome_by saved end).bytes
  cut-of front (Some all) end h = proper-prefix front all h
  cut-of front None end h = absurd h

  gives : (result : Result Salvaged (Stopped RecordFault)) (wanted : Outcome) → salvage_outcome bytes ≡ wanted
      → Gives (BadRecord 0) result wanted out
      → Gives (BadRecord 0) result (salvage_outcome bytes) out
  gives result wanted is h = subst (λ (o : Outcome). Gives (BadRecord 0) result o out) (sym is) h

  saved-gives : (result : Result Salvaged (Stopped RecordFault)) → Answers result bytes out
      → Gives (BadRecord 0) result (salvage_outcome bytes) out
  saved-gives (Ok counts) h =
      gives (Ok counts) (outcome_by (Some h.bytes) (fault_in bytes))
      (ap (λ (saved : Option (List ℕ)). outcome_by saved (fault_in bytes)) h.is)
      (refl, h.grew)
  saved-gives (Err (Refused f)) h =
      gives (Err (Refused f)) (outcome_by None (Some f))
      (ap (λ (saved : Option (List ℕ)). outcome_by saved (fault_in bytes)) h.is ∙ ap (outcome_by None) h.fault) (refl, h.grew)
  saved-gives (Err (Failed Read)) h = (h.front, front-of h.front (salvaged bytes) (fault_in bytes) h.within, h.grew)
  saved-gives (Err (Failed Write)) h = (h.front, cut-of h.front (salvaged bytes) (fault_in bytes) h.within, h.grew)
  saved-gives (Err (Failed OutOfMemory)) h = (h.front, front-of h.front (salvaged bytes) (fault_in bytes) h.within, h.grew)

pub salvage-gives : (result : Result Salvaged (Stopped RecordFault)) (out : SinkRun) {read : List ℕ} {shelf : ShelfRun} {slot : ℕ}
    → OfSlot shelf slot read (λ bytes. Answers result bytes out)
    → OfSlot shelf slot read (λ bytes. Gives (BadRecord 0) result (salvage_outcome bytes) out)
salvage-gives result out h =
    of-slot (λ bytes. Answers result bytes out) (λ bytes. Gives (BadRecord 0) result (salvage_outcome bytes) out)
    (λ bytes a. saved-gives bytes out result a) h

-- where nothing was read the audience has seen nothing
pub saw-unread : (audience : AudienceState) (bytes : List ℕ) → SawFirst audience audience bytes
saw-unread audience bytes = record { seen = []; first = (_, refl); saw = refl }
