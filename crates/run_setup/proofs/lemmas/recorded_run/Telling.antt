-- What is known of the run of a record that was opened under a name whose bytes are known.
use Rattle.std.proofs.Common.{◌≡◌, ℕ, List, [], ◌∷◌, ◌++◌, sym, ap, ◌∙◌, inl, inr}
use Rattle.std.specs.Prelude.{Option, Some, None, Result, Ok, Err, IsSome, IfOk, IfErr}
use Rattle.det_values.specs.Values.{ProfileValue}
use Rattle.det_values.specs.declared.job_kind.JobKind.{JobKind}
use Rattle.det_io.specs.Shelf.{ShelfState, Reads, Opens}
use Rattle.det_io.specs.Traffic.{IfRefused}
use Rattle.det_io.specs.declared.failure.Stopped.{Stopped}
use Rattle.det_io.specs.declared.failure.Stopped.TheVariants.{Refused, Failed}
use Rattle.record_grammar.specs.declared.record_fault.RecordFault.{RecordFault}
use Rattle.record_grammar.specs.declared.item.Item.{Item}
use Rattle.record_grammar.specs.declared.item.Item.TheVariants.{Header}
use Rattle.record_grammar.specs.Record.{fault as fault_in}
use Rattle.record_reader.specs.declared.frame_reader.FrameReader.{FrameReader}
use Rattle.record_reader.specs.declared.frame_reader.OpenRecord.{OpenRecord}
use Rattle.record_reader.specs.Frames.{StandsFor, HasOpened}
use Rattle.record_reader.proofs.FrameReading.{more_items}
use Rattle.cli_answers.specs.Outcome.{known_bytes}
use Rattle.cli_answers.proofs.KnownBytes.{read-part, whole-text}
use Rattle.run_setup.specs.declared.recorded_run.bad_run.BadRun.{BadRun}
use Rattle.run_setup.specs.declared.recorded_run.bad_run.BadRun.TheVariants.{Profile}
use Rattle.run_setup.specs.declared.recorded_run.open_run.RecordedRun.{RecordedRun}
use Rattle.run_setup.specs.recorded_run.Run.{kind_of, run_of, as_bad_run}
use Rattle.run_setup.proofs.lemmas.recorded_run.Items.{run_with, run_by_items, run-by-items}

module _ (first : ShelfState) {opened last : ShelfState} (name : List ℕ) {slot : ℕ} {read : List ℕ}
    (opens : Opens first opened name slot) (reads : Reads opened last slot read) (is_known : IsSome (first.holds name)) where
  -- the header that was given is the record's
  pub told-header : {r : FrameReader} (p : ProfileValue) (kind : Option JobKind) → StandsFor r read (Header p ∷ []) → kind ≡ kind_of p
      → run_of (known_bytes first name) ≡ run_with kind p
  told-header {r} p kind gave is =
      let rest = read-part first opened last name slot read opens reads is_known in
      let more = more_items r read (Header p ∷ []) gave rest.0 in
      ap run_of (sym rest.1) ∙ run-by-items (read ++ rest.0)
      ∙ ap (λ (xs : List Item). run_by_items xs (fault_in (read ++ rest.0))) more.1
      ∙ ap (λ (k : Option JobKind). run_with k p) (sym is)

module _ (first : ShelfState) {opened last : ShelfState} (name : List ℕ) {slot : ℕ} (opens : Opens first opened name slot)
    (found : OpenRecord) (h : HasOpened opened last slot (Ok found)) where
  -- the run of a record whose header was given
  pub told-run : (result : Result RecordedRun (Stopped BadRun)) → IfOk result (λ run. kind_of found.profile ≡ Some run.kind)
      → IfOk result (λ run. run.profile ≡ found.profile)
      → IfOk result (λ run. IsSome (first.holds name)
      → run_of (known_bytes first name) ≡ Ok (record { kind = run.kind; profile = run.profile }))
  told-run (Ok run) kind profile = λ is_known.
      told-header first name opens h.reads is_known found.profile (Some run.kind) h.is.0 (sym kind)
      ∙ ap (run_with (Some run.kind)) (sym profile)
  told-run (Err end) kind profile = tt

  -- no job takes the profile of the header that was given
  pub told-no-job : (result : Result RecordedRun (Stopped BadRun)) → IfErr result (λ end. kind_of found.profile ≡ None)
      → IfErr result (λ end. end ≡ Refused Profile)
      → IfErr result (λ end. IfRefused end (λ why. IsSome (first.holds name) → run_of (known_bytes first name) ≡ Err why))
  told-no-job (Ok run) none is = tt
  told-no-job (Err end) none is =
      rw is (λ is_known. told-header first name opens h.reads is_known found.profile None h.is.0 (sym none))

-- the fault of a record whose header isn't whole
pub told-fault : (first : ShelfState) {opened last : ShelfState} (name : List ℕ) {slot : ℕ} → Opens first opened name slot
    → (end : Stopped RecordFault) → HasOpened opened last slot (Err end)
    → IfRefused (as_bad_run end) (λ why. IsSome (first.holds name) → run_of (known_bytes first name) ≡ Err why)
told-fault first {opened} {last} name {slot} opens (Refused fault) h = λ is_known.
    elim h.is.found [
      | inl faulty ↦ let rest = read-part first opened last name slot h.read opens h.reads is_known in
          let all = faulty rest.0 in
          ap run_of (sym rest.1) ∙ run-by-items (h.read ++ rest.0) ∙ (λ i. run_by_items (all.0 i) (all.1 i))
      | inr end ↦ ap run_of (sym (whole-text first opened last name slot h.read opens h.reads end is_known)) ∙ run-by-items h.read
          ∙ (λ i. run_by_items (h.is.before i) (h.is.is i))
    ]
told-fault first name opens (Failed failure) h = tt
