-- How reports of a record end, by how the reading did.
use Rattle.std.proofs.Common.{◌≡◌, ℕ, Bool, true, false, cond, List, [], ◌∷◌, ◌++◌, length, Option, Some, None, Result, Ok, Err, OnOk}
use Rattle.std.proofs.Common.{refl, sym, ap, subst, ◌∙◌, append-nil, arith}
use Rattle.std.specs.Prelude.{codes}
use Rattle.std.specs.List.{flat_map, list_any}
use Rattle.std.specs.Option.{option_map}
use Rattle.det_values.specs.declared.frames.Frame.TheVariants.{Terminate}
use Rattle.det_values.specs.Values.{ProfileValue}
use Rattle.det_io.specs.declared.failure.Failure.{Failure}
use Rattle.det_io.specs.declared.failure.Failure.TheVariants.{Read, Write, OutOfMemory}
use Rattle.det_io.specs.declared.failure.Stopped.{Stopped}
use Rattle.det_io.specs.declared.failure.Stopped.TheVariants.{Refused, Failed}
use Rattle.det_io.specs.Prefix.{IsPrefix}
use Rattle.det_io.specs.Sink.{Grew, GrewByPrefix}
use Rattle.det_io.specs.Traffic.{ShelfRun, SinkRun, SinkTraffic, failure_in}
use Rattle.det_io.proofs.Growth.{grew-none, same-none, part-none}
use Rattle.det_io.proofs.Prefixes.{prefix-same, proper-length, proper-prefix}
use Rattle.record_grammar.specs.declared.record_fault.RecordFault.{RecordFault}
use Rattle.record_grammar.specs.declared.item.Item.{Item}
use Rattle.record_grammar.specs.declared.item.Item.TheVariants as items
use Rattle.record_grammar.specs.Record.{items as items_in, fault as fault_in}
use Rattle.record_grammar.specs.Spelling.{spelled}
use Rattle.record_text.specs.Words.{number_line}
use Rattle.record_reader.specs.SalvageState.{IsHeaded}
use Rattle.record_reader.specs.Salvaged.{kept, is_init, salvaged_from}
use Rattle.record_reader.specs.Salvages.{settled_by}
use Rattle.record_reader.specs.ItemTaker.{AreAll, RecordRead, StopsAt, ItemsRead, Wrote}
use Rattle.record_reader.proofs.Ending.{settle_fault-failure}
use Rattle.record_reader.proofs.Items.{whole_has_init}
use Rattle.record_reader.proofs.ItemTaker.{of-slot}
use Rattle.record_reader.specs.InItems.{runs_in}
use Rattle.probes.specs.Reports.{ProbeLife, AudienceState, reported, reports, in_turn}
use Rattle.probes.specs.Shows.{Shows}
use Rattle.probes.proofs.Shown.{all-reports}
use Rattle.cli_answers.specs.declared.answer.Answer.TheVariants.{BadRecord}
use Rattle.cli_answers.specs.Outcome.{Outcome, text_outcome, refusal}
use Rattle.cmd_records.specs.declared.record_show.printer.Printer.{Printer}
use Rattle.cmd_records.specs.declared.record_show.show_form.Notation.TheVariants.{Lines}
use Rattle.cmd_records.specs.declared.record_show.show_form.ShowForm.{ShowForm}
use Rattle.cmd_records.specs.salvage_command.Salvage.{outcome_by, salvaged_text, salvage_reports_outcome}
use Rattle.cmd_records.specs.record_show.PrintedItems.{AreShown, IsFailed, showing}
use Rattle.cmd_records.proofs.lemmas.command_ends.Meeting.{discarded}
use Rattle.cmd_records.proofs.lemmas.record_show.Parts.{form_by}
use Rattle.record_text.specs.declared.show_part.ShowPart.TheVariants.{Reports}
use Rattle.cmd_records.specs.salvage_command.ReportEnds.{SawFirst, Ended}
use Rattle.cmd_records.specs.command_ends.Results.{Gives, UnlessNoMemory}

-- the form of a printer that prints no items
abbrev pub reports_only : ShowForm
reports_only = form_by Lines Reports

-- ---- what can be saved

-- a record is saved where Init is among its items
abbrev made_whole : ProfileValue → List Item → List ℕ
made_whole p xs = spelled p (flat_map kept xs ++ Terminate ∷ [])

some_from : (given : List Item) → IsHeaded given → list_any is_init given ≡ true → (saved : List ℕ) × (salvaged_from given ≡ Some saved)
some_from [] headed e = absurd cc
some_from (items.Header p ∷ xs) headed e = (made_whole p xs, ap (λ (b : Bool). cond b (Some (made_whole p xs)) None) e)
some_from (items.Frame f ∷ xs) headed e = absurd headed

none_from : (given : List Item) → list_any is_init given ≡ false → salvaged_from given ≡ None
none_from [] e = refl
none_from (items.Header p ∷ xs) e = ap (λ (b : Bool). cond b (Some (made_whole p xs)) None) e
none_from (items.Frame f ∷ xs) e = refl

abbrev outcome_of : AudienceState → List ℕ → Option (List ℕ) → Outcome
outcome_of audience bytes saved = outcome_by (option_map (λ s. salvaged_text audience (items_in bytes)) saved) (fault_in bytes)

-- ---- all was seen

-- the text of a record is that of an audience that was shown all its runs
pub record AllSeen (first mid : AudienceState) (cycles : ℕ) (bytes : List ℕ) : Type 0 where
  pub is : salvage_reports_outcome first bytes ≡ text_outcome (number_line (codes "salvaged") cycles ++ reported mid [])
  pub shows : Shows first mid (runs_in (items_in bytes))

module _ (first mid : AudienceState) (printer : Printer) (given : List Item) (bytes : List ℕ) where
  all-seen : items_in bytes ≡ given → AreShown reports_only first mid printer given → list_any is_init given ≡ true
      → AllSeen first mid printer.cycles bytes
  all-seen all h begun =
      let some = some_from given h.headed begun in
      record {
        is = ap (outcome_of first bytes) (ap salvaged_from all ∙ some.1)
            ∙ ap (λ (xs : List Item). text_outcome (salvaged_text first xs)) all
            ∙ ap (λ (n : ℕ). text_outcome (number_line (codes "salvaged") n ++ reported first (runs_in given))) (sym h.cycles)
            ∙ ap (λ (more : List ℕ). text_outcome (number_line (codes "salvaged") printer.cycles ++ more)) (sym (all-reports h.watched));
        shows = subst (λ (xs : List Item). Shows first mid (runs_in xs)) (sym all) h.watched;
      }

  settle_fault-at : (fault : RecordFault) (begun : Bool) → printer.has_begun ≡ begun → settled_by begun (Err (Refused fault)) ≡ Ok tt
      → items_in bytes ≡ given → AreShown reports_only first mid printer given → AllSeen first mid printer.cycles bytes
  settle_fault-at fault true is settle_fault all h = all-seen all h (sym h.has_begun ∙ is)
  settle_fault-at fault false is settle_fault all h = absurd cc

  not-failed : (begun : Bool) (failure : Failure) → settled_by begun (Err (Failed failure)) ≡ Ok tt → ⊥
  not-failed true failure is = cc
  not-failed false failure is = cc

  -- the reading came past the last item of a record that can be saved
  settle_fault-seen : (read : Result (Unit {0}) (Stopped RecordFault)) → settled_by printer.has_begun read ≡ Ok tt
      → RecordRead read (showing reports_only first mid printer) given bytes discarded → AllSeen first mid printer.cycles bytes
  settle_fault-seen (Ok u) settle_fault h =
      all-seen h.0.items h.1.stands (ap (list_any is_init) (sym h.0.items) ∙ whole_has_init bytes h.0.fault)
  settle_fault-seen (Err (Refused fault)) settle_fault h = settle_fault-at fault printer.has_begun refl settle_fault h.0.items h.1.stands
  settle_fault-seen (Err (Failed failure)) settle_fault h = absurd (not-failed printer.has_begun failure settle_fault)

  -- ---- where the reading stopped

  unsaved : (fault : RecordFault) → AreAll given (Some fault) bytes → list_any is_init given ≡ false
      → salvage_reports_outcome first bytes ≡ refusal (BadRecord 0 fault)
  unsaved fault all none = ap (outcome_of first bytes) (ap salvaged_from all.items ∙ none_from given none) ∙ ap (outcome_by None) all.fault

  saw-given : IsPrefix given (items_in bytes) → AreShown reports_only first mid printer given → SawFirst first mid bytes
  saw-given front h = record { seen = given; first = front; saw = all-reports h.watched }

  -- no lines are printed, so no write of it fails
  no-write-at : StopsAt (Failed Write) (showing reports_only first mid printer) given bytes discarded → ⊥
  no-write-at h = let n = proper-length h.2.wrote.0 h.2.more h.2.wrote.1 in let m = ap length h.2.all in omega (arith, n, m)

  module _ (took : List ℕ → Type 0) (a b : ℕ) where
    abbrev still : SinkRun
    still = record { before = took; after = took; faults_before = a; faults_after = b }

    abbrev Both : Stopped RecordFault → Type 0
    Both stop = Gives {T = Unit {0}} (BadRecord 0) (Err stop) (salvage_reports_outcome first bytes) still
        × UnlessNoMemory {T = Unit {0}} (Err stop) (SawFirst first mid bytes)

    refused : (fault : RecordFault) (begun : Bool) → printer.has_begun ≡ begun
        → settled_by begun (Err (Refused fault)) ≡ Err (Refused fault) → AreAll given (Some fault) bytes
        → AreShown reports_only first mid printer given
        → Both (Refused fault)
    refused fault true is settle_fault all h = absurd cc
    refused fault false is settle_fault all h =
        let none = unsaved fault all (sym h.has_begun ∙ is) in (
          (
            ap (λ (o : Outcome). o.answer) none,
            subst (Grew took took) (sym (ap (λ (o : Outcome). o.bytes) none)) (grew-none took),
          ),
          saw-given (subst (IsPrefix given) (sym all.items) (prefix-same given)) h,
        )

    stopped : (stop : Stopped RecordFault) → settled_by printer.has_begun (Err stop) ≡ Err stop
        → RecordRead (Err stop) (showing reports_only first mid printer) given bytes discarded → Both stop
    stopped (Refused fault) settle_fault h = refused fault printer.has_begun refl settle_fault h.0 h.1.stands
    stopped (Failed Read) settle_fault h = (part-none took took _ (same-none took), saw-given h.0 h.1.stands)
    stopped (Failed Write) settle_fault h = absurd (no-write-at h)
    stopped (Failed OutOfMemory) settle_fault h = (part-none took took _ (same-none took), tt)

-- ---- the audience is gone

none_more : reports [] [] ≡ []
unfolding reports in_turn
none_more = refl

-- an audience that reported what it was shown has seen all
saw-all : (first mid now : AudienceState) (cycles : ℕ) (bytes : List ℕ) → AllSeen first mid cycles bytes → now.left ≡ reported mid []
    → now.seeing ≡ [] → SawFirst first now bytes
saw-all first mid now cycles bytes all left none = record {
  seen = items_in bytes;
  first = prefix-same (items_in bytes);
  saw = ap (λ (probes : List ProbeLife). now.left ++ reports probes []) none ∙ ap (λ (more : List ℕ). now.left ++ more) none_more
      ∙ append-nil now.left ∙ left ∙ all-reports all.shows;
}

-- ---- what was printed

-- the line with the number of salvaged runs and then the reports were printed, or the audience or the sink failed
abbrev pub ReportsPrinted : Result (Unit {0}) (Stopped RecordFault) → (cycles : ℕ)
    → (old now : AudienceState) → SinkRun → Type 0
ReportsPrinted (Ok u) cycles old now out = (now.left ≡ reported old []) × (now.seeing ≡ [])
    × Grew out.before out.after (number_line (codes "salvaged") cycles ++ reported old [])
ReportsPrinted (Err (Failed Write)) cycles old now out =
    (now.left ≡ reported old []) × (now.seeing ≡ [])
    × GrewByPrefix out.before out.after (number_line (codes "salvaged") cycles ++ reported old [])
ReportsPrinted (Err (Failed OutOfMemory)) cycles old now out =
    GrewByPrefix out.before out.after (number_line (codes "salvaged") cycles ++ reported old [])
ReportsPrinted (Err stop) cycles old now out = ⊥

-- the audience has reported, and its reports were printed or cut off
pub reports-printed : (result : Result (Unit {0}) (Stopped RecordFault)) (cycles : ℕ) (old now : AudienceState) (out : SinkRun)
    (reports : List ℕ) → reports ≡ reported old [] → now.left ≡ reported old [] → now.seeing ≡ []
    → Wrote result [] (number_line (codes "salvaged") cycles ++ reports) out → IsFailed result → ReportsPrinted result cycles old now out
reports-printed result cycles old now out reports is left none wrote fails =
    by result (subst (λ (more : List ℕ). Wrote result [] (number_line (codes "salvaged") cycles ++ more) out) is wrote) fails
  where
    by : (result : Result (Unit {0}) (Stopped RecordFault))
        → Wrote result [] (number_line (codes "salvaged") cycles ++ reported old []) out → IsFailed result
        → ReportsPrinted result cycles old now out
    by (Ok u) w f = (left, none, w)
    by (Err (Failed Write)) w f = (left, none, (w.0, proper-prefix w.0 _ w.1, w.2))
    by (Err (Failed OutOfMemory)) w f = w
    by (Err (Failed Read)) w f = absurd f
    by (Err (Refused fault)) w f = absurd f

-- printing reads nothing
pub no-read-failed : (result : Result (Unit {0}) (Stopped RecordFault)) → IsFailed result → failure_in result ≡ Some Read → ⊥
no-read-failed (Ok u) f e = cc
no-read-failed (Err (Failed Write)) f e = cc
no-read-failed (Err (Failed OutOfMemory)) f e = cc
no-read-failed (Err (Failed Read)) f e = f
no-read-failed (Err (Refused fault)) f e = f

module _ (first mid now : AudienceState) (cycles : ℕ) (out : SinkRun) where
  gives-printed : (bytes : List ℕ) (result : Result (Unit {0}) (Stopped RecordFault)) → AllSeen first mid cycles bytes
      → ReportsPrinted result cycles mid now out → Gives (BadRecord 0) result (salvage_reports_outcome first bytes) out
  gives-printed bytes (Ok u) all p = (
    ap (λ (o : Outcome). o.answer) all.is,
    subst (λ (o : Outcome). Grew out.before out.after o.bytes) (sym all.is) p.2,
  )
  gives-printed bytes (Err (Refused f)) all p = absurd p
  gives-printed bytes (Err (Failed Read)) all p = absurd p
  gives-printed bytes (Err (Failed Write)) all p = subst (λ (o : Outcome). GrewByPrefix out.before out.after o.bytes) (sym all.is) p.2
  gives-printed bytes (Err (Failed OutOfMemory)) all p =
      subst (λ (o : Outcome). GrewByPrefix out.before out.after o.bytes) (sym all.is) p

  sees-printed : (bytes : List ℕ) (result : Result (Unit {0}) (Stopped RecordFault)) → AllSeen first mid cycles bytes
      → ReportsPrinted result cycles mid now out → UnlessNoMemory result (SawFirst first now bytes)
  sees-printed bytes (Ok u) all p = saw-all first mid now cycles bytes all p.0 p.1
  sees-printed bytes (Err (Refused f)) all p = absurd p
  sees-printed bytes (Err (Failed Read)) all p = absurd p
  sees-printed bytes (Err (Failed Write)) all p = saw-all first mid now cycles bytes all p.0 p.1
  sees-printed bytes (Err (Failed OutOfMemory)) all p = tt

  gone-printed : (result : Result (Unit {0}) (Stopped RecordFault)) → ReportsPrinted result cycles mid now out
      → OnOk result (now.seeing ≡ [])
  gone-printed (Ok u) p = p.1
  gone-printed (Err stop) p = tt

  -- printing reads nothing
  broken-printed : (result : Result (Unit {0}) (Stopped RecordFault)) → ReportsPrinted result cycles mid now out
      → result ≡ Err (Failed Read) → Grew out.before out.after []
  broken-printed (Ok u) p e = absurd cc
  broken-printed (Err (Refused f)) p e = absurd p
  broken-printed (Err (Failed Read)) p e = absurd p
  broken-printed (Err (Failed Write)) p e = absurd cc
  broken-printed (Err (Failed OutOfMemory)) p e = absurd cc

-- ---- the whole

module _ {first mid : AudienceState} {printer : Printer} {shelf : ShelfRun} {slot : ℕ} where
  -- the reading stopped, and nothing was written
  pub ended-stopped : (read : Result (Unit {0}) (Stopped RecordFault)) (stop : Stopped RecordFault) (took : List ℕ → Type 0) (a b : ℕ)
      → settled_by printer.has_begun read ≡ Err stop
      → (h : ItemsRead read (showing reports_only first mid printer) shelf slot discarded)
      → Ended (Err stop) first mid h.read shelf slot (record { before = took; after = took; faults_before = a; faults_after = b })
  ended-stopped read stop took a b settle_fault h = record {
    gives = of-slot _ (λ bytes. Gives {T = Unit {0}} (BadRecord 0) (Err stop) (salvage_reports_outcome first bytes)
        (still first mid printer h.given [] took a b))
        (λ bytes r. (both bytes r).0) h.record_read;
    sees = of-slot _ (λ bytes. UnlessNoMemory {T = Unit {0}} (Err stop) (SawFirst first mid bytes)) (λ bytes r. (both bytes r).1)
        h.record_read;
    gone = tt;
    broken = λ e. grew-none took;
  }
    where
      is : read ≡ Err stop
      is = settle_fault-failure printer.has_begun read stop settle_fault

      both : (bytes : List ℕ) → RecordRead read (showing reports_only first mid printer) h.given bytes discarded
          → Both first mid printer h.given bytes took a b stop
      both bytes r =
          stopped first mid printer h.given bytes took a b stop
          (subst (λ (x : Result (Unit {0}) (Stopped RecordFault)). settled_by printer.has_begun x ≡ Err stop) is settle_fault)
          (subst (λ (x : Result (Unit {0}) (Stopped RecordFault)). RecordRead x (showing reports_only first mid printer) h.given bytes
          discarded) is r)

  -- all was read that can be saved
  pub ended-printed : (read result : Result (Unit {0}) (Stopped RecordFault)) (now : AudienceState) (out : SinkRun)
      → settled_by printer.has_begun read ≡ Ok tt → (h : ItemsRead read (showing reports_only first mid printer) shelf slot discarded)
      → ReportsPrinted result printer.cycles mid now out → Ended result first now h.read shelf slot out
  ended-printed read result now out settle_fault h p = record {
    gives = of-slot _ (λ bytes. Gives (BadRecord 0) result (salvage_reports_outcome first bytes) out)
        (λ bytes r. gives-printed first mid now printer.cycles out bytes result (all bytes r) p) h.record_read;
    sees = of-slot _ (λ bytes. UnlessNoMemory result (SawFirst first now bytes))
        (λ bytes r. sees-printed first mid now printer.cycles out bytes result (all bytes r) p) h.record_read;
    gone = gone-printed first mid now printer.cycles out result p;
    broken = broken-printed first mid now printer.cycles out result p;
  }
    where
      all : (bytes : List ℕ) → RecordRead read (showing reports_only first mid printer) h.given bytes discarded
          → AllSeen first mid printer.cycles bytes
      all bytes r = settle_fault-seen first mid printer h.given bytes read settle_fault r

  -- no line was printed
  pub no-write : (read : Result (Unit {0}) (Stopped RecordFault)) (stop : Stopped RecordFault) {out : SinkRun}
      → settled_by printer.has_begun read ≡ Err stop → ItemsRead read (showing reports_only first mid printer) shelf slot discarded
      → SinkTraffic out None → SinkTraffic out (failure_in {A = Unit {0}} (Err stop))
  no-write read stop {out} settle_fault h traffic = by stop (subst
      (λ (x : Result (Unit {0}) (Stopped RecordFault)). RecordRead x (showing reports_only first mid printer) h.given (h.read ++ []) discarded)
      (settle_fault-failure printer.has_begun read stop settle_fault) (h.record_read.each [] (λ end. refl)))
    where
      by : (stop : Stopped RecordFault) → RecordRead (Err stop) (showing reports_only first mid printer) h.given (h.read ++ []) discarded
          → SinkTraffic out (failure_in {A = Unit {0}} (Err stop))
      by (Refused f) r = record { cause = λ e. absurd cc; counted = traffic.counted }
      by (Failed Read) r = record { cause = λ e. absurd cc; counted = traffic.counted }
      by (Failed Write) r = absurd (no-write-at first mid printer h.given (h.read ++ []) r)
      by (Failed OutOfMemory) r = record { cause = λ e. absurd cc; counted = traffic.counted }
