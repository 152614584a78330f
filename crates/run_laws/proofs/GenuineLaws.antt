-- A record is genuine exactly where it is given again, and what it is upgraded to is genuine too.
use Rattle.std.proofs.Common.{◌≡◌, ℕ, ◌↔◌, List, [], ◌∷◌, map, Option, Some, None, Result, Ok, Err, refl, sym, ap, ◌∙◌}
use Rattle.std.specs.Option.{option_and_then}
use Rattle.det_values.specs.Values.{ProfileValue}
use Rattle.det_values.specs.declared.format.Format.TheVariants.{Two}
use Rattle.det_values.specs.declared.job_kind.JobKind.{JobKind}
use Rattle.det_values.specs.Jobs.{kind_of_number}
use Rattle.record_grammar.specs.declared.record_fault.RecordFault.{RecordFault}
use Rattle.record_grammar.specs.declared.item.Item.{Item}
use Rattle.record_grammar.specs.declared.item.Item.TheVariants as items
use Rattle.record_grammar.specs.Record.{items as items_in, fault as fault_in}
use Rattle.record_grammar.specs.Spelling.{AreBytes}
use Rattle.cmd_records.specs.record_show.Text.{format_in}
use Rattle.rerun.specs.replayer.ReplayRecord.{inputs}
use Rattle.probes.specs.Reports.{AudienceState}
use Rattle.rerun.specs.upgrader.UpgradedRecord.{in_format_two}
use Rattle.cli_answers.specs.declared.answer.Answer.TheVariants.{Done}
use Rattle.cli_answers.specs.Outcome.{Outcome}
use Rattle.run_setup.specs.declared.recorded_run.bad_run.BadRun.{BadRun}
use Rattle.run_setup.specs.declared.recorded_run.bad_run.BadRun.TheVariants.{Fault, Profile}
use Rattle.run_setup.specs.recorded_run.Run.{RunValue, taking, kind_of, run_of}
use Rattle.run_setup.proofs.lemmas.recorded_run.Items.{run_by_items, run-by-items}
use Rattle.cmd_rerun.specs.upgrade_command.UpgradeVisit.{upgraded_by_kind}
use Rattle.run_laws.proofs.NamedRuns.{run_with, replayed_by, checked_by, upgraded_by}
use Rattle.run_laws.specs.Statements.{given_again}
use Rattle.run_laws.specs.Checks.{IsGenuine, GenuineIsReplayed, GenuineIsUpgraded, FormatTwoStays}
use Rattle.run_laws.proofs.GenuineRuns.{kind_go_together}

-- ---- the run that a header names

abbrev a_run : JobKind → ProfileValue → RunValue
a_run kind profile = record { kind = kind; profile = profile }

with_run : (taking : Option JobKind) (p : ProfileValue) (run : RunValue) → run_with taking p ≡ Ok run
    → (run.profile ≡ p) × (taking ≡ Some run.kind)
with_run None p run e = absurd cc
with_run (Some kind) p run e =
    let same : a_run kind p ≡ run = cc in
    (ap (λ (r : RunValue). r.profile) (sym same), ap (λ (r : RunValue). Some r.kind) same)

-- the header of the run, and the kind that takes it
record Names (xs : List Item) (run : RunValue) : Type 0 where
  pub rest : List Item
  pub header : xs ≡ items.Header run.profile ∷ rest
  pub kind : kind_of run.profile ≡ Some run.kind

names : (xs : List Item) (end : Option RecordFault) (run : RunValue) → run_by_items xs end ≡ Ok run → Names xs run
names [] None run e = absurd cc
names [] (Some fault) run e = absurd cc
names (items.Frame f ∷ xs) None run e = absurd cc
names (items.Frame f ∷ xs) (Some fault) run e = absurd cc
names (items.Header p ∷ xs) end run e =
    let w = with_run (kind_of p) p run e in
    record {
      rest = xs;
      header = ap (λ (q : ProfileValue). items.Header q ∷ xs) (sym w.0);
      kind = ap kind_of w.0 ∙ w.1;
    }

-- the same kind takes it in format 2
kind_in_two : (kind : Option JobKind) (profile : ProfileValue) → option_and_then (taking (in_format_two profile)) kind
    ≡ option_and_then (taking profile) kind
kind_in_two None profile = refl
kind_in_two (Some kind) profile = refl

run_in_two : (run : RunValue) (rest : List Item) (end : Option RecordFault) → kind_of run.profile ≡ Some run.kind
    → run_by_items (items.Header (in_format_two run.profile) ∷ rest) end ≡ Ok (a_run run.kind (in_format_two run.profile))
run_in_two run rest end takes =
    ap (λ (kind : Option JobKind). run_with kind (in_format_two run.profile))
    (kind_in_two (kind_of_number run.profile.job) run.profile ∙ takes)

-- ---- the laws

genuine_by : (audience : AudienceState) (record_bytes : List ℕ) → AreBytes record_bytes → (named : Result RunValue BadRun)
    → run_of record_bytes ≡ named
    → ((checked_by audience record_bytes named).answer ≡ Done) ↔ (replayed_by record_bytes named ≡ given_again record_bytes None)
genuine_by audience record_bytes are (Err (Fault fault)) e =
    (λ h. absurd cc, λ h. let answer = ap (λ (o : Outcome). o.answer) h in absurd cc)
genuine_by audience record_bytes are (Err Profile) e =
    (λ h. absurd cc, λ h. let answer = ap (λ (o : Outcome). o.answer) h in absurd cc)
genuine_by audience record_bytes are (Ok run) e =
    let n = names (items_in record_bytes) (fault_in record_bytes) run (sym (run-by-items record_bytes) ∙ e) in
    (kind_go_together run.kind audience run.profile record_bytes are (n.rest, n.header)).replayed

pub genuine_is_replayed : GenuineIsReplayed
genuine_is_replayed audience record_bytes are = genuine_by audience record_bytes are (run_of record_bytes) refl

-- what is upgraded of a record with a run
record IsUpgradedBy (audience : AudienceState) (record_bytes : List ℕ) (upgrade : Outcome) : Type 0 where
  pub done : upgrade.answer ≡ Done
  pub inputs : inputs upgrade.bytes ≡ inputs record_bytes
  pub format : format_in (items_in upgrade.bytes) ≡ Two
  pub genuine : IsGenuine audience upgrade.bytes
  pub stays : format_in (items_in record_bytes) ≡ Two → upgrade.bytes ≡ record_bytes

upgraded_by_run : (audience : AudienceState) (record_bytes : List ℕ) → AreBytes record_bytes → (named : Result RunValue BadRun)
    → run_of record_bytes ≡ named → (checked_by audience record_bytes named).answer ≡ Done
    → IsUpgradedBy audience record_bytes (upgraded_by record_bytes named)
upgraded_by_run audience record_bytes are (Err (Fault fault)) e h = absurd cc
upgraded_by_run audience record_bytes are (Err Profile) e h = absurd cc
upgraded_by_run audience record_bytes are (Ok run) e h =
    let n = names (items_in record_bytes) (fault_in record_bytes) run (sym (run-by-items record_bytes) ∙ e) in
    let is = (kind_go_together run.kind audience run.profile record_bytes are (n.rest, n.header)).upgraded h in
    let more : List ℕ = (upgraded_by_kind run.kind run.profile record_bytes).bytes in
    let replay_record : run_of more ≡ Ok (a_run run.kind (in_format_two run.profile)) =
    run-by-items more ∙ ap (λ (xs : List Item). run_by_items xs (fault_in more)) is.items
    ∙ run_in_two run (map items.Frame is.run) (fault_in more) n.kind in
    record {
      done = is.done;
      inputs = is.inputs;
      format = ap format_in is.items;
      genuine = ap (λ (r : Result RunValue BadRun). (checked_by audience more r).answer) replay_record ∙ is.genuine;
      stays = λ two. is.stays (ap format_in (sym n.header) ∙ two);
    }

upgraded_if : (audience : AudienceState) (record_bytes : List ℕ) → AreBytes record_bytes → IsGenuine audience record_bytes
    → IsUpgradedBy audience record_bytes (upgraded_by record_bytes (run_of record_bytes))
upgraded_if audience record_bytes are h = upgraded_by_run audience record_bytes are (run_of record_bytes) refl h

pub genuine_is_upgraded : GenuineIsUpgraded
genuine_is_upgraded audience record_bytes are h =
    let is = upgraded_if audience record_bytes are h in
    record { done = is.done; inputs = is.inputs; format = is.format; genuine = is.genuine }

pub format_two_stays : FormatTwoStays
format_two_stays audience record_bytes are h = (upgraded_if audience record_bytes are h).stays
