-- How showing ends, by how the reading did.
use Rattle.std.proofs.Common.{◌≡◌, ◌⊎◌, inl, inr, ℕ, List, [], ◌∷◌, ◌++◌, length, Option, Some, None, Result, Ok, Err, refl, sym, ap, subst}
use Rattle.std.proofs.Common.{◌∙◌, append-nil}
use Rattle.std.specs.Prelude.{OnOk}
use Rattle.det_values.specs.declared.frames.RunFrame.{RunFrame}
use Rattle.det_io.specs.declared.failure.Failure.TheVariants.{Read, Write, OutOfMemory}
use Rattle.det_io.specs.declared.failure.Stopped.{Stopped}
use Rattle.det_io.specs.declared.failure.Stopped.TheVariants.{Refused, Failed}
use Rattle.det_io.specs.Prefix.{IsPrefix, IsProperPrefix}
use Rattle.det_io.specs.Shelf.{IsAtEnd}
use Rattle.det_io.specs.Sink.{Grew, GrewByPrefix, GrewShort}
use Rattle.det_io.specs.Traffic.{ShelfRun, SinkRun}
use Rattle.det_io.proofs.Growth.{grew-none, grew-then, grew-then-part, grew-then-short, part-wider, part-whole}
use Rattle.det_io.proofs.Prefixes.{prefix-none, prefix-same, prefix-then, prefix-append, proper-then, proper-behind}
use Rattle.record_grammar.specs.declared.record_fault.RecordFault.{RecordFault}
use Rattle.record_grammar.specs.declared.item.Item.{Item}
use Rattle.record_grammar.specs.Record.{items as items_in, fault as fault_in}
use Rattle.record_text.specs.declared.show_part.ShowPart.{ShowPart}
use Rattle.record_text.specs.declared.show_part.ShowPart.TheVariants.{All, Reports, Cycle}
use Rattle.record_reader.specs.item_reader.StandsFor.{FoundFault, IsFaulty}
use Rattle.record_reader.proofs.lemmas.item_reader.Needed.{while-weaker}
use Rattle.record_reader.specs.ItemTaker.{AreAll, RecordRead, ItemsRead, Wrote}
use Rattle.record_reader.proofs.ItemTaker.{behind, over, of-slot}
use Rattle.probes.specs.Reports.{ProbeLife, AudienceState, reported, reports, in_turn}
use Rattle.probes.specs.Shows.{Shows, SawRuns}
use Rattle.probes.proofs.Shown.{all-reports}
use Rattle.cmd_records.specs.declared.record_show.show_form.Notation.{Notation}
use Rattle.cmd_records.specs.declared.record_show.show_form.ShowForm.{ShowForm}
use Rattle.cmd_records.specs.declared.record_show.shown.Shown.{Shown}
use Rattle.cmd_records.specs.declared.record_show.printer.Printer.{Printer}
use Rattle.cmd_records.specs.record_show.Text.{lines_of, reports_text, reports_of, text_from, text_of}
use Rattle.record_reader.specs.InItems.{runs_in}
use Rattle.cmd_records.specs.record_show.PrintedItems.{Watched, Kept, IsFailed, showing}
use Rattle.cmd_records.specs.command_ends.Results.{UnlessNoMemory}
use Rattle.cmd_records.specs.record_show.ShowEnds.{Answers, SawFirst, Finished, IsGone, FinishIs, ReadsTo, WroteRead, Ended}
use Rattle.cmd_records.proofs.lemmas.record_show.Parts.{form_by, part-first, none-yet}
use Rattle.cmd_records.proofs.lemmas.record_show.Taken.{kept-same}

-- ---- the text

text_bad : (form : ShowForm) (audience : AudienceState) (bytes : List ℕ) {given : List Item} {f : RecordFault} → AreAll given (Some f) bytes
    → text_of form audience bytes ≡ lines_of form given
text_bad form audience bytes all = ap (text_from form audience (items_in bytes)) all.fault ∙ ap (lines_of form) all.items

text_good : (form : ShowForm) (audience : AudienceState) (bytes : List ℕ) {given : List Item} → AreAll given None bytes
    → text_of form audience bytes ≡ lines_of form given ++ reports_of form audience (runs_in given)
text_good form audience bytes all =
    ap (text_from form audience (items_in bytes)) all.fault
    ∙ ap (λ (xs : List Item). lines_of form xs ++ reports_of form audience (runs_in xs)) all.items

lines_before : (form : ShowForm) (audience : AudienceState) (xs : List Item) (end : Option RecordFault)
    → IsPrefix (lines_of form xs) (text_from form audience xs end)
lines_before form audience xs None = prefix-append (lines_of form xs) (reports_of form audience (runs_in xs))
lines_before form audience xs (Some f) = prefix-same (lines_of form xs)

-- the lines of a record's first items come first of its text
text_first : (form : ShowForm) (audience : AudienceState) (bytes : List ℕ) (given : List Item) → IsPrefix given (items_in bytes)
    → IsPrefix (lines_of form given) (text_of form audience bytes)
text_first form audience bytes given first =
    prefix-then _ _ _ (subst (λ (xs : List Item). IsPrefix (lines_of form given) (lines_of form xs)) first.1
    (part-first form given first.0)) (lines_before form audience (items_in bytes) (fault_in bytes))

-- ---- the audience

none_more : reports [] [] ≡ []
unfolding reports in_turn
none_more = refl

reported_by : (notation : Notation) (part : ShowPart) (first mid : AudienceState) (runs : List RunFrame) → Watched part first mid runs
    → reports_of (form_by notation part) mid [] ≡ reports_of (form_by notation part) first runs
reported_by notation All first mid runs h = ap (reports_text notation) (all-reports h)
reported_by notation Reports first mid runs h = ap (reports_text notation) (all-reports h)
reported_by notation (Cycle number) first mid runs h = refl

reported_all : (form : ShowForm) (first mid : AudienceState) (runs : List RunFrame) → Watched form.part first mid runs
    → reports_of form mid [] ≡ reports_of form first runs
reported_all form first mid runs h = reported_by form.notation form.part first mid runs h

finished_saw : (first mid now : AudienceState) (runs : List RunFrame) → Shows first mid runs → now
    ≡ record { seeing = []; left = reported mid [] } → SawRuns first now runs
finished_saw first mid now runs h is =
    ap (λ (a : AudienceState). reported a []) is ∙ ap (λ (more : List ℕ). reported mid [] ++ more) none_more ∙ append-nil (reported mid [])
    ∙ all-reports h

module _ (form : ShowForm) (first now : AudienceState) (bytes : List ℕ) (out : SinkRun) where
  -- an audience that was shown nothing saw no run
  saw-none : (taken : List ℕ) → now ≡ first → Grew out.before out.after taken → SawFirst form first now bytes out
  saw-none taken is grew = record {
    seen = [];
    first = prefix-none (items_in bytes);
    saw = ap (λ (a : AudienceState). reported a []) is;
    taken = taken;
    lines = subst (λ (lines : List ℕ). IsPrefix lines taken) (sym (none-yet form)) (prefix-none taken);
    grew = grew;
  }

  saw-runs : (given : List Item) (rest : List ℕ) → IsPrefix given (items_in bytes) → SawRuns first now (runs_in given)
      → Grew out.before out.after (lines_of form given ++ rest) → SawFirst form first now bytes out
  saw-runs given rest front saw grew = record {
    seen = given;
    first = front;
    saw = saw;
    taken = lines_of form given ++ rest;
    lines = prefix-append (lines_of form given) rest;
    grew = grew;
  }

watched_by : (notation : Notation) (part : ShowPart) (first now : AudienceState) (bytes : List ℕ) (out : SinkRun) (given : List Item)
    (rest : List ℕ) → IsPrefix given (items_in bytes) → Watched part first now (runs_in given)
    → Grew out.before out.after (lines_of (form_by notation part) given ++ rest) → SawFirst (form_by notation part) first now bytes out
watched_by notation All first now bytes out given rest front h grew =
    saw-runs (form_by notation All) first now bytes out given rest front (all-reports h) grew
watched_by notation Reports first now bytes out given rest front h grew =
    saw-runs (form_by notation Reports) first now bytes out given rest front (all-reports h) grew
watched_by notation (Cycle number) first now bytes out given rest front h grew =
    saw-none (form_by notation (Cycle number)) first now bytes out _ h grew

saw-watched : (form : ShowForm) (first now : AudienceState) (bytes : List ℕ) (out : SinkRun) (given : List Item) (rest : List ℕ)
    → IsPrefix given (items_in bytes) → Watched form.part first now (runs_in given)
    → Grew out.before out.after (lines_of form given ++ rest) → SawFirst form first now bytes out
saw-watched form first now bytes out given rest front h grew =
    watched_by form.notation form.part first now bytes out given rest front h grew

done_by : (notation : Notation) (part : ShowPart) (first mid now : AudienceState) (bytes : List ℕ) (out : SinkRun) (given : List Item)
    (rest : List ℕ) → IsPrefix given (items_in bytes) → Watched part first mid (runs_in given) → Finished part mid now []
    → Grew out.before out.after (lines_of (form_by notation part) given ++ rest) → SawFirst (form_by notation part) first now bytes out
done_by notation All first mid now bytes out given rest front h is grew =
    saw-runs (form_by notation All) first now bytes out given rest front (finished_saw first mid now (runs_in given) h is) grew
done_by notation Reports first mid now bytes out given rest front h is grew =
    saw-runs (form_by notation Reports) first now bytes out given rest front (finished_saw first mid now (runs_in given) h is) grew
done_by notation (Cycle number) first mid now bytes out given rest front h is grew =
    saw-none (form_by notation (Cycle number)) first now bytes out _ (is ∙ h) grew

saw-finished : (form : ShowForm) (first mid now : AudienceState) (bytes : List ℕ) (out : SinkRun) (given : List Item) (rest : List ℕ)
    → IsPrefix given (items_in bytes) → Watched form.part first mid (runs_in given) → Finished form.part mid now []
    → Grew out.before out.after (lines_of form given ++ rest) → SawFirst form first now bytes out
saw-finished form first mid now bytes out given rest front h is grew =
    done_by form.notation form.part first mid now bytes out given rest front h is grew

with-none : (out : SinkRun) {lines : List ℕ} → Grew out.before out.after lines → Grew out.before out.after (lines ++ [])
with-none out {lines} grew = subst (Grew out.before out.after) (sym (append-nil lines)) grew

-- ---- where the reading stopped

abbrev Both : Result Shown (Stopped RecordFault) → ShowForm → AudienceState → AudienceState → List ℕ → SinkRun → Type 0
Both result form first now bytes out = Answers result form first bytes out × UnlessNoMemory result (SawFirst form first now bytes out)

all-first : {given : List Item} {end : Option RecordFault} {bytes : List ℕ} → AreAll given end bytes → IsPrefix given (items_in bytes)
all-first {given} all = subst (IsPrefix given) (sym all.items) (prefix-same given)

stopped : (form : ShowForm) (first now : AudienceState) (printer : Printer) (bytes : List ℕ) (out : SinkRun) (given : List Item)
    (stop : Stopped RecordFault)
    → RecordRead (Err stop) (showing form first now printer) given bytes out → Both (Err stop) form first now bytes out
stopped form first now printer bytes out given (Refused f) h = (
  (h.0.fault, subst (Grew out.before out.after) (sym (text_bad form first bytes h.0)) h.1.grew),
  saw-watched form first now bytes out given [] (all-first h.0) h.1.stands.watched (with-none out h.1.grew),
)
stopped form first now printer bytes out given (Failed Read) h = (
  part-wider out.before out.after _ _ (part-whole out.before out.after _ h.1.grew) (text_first form first bytes given h.0),
  saw-watched form first now bytes out given [] h.0 h.1.stands.watched (with-none out h.1.grew),
)
stopped form first now printer bytes out given (Failed Write) h =
    let t = h.2 in (
      (
        lines_of form given ++ t.wrote.0,
        (
            let cut : IsProperPrefix (lines_of form given ++ t.wrote.0) (lines_of form (given ++ h.0 ∷ [])) =
            subst (IsProperPrefix (lines_of form given ++ t.wrote.0)) (sym t.all)
            (proper-behind (lines_of form given) t.wrote.0 t.more t.wrote.1) in
            proper-then _ _ _ cut (text_first form first bytes (given ++ h.0 ∷ []) h.1)
            ),
        t.wrote.2,
      ),
      saw-watched form first now bytes out given t.wrote.0
          (prefix-then given (given ++ h.0 ∷ []) (items_in bytes) (prefix-append given (h.0 ∷ [])) h.1) t.after t.wrote.2,
    )
stopped form first now printer bytes out given (Failed OutOfMemory) h =
    (part-wider out.before out.after _ _ h.1 (text_first form first bytes given h.0), tt)

-- ---- where all was read

finished : (form : ShowForm) (first mid now : AudienceState) (printer : Printer) (bytes : List ℕ) (one : SinkRun) (last : List ℕ → Type 0)
    (b : ℕ) (given : List Item) (u : Unit {0}) (result : Result Shown (Stopped RecordFault))
    → RecordRead (Ok u) (showing form first mid printer) given bytes one → FinishIs result form printer.cycles mid now (behind one last b)
    → Both result form first now bytes (over one last b)
finished form first mid now printer bytes one last b given u (Ok shown) h end =
    let grew : Grew one.before last (lines_of form given ++ reports_of form mid []) = grew-then h.1.grew end.2 in (
      record {
        whole = h.0.fault;
        grew = subst (Grew one.before last) (ap (λ (more : List ℕ). lines_of form given ++ more)
            (reported_all form first mid (runs_in given) h.1.stands.watched) ∙ sym (text_good form first bytes h.0)) grew;
        cycles = end.0 ∙ h.1.stands.cycles ∙ ap (λ (xs : List Item). length (runs_in xs)) (sym h.0.items);
      },
      saw-finished form first mid now bytes (over one last b) given (reports_of form mid []) (all-first h.0) h.1.stands.watched end.1 grew,
    )
finished form first mid now printer bytes one last b given u (Err (Refused f)) h end = absurd end
finished form first mid now printer bytes one last b given u (Err (Failed Read)) h end = absurd end
finished form first mid now printer bytes one last b given u (Err (Failed Write)) h end =
    let short = grew-then-short one.before one.after last (lines_of form given) (reports_of form mid []) h.1.grew end.1 in (
      subst (GrewShort one.before last) (ap (λ (more : List ℕ). lines_of form given ++ more)
          (reported_all form first mid (runs_in given) h.1.stands.watched) ∙ sym (text_good form first bytes h.0)) short,
      saw-finished form first mid now bytes (over one last b) given end.1.0 (all-first h.0) h.1.stands.watched end.0
          (grew-then h.1.grew end.1.2),
    )
finished form first mid now printer bytes one last b given u (Err (Failed OutOfMemory)) h end =
    let front = grew-then-part one.before one.after last (lines_of form given) (reports_of form mid []) h.1.grew end in (
      subst (GrewByPrefix one.before last) (ap (λ (more : List ℕ). lines_of form given ++ more)
          (reported_all form first mid (runs_in given) h.1.stands.watched) ∙ sym (text_good form first bytes h.0)) front,
      tt,
    )

-- ---- the whole

finds : {f : RecordFault} {at_end : Type 0} {read : List ℕ} {given : List Item} → FoundFault f at_end read given
    → ((rest : List ℕ) → fault_in (read ++ rest) ≡ Some f) ⊎ at_end
finds {f} {at_end} {read} {given} found = by found.found
  where
    by : IsFaulty f read given ⊎ at_end → ((rest : List ℕ) → fault_in (read ++ rest) ≡ Some f) ⊎ at_end
    by (inl faulty) = inl (λ rest. (faulty rest).1)
    by (inr at) = inr at

stopped_to : (form : ShowForm) (first now : AudienceState) (printer : Printer) {shelf : ShelfRun} {slot : ℕ} {out : SinkRun}
    (stop : Stopped RecordFault) → (h : ItemsRead (Err stop) (showing form first now printer) shelf slot out)
    → ReadsTo (Err stop) h.read (IsAtEnd shelf.last slot)
stopped_to form first now printer (Refused f) h = finds h.reads_to
stopped_to form first now printer (Failed Read) h = h.reads_to.1
stopped_to form first now printer (Failed Write) h = tt
stopped_to form first now printer (Failed OutOfMemory) h = tt

stopped_wrote : (form : ShowForm) (first now : AudienceState) (printer : Printer) {shelf : ShelfRun} {slot : ℕ} {out : SinkRun}
    (stop : Stopped RecordFault) → (h : ItemsRead (Err stop) (showing form first now printer) shelf slot out)
    → WroteRead (Err stop) form h.read out
stopped_wrote form first now printer (Refused f) h = tt
stopped_wrote form first now printer {out = out} (Failed Read) h =
    subst (λ (xs : List Item). Grew out.before out.after (lines_of form xs)) (sym h.reads_to.0)
    (h.record_read.each [] (λ at. refl)).1.grew
stopped_wrote form first now printer (Failed Write) h = tt
stopped_wrote form first now printer (Failed OutOfMemory) h = tt

-- the reading stopped
pub ended-stopped : (form : ShowForm) (first now : AudienceState) (printer : Printer) {shelf : ShelfRun} {slot : ℕ} {out : SinkRun}
    (stop : Stopped RecordFault) → Kept form.part first now → (h : ItemsRead (Err stop) (showing form first now printer) shelf slot out)
    → Ended (Err stop) form first now h.read shelf slot out
ended-stopped form first now printer {out = out} stop kept h = record {
  reads_to = stopped_to form first now printer stop h;
  needed = while-weaker _ _ h.read (λ first p. p.1) h.needed;
  wrote = stopped_wrote form first now printer stop h;
  answers = of-slot _ (λ bytes. Answers (Err stop) form first bytes out)
      (λ bytes r. (stopped form first now printer bytes out h.given stop r).0) h.record_read;
  sees = of-slot _ (λ bytes. UnlessNoMemory {T = Shown} (Err stop) (SawFirst form first now bytes out))
      (λ bytes r. (stopped form first now printer bytes out h.given stop r).1) h.record_read;
  gone = tt;
  kept = kept;
}

finished_to : (result : Result Shown (Stopped RecordFault)) (form : ShowForm) (cycles : ℕ) (mid now : AudienceState) (read : List ℕ)
    (at_end : Type 0) (out : SinkRun) → at_end → FinishIs result form cycles mid now out → ReadsTo result read at_end
finished_to (Ok shown) form cycles mid now read at_end out at end = at
finished_to (Err (Refused f)) form cycles mid now read at_end out at end = absurd end
finished_to (Err (Failed Read)) form cycles mid now read at_end out at end = absurd end
finished_to (Err (Failed Write)) form cycles mid now read at_end out at end = tt
finished_to (Err (Failed OutOfMemory)) form cycles mid now read at_end out at end = tt

finished_wrote : (result : Result Shown (Stopped RecordFault)) (form : ShowForm) (cycles : ℕ) (mid now : AudienceState) (read : List ℕ)
    (one both : SinkRun) → FinishIs result form cycles mid now one → WroteRead result form read both
finished_wrote (Ok shown) form cycles mid now read one both end = tt
finished_wrote (Err (Refused f)) form cycles mid now read one both end = absurd end
finished_wrote (Err (Failed Read)) form cycles mid now read one both end = absurd end
finished_wrote (Err (Failed Write)) form cycles mid now read one both end = tt
finished_wrote (Err (Failed OutOfMemory)) form cycles mid now read one both end = tt

none_left : (part : ShowPart) (mid now : AudienceState) → Finished part mid now [] → IsGone part now
none_left All mid now is = ap (λ (a : AudienceState). a.seeing) is
none_left Reports mid now is = ap (λ (a : AudienceState). a.seeing) is
none_left (Cycle number) mid now is = tt

finished_gone : (result : Result Shown (Stopped RecordFault)) (form : ShowForm) (cycles : ℕ) (mid now : AudienceState) (out : SinkRun)
    → FinishIs result form cycles mid now out → OnOk result (IsGone form.part now)
finished_gone (Ok shown) form cycles mid now out end = none_left form.part mid now end.1
finished_gone (Err stop) form cycles mid now out end = tt

-- all was read, and the reports were to be printed
pub ended-finished : (form : ShowForm) (first mid now : AudienceState) (printer : Printer) {shelf : ShelfRun} {slot : ℕ} {one : SinkRun}
    (last : List ℕ → Type 0) (b : ℕ) (u : Unit {0}) (result : Result Shown (Stopped RecordFault))
    → Kept form.part first now → (h : ItemsRead (Ok u) (showing form first mid printer) shelf slot one)
    → FinishIs result form printer.cycles mid now (behind one last b) → Ended result form first now h.read shelf slot (over one last b)
ended-finished form first mid now printer {shelf = shelf} {slot = slot} {one = one} last b u result kept h end = record {
  reads_to = finished_to result form printer.cycles mid now h.read (IsAtEnd shelf.last slot) (behind one last b) h.reads_to end;
  needed = while-weaker _ _ h.read (λ first p. p.1) h.needed;
  wrote = finished_wrote result form printer.cycles mid now h.read (behind one last b) (over one last b) end;
  answers = of-slot _ (λ bytes. Answers result form first bytes (over one last b))
      (λ bytes r. (finished form first mid now printer bytes one last b h.given u result r end).0) h.record_read;
  sees = of-slot _ (λ bytes. UnlessNoMemory result (SawFirst form first now bytes (over one last b)))
      (λ bytes r. (finished form first mid now printer bytes one last b h.given u result r end).1) h.record_read;
  gone = finished_gone result form printer.cycles mid now (behind one last b) end;
  kept = kept;
}

-- ---- the reports

abbrev state : List ProbeLife → List ℕ → AudienceState
state seeing left = record { seeing = seeing; left = left }

both : (mid : AudienceState) (seeing : List ProbeLife) (left : List ℕ) → left ≡ reported mid [] → seeing ≡ [] → state seeing left
    ≡ state [] (reported mid [])
both mid seeing left reports none = ap (λ (xs : List ProbeLife). state xs left) none ∙ ap (state []) reports

reports_by : (notation : Notation) (part : ShowPart) → ((number : ℕ) → part ≡ Cycle number → ⊥) → (mid : AudienceState)
    → reports_of (form_by notation part) mid [] ≡ reports_text notation (reported mid [])
reports_by notation All other mid = refl
reports_by notation Reports other mid = refl
reports_by notation (Cycle number) other mid = absurd (other number refl)

-- a single run has no reports
pub finish-one : (form : ShowForm) (number : ℕ) (shown : Shown) (mid : AudienceState) (one : SinkRun) → form.part ≡ Cycle number
    → FinishIs (Ok shown) form shown.cycles mid mid (behind one one.after one.faults_after)
finish-one form number shown mid one is =
    subst (λ (p : ShowPart). FinishIs (Ok shown) (form_by form.notation p) shown.cycles mid mid (behind one one.after one.faults_after))
    (sym is) (refl, refl, grew-none one.after)

finished_by : (part : ShowPart) → ((number : ℕ) → part ≡ Cycle number → ⊥) → (mid : AudienceState) (seeing : List ProbeLife) (left : List ℕ)
    → left ≡ reported mid [] → seeing ≡ [] → Finished part mid (record { seeing = seeing; left = left }) []
finished_by All other mid seeing left reports none = both mid seeing left reports none
finished_by Reports other mid seeing left reports none = both mid seeing left reports none
finished_by (Cycle number) other mid seeing left reports none = absurd (other number refl)

pub kept-other : (part : ShowPart) → ((number : ℕ) → part ≡ Cycle number → ⊥) → (first now : AudienceState) → Kept part first now
kept-other All other first now = tt
kept-other Reports other first now = tt
kept-other (Cycle number) other first now = absurd (other number refl)

-- all items were passed to a printer of this form
pub of-form : {result : Result (Unit {0}) (Stopped RecordFault)} {printed form : ShowForm} {first now : AudienceState} {printer : Printer}
    {shelf : ShelfRun} {slot : ℕ} {out : SinkRun} → printed ≡ form → ItemsRead result (showing printed first now printer) shelf slot out
    → ItemsRead result (showing form first now printer) shelf slot out
of-form {result} {first = first} {now = now} {printer = printer} {shelf = shelf} {slot = slot} {out = out} is h =
    subst (λ (f : ShowForm). ItemsRead result (showing f first now printer) shelf slot out) is h

module _ {form : ShowForm} (other : (number : ℕ) → form.part ≡ Cycle number → ⊥) {first mid : AudienceState} {printer : Printer}
    {shelf : ShelfRun} {slot : ℕ} {one : SinkRun} {u : Unit {0}} (h : ItemsRead (Ok u) (showing form first mid printer) shelf slot one)
    (now : AudienceState) where
  -- the audience couldn't report
  pub ended-unreported : Ended (Err (Failed OutOfMemory)) form first now h.read shelf slot (over one one.after one.faults_after)
  ended-unreported =
      ended-finished form first mid now printer one.after one.faults_after u (Err (Failed OutOfMemory))
      (kept-other form.part other first now) h ([], prefix-none (reports_of form mid []), grew-none one.after)

  module _ (last : List ℕ → Type 0) (b : ℕ) (left : now.left ≡ reported mid []) (none : now.seeing ≡ []) where
    are-reports : reports_text form.notation now.left ≡ reports_of form mid []
    are-reports = ap (reports_text form.notation) left ∙ sym (reports_by form.notation form.part other mid)

    -- what was written is that of the reports
    by-reports : (result : Result (Unit {0}) (Stopped RecordFault))
        → Wrote result [] (reports_text form.notation now.left) (behind one last b)
        → Wrote result [] (reports_of form mid []) (behind one last b)
    by-reports result wrote = subst (λ (bytes : List ℕ). Wrote result [] bytes (behind one last b)) are-reports wrote

    -- not all reports were written
    pub ended-cut : (stop : Stopped RecordFault) → Wrote (Err stop) [] (reports_text form.notation now.left) (behind one last b)
        → IsFailed (Err stop) → Ended (Err stop) form first now h.read shelf slot (over one last b)
    ended-cut (Refused f) wrote fails = absurd fails
    ended-cut (Failed Read) wrote fails = absurd fails
    ended-cut (Failed Write) wrote fails =
        ended-finished form first mid now printer last b u (Err (Failed Write)) (kept-other form.part other first now) h
        (finished_by form.part other mid now.seeing now.left left none, by-reports (Err (Failed Write)) wrote)
    ended-cut (Failed OutOfMemory) wrote fails =
        ended-finished form first mid now printer last b u (Err (Failed OutOfMemory)) (kept-other form.part other first now) h
        (by-reports (Err (Failed OutOfMemory)) wrote)

    -- all were
    pub ended-reported : (v : Unit {0}) → Wrote {E = RecordFault} (Ok v) [] (reports_text form.notation now.left) (behind one last b)
        → Ended (Ok (record { cycles = printer.cycles })) form first now h.read shelf slot (over one last b)
    ended-reported v wrote =
        ended-finished form first mid now printer last b u (Ok (record { cycles = printer.cycles }))
        (kept-other form.part other first now) h
        (refl, finished_by form.part other mid now.seeing now.left left none, by-reports (Ok v) wrote)

-- where nothing was read the audience has seen nothing
pub saw-unread : (form : ShowForm) (audience : AudienceState) (bytes : List ℕ) (out : SinkRun) → Grew out.before out.after []
    → SawFirst form audience audience bytes out
saw-unread form audience bytes out grew = saw-none form audience audience bytes out [] refl grew

-- nothing has no lines
pub no-lines : (form : ShowForm) → lines_of form [] ≡ []
no-lines form = none-yet form

pub kept-unread : (part : ShowPart) (audience : AudienceState) → Kept part audience audience
kept-unread part audience = kept-same part audience
