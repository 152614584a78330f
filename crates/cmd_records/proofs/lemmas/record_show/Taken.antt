-- An item that is printed and shown.
use Rattle.std.proofs.Common.{◌≡◌, ◌<◌, ℕ, ◌+◌, List, [], ◌∷◌, ◌++◌, length, Bool, ◌||◌, Ok, Err}
use Rattle.std.proofs.Common.{refl, sym, ap, subst, ◌∙◌, length-append, arith}
use Rattle.det_values.specs.declared.format.Format.{Format}
use Rattle.det_values.specs.declared.format.Format.TheVariants.{One}
use Rattle.det_values.specs.declared.frames.RunFrame.{RunFrame}
use Rattle.det_io.specs.declared.failure.Failure.TheVariants.{Read, Write, OutOfMemory}
use Rattle.det_io.specs.declared.failure.Stopped.{Stopped}
use Rattle.det_io.specs.declared.failure.Stopped.TheVariants.{Refused, Failed}
use Rattle.det_io.specs.Traffic.{SinkRun}
use Rattle.det_io.specs.Sink.{Grew}
use Rattle.det_io.proofs.Prefixes.{prefix-none, prefix-same}
use Rattle.record_grammar.specs.declared.record_fault.RecordFault.{RecordFault}
use Rattle.record_grammar.specs.declared.item.Item.{Item}
use Rattle.record_grammar.specs.declared.item.Item.TheVariants as items
use Rattle.record_grammar.specs.declared.place.Place.TheVariants as places
use Rattle.record_grammar.specs.Places.{format_of}
use Rattle.record_grammar.proofs.Leads.{can_follow}
use Rattle.record_view.specs.declared.view.ItemKind.{ItemKind}
use Rattle.record_view.specs.declared.view.ItemView.{ItemView}
use Rattle.record_view.specs.Shows.{IsSpelling}
use Rattle.record_reader.specs.Kinds.{begins_runs, runs_of}
use Rattle.record_reader.specs.Salvaged.{is_init}
use Rattle.record_reader.specs.ItemTaker.{AreFirst, IsNext, Takes, Wrote}
use Rattle.record_reader.proofs.Items.{NextIs, next_is}
use Rattle.record_reader.proofs.Kept.{Adds, adds}
use Rattle.record_reader.proofs.Pieces.{headed-next as starts-headed, begun-next, cycles-room}
use Rattle.record_text.specs.declared.show_part.ShowPart.{ShowPart}
use Rattle.record_text.specs.declared.show_part.ShowPart.TheVariants.{All, Reports, Cycle}
use Rattle.record_json.specs.declared.element_layout.ElementLayout.{ElementLayout}
use Rattle.record_json.specs.declared.element_layout.ElementLayout.TheVariants.{Unknown}
use Rattle.probes.specs.Reports.{AudienceState}
use Rattle.probes.proofs.Shown.{shows-none, shows-then}
use Rattle.cmd_records.specs.declared.record_show.printer.Printer.{Printer}
use Rattle.cmd_records.specs.declared.record_show.show_form.Notation.{Notation}
use Rattle.cmd_records.specs.declared.record_show.show_form.Notation.TheVariants.{Lines, Json}
use Rattle.cmd_records.specs.declared.record_show.show_form.ShowForm.{ShowForm}
use Rattle.cmd_records.specs.record_show.Text.{lines_of}
use Rattle.record_reader.specs.InItems.{runs_in}
use Rattle.record_reader.specs.InItems.{run_in}
use Rattle.cmd_records.specs.record_show.PrintedItems.{format_by, format_behind, layout_by, layout_behind, printed_of, Watched}
use Rattle.cmd_records.specs.record_show.PrintedItems.{Kept, IsFailed}
use Rattle.cmd_records.specs.record_show.PrintedItems.{AreShown, Noted, showing}
use Rattle.cmd_records.proofs.lemmas.record_show.Lines.{runs_next}
use Rattle.cmd_records.proofs.lemmas.record_show.Parts.{form_by, more_of, part-next, headed-next, laid-next, layout-next}
use Rattle.cmd_records.proofs.lemmas.record_show.Formats.{format_there}

pub watched-none : (part : ShowPart) (audience : AudienceState) → Watched part audience audience []
watched-none All audience = shows-none audience
watched-none Reports audience = shows-none audience
watched-none (Cycle number) audience = refl

watched-then : (part : ShowPart) (first mid now : AudienceState) (shown more : List RunFrame) → Watched part first mid shown
    → Watched part mid now more → Watched part first now (shown ++ more)
watched-then All first mid now shown more p q = shows-then p q
watched-then Reports first mid now shown more p q = shows-then p q
watched-then (Cycle number) first mid now shown more p q = q ∙ p

pub kept-same : (part : ShowPart) (audience : AudienceState) → Kept part audience audience
kept-same All audience = tt
kept-same Reports audience = tt
kept-same (Cycle number) audience = refl

pub kept-then : (part : ShowPart) (first mid now : AudienceState) → Kept part first mid → Kept part mid now → Kept part first now
kept-then All first mid now p q = tt
kept-then Reports first mid now p q = tt
kept-then (Cycle number) first mid now p q = q ∙ p

-- there is room to count one more
pub shown-room : {form : ShowForm} (printer : Printer) (first now : AudienceState) (given : List Item) (item : Item)
    → AreShown form first now printer given → AreFirst (given ++ item ∷ []) → printer.cycles < 4294967295
shown-room printer first now given item h are_first =
    let room : length (runs_in given) < 4294967295 = cycles-room given item are_first in let cycles = h.cycles in
    omega (arith, room, cycles)

-- ---- an item by its view

-- what an item adds to the counts, by its kind
adds_of : (view : ItemView) (item : Item) (bytes : List ℕ) → IsSpelling view item bytes → Adds view.span.kind item
adds_of view item bytes h = adds view.place view.span.kind view.span.len bytes item h.shows.parts

-- a printer that printed and showed an item after it noted its layout
pub record IsSame (old new : Printer) : Type 0 where
  pub form : new.form ≡ old.form
  pub layout : new.layout ≡ old.layout
  pub has_begun : new.has_begun ≡ old.has_begun
  pub cycles : new.cycles ≡ old.cycles

pub same-but-lines : {old new : Printer} → new ≡ record old { lines = new.lines } → IsSame old new
same-but-lines is = record {
  form = ap (λ p. p.form) is;
  layout = ap (λ p. p.layout) is;
  has_begun = ap (λ p. p.has_begun) is;
  cycles = ap (λ p. p.cycles) is;
}

pub same-but-presenter : {old new : Printer} → new ≡ record old { presenter = new.presenter } → IsSame old new
same-but-presenter is = record {
  form = ap (λ p. p.form) is;
  layout = ap (λ p. p.layout) is;
  has_begun = ap (λ p. p.has_begun) is;
  cycles = ap (λ p. p.cycles) is;
}

pub same-then : {old mid new : Printer} → IsSame old mid → IsSame mid new → IsSame old new
same-then one two = record {
  form = two.form ∙ one.form;
  layout = two.layout ∙ one.layout;
  has_begun = two.has_begun ∙ one.has_begun;
  cycles = two.cycles ∙ one.cycles;
}

-- an item of this kind was counted, and its layout noted
pub record IsNoted (kind : ItemKind) (item : Item) (old new : Printer) : Type 0 where
  pub form : new.form ≡ old.form
  pub layout : new.layout ≡ layout_by old.layout item
  pub has_begun : new.has_begun ≡ (begins_runs kind || old.has_begun)
  pub cycles : new.cycles ≡ old.cycles + runs_of kind

pub noted-by : {kind : ItemKind} {item : Item} {old counted new : Printer} → Noted kind old counted
    → new.layout ≡ layout_by counted.layout item → new ≡ record counted { layout = new.layout } → IsNoted kind item old new
noted-by {kind} {item} counted layout same = record {
  form = ap (λ p. p.form) same ∙ counted.form;
  layout = layout ∙ ap (λ (l : ElementLayout). layout_by l item) counted.layout;
  has_begun = ap (λ p. p.has_begun) same ∙ counted.has_begun;
  cycles = ap (λ p. p.cycles) same ∙ counted.cycles;
}

-- the lines of a header hang on no format, and those of a frame on that of its place
in_format : (form : ShowForm) (layout : ElementLayout) (number : ℕ) (given : List Item) (item : Item) (view : ItemView) (bytes : List ℕ)
    → IsNext given item view bytes
    → printed_of form (format_of view.place) layout number item
    ≡ printed_of form (format_by (format_behind One given) item) layout number item
in_format form layout number given (items.Header p) view bytes next = by form.notation form.part
  where
    by : (notation : Notation) (part : ShowPart) → printed_of (form_by notation part) (format_of view.place) layout number (items.Header p)
        ≡ printed_of (form_by notation part) p.format layout number (items.Header p)
    by Lines part = refl
    by Json part = refl
in_format form layout number given (items.Frame f) view bytes next =
    ap (λ (format : Format). printed_of form format layout number (items.Frame f))
    (format_there given places.Header view.place next.after.0 next.after.1 (items.Frame f) next.after.2
    (can_follow view.place bytes (items.Frame f) _ next.spelling.shows.read))

-- out of memory before anything of an item was printed
pub unnoted : (form : ShowForm) (first mid : AudienceState) (given : List Item) (item : Item) (old new : Printer) (out : SinkRun)
    → AreShown form first mid old given → NextIs given item → Grew out.before out.after []
    → Takes (Err (Failed OutOfMemory)) (showing form first mid new) given item [] out
unnoted form first mid given item old new out h next grew = record {
  more = more_of form given item;
  all = part-next form given item next h.format h.layout;
  wrote = ([], prefix-none (more_of form given item), grew);
  after = tt;
}

module _ (form : ShowForm) (first mid : AudienceState) (given : List Item) (item : Item) (view : ItemView) (bytes : List ℕ)
    (old noted new : Printer) (h : AreShown form first mid old given) (next : IsNext given item view bytes)
    (is_noted : IsNoted view.span.kind item old noted) (same : IsSame noted new) where
  -- what is printed, by the printer that noted it
  abbrev printed : List ℕ
  printed = printed_of noted.form (format_of view.place) noted.layout noted.cycles item

  cycles_is : noted.cycles ≡ length (runs_in given) + length (run_in item)
  cycles_is = is_noted.cycles ∙ ap (λ (n : ℕ). n + runs_of view.span.kind) h.cycles
      ∙ ap (λ (n : ℕ). length (runs_in given) + n) (adds_of view item bytes next.spelling).runs

  layout_is : noted.layout ≡ layout_by (layout_behind Unknown given) item
  layout_is = is_noted.layout ∙ ap (λ (l : ElementLayout). layout_by l item) (h.layout_is ∙ sym h.layout)

  more_is : printed ≡ more_of form given item
  more_is = ap (λ (f : ShowForm). printed_of f (format_of view.place) noted.layout noted.cycles item) (is_noted.form ∙ h.form_is)
      ∙ ap (λ (n : ℕ). printed_of form (format_of view.place) noted.layout n item) cycles_is
      ∙ ap (λ (l : ElementLayout). printed_of form (format_of view.place) l (length (runs_in given) + length (run_in item)) item) layout_is
      ∙ in_format form (layout_by (layout_behind Unknown given) item) (length (runs_in given) + length (run_in item)) given item view bytes
      next

  shown : (now : AudienceState) → Watched form.part mid now (run_in item) → AreShown form first now new (given ++ item ∷ [])
  shown now watched = record {
    form_is = same.form ∙ is_noted.form ∙ h.form_is;
    headed = starts-headed given item (next_is given item next.first);
    format = headed-next given item (next_is given item next.first) h.format;
    layout = laid-next given item (next_is given item next.first) h.layout;
    layout_is = same.layout ∙ is_noted.layout ∙ ap (λ (l : ElementLayout). layout_by l item) h.layout_is
        ∙ layout-next given item (next_is given item next.first);
    has_begun = same.has_begun ∙ is_noted.has_begun
        ∙ ap (λ (b : Bool). b || old.has_begun) (adds_of view item bytes next.spelling).begins
        ∙ ap (λ (b : Bool). is_init item || b) h.has_begun ∙ sym (begun-next given item);
    cycles = same.cycles ∙ cycles_is ∙ sym (length-append (runs_in given) (run_in item)) ∙ ap length (sym (runs_next given item));
    watched = subst (Watched form.part first now) (sym (runs_next given item))
        (watched-then form.part first mid now (runs_in given) (run_in item) h.watched watched);
  }

  all : lines_of form (given ++ item ∷ []) ≡ lines_of form given ++ more_of form given item
  all = part-next form given item (next_is given item next.first) h.format h.layout

  -- it was printed and shown
  pub taken : (u v : Unit {0}) (now : AudienceState) (out : SinkRun)
      → Wrote {E = RecordFault} (Ok u) [] printed out
      → Watched form.part mid now (run_in item)
      → Takes (Ok v) (showing form first now new) given item [] out
  taken u v now out wrote watched = record {
    more = more_of form given item;
    all = all;
    wrote = subst (λ (bytes : List ℕ). Wrote {E = RecordFault} (Ok u) [] bytes out) more_is wrote;
    after = shown now watched;
  }

  -- it couldn't be printed
  pub unwritten : (stop : Stopped RecordFault) (out : SinkRun)
      → Wrote (Err stop) [] printed out → IsFailed (Err stop)
      → Takes (Err stop) (showing form first mid new) given item [] out
  unwritten (Refused f) out wrote fails = absurd fails
  unwritten (Failed Read) out wrote fails = absurd fails
  unwritten (Failed Write) out wrote fails = record {
    more = more_of form given item;
    all = all;
    wrote = subst (λ (bytes : List ℕ). Wrote {E = RecordFault} (Err (Failed Write)) [] bytes out) more_is wrote;
    after = h.watched;
  }
  unwritten (Failed OutOfMemory) out wrote fails = record {
    more = more_of form given item;
    all = all;
    wrote = subst (λ (bytes : List ℕ). Wrote {E = RecordFault} (Err (Failed OutOfMemory)) [] bytes out) more_is wrote;
    after = tt;
  }

  -- it was printed and couldn't be shown
  pub unshown : (u : Unit {0}) (now : AudienceState) (out : SinkRun)
      → Wrote {E = RecordFault} (Ok u) [] printed out
      → Takes (Err (Failed OutOfMemory)) (showing form first now new) given item [] out
  unshown u now out wrote = record {
    more = more_of form given item;
    all = all;
    wrote = (
      more_of form given item,
      prefix-same (more_of form given item),
      subst (λ (bytes : List ℕ). Wrote {E = RecordFault} (Ok u) [] bytes out) more_is wrote,
    );
    after = tt;
  }
