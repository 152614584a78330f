-- The state of a printer and an audience, to which the items of a record are passed.
use Rattle.std.specs.Prelude.{◌≡◌, ℕ, List, [], ◌∷◌, length, Bool, true, false, nat_eq, Some}
use Rattle.std.specs.Prelude.{◌+◌, ◌||◌, Result, Ok, Err, if◌then◌else◌}
use Rattle.std.specs.List.{list_any}
use Rattle.det_values.specs.declared.format.Format.{Format}
use Rattle.det_values.specs.declared.format.Format.TheVariants.{One}
use Rattle.det_values.specs.declared.frames.RunFrame.{RunFrame}
use Rattle.det_values.specs.declared.frames.Frame.TheVariants.{Run}
use Rattle.det_io.specs.declared.failure.Failure.TheVariants.{Write, OutOfMemory}
use Rattle.det_io.specs.declared.failure.Stopped.{Stopped}
use Rattle.det_io.specs.declared.failure.Stopped.TheVariants.{Failed}
use Rattle.record_grammar.specs.declared.record_fault.RecordFault.{RecordFault}
use Rattle.record_grammar.specs.declared.item.Item.{Item}
use Rattle.record_grammar.specs.declared.item.Item.TheVariants as items
use Rattle.record_text.specs.declared.show_part.ShowPart.{ShowPart}
use Rattle.record_text.specs.declared.show_part.ShowPart.TheVariants.{All, Reports, Cycle}
use Rattle.record_text.specs.Records.{header_lines, frame_lines}
use Rattle.record_json.specs.declared.element_layout.ElementLayout.{ElementLayout}
use Rattle.record_json.specs.declared.element_layout.ElementLayout.TheVariants.{Unknown}
use Rattle.record_json.specs.Elements.{layout_of}
use Rattle.record_json.specs.Records.{header_line, frame_line}
use Rattle.cmd_records.specs.declared.record_show.show_form.Notation.{Notation}
use Rattle.cmd_records.specs.declared.record_show.show_form.Notation.TheVariants.{Lines, Json}
use Rattle.cmd_records.specs.declared.record_show.show_form.ShowForm.{ShowForm}
use Rattle.record_view.specs.declared.view.ItemKind.{ItemKind}
use Rattle.record_reader.specs.Kinds.{begins_runs, runs_of}
use Rattle.record_reader.specs.Salvaged.{is_init}
use Rattle.record_reader.specs.SalvageState.{IsHeaded}
use Rattle.record_reader.specs.ItemTaker.{ItemTaker}
use Rattle.probes.specs.Reports.{AudienceState}
use Rattle.probes.specs.Shows.{Shows}
use Rattle.cmd_records.specs.declared.record_show.printer.Printer.{Printer}
use Rattle.cmd_records.specs.record_show.Text.{format_in, layout_in, lines_of}
use Rattle.record_reader.specs.InItems.{runs_in}

abbrev pub format_by : Format → Item → Format
format_by format (items.Header profile) = profile.format
format_by format (items.Frame frame) = format

-- the format in which frames after these items are printed
unfoldable pub format_behind : Format → List Item → Format
format_behind format [] = format
format_behind format (x ∷ xs) = format_behind (format_by format x) xs

-- whether the lines of an item are printed; `number` is the cycle of a Run frame
abbrev pub is_printed : ShowPart → ℕ → Item → Bool
is_printed All number item = true
is_printed Reports number item = false
is_printed (Cycle wanted) number (items.Frame (Run run)) = nat_eq number wanted
is_printed (Cycle wanted) number item = false

abbrev pub layout_by : ElementLayout → Item → ElementLayout
layout_by layout (items.Header profile) = layout_of profile
layout_by layout (items.Frame frame) = layout

-- the layout of the elements in frames after these items
unfoldable pub layout_behind : ElementLayout → List Item → ElementLayout
layout_behind layout [] = layout
layout_behind layout (x ∷ xs) = layout_behind (layout_by layout x) xs

-- the lines of an item; `number` is the cycle of a Run frame
abbrev pub lines_at : Notation → Format → ElementLayout → ℕ → Item → List ℕ
lines_at Lines format layout number (items.Header profile) = header_lines profile
lines_at Lines format layout number (items.Frame frame) = frame_lines format number frame
lines_at Json format layout number (items.Header profile) = header_line profile
lines_at Json format layout number (items.Frame frame) = frame_line format layout number frame

-- the lines of an item that are printed
abbrev pub printed_of : ShowForm → Format → ElementLayout → ℕ → Item → List ℕ
printed_of form format layout number item =
    if is_printed form.part number item
    then lines_at form.notation format layout number item else []

-- if only one run is printed, the audience is as it was
abbrev pub Kept : ShowPart → AudienceState → AudienceState → Type 0
Kept (Cycle number) old now = now ≡ old
Kept part old now = Unit {0}

-- printing neither refuses a record nor reads anything
abbrev pub IsFailed : Result (Unit {0}) (Stopped RecordFault) → Type 0
IsFailed (Ok u) = Unit {0}
IsFailed (Err (Failed Write)) = Unit {0}
IsFailed (Err (Failed OutOfMemory)) = Unit {0}
IsFailed (Err stop) = ⊥

-- an audience was shown these runs, or is as it was if only one run is printed
abbrev pub Watched : ShowPart → AudienceState → AudienceState → List RunFrame → Type 0
Watched (Cycle number) first now runs = now ≡ first
Watched part first now runs = Shows first now runs

-- these items were printed and shown to an audience
pub record AreShown (form : ShowForm) (first now : AudienceState) (printer : Printer)
    (given : List Item) : Type 0 where
  pub form_is : printer.form ≡ form
  -- the header came first
  pub headed : IsHeaded given
  pub format : format_behind One given ≡ format_in given
  pub layout : layout_behind Unknown given ≡ layout_in given
  pub layout_is : printer.layout ≡ layout_in given
  pub has_begun : printer.has_begun ≡ list_any is_init given
  pub cycles : printer.cycles ≡ length (runs_in given)
  pub watched : Watched form.part first now (runs_in given)

-- an item of this kind was counted
pub record Noted (kind : ItemKind) (old new : Printer) : Type 0 where
  pub form : new.form ≡ old.form
  pub layout : new.layout ≡ old.layout
  pub has_begun : new.has_begun ≡ (begins_runs kind || old.has_begun)
  pub cycles : new.cycles ≡ old.cycles + runs_of kind

-- if a write failed, the audience has seen the runs of the items before
abbrev pub IsCut : ShowPart → AudienceState → AudienceState → Stopped RecordFault → List Item
    → Type 0
IsCut part first now (Failed Write) given = Watched part first now (runs_in given)
IsCut part first now stop given = Unit {0}

-- a printer and an audience as a taker of items
abbrev pub showing : ShowForm → AudienceState → AudienceState → Printer → ItemTaker RecordFault
showing form first now printer = record {
  fault_of = Some;
  written = lines_of form;
  stands = AreShown form first now printer;
  stopped = λ stop given item. IsCut form.part first now stop given;
}
