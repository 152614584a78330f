-- The text of a record, or of a part of it.
use Rattle.std.specs.Prelude.{ℕ, zero, suc, List, [], ◌∷◌, ◌++◌, Option, Some, None, slice_get}
use Rattle.std.specs.Prelude.{Bool, true, false, unwrap_or, option_map, if◌then◌else◌}
use Rattle.det_values.specs.declared.format.Format.{Format}
use Rattle.det_values.specs.declared.format.Format.TheVariants.{One}
use Rattle.det_values.specs.declared.frames.RunFrame.{RunFrame}
use Rattle.record_grammar.specs.declared.record_fault.RecordFault.{RecordFault}
use Rattle.record_grammar.specs.declared.item.Item.{Item}
use Rattle.record_grammar.specs.declared.item.Item.TheVariants as items
use Rattle.record_grammar.specs.Record.{items as items_in, fault as fault_in}
use Rattle.record_reader.specs.InItems.{runs_in}
use Rattle.record_text.specs.declared.show_part.ShowPart.{ShowPart}
use Rattle.record_text.specs.declared.show_part.ShowPart.TheVariants.{All, Reports, Cycle}
use Rattle.record_text.specs.Records.{run_lines, record_lines}
use Rattle.record_json.specs.declared.element_layout.ElementLayout.{ElementLayout}
use Rattle.record_json.specs.declared.element_layout.ElementLayout.TheVariants.{Unknown}
use Rattle.record_json.specs.Elements.{layout_of}
use Rattle.record_json.specs.Records.{run_line, json_lines}
use Rattle.record_json.specs.Reports.{reports_line}
use Rattle.cmd_records.specs.declared.record_show.show_form.Notation.{Notation}
use Rattle.cmd_records.specs.declared.record_show.show_form.Notation.TheVariants.{Lines, Json}
use Rattle.cmd_records.specs.declared.record_show.show_form.ShowForm.{ShowForm}
use Rattle.probes.specs.Reports.{AudienceState, reported}

-- the format in a record's header
abbrev pub format_in : List Item → Format
format_in (items.Header profile ∷ rest) = profile.format
format_in other = One

-- the layout of the elements of the job in a record's header
abbrev pub layout_in : List Item → ElementLayout
layout_in (items.Header profile ∷ rest) = layout_of profile
layout_in other = Unknown

abbrev pub all_lines : Notation → List Item → List ℕ
all_lines Lines xs = record_lines xs
all_lines Json xs = json_lines xs

-- the lines of a Run frame of a record with this format and layout
abbrev pub one_run : Notation → Format → ElementLayout → ℕ → RunFrame → List ℕ
one_run Lines format layout cycle run = run_lines format cycle run
one_run Json format layout cycle run = run_line format layout cycle run

-- the lines of the Run frame of this cycle, counted from 1, or nothing if there is none
abbrev pub cycle_lines : Notation → ℕ → List Item → List ℕ
cycle_lines notation zero xs = []
cycle_lines notation (suc before) xs =
    let lines = one_run notation (format_in xs) (layout_in xs) (suc before) in
    unwrap_or (option_map lines (slice_get (runs_in xs) before)) []

abbrev pub lines_by : Notation → ShowPart → List Item → List ℕ
lines_by notation All xs = all_lines notation xs
lines_by notation Reports xs = []
lines_by notation (Cycle number) xs = cycle_lines notation number xs

-- the lines that are printed for items
abbrev pub lines_of : ShowForm → List Item → List ℕ
lines_of form xs = lines_by form.notation form.part xs

-- whether reports are printed, which they aren't for only one run
abbrev pub has_reports : ShowPart → Bool
has_reports (Cycle number) = false
has_reports other = true

abbrev pub reports_text : Notation → List ℕ → List ℕ
reports_text Lines reports = reports
reports_text Json reports = reports_line reports

-- what an audience reports after the lines
abbrev pub reports_of : ShowForm → AudienceState → List RunFrame → List ℕ
reports_of form audience runs =
    if has_reports form.part then reports_text form.notation (reported audience runs) else []

-- the lines of items and, after those of a whole record, what the audience reports of its runs
abbrev pub text_from : ShowForm → AudienceState → List Item → Option RecordFault → List ℕ
text_from form audience xs None = lines_of form xs ++ reports_of form audience (runs_in xs)
text_from form audience xs (Some fault) = lines_of form xs

-- the text of a part of a record: the lines of its items, and reports if it is whole
abbrev pub text_of : ShowForm → AudienceState → List ℕ → List ℕ
text_of form audience record_bytes =
    text_from form audience (items_in record_bytes) (fault_in record_bytes)
