-- A record as JSON: a line for its header and for each of its frames, each line one value.
use Rattle.std.specs.Prelude.{ℕ, ℤ, ◌+◌, List, [], ◌∷◌, ◌++◌, Option, Some, None, codes, decimal}
use Rattle.std.specs.Fmt.{signed_decimal}
use Rattle.det_values.specs.declared.format.Format.{Format}
use Rattle.det_values.specs.declared.format.Format.TheVariants.{One, Two}
use Rattle.det_values.specs.declared.event.Policy.{Policy}
use Rattle.det_values.specs.declared.event.Policy.TheVariants.{Last, Fresh}
use Rattle.det_values.specs.declared.frames.DrawnElement.{DrawnElement}
use Rattle.det_values.specs.declared.frames.Outcome.{Outcome}
use Rattle.det_values.specs.declared.frames.Outcome.TheVariants.{Finished, Refused}
use Rattle.det_values.specs.declared.frames.RunFrame.{RunFrame}
use Rattle.det_values.specs.declared.frames.Frame.{Frame}
use Rattle.det_values.specs.declared.frames.Frame.TheVariants.{Register, Discover, Init, Run}
use Rattle.det_values.specs.declared.frames.Frame.TheVariants.{Terminate}
use Rattle.det_values.specs.Values.{SampleValue, EventSpecValue, RefusedAtValue, ProfileValue}
use Rattle.det_values.specs.Values.{phase_word}
use Rattle.record_grammar.specs.declared.item.Item.{Item}
use Rattle.record_grammar.specs.declared.item.Item.TheVariants as items
use Rattle.record_json.specs.declared.element_layout.ElementLayout.{ElementLayout}
use Rattle.record_json.specs.declared.element_layout.ElementLayout.TheVariants.{Unknown}
use Rattle.record_json.specs.Texts.{bytes_text, number_text, signed_text, listed}
use Rattle.record_json.specs.Elements.{fields_text, layout_of}

-- ---- the header

abbrev pub format_text : Format → List ℕ
format_text One = codes "1"
format_text Two = codes "2"

-- only format 2 has policies
abbrev pub policy_text : Format → Policy → List ℕ
policy_text One policy = []
policy_text Two Last = codes ",\"policy\":\"last\""
policy_text Two Fresh = codes ",\"policy\":\"fresh\""

-- the characters of a name need no escape: they are letters, digits and `_`
abbrev pub event_text : Format → EventSpecValue → List ℕ
event_text format event =
    codes "{\"name\":\"" ++ (event.name ++ (codes "\",\"capacity\":" ++ (decimal event.capacity
    ++ (policy_text format event.policy ++ codes "}"))))

-- the members before the parameters
unfoldable pub front_text : ProfileValue → List ℕ
front_text profile =
    codes "{\"header\":{\"format\":" ++ (format_text profile.format
    ++ (codes ",\"job\":" ++ (decimal profile.job
    ++ (codes ",\"seed\":" ++ (number_text profile.seed
    ++ (codes ",\"cycle_time\":" ++ number_text profile.cycle_time))))))

abbrev pub header_line : ProfileValue → List ℕ
header_line profile =
    front_text profile ++ (codes ",\"params\":[" ++ (listed signed_text profile.params
    ++ (codes "],\"events\":[" ++ (listed (event_text profile.format) profile.events
    ++ codes "]}}\n"))))

-- ---- the frames

-- an element of Init
abbrev pub element_text : ElementLayout → List ℕ → List ℕ
element_text layout bytes =
    codes "{\"bytes\":" ++ (bytes_text bytes ++ (fields_text layout bytes ++ codes "}"))

-- only format 2 has draws
abbrev pub draws_text : Format → ℕ → List ℕ
draws_text One draws = []
draws_text Two draws = codes ",\"draws\":" ++ decimal draws

-- an element of a finished run
abbrev pub drawn_text : Format → ElementLayout → DrawnElement → List ℕ
drawn_text format layout element =
    codes "{\"bytes\":" ++ (bytes_text element.bytes ++ (draws_text format element.draws
    ++ (fields_text layout element.bytes ++ codes "}")))

abbrev pub time_text : Option ℕ → List ℕ
time_text None = codes "null"
time_text (Some time) = number_text time

abbrev pub sample_text : SampleValue → List ℕ
sample_text sample =
    codes "{\"event\":" ++ (decimal sample.event ++ (codes ",\"value\":"
    ++ (signed_decimal sample.value ++ codes "}")))

abbrev pub finished_text : Format → ElementLayout → List DrawnElement → List ℕ → List ℕ
finished_text format layout elements output =
    codes ",\"finished\":{\"elements\":[" ++ (listed (drawn_text format layout) elements
    ++ (codes "],\"output\":" ++ (bytes_text output ++ codes "}}}\n")))

abbrev pub refused_text : RefusedAtValue → List ℕ
refused_text at =
    codes ",\"refused\":{\"phase\":\"" ++ (phase_word at.phase ++ (codes "\",\"pass\":"
    ++ (decimal at.pass ++ (codes ",\"element\":" ++ (decimal at.element
    ++ (codes ",\"code\":" ++ (decimal at.code ++ codes "}}}\n")))))))

abbrev pub outcome_text : Format → ElementLayout → Outcome → List ℕ
outcome_text format layout (Finished elements output) = finished_text format layout elements output
outcome_text format layout (Refused at) = refused_text at

-- the cycle's number, its time and its samples
abbrev pub input_text : ℕ → Option ℕ → List SampleValue → List ℕ
input_text cycle time samples =
    codes "{\"run\":{\"cycle\":" ++ (decimal cycle ++ (codes ",\"time\":" ++ (time_text time
    ++ (codes ",\"samples\":[" ++ (listed sample_text samples ++ codes "]")))))

abbrev pub run_line : Format → ElementLayout → ℕ → RunFrame → List ℕ
run_line format layout cycle run =
    input_text cycle run.input.time run.input.samples ++ outcome_text format layout run.outcome

abbrev pub init_line : ElementLayout → List (List ℕ) → List ℕ
init_line layout elements =
    codes "{\"init\":[" ++ (listed (element_text layout) elements ++ codes "]}\n")

-- the line of a frame; a Run frame is that of cycle number `cycle`
abbrev pub frame_line : Format → ElementLayout → ℕ → Frame → List ℕ
frame_line format layout cycle Register = codes "{\"register\":true}\n"
frame_line format layout cycle Discover = codes "{\"discover\":true}\n"
frame_line format layout cycle (Init elements) = init_line layout elements
frame_line format layout cycle (Run run) = run_line format layout cycle run
frame_line format layout cycle Terminate = codes "{\"terminate\":true}\n"

-- ---- the whole

-- the lines of items, after `runs` Run frames of a record of this format and job
unfoldable pub lines_behind : Format → ElementLayout → ℕ → List Item → List ℕ
lines_behind format layout runs [] = []
lines_behind format layout runs (items.Header profile ∷ more) =
    header_line profile ++ lines_behind profile.format (layout_of profile) runs more
lines_behind format layout runs (items.Frame (Run run) ∷ more) =
    run_line format layout (runs + 1) run ++ lines_behind format layout (runs + 1) more
lines_behind format layout runs (items.Frame frame ∷ more) =
    frame_line format layout runs frame ++ lines_behind format layout runs more

-- the lines of a record's items
abbrev pub json_lines : List Item → List ℕ
json_lines xs = lines_behind One Unknown 0 xs
