-- What is printed of a record: a line for each field of its header and for each part of its frames.
use Rattle.std.specs.Prelude.{ℕ, ℤ, ◌+◌, List, [], ◌∷◌, ◌++◌, length, Option, Some, None}
use Rattle.std.specs.Prelude.{codes, decimal}
use Rattle.std.specs.Fmt.{signed_decimal}
use Rattle.std.specs.List.{flat_map}
use Rattle.det_values.specs.declared.format.Format.{Format}
use Rattle.det_values.specs.declared.format.Format.TheVariants.{One, Two}
use Rattle.det_values.specs.declared.event.Policy.{Policy}
use Rattle.det_values.specs.declared.event.Policy.TheVariants.{Last, Fresh}
use Rattle.det_values.specs.declared.frames.DrawnElement.{DrawnElement}
use Rattle.det_values.specs.declared.frames.Outcome.{Outcome}
use Rattle.det_values.specs.declared.frames.Outcome.TheVariants.{Finished, Refused}
use Rattle.det_values.specs.declared.frames.RunFrame.{RunFrame}
use Rattle.det_values.specs.declared.frames.Frame.{Frame}
use Rattle.det_values.specs.declared.frames.Frame.TheVariants.{Register, Discover, Init, Run}
use Rattle.det_values.specs.declared.frames.Frame.TheVariants.{Terminate}
use Rattle.det_values.specs.Values.{SampleValue, EventSpecValue, RefusedAtValue, ProfileValue}
use Rattle.det_values.specs.Values.{phase_word}
use Rattle.record_grammar.specs.declared.item.Item.{Item}
use Rattle.record_grammar.specs.declared.item.Item.TheVariants as items
use Rattle.record_text.specs.Words.{hex_text, number_line, numbered_texts}

-- ---- the header

-- only format 2 has a line for the format
abbrev pub format_line : Format → List ℕ
format_line One = []
format_line Two = codes "format 2\n"

abbrev pub params_text : List ℤ → List ℕ
params_text [] = codes " -"
params_text (p ∷ params) = flat_map (λ n. codes " " ++ signed_decimal n) (p ∷ params)

abbrev pub params_line : List ℤ → List ℕ
params_line params = codes "params" ++ (params_text params ++ codes "\n")

-- only format 2 has policies
abbrev pub policy_text : Format → Policy → List ℕ
policy_text One policy = []
policy_text Two Last = codes " last"
policy_text Two Fresh = codes " fresh"

-- an event's number, name and capacity, and its policy
abbrev pub event_line : Format → ℕ → EventSpecValue → List ℕ
event_line format i event =
    codes "event " ++ (decimal i ++ (codes " " ++ (event.name ++ (codes " "
    ++ (decimal event.capacity ++ (policy_text format event.policy ++ codes "\n"))))))

-- the lines before those of the parameters
unfoldable pub front_lines : ProfileValue → List ℕ
front_lines profile =
    format_line profile.format
    ++ (number_line (codes "job") profile.job
    ++ (number_line (codes "seed") profile.seed
    ++ number_line (codes "cycle_time") profile.cycle_time))

abbrev pub header_lines : ProfileValue → List ℕ
header_lines profile =
    front_lines profile
    ++ (params_line profile.params ++ numbered_texts (event_line profile.format) 0 profile.events)

-- ---- the frames

-- an element's number and bytes
abbrev pub element_line : ℕ → List ℕ → List ℕ
element_line i bytes =
    codes "element " ++ (decimal i ++ (codes " " ++ (hex_text bytes ++ codes "\n")))

-- only format 2 has draws
abbrev pub draws_text : Format → ℕ → List ℕ
draws_text One draws = []
draws_text Two draws = codes " " ++ decimal draws

abbrev pub drawn_line : Format → ℕ → DrawnElement → List ℕ
drawn_line format i element =
    codes "element " ++ (decimal i ++ (codes " " ++ (hex_text element.bytes
    ++ (draws_text format element.draws ++ codes "\n"))))

abbrev pub time_text : Option ℕ → List ℕ
time_text None = codes "-"
time_text (Some time) = decimal time

-- the cycle's number and its time
abbrev pub run_line : ℕ → Option ℕ → List ℕ
run_line cycle time =
    codes "run " ++ (decimal cycle ++ (codes " time " ++ (time_text time ++ codes "\n")))

abbrev pub sample_line : SampleValue → List ℕ
sample_line sample =
    codes "sample " ++ (decimal sample.event
    ++ (codes " " ++ (signed_decimal sample.value ++ codes "\n")))

abbrev pub refused_line : RefusedAtValue → List ℕ
refused_line at =
    codes "refused " ++ (phase_word at.phase ++ (codes " " ++ (decimal at.pass ++ (codes " "
    ++ (decimal at.element ++ (codes " " ++ (decimal at.code ++ codes "\n")))))))

abbrev pub output_line : List ℕ → List ℕ
output_line output = codes "output " ++ (hex_text output ++ codes "\n")

abbrev pub outcome_lines : Format → Outcome → List ℕ
outcome_lines format (Finished elements output) =
    number_line (codes "finished") (length elements)
    ++ (numbered_texts (drawn_line format) 0 elements ++ output_line output)
outcome_lines format (Refused at) = refused_line at

abbrev pub run_lines : Format → ℕ → RunFrame → List ℕ
run_lines format cycle run =
    run_line cycle run.input.time
    ++ (flat_map sample_line run.input.samples ++ outcome_lines format run.outcome)

-- the lines of a frame; a Run frame is that of cycle number `cycle`
abbrev pub frame_lines : Format → ℕ → Frame → List ℕ
frame_lines format cycle Register = codes "register\n"
frame_lines format cycle Discover = codes "discover\n"
frame_lines format cycle (Init elements) =
    number_line (codes "init") (length elements) ++ numbered_texts element_line 0 elements
frame_lines format cycle (Run run) = run_lines format cycle run
frame_lines format cycle Terminate = codes "terminate\n"

-- ---- the whole

-- the lines of items, after `runs` Run frames of a record of this format
unfoldable pub item_lines : Format → ℕ → List Item → List ℕ
item_lines format runs [] = []
item_lines format runs (items.Header profile ∷ more) =
    header_lines profile ++ item_lines profile.format runs more
item_lines format runs (items.Frame (Run run) ∷ more) =
    run_lines format (runs + 1) run ++ item_lines format (runs + 1) more
item_lines format runs (items.Frame frame ∷ more) =
    frame_lines format runs frame ++ item_lines format runs more

-- the lines of a record's items
abbrev pub record_lines : List Item → List ℕ
record_lines xs = item_lines One 0 xs
