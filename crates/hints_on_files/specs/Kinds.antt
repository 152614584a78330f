-- Which hints concern a manifest, a stimulus or a record, and with which status each may come.
use Rattle.std.specs.Prelude.{Bool, true, false}
use Rattle.cli_answers.specs.declared.status.Status.{Status}
use Rattle.cli_answers.specs.declared.status.Status.TheVariants.{BadManifest, BadStimulus}
use Rattle.cli_answers.specs.declared.status.Status.TheVariants.{BadRecord}
use Rattle.hints_on_files.specs.declared.hint.Hint.{Hint}
use Rattle.hints_on_files.specs.declared.hint.Hint.TheVariants.{LongManifest, Toml, Key, Parameter}
use Rattle.hints_on_files.specs.declared.hint.Hint.TheVariants.{TooManyParameters, NoJob, Header}
use Rattle.hints_on_files.specs.declared.hint.Hint.TheVariants.{LongStimulus, Stimulus, NoLineFeed}
use Rattle.hints_on_files.specs.declared.hint.Hint.TheVariants.{FrameBegin, Init, Run, AfterEnd}

abbrev pub is_of_parameter : Hint → Bool
is_of_parameter (Parameter job index range) = true
is_of_parameter (TooManyParameters job most) = true
is_of_parameter other = false

abbrev pub is_of_manifest : Hint → Bool
is_of_manifest LongManifest = true
is_of_manifest (Toml line) = true
is_of_manifest (Key key) = true
is_of_manifest other = is_of_parameter other

abbrev pub is_of_stimulus : Hint → Bool
is_of_stimulus LongStimulus = true
is_of_stimulus (Stimulus wanted) = true
is_of_stimulus NoLineFeed = true
is_of_stimulus other = false

abbrev pub is_of_record : Hint → Bool
is_of_record (NoJob number) = true
is_of_record Header = true
is_of_record (FrameBegin frame what) = true
is_of_record Init = true
is_of_record (Run frame cycle) = true
is_of_record (AfterEnd frame) = true
is_of_record other = is_of_parameter other

abbrev pub fits : Status → Hint → Bool
fits BadManifest hint = is_of_manifest hint
fits BadStimulus hint = is_of_stimulus hint
fits BadRecord hint = is_of_record hint
fits other hint = false
