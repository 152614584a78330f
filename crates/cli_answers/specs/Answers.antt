-- What an answer of a command reports: its exit status, and its line for `err`.
use Rattle.std.specs.Prelude.{ℕ, List, [], ◌++◌, min, map, take, ◌&&◌, nat_le, codes, decimal}
use Rattle.std.specs.Prelude.{if◌then◌else◌, Option}
use Rattle.std.specs.Option.{option_map_or}
use Rattle.det_io.specs.declared.failure.Failure.{Failure}
use Rattle.det_io.specs.declared.failure.Failure.TheVariants as failures
use Rattle.det_io.specs.declared.failure.Stopped.{Stopped}
use Rattle.det_io.specs.declared.failure.Stopped.TheVariants.{Refused, Failed}
use Rattle.manifest.specs.declared.manifest_fault.ManifestFault.TheVariants.{TooLong, NotToml}
use Rattle.manifest.specs.declared.manifest_fault.ManifestFault.TheVariants.{Missing}
use Rattle.manifest.specs.declared.manifest_fault.ManifestFault.TheVariants.{WrongKind, OutOfRange}
use Rattle.manifest.specs.declared.manifest_fault.ManifestFault.TheVariants.{UnknownKey}
use Rattle.manifest.specs.declared.manifest_fault.ManifestFault.TheVariants.{DuplicateEvent}
use Rattle.manifest.specs.declared.manifest_fault.ManifestFault.TheVariants.{UnknownJob}
use Rattle.manifest.specs.KeyTexts.{key_text}
use Rattle.manifest.specs.declared.unknown_key.KeyTable.{KeyTable}
use Rattle.manifest.specs.declared.unknown_key.KeyTable.TheVariants.{Top, Event, InitNeeds}
use Rattle.manifest.specs.declared.unknown_key.KeyTable.TheVariants.{RunNeeds}
use Rattle.manifest.specs.declared.unknown_key.UnknownKey as unknown
use Rattle.record_grammar.specs.declared.record_fault.Reason.{Reason}
use Rattle.record_grammar.specs.declared.record_fault.Reason.TheVariants.{Magic, Version, Range}
use Rattle.record_grammar.specs.declared.record_fault.Reason.TheVariants.{Order}
use Rattle.record_grammar.specs.declared.record_fault.Reason.TheVariants.{TooMany, Truncated}
use Rattle.record_grammar.specs.declared.record_fault.Reason.TheVariants.{Trailing}
use Rattle.record_grammar.specs.declared.record_fault.RecordFault.{RecordFault}
use Rattle.cli_answers.specs.declared.status.Status.{Status}
use Rattle.cli_answers.specs.declared.status.Status.TheVariants as statuses
use Rattle.cli_answers.specs.declared.answer.BadManifest as refusals
use Rattle.cli_answers.specs.declared.answer.BadManifest.TheVariants.{Fault, Parameter}
use Rattle.cli_answers.specs.declared.answer.Answer.{Answer}
use Rattle.cli_answers.specs.declared.answer.Answer.TheVariants.{Done, Differs, BadWords}
use Rattle.cli_answers.specs.declared.answer.Answer.TheVariants.{BadManifest, BadStimulus}
use Rattle.cli_answers.specs.declared.answer.Answer.TheVariants.{BadRecord}
use Rattle.cli_answers.specs.declared.answer.Answer.TheVariants.{BadProfile, ReadFault, WriteFault}
use Rattle.cli_answers.specs.declared.answer.Answer.TheVariants.{OutOfMemory, NoMajority}

-- the answer of a failure
abbrev pub failed : Failure → Answer
failed failures.Read = ReadFault
failed failures.Write = WriteFault
failed failures.OutOfMemory = OutOfMemory

-- the answer by the fault of the only record that is read, which is copy 0
abbrev pub by_fault : Option RecordFault → Answer
by_fault fault = option_map_or (BadRecord 0) fault Done

-- the answer of a command that stopped in the only record that it reads, which is copy 0
abbrev pub stopped : Stopped RecordFault → Answer
stopped (Refused fault) = BadRecord 0 fault
stopped (Failed failure) = failed failure

-- the answer of a command that has no manifest
abbrev pub without_manifest : Stopped refusals.BadManifest → Answer
without_manifest (Refused why) = BadManifest why
without_manifest (Failed failure) = failed failure

abbrev pub status_of : Answer → Status
status_of Done = statuses.Done
status_of Differs = statuses.Differs
status_of BadWords = statuses.BadWords
status_of (BadManifest why) = statuses.BadManifest
status_of (BadStimulus line) = statuses.BadStimulus
status_of (BadRecord copy fault) = statuses.BadRecord
status_of BadProfile = statuses.BadRecord
status_of ReadFault = statuses.ReadFault
status_of WriteFault = statuses.WriteFault
status_of OutOfMemory = statuses.OutOfMemory
status_of (NoMajority row) = statuses.NoMajority

-- a text, and the end of its line
abbrev pub ended : List ℕ → List ℕ
ended text = text ++ codes "\n"

-- a printable ASCII character other than a space, and `?` for any other byte
abbrev pub printable : ℕ → ℕ
printable byte = if nat_le 33 byte && nat_le byte 126 then byte else 63

-- a table of a manifest, with a dot after it
abbrev pub table_text : KeyTable → List ℕ
table_text Top = []
table_text (Event number) = codes "event." ++ (decimal number ++ codes ".")
table_text InitNeeds = codes "init_needs."
table_text RunNeeds = codes "run_needs."

-- a key that its table doesn't know
abbrev pub unknown_text : unknown.UnknownKey → List ℕ
unknown_text key = table_text key.table ++ map printable (take (min key.len 64) key.bytes)

-- why a manifest is refused
abbrev pub bad_manifest_text : refusals.BadManifest → List ℕ
bad_manifest_text (Fault TooLong) = codes "too long"
bad_manifest_text (Fault NotToml) = codes "not toml"
bad_manifest_text (Fault (Missing key)) = codes "missing " ++ key_text key
bad_manifest_text (Fault (WrongKind key)) = codes "wrong kind " ++ key_text key
bad_manifest_text (Fault (OutOfRange key)) = codes "out of range " ++ key_text key
bad_manifest_text (Fault (UnknownKey key)) = codes "unknown key " ++ unknown_text key
bad_manifest_text (Fault (DuplicateEvent number)) = codes "duplicate event " ++ decimal number
bad_manifest_text (Fault UnknownJob) = codes "unknown job"
bad_manifest_text (Parameter index) = codes "bad parameter " ++ decimal index

abbrev pub reason_word : Reason → List ℕ
reason_word Magic = codes "magic"
reason_word Version = codes "version"
reason_word Range = codes "range"
reason_word Order = codes "order"
reason_word TooMany = codes "too_many"
reason_word Truncated = codes "truncated"
reason_word Trailing = codes "trailing"

abbrev pub bad_record_text : ℕ → RecordFault → List ℕ
bad_record_text copy fault =
    codes "bad record: copy " ++ (decimal copy ++ (codes " offset "
    ++ (decimal fault.offset ++ (codes " " ++ reason_word fault.reason))))

-- the line for `err`
abbrev pub err_line : Answer → List ℕ
err_line Done = []
err_line Differs = []
err_line BadWords = codes "bad words\n"
err_line (BadManifest why) = ended (codes "bad manifest: " ++ bad_manifest_text why)
err_line (BadStimulus line) = ended (codes "bad stimulus: line " ++ decimal line)
err_line (BadRecord copy fault) = ended (bad_record_text copy fault)
err_line BadProfile = codes "bad record: profile\n"
err_line ReadFault = codes "read fault\n"
err_line WriteFault = codes "write fault\n"
err_line OutOfMemory = codes "out of memory\n"
err_line (NoMajority row) = ended (codes "no majority: row " ++ decimal row)
