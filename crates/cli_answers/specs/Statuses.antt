-- The exit statuses of the program.
use Rattle.std.specs.Prelude.{ℕ}
use Rattle.cli_answers.specs.declared.status.Status.{Status}
use Rattle.cli_answers.specs.declared.status.Status.TheVariants.{Done, Differs, BadWords}
use Rattle.cli_answers.specs.declared.status.Status.TheVariants.{BadManifest, BadStimulus}
use Rattle.cli_answers.specs.declared.status.Status.TheVariants.{BadRecord, ReadFault, WriteFault}
use Rattle.cli_answers.specs.declared.status.Status.TheVariants.{OutOfMemory, NoMajority}

abbrev pub number_of : Status → ℕ
number_of Done = 0
number_of Differs = 1
number_of BadWords = 2
number_of BadManifest = 3
number_of BadStimulus = 4
number_of BadRecord = 5
number_of ReadFault = 6
number_of WriteFault = 7
number_of OutOfMemory = 8
number_of NoMajority = 9
