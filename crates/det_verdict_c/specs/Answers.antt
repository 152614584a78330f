-- The answers that C's numbers stand for.
use Rattle.std.specs.Prelude.{ℕ, ◌==◌, nat_lt, List, [], Option, Some, None, if◌then◌else◌}
use Rattle.std.specs.Prelude.{option_map}
use Rattle.c_types.specs.declared.det_manifest.DetManifestFault.{DetManifestFault}
use Rattle.c_types.specs.declared.frame.DetRecordFault.{DetRecordFault}
use Rattle.c_types.specs.ManifestFaults.{fault_of}
use Rattle.c_types.specs.RecordFaults.{record_fault_of}
use Rattle.cli_answers.specs.declared.answer.Answer.{Answer}
use Rattle.cli_answers.specs.declared.answer.Answer.TheVariants.{BadWords, ReadFault, WriteFault}
use Rattle.cli_answers.specs.declared.answer.Answer.TheVariants.{OutOfMemory, BadManifest}
use Rattle.cli_answers.specs.declared.answer.Answer.TheVariants.{BadRecord}
use Rattle.cli_answers.specs.declared.answer.BadManifest.TheVariants.{Fault, Parameter}

-- the text of what numbers stand for, which is empty if they stand for nothing
abbrev pub text_if : {A : Type 0} → (A → List ℕ) → Option A → List ℕ
text_if text None = []
text_if text (Some a) = text a

-- the answer whose line reports nothing but its status
abbrev pub status_answer : ℕ → Option Answer
status_answer n =
    if n == 2 then Some BadWords
    else if n == 6 then Some ReadFault
    else if n == 7 then Some WriteFault
    else if n == 8 then Some OutOfMemory
    else None

abbrev pub parameter_answer : ℕ → Option Answer
parameter_answer number =
    if nat_lt number 256 then Some (BadManifest (Parameter number)) else None

-- the reason 9 is a bad parameter
abbrev pub manifest_answer : DetManifestFault → Option Answer
manifest_answer f =
    if f.reason == 9 then parameter_answer f.number
    else option_map (λ fault. BadManifest (Fault fault)) (fault_of f)

abbrev pub record_answer : ℕ → DetRecordFault → Option Answer
record_answer copy f = option_map (BadRecord copy) (record_fault_of f)
