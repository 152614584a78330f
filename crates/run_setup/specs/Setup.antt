-- The manifest in a text, if its job takes its parameters.
use Rattle.std.specs.Prelude.{◌≡◌, ℕ, ◌≤◌, Bool, List, length, Option, Some, None, Result, Ok, Err}
use Rattle.std.specs.Option.{option_map_or}
use Rattle.det_io.specs.Shelf.{ShelfState, Opens, Reads}
use Rattle.det_io.specs.declared.failure.Failure.{Failure}
use Rattle.det_io.specs.declared.failure.Failure.TheVariants.{OutOfMemory}
use Rattle.jobs.specs.Kinds.{bad_param}
use Rattle.manifest.specs.Values.{ManifestValue}
use Rattle.manifest.specs.Meaning.{manifest_of}
use Rattle.manifest.specs.declared.manifest_fault.ManifestFault.{ManifestFault}
use Rattle.cli_answers.specs.declared.answer.BadManifest.{BadManifest}
use Rattle.cli_answers.specs.declared.answer.BadManifest.TheVariants.{Fault, Parameter}
use Rattle.cli_answers.specs.declared.answer.Answer.TheVariants as answers
use Rattle.cli_answers.specs.Outcome.{Outcome, refusal}

-- its job refuses no parameter
abbrev pub IsGood : ManifestValue → Type 0
IsGood m = bad_param m.kind m.params (length m.events) ≡ None

-- the manifest, if its job refuses no parameter
abbrev pub check_manifest_params : ManifestValue → Result ManifestValue BadManifest
check_manifest_params m =
    option_map_or (λ i. Err (Parameter i)) (bad_param m.kind m.params (length m.events)) (Ok m)

abbrev pub setup_from : Result ManifestValue ManifestFault → Result ManifestValue BadManifest
setup_from (Err fault) = Err (Fault fault)
setup_from (Ok m) = check_manifest_params m

-- the manifest in a text, or why it is refused: its first fault, else the least bad parameter
abbrev pub setup_of : (strict : Bool) → List ℕ → Result ManifestValue BadManifest
setup_of strict bytes = setup_from (manifest_of strict bytes)

-- what a command gives of a manifest, or the refusal of the manifest
abbrev pub with_manifest : (ManifestValue → Outcome) → Result ManifestValue BadManifest → Outcome
with_manifest given (Ok m) = given m
with_manifest given (Err why) = refusal (answers.BadManifest why)

-- neither the shelf nor a sink failed
abbrev pub IsCalm : Option Failure → Type 0
IsCalm None = Unit {0}
IsCalm (Some OutOfMemory) = Unit {0}
IsCalm (Some failure) = ⊥

-- a name was opened, and then at most `most` bytes were read from its slot, and none from another
pub record Takes (first last : ShelfState) (name : List ℕ) (most : ℕ) : Type 0 where
  pub opened : ShelfState
  pub slot : ℕ
  pub bytes : List ℕ
  pub opens : Opens first opened name slot
  pub reads : Reads opened last slot bytes
  pub few : length bytes ≤ most
