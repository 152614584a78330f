-- What `sim` prints, by the record of its run.
use Rattle.std.specs.Prelude.{◌≡◌, ℕ, ◌^◌, ◌<◌, List, ◌++◌, length, Bool, Some, Ok}
use Rattle.sha2.specs.Sha256.{sha256}
use Rattle.record_grammar.specs.Record.{items}
use Rattle.record_reader.specs.Salvaged.{cycles_of, refused_of}
use Rattle.record_text.specs.Summaries.{summary_lines}
use Rattle.record_reader.specs.InItems.{runs_in}
use Rattle.probes.specs.Reports.{AudienceState, reported}
use Rattle.stimulus.specs.GeneratedText.{made}
use Rattle.recorder.specs.run_writer.Record.{counted}
use Rattle.manifest.specs.Values.{ManifestValue}
use Rattle.manifest.specs.Profiles.{profile_of}
use Rattle.cli_answers.specs.Outcome.{Outcome, text_outcome}
use Rattle.run_setup.specs.Setup.{setup_of}
use Rattle.cmd_run.specs.record_command.Outcomes.{record_outcome}
use Rattle.cmd_run.specs.sim_command.Sim.{sim_profile, sim_outcome}

-- the lines that sum up a record under a number, and what an audience reports of its cycles
abbrev pub summed_up : AudienceState → ℕ → List ℕ → Outcome
summed_up audience number record_bytes = text_outcome (summary_lines (record {
  number = number;
  cycles = cycles_of (items record_bytes);
  refused = refused_of (items record_bytes);
  bytes = counted (length record_bytes);
  digest = sha256 record_bytes;
}) ++ reported audience (runs_in (items record_bytes)))

-- `sim` sums up what `record` writes for a manifest with its profile, for the stimulus made of the
-- number, with the number as the seed
abbrev pub SimIsRecorded : Type 0
SimIsRecorded = (audience : AudienceState) (strict : Bool) (manifest : List ℕ) (number : ℕ)
    (m : ManifestValue) → number < 2 ^ 64 → setup_of strict manifest ≡ Ok m
    → profile_of m number ≡ sim_profile number
    → sim_outcome audience number ≡ summed_up audience number
    (record_outcome strict manifest (made number) (Some number)).bytes
