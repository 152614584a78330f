-- What `sim` gives for a number: a summary of the run of a cloud over the stimulus that is
-- generated from the number, and what the probes report of it.
use Rattle.std.specs.Prelude.{ℕ, pos, List, [], ◌∷◌, ◌++◌, length, codes}
use Rattle.std.specs.List.{count_by}
use Rattle.sha2.specs.Sha256.{sha256}
use Rattle.det_values.specs.Values.{EventSpecValue, ProfileValue}
use Rattle.det_values.specs.declared.format.Format.TheVariants.{Two}
use Rattle.det_values.specs.declared.event.Policy.TheVariants.{Last}
use Rattle.det_values.specs.declared.frames.RunFrame.{RunFrame}
use Rattle.job.specs.Meaning.{Meaning}
use Rattle.jobs.specs.cloud.Meaning.{meaning}
use Rattle.cycle_engine.specs.Frames.{runs}
use Rattle.stimulus.specs.GeneratedText.{made}
use Rattle.stimulus.specs.Reading.{blocks}
use Rattle.probes.specs.Reports.{AudienceState, reported}
use Rattle.probes.specs.Shipped.{is_refused}
use Rattle.recorder.specs.run_writer.Record.{counted}
use Rattle.recorder.specs.Record.{record_of}
use Rattle.record_text.specs.Summaries.{summary_lines}
use Rattle.record_text.specs.declared.summary_lines.Summary.{Summary}
use Rattle.cli_answers.specs.Outcome.{Outcome, text_outcome}

-- an event that keeps only its newest sample
abbrev pub sim_event : List ℕ → EventSpecValue
sim_event name = record { capacity = 1; name = name; policy = Last }

-- a cloud with the number as its seed; 10 ms; 10,000 particles, a spread of 1,000, a new seed in
-- each 50th cycle, and no distance too far
abbrev pub sim_profile : ℕ → ProfileValue
sim_profile number = record {
  format = Two;
  job = 2;
  seed = number;
  cycle_time = 10000000;
  params = pos 10000 ∷ pos 1000 ∷ pos 50 ∷ pos 4000000000000 ∷ [];
  events = sim_event (codes "x") ∷ sim_event (codes "y") ∷ sim_event (codes "hold") ∷ [];
}

module _ {S G E L P : Type 0} (m : Meaning S G E L P) (profile : ProfileValue) (text : List ℕ) where
  -- the cycles of a job over a text
  abbrev pub runs_over : List RunFrame
  runs_over = runs m profile (blocks (length profile.events) text)

  -- its number, the number of cycles and how many of them were refused, the length of its record
  -- and the digest
  abbrev pub summary_over : ℕ → Summary
  summary_over number = record {
    number = number;
    cycles = length runs_over;
    refused = count_by is_refused runs_over;
    bytes = counted (length (record_of m profile text));
    digest = sha256 (record_of m profile text);
  }

-- the cycles of the cloud over the generated stimulus
unfoldable pub sim_runs : ℕ → List RunFrame
sim_runs number = runs_over meaning (sim_profile number) (made number)

-- the summary of these cycles
unfoldable pub summary_of : ℕ → Summary
summary_of number = summary_over meaning (sim_profile number) (made number) number

-- the lines of the summary, and the reports
unfoldable pub sim_text : AudienceState → ℕ → List ℕ
sim_text audience number = summary_lines (summary_of number) ++ reported audience (sim_runs number)

-- what `sim` gives
unfoldable pub sim_outcome : AudienceState → ℕ → Outcome
sim_outcome audience number = text_outcome (sim_text audience number)
