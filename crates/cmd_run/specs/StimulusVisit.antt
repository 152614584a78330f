-- What the visits of a stimulus in a slot require, and what they ensure of their results.
use Rattle.std.specs.Prelude.{◌≡◌, ◌<◌, ◌⊎◌, ℕ, length, Some, Result}
use Rattle.det_values.specs.Values.{ProfileValue}
use Rattle.det_io.specs.Count.{Rose}
use Rattle.det_io.specs.Shelf.{ShelfState}
use Rattle.det_io.specs.Traffic.{ShelfRun, SinkRun, ShelfTraffic, SinkTraffic, failure_in}
use Rattle.det_io.specs.declared.failure.Failure.TheVariants.{Write}
use Rattle.det_io.specs.declared.failure.Stopped.{Stopped}
use Rattle.job.specs.Meaning.{Meaning}
use Rattle.probes.specs.Reports.{AudienceState}
use Rattle.stimulus.specs.declared.stimulus_item.StimulusFault.{StimulusFault}
use Rattle.recorder.specs.declared.run_writer.counts.Counts.{Counts}
use Rattle.recorder.specs.RecordRun.{IsRecorded}
use Rattle.cmd_run.specs.declared.chain.chain_counts.ChainCounts.{ChainCounts}
use Rattle.cmd_run.specs.chain.ChainEnds.{IsChained}

-- the shelf gave the slot, and the stimulus in it names the events of the profile
pub record CanRead (slot events : ℕ) (profile : ProfileValue) (shelf : ShelfState) : Type 0 where
  pub given : slot < shelf.slots
  pub named : events ≡ length profile.events

-- the run of a job over the stimulus was recorded
pub record HasRecorded {S G E L P : Type 0} (m : Meaning S G E L P) (profile : ProfileValue)
    (slot : ℕ) (shelf : ShelfRun) (sink : SinkRun) (audience last : AudienceState)
    (result : Result Counts (Stopped StimulusFault)) : Type 0 where
  pub recorded : IsRecorded m profile slot shelf sink audience last result
  pub shelf_traffic : ShelfTraffic shelf (failure_in result)
  pub sink_traffic : SinkTraffic sink (failure_in result)

-- two clients were chained over the stimulus
pub record HasChained {S G E L P : Type 0} (m : Meaning S G E L P) (first : ProfileValue)
    {T H F M Q : Type 0} (n : Meaning T H F M Q) (second : ProfileValue) (slot : ℕ)
    (shelf : ShelfRun) (first_sink second_sink : SinkRun)
    (result : Result ChainCounts (Stopped StimulusFault)) : Type 0 where
  pub chained : IsChained m first n second slot shelf
      (record { first = first_sink; second = second_sink }) result
  pub shelf_traffic : ShelfTraffic shelf (failure_in result)
  pub write_fault : failure_in result ≡ Some Write
      → Rose first_sink.faults_before first_sink.faults_after
      ⊎ Rose second_sink.faults_before second_sink.faults_after
