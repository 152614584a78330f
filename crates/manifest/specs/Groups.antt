-- The groups of keys, in the order in which they are checked, and the content of the first and the
-- last group.
use Rattle.std.specs.Prelude.{List, [], ◌∷◌, ◌++◌, map, flat_map, Some, option_map}
use Rattle.toml.specs.Data.{Data}
use Rattle.manifest.specs.Keys.{found, items_of, event_keys, needs_keys}
use Rattle.manifest.specs.Tree.{number_of, text_of}
use Rattle.manifest.specs.Meaning.{needs_of}
use Rattle.manifest.specs.declared.key.Key.{Key}
use Rattle.manifest.specs.declared.key.Key.TheVariants.{Job, CycleTime, Workers, Params, Param}
use Rattle.manifest.specs.declared.key.Key.TheVariants.{Event, Platform}
use Rattle.manifest.specs.declared.key.Key.TheVariants.{InitNeeds, InitNeed, RunNeeds, RunNeed}
use Rattle.manifest.specs.declared.work.Work.{Work}
use Rattle.manifest.specs.declared.hardware.Hardware.{Hardware}

abbrev pub first_keys : List Key
first_keys = Job ∷ CycleTime ∷ Workers ∷ []

abbrev pub params_keys : Data → List Key
params_keys tree = Params ∷ map Param (items_of tree Params)

abbrev pub events_keys : Data → List Key
events_keys tree = Event ∷ flat_map event_keys (items_of tree Event)

abbrev pub last_keys : List Key
last_keys = Platform ∷ (needs_keys InitNeeds InitNeed ++ needs_keys RunNeeds RunNeed)

abbrev pub work_in : Data → Work
work_in tree = record {
  cycle_time = number_of (found tree CycleTime);
  workers = number_of (found tree Workers);
}

abbrev pub hardware_in : Data → Hardware
hardware_in tree = record {
  platform = option_map (λ d. text_of (Some d)) (found tree Platform);
  init_needs = needs_of tree InitNeeds InitNeed;
  run_needs = needs_of tree RunNeeds RunNeed;
}
