-- What a tree means whose keys have no fault.
use Rattle.std.proofs.Common.{◌≡◌, ◌∙◌, ap, ℕ, ℤ, Bool, List}
use Rattle.std.specs.Prelude.{Option, Some, None, Result, Ok, Err, option_map, ok_or}
use Rattle.det_values.specs.Values.{EventSpecValue}
use Rattle.det_values.specs.declared.job_kind.JobKind.{JobKind}
use Rattle.toml.specs.Data.{Data}
use Rattle.manifest.specs.Keys.{found}
use Rattle.manifest.specs.Tree.{text_of}
use Rattle.manifest.specs.Faults.{first_fault, first_duplicate}
use Rattle.manifest.specs.Groups.{first_keys, params_keys, events_keys, last_keys, work_in, hardware_in}
use Rattle.manifest.specs.Meaning.{unknown_fault, by_event_names, named_in, named_tree, tree_manifest, params_of, events_of}
use Rattle.manifest.specs.Values.{ManifestValue, NamedValue}
use Rattle.manifest.specs.declared.manifest_fault.ManifestFault.{ManifestFault}
use Rattle.manifest.specs.declared.manifest_fault.ManifestFault.TheVariants.{DuplicateEvent, UnknownJob}
use Rattle.manifest.specs.declared.hardware.Hardware.{Hardware}
use Rattle.manifest.specs.declared.key.Key.TheVariants.{Job}
use Rattle.manifest.specs.declared.work.Work.{Work}
use Rattle.manifest.proofs.Order.{or_fault, past_keys}

-- what a tree without a fault says, for the job of its name
abbrev pub with_job : Data → Option JobKind → Result ManifestValue ManifestFault
with_job tree kind = ok_or (option_map (tree_manifest tree) kind) UnknownJob

-- what a tree means whose known keys have no fault: that of an unknown key, if it is one
pub past_unknown : (tree : Data) (strict : Bool) (unknown : Option ManifestFault) → first_fault tree first_keys ≡ None
    → first_fault tree (params_keys tree) ≡ None → first_fault tree (events_keys tree) ≡ None → first_fault tree last_keys ≡ None
    → unknown_fault strict tree ≡ unknown → named_in strict tree ≡ or_fault unknown (by_event_names tree)
past_unknown tree strict unknown work params events last is =
    past_keys tree (or_fault (unknown_fault strict tree) (by_event_names tree)) work params events last
    ∙ ap (λ (o : Option ManifestFault). or_fault o (by_event_names tree)) is

-- an event has the name of an earlier one
pub repeated : (tree : Data) (number : ℕ) → first_duplicate (events_of tree) ≡ Some number → by_event_names tree ≡ Err (DuplicateEvent number)
repeated tree number is =
    ap (λ (o : Option ℕ). or_fault (option_map DuplicateEvent o) (Ok (named_tree tree))) is

-- none has
pub distinct : (tree : Data) → first_duplicate (events_of tree) ≡ None → by_event_names tree ≡ Ok (named_tree tree)
distinct tree none =
    ap (λ (o : Option ℕ). or_fault (option_map DuplicateEvent o) (Ok (named_tree tree))) none

-- what a tree says by its parts
pub said_by : (tree : Data) (job : List ℕ) (work : Work) (params : List ℤ) (events : List EventSpecValue) (hardware : Hardware)
    → job ≡ text_of (found tree Job)
    → work ≡ work_in tree → params ≡ params_of tree → events ≡ events_of tree → hardware ≡ hardware_in tree
    → ◌≡◌ {A = NamedValue} (named_tree tree) (record {
      job = job;
      cycle_time = work.cycle_time;
      workers = work.workers;
      params = params;
      events = events;
      platform = hardware.platform;
      init_needs = hardware.init_needs;
      run_needs = hardware.run_needs;
    })
said_by tree job work params events hardware j w p e h = rw (j, w, p, e, h)
