use Rattle.std.proofs.Common.{◌≡◌, ◌-◌, ◌++◌, length}
use Rattle.toml.specs.View.{view}
use Rattle.manifest.specs.Faults.{first_fault}
use Rattle.manifest.proofs.Steps.{keys_of_params, params_from}
use Rattle.manifest.proofs.params.read_params.Given as goal

abbrev pub invariant-loop-i : goal.invariant-loop-i
invariant-loop-i l = record {
  faults : first_fault (view l.tree) (keys_of_params 0 l.count) ≡ first_fault (view l.tree) (keys_of_params l.i (l.count - l.i));
  values : params_from (view l.tree) 0 l.count ≡ l.params ++ params_from (view l.tree) l.i (l.count - l.i);
  long : length l.params ≡ l.i;
}
