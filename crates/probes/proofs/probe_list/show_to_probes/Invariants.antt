use Rattle.std.proofs.Common.{◌≡◌, ◌≤◌, ◌+◌, ◌*◌, List, ◌∷◌, ◌++◌, map, length, ◌-◌}
use Rattle.std.specs.Vec.{vec_len}
use Rattle.det_values.specs.declared.frames.RunFrame.{RunFrame}
use Rattle.probes.specs.Reports.{reports, joined}
use Rattle.probes.proofs.Partly.{partly}
use Rattle.probes.proofs.Seeing.{Seeing}
use Rattle.probes.proofs.probe_list.show_to_probes.Given as goal

abbrev pub invariant-loop-at : goal.invariant-loop-at
invariant-loop-at g l = record {
  partly : (runs : List RunFrame)
      → l.initial.left ++ reports (map (λ b. (goal.Probe-dyn g (b.vtable, b.value)).life b.value) l.initial.probes.items) (l.run ∷ runs)
      ≡ l.left ++ joined (l.run ∷ runs)
      (partly l.run runs l.at (map (λ b. (goal.Probe-dyn g (b.vtable, b.value)).life b.value) l.probes.items));
  seeing : Seeing l.run l.at (map (λ b. (goal.Probe-dyn g (b.vtable, b.value)).life b.value) l.initial.probes.items)
      (map (λ b. (goal.Probe-dyn g (b.vtable, b.value)).life b.value) l.probes.items) l.initial.left l.left;
  room : length l.left + 256 * vec_len l.probes ≤ length l.initial.left + 256 * vec_len l.initial.probes;
  fewer : vec_len l.probes ≤ vec_len l.initial.probes;
  within : l.at ≤ vec_len l.probes;
}

abbrev pub decreases-loop-at : goal.decreases-loop-at
decreases-loop-at g l = vec_len l.probes - l.at
