-- The lines that `needs` prints of a manifest of C.
use Rattle.std.specs.Prelude.{ℕ, ◌==◌, min, List, take, Option, Some, None, if◌then◌else◌}
use Rattle.c_types.specs.declared.det_manifest.DetManifest.{DetManifest}
use Rattle.c_types.specs.ManifestFaults.{needs_of}
use Rattle.needs_text.specs.Lines.{needs_lines}

abbrev pub job_of : DetManifest → List ℕ
job_of m = take (min m.job_len 64) m.job

abbrev pub platform_of : DetManifest → Option (List ℕ)
platform_of m =
    if m.platform_len == 0 then None else Some (take (min m.platform_len 64) m.platform)

abbrev pub manifest_lines : DetManifest → List ℕ
manifest_lines m =
    needs_lines (job_of m) m.cycle_time m.workers (platform_of m) (needs_of m.init_needs)
    (needs_of m.run_needs)
