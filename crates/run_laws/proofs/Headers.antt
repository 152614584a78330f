-- The profile of a manifest that is taken is a good header.
use Rattle.std.proofs.Common.{◌≡◌, ℕ, ◌^◌, ◌<◌, List, length, Bool, true, false, cond, Option, Some, None, Result, Ok, Err, refl, sym}
use Rattle.std.proofs.Common.{subst, arith}
use Rattle.std.specs.Prelude.{nat_le, not, FitsSigned}
use Rattle.std.specs.Option.{option_map_or}
use Rattle.std.specs.Int.{w64}
use Rattle.std.specs.List.{All}
use Rattle.std.specs.Str.{is_utf8}
use Rattle.det_values.specs.Jobs.{number_of_kind, kind_of_name}
use Rattle.det_values.specs.declared.job_kind.JobKind.{JobKind}
use Rattle.det_values.specs.declared.job_kind.JobKind.TheVariants.{Bank, Cloud, Guard}
use Rattle.record_grammar.specs.Spelling.{IsHeader}
use Rattle.toml.specs.Data.{Data}
use Rattle.manifest.specs.Values.{ManifestValue}
use Rattle.manifest.specs.Tree.{text_of}
use Rattle.manifest.specs.Keys.{found, keys}
use Rattle.manifest.specs.Faults.{first_fault}
use Rattle.manifest.specs.Profiles.{profile_of}
use Rattle.manifest.specs.Meaning.{tree_manifest, unknown_fault, manifest_in, document_of, manifest_of}
use Rattle.manifest.proofs.Order.{or_fault}
use Rattle.manifest.proofs.Naming.{with_job}
use Rattle.manifest.specs.declared.key.Key.TheVariants.{Job}
use Rattle.manifest.specs.declared.manifest_fault.ManifestFault.{ManifestFault}
use Rattle.manifest.specs.declared.manifest_fault.ManifestFault.TheVariants.{TooLong, NotToml}
use Rattle.run_laws.proofs.Keys.{AreGood, are_good}

-- a tree without a fault says this manifest
record IsSaid (m : ManifestValue) : Type 0 where
  tree : Data
  kind : JobKind
  good : first_fault tree (keys tree) ≡ None
  is : m ≡ tree_manifest tree kind

past : (o : Option ManifestFault) (answer : Result ManifestValue ManifestFault) (m : ManifestValue) → or_fault o answer ≡ Ok m
    → (o ≡ None) × (answer ≡ Ok m)
past None answer m e = (refl, e)
past (Some fault) answer m e = absurd cc

by_job : (tree : Data) (o : Option JobKind) (m : ManifestValue) → first_fault tree (keys tree) ≡ None → with_job tree o ≡ Ok m → IsSaid m
by_job tree None m good e = absurd cc
by_job tree (Some kind) m good e = record { tree = tree; kind = kind; good = good; is = cc }

by_tree : (strict : Bool) (o : Option Data) (m : ManifestValue) → option_map_or (manifest_in strict) o (Err NotToml) ≡ Ok m → IsSaid m
by_tree strict None m e = absurd cc
by_tree strict (Some tree) m e =
    let a = past (first_fault tree (keys tree)) _ m e in
    let u = past (unknown_fault strict tree) _ m a.1 in
    let b = past _ (with_job tree (kind_of_name (text_of (found tree Job)))) m u.1 in
    by_job tree (kind_of_name (text_of (found tree Job))) m a.0 b.1

by_text : (strict few utf8 : Bool) (o : Option Data) (m : ManifestValue)
    → cond (not few) (Err TooLong) (cond utf8 (option_map_or (manifest_in strict) o (Err NotToml)) (Err NotToml)) ≡ Ok m → IsSaid m
by_text strict true true o m e = by_tree strict o m e
by_text strict true false o m e = absurd cc
by_text strict false utf8 o m e = absurd cc

is_said : (strict : Bool) (bytes : List ℕ) (m : ManifestValue) → manifest_of strict bytes ≡ Ok m → IsSaid m
is_said strict bytes m e = by_text strict (nat_le (length bytes) 65536) (is_utf8 bytes) (document_of bytes) m e

number_small : (kind : JobKind) → number_of_kind kind < 2 ^ 16
number_small Bank = omega arith
number_small Cloud = omega arith
number_small Guard = omega arith

said_header : (tree : Data) (kind : JobKind) (seed : ℕ) → seed < 2 ^ 64 → AreGood tree
    → All (FitsSigned w64) (tree_manifest tree kind).params
    → IsHeader (profile_of (tree_manifest tree kind) seed)
said_header tree kind seed small good fit = record {
  job = number_small kind;
  seed = small;
  cycle_time = good.cycle_time;
  few_params = good.few_params;
  params = fit;
  few_events = good.few_events;
  events = good.events;
  policies = tt;
}

pub header_is : (strict : Bool) (bytes : List ℕ) (m : ManifestValue) (seed : ℕ) → seed < 2 ^ 64 → manifest_of strict bytes ≡ Ok m
    → All (FitsSigned w64) m.params → IsHeader (profile_of m seed)
header_is strict bytes m seed small e fit =
    let s = is_said strict bytes m e in
    subst (λ (x : ManifestValue). IsHeader (profile_of x seed)) (sym s.is)
    (said_header s.tree s.kind seed small (are_good s.tree s.good) (subst (λ (x : ManifestValue). All (FitsSigned w64) x.params) s.is fit))
