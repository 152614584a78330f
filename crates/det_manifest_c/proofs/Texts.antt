-- Bytes that are no TOML have the fault of that name.
use Rattle.std.proofs.Common.{◌≡◌, ◌≤◌, ℕ, List, length, Bool, true, false, None, Err, IsUtf8, refl, le-leb}
use Rattle.std.specs.Str.{is_utf8}
use Rattle.std.proofs.lemmas.Str.{IsUtf8-from_is_utf8}
use Rattle.toml.specs.Parse.{parse_document}
use Rattle.manifest.specs.Meaning.{named_manifest_of}
use Rattle.manifest.specs.declared.manifest_fault.ManifestFault.TheVariants.{NotToml}

no_toml_by : (b : Bool) (bytes : List ℕ) → is_utf8 bytes ≡ b → length bytes ≤ 65536 → (IsUtf8 bytes → parse_document bytes ≡ None)
    → (strict : Bool) → named_manifest_of strict bytes ≡ Err NotToml
no_toml_by true bytes e few none strict = rw (le-leb (length bytes) 65536 few, e, none (IsUtf8-from_is_utf8 bytes e))
no_toml_by false bytes e few none strict = rw (le-leb (length bytes) 65536 few, e)

pub no_toml : (bytes : List ℕ) → length bytes ≤ 65536 → (IsUtf8 bytes → parse_document bytes ≡ None) → (strict : Bool)
    → named_manifest_of strict bytes ≡ Err NotToml
no_toml bytes few none strict = no_toml_by (is_utf8 bytes) bytes refl few none strict
