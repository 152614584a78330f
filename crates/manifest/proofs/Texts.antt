-- A document as a value, and bytes that are no text.
use Rattle.std.proofs.Common.{nat_le, None, Result, Ok, Err, ◌≡◌, ◌≤◌, Some, length, subst, le-leb, Bool, true, false}
use Rattle.std.proofs.Common.{List, ℕ, String, BTreeMap, Global, IsUtf8, refl}
use Rattle.std.specs.Str.{is_utf8}
use Rattle.std.proofs.lemmas.Str.{IsUtf8-from_is_utf8, is_utf8-from_IsUtf8}
use Rattle.manifest.specs.KeyReaders.{IsParsed, IsDocument}
use Rattle.manifest.specs.Meaning.{named_manifest_of, document_of, IfFault}
use Rattle.manifest.specs.declared.manifest_fault.ManifestError.{ManifestError}
use Rattle.manifest.specs.declared.manifest_fault.ManifestError.TheVariants.{Fault, OutOfMemory}
use Rattle.manifest.specs.declared.manifest_fault.ManifestFault.TheVariants.{TooLong, NotToml}
use Rattle.toml.specs.Data.{table}
use Rattle.toml.specs.View.{view, table_view}
use Rattle.toml.specs.declared.value.Value.{Value, Table as TableValue}
use Rattle.toml.proofs.Views.{view-Table}

pub of_table : (m : BTreeMap (String Global) Value) → view (TableValue m) ≡ table (table_view m)
of_table m = view-Table m

pub is_text : (bytes : List ℕ) → IsUtf8 bytes → is_utf8 bytes ≡ true
is_text = is_utf8-from_IsUtf8

no_text_by : (b : Bool) (bytes : List ℕ) → is_utf8 bytes ≡ b → (IsUtf8 bytes → ⊥) → is_utf8 bytes ≡ false
no_text_by true bytes e none = absurd (none (IsUtf8-from_is_utf8 bytes e))
no_text_by false bytes e none = e

pub no_text : (bytes : List ℕ) → (IsUtf8 bytes → ⊥) → is_utf8 bytes ≡ false
no_text bytes none = no_text_by (is_utf8 bytes) bytes refl none

-- what a text says is what its tree says, or that it has none
pub told : (r : Result Value ManifestError) (bytes text : List ℕ)
    → length bytes ≤ 65536 → IsUtf8 bytes → text ≡ bytes → IsParsed r (document_of text)
    → IsDocument r bytes
told (Ok v) bytes text few utf8 same parsed = λ strict.
    let read : document_of bytes ≡ Some (view v) = subst (λ b. document_of b ≡ Some (view v)) same parsed in
    rw (le-leb (length bytes) 65536 few, is_text bytes utf8, read)
told (Err (Fault f)) bytes text few utf8 same parsed = λ strict.
    let read : document_of bytes ≡ None = subst (λ b. document_of b ≡ None) same parsed.1 in
    rw (le-leb (length bytes) 65536 few, is_text bytes utf8, read, parsed.0)
told (Err OutOfMemory) bytes text few utf8 same parsed = tt

-- bytes that are too many, or no text
pub too_long : (bytes : List ℕ) → nat_le (length bytes) 65536 ≡ false
    → (strict : Bool) → named_manifest_of strict bytes ≡ Err TooLong
too_long bytes long strict = rw long

pub not_text : (bytes : List ℕ) → length bytes ≤ 65536 → is_utf8 bytes ≡ false
    → (strict : Bool) → named_manifest_of strict bytes ≡ Err NotToml
not_text bytes few none strict = rw (le-leb (length bytes) 65536 few, none)

-- a result without a document
pub unread_fault : (e : ManifestError) (bytes : List ℕ) (strict : Bool)
    → IsDocument (Err e) bytes → IfFault e (λ f. named_manifest_of strict bytes ≡ Err f)
unread_fault (Fault f) bytes strict unread = unread strict
unread_fault OutOfMemory bytes strict unread = tt
