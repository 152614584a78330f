-- A manifest is that up to the name of its job, and then its job.
use Rattle.std.proofs.Common.{◌≡◌, ◌∙◌, ap, refl, sym, ℕ, List, Bool, true, false, cond, nat_le}
use Rattle.std.specs.Prelude.{Option, Some, None, Result, Ok, Err, option_map, not, length}
use Rattle.std.specs.Option.{option_map_or}
use Rattle.std.specs.Str.{is_utf8}
use Rattle.toml.specs.Data.{Data}
use Rattle.manifest.specs.Keys.{keys}
use Rattle.manifest.specs.Faults.{first_fault, first_duplicate}
use Rattle.manifest.specs.Values.{ManifestValue, NamedValue}
use Rattle.manifest.specs.Meaning.{events_of, by_names, by_event_names, unknown_fault, manifest_in, named_in, named_tree}
use Rattle.manifest.specs.Meaning.{document_of, manifest_of, named_manifest_of, by_job}
use Rattle.manifest.specs.declared.manifest_fault.ManifestFault.{ManifestFault}
use Rattle.manifest.specs.declared.manifest_fault.ManifestFault.TheVariants.{TooLong, NotToml, DuplicateEvent}
use Rattle.manifest.proofs.Order.{or_fault}

abbrev Named : Type 0
Named = Result NamedValue ManifestFault

after_fault : (fault : Option ManifestFault) (r : Named) → by_job (or_fault fault r) ≡ or_fault fault (by_job r)
after_fault None r = refl
after_fault (Some f) r = refl

after_events : (tree : Data) → by_job (by_event_names tree) ≡ by_names tree
after_events tree = after_fault (option_map DuplicateEvent (first_duplicate (events_of tree))) (Ok (named_tree tree))

after_keys : (strict : Bool) (tree : Data) → by_job (named_in strict tree) ≡ manifest_in strict tree
after_keys strict tree =
    after_fault (first_fault tree (keys tree)) (or_fault (unknown_fault strict tree) (by_event_names tree))
    ∙ ap (or_fault (first_fault tree (keys tree)))
    (after_fault (unknown_fault strict tree) (by_event_names tree) ∙ ap (or_fault (unknown_fault strict tree)) (after_events tree))

after_document : (strict : Bool) (o : Option Data)
    → by_job (option_map_or (named_in strict) o (Err NotToml)) ≡ option_map_or (manifest_in strict) o (Err NotToml)
after_document strict None = refl
after_document strict (Some tree) = after_keys strict tree

at_choice : (b : Bool) (x y : Named) → by_job (cond b x y) ≡ cond b (by_job x) (by_job y)
at_choice true x y = refl
at_choice false x y = refl

pub is_by_job : (strict : Bool) (bytes : List ℕ) → manifest_of strict bytes ≡ by_job (named_manifest_of strict bytes)
is_by_job strict bytes =
    let few = not (nat_le (length bytes) 65536) in
    let text : Named = option_map_or (named_in strict) (document_of bytes) (Err NotToml) in
    let read : Named = cond (is_utf8 bytes) text (Err NotToml) in
    sym (
    at_choice few (Err TooLong) read
    ∙ ap (λ (r : Result ManifestValue ManifestFault). cond few (Err TooLong) r)
    (at_choice (is_utf8 bytes) text (Err NotToml)
    ∙ ap (λ (r : Result ManifestValue ManifestFault). cond (is_utf8 bytes) r (Err NotToml)) (after_document strict (document_of bytes)))
    )
