-- The first fault of a document's tree.
use Rattle.std.specs.Prelude.{ℕ, ◌+◌, pos, negsuc, Bool, ◌&&◌, nat_le, List, [], ◌∷◌, ◌++◌, Option}
use Rattle.std.specs.Prelude.{Some, None, if◌then◌else◌, bytes_eq}
use Rattle.std.specs.List.{list_any}
use Rattle.std.specs.Option.{option_or}
use Rattle.det_values.specs.Values.{EventSpecValue}
use Rattle.toml.specs.Data.{Data, string, integer, array, table}
use Rattle.manifest.specs.Tree.{length_of_items}
use Rattle.manifest.specs.Keys.{Kind, text, any_whole, whole, array_up_to, section, rule, found}
use Rattle.manifest.specs.declared.key.Key.{Key}
use Rattle.manifest.specs.declared.manifest_fault.ManifestFault.{ManifestFault}
use Rattle.manifest.specs.declared.manifest_fault.ManifestFault.TheVariants.{Missing, WrongKind}
use Rattle.manifest.specs.declared.manifest_fault.ManifestFault.TheVariants.{OutOfRange}

abbrev pub unless : Bool → ManifestFault → Option ManifestFault
unless test fault = if test then None else Some fault

-- the fault of a value where a kind is wanted: it is of another kind, or out of the range
abbrev pub value_fault : Key → Kind → Data → Option ManifestFault
value_fault key (text fits) (string s) = unless (fits s) (OutOfRange key)
value_fault key any_whole (integer z) = None
value_fault key (whole least most) (integer (pos n)) =
    unless (nat_le least n && nat_le n most) (OutOfRange key)
value_fault key (whole least most) (integer (negsuc n)) = Some (OutOfRange key)
value_fault key (array_up_to most) (array items) =
    unless (nat_le (length_of_items items) most) (OutOfRange key)
value_fault key section (table ms) = None
value_fault key kind value = Some (WrongKind key)

-- the fault at a key, of its value or of its absence
abbrev pub fault_by : Key → Bool → Kind → Option Data → Option ManifestFault
fault_by key needed kind None = if needed then Some (Missing key) else None
fault_by key needed kind (Some value) = value_fault key kind value

abbrev pub fault_at : Data → Key → Option ManifestFault
fault_at tree key = fault_by key (rule tree key).needed (rule tree key).kind (found tree key)

-- the first fault at any of these keys
abbrev pub first_fault : Data → List Key → Option ManifestFault
first_fault tree [] = None
first_fault tree (key ∷ keys) = option_or (fault_at tree key) (first_fault tree keys)

-- the least number, from `n` on, of an event whose name an earlier event has
abbrev pub duplicate_after : List EventSpecValue → ℕ → List EventSpecValue → Option ℕ
duplicate_after earlier n [] = None
duplicate_after earlier n (event ∷ events) =
    if list_any (λ e. bytes_eq e.name event.name) earlier then Some n
    else duplicate_after (earlier ++ event ∷ []) (n + 1) events

abbrev pub first_duplicate : List EventSpecValue → Option ℕ
first_duplicate events = duplicate_after [] 0 events
