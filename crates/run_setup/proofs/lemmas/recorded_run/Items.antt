-- The run of a record, by its items and its fault.
use Rattle.std.proofs.Common.{◌≡◌, ℕ, List, ◌∷◌, length, refl}
use Rattle.std.specs.Prelude.{Option, Some, None, Result, Err, ok_or, option_map}
use Rattle.det_values.specs.Values.{ProfileValue}
use Rattle.det_values.specs.declared.job_kind.JobKind.{JobKind}
use Rattle.record_grammar.specs.declared.record_fault.RecordFault.{RecordFault}
use Rattle.record_grammar.specs.declared.item.Item.{Item}
use Rattle.record_grammar.specs.declared.item.Item.TheVariants.{Header}
use Rattle.record_grammar.specs.declared.place.Place.TheVariants as places
use Rattle.record_grammar.specs.Read.{Read, Got, More, Bad, ◌>>=◌}
use Rattle.record_grammar.specs.Grammar.{profile_at, item_at}
use Rattle.record_grammar.specs.Record.{Decoded, decoded, with_next, fault_from, items as items_in, fault as fault_in}
use Rattle.run_setup.specs.declared.recorded_run.bad_run.BadRun.{BadRun}
use Rattle.run_setup.specs.declared.recorded_run.bad_run.BadRun.TheVariants.{Fault, Profile}
use Rattle.run_setup.specs.recorded_run.Run.{RunValue, kind_of, run_by, run_of}

-- a profile with the kind that takes it
abbrev pub run_with : Option JobKind → ProfileValue → Result RunValue BadRun
run_with kind p = ok_or (option_map (λ (k : JobKind). record { kind = k; profile = p }) kind) Profile

-- a record without a header has a fault
abbrev pub run_by_items : List Item → Option RecordFault → Result RunValue BadRun
run_by_items (Header p ∷ xs) end = run_with (kind_of p) p
run_by_items xs (Some fault) = Err (Fault fault)
run_by_items xs None = Err Profile

-- the items and the ending of a record, by what is read of its header
abbrev decoded_by : List ℕ → Read ProfileValue → Decoded
decoded_by bytes read = with_next places.Header (read >>= λ p. Got (Header p.0, p.1)) (decoded (length bytes))

same-run : (bytes : List ℕ) (read : Read ProfileValue) → run_by (length bytes) read
    ≡ run_by_items (decoded_by bytes read).items (fault_from (length bytes) (decoded_by bytes read).ending)
same-run bytes (Got (p, rest)) = refl
same-run bytes More = refl
same-run bytes (Bad reason left) = refl

pub run-by-items : (bytes : List ℕ) → run_of bytes ≡ run_by_items (items_in bytes) (fault_in bytes)
unfolding decoded item_at
run-by-items bytes = same-run bytes (profile_at bytes)
