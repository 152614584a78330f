-- The one window of a client in C, as the window of the only event of a cache.
use Rattle.std.proofs.Common.{◌≡◌, ℤ, List, [], ◌∷◌, ◌++◌, refl, ap, arith}
use Rattle.det_values.specs.Values.{SampleValue, EventSpecValue}
use Rattle.job.specs.event_cache.Rings.{Rings, joined, turned}
use Rattle.job.specs.event_cache.Windows.{HasSeen, window, rings_from}
use Rattle.job.proofs.lemmas.event_cache.Rounds.{seen_arrived, seen_turned}

pub arrived_more : (old new : Rings) (value : ℤ) → new ≡ joined old value
    → (spec : EventSpecValue) (rounds : List (List SampleValue)) (arrived : List SampleValue)
    → HasSeen (old ∷ []) (spec ∷ []) rounds arrived
    → HasSeen (new ∷ []) (spec ∷ []) rounds (arrived ++ record { event = 0; value = value } ∷ [])
arrived_more old new value is spec rounds arrived given =
    seen_arrived (old ∷ []) old new (record { event = 0; value = value }) (omega arith) refl is (spec ∷ []) rounds arrived given

pub turned_more : (old new : Rings) → new ≡ turned old
    → (spec : EventSpecValue) (rounds : List (List SampleValue)) (arrived : List SampleValue)
    → HasSeen (old ∷ []) (spec ∷ []) rounds arrived → HasSeen (new ∷ []) (spec ∷ []) (rounds ++ arrived ∷ []) []
turned_more old new is spec rounds arrived given =
    seen_turned (old ∷ []) (new ∷ []) (spec ∷ []) rounds arrived (ap (λ r. r ∷ []) is) given

first_seen : List Rings → List ℤ → List ℤ
first_seen [] none = none
first_seen (r ∷ rs) none = r.seen

pub window_shown : (r : Rings) (spec : EventSpecValue) (rounds : List (List SampleValue)) (arrived : List SampleValue)
    → HasSeen (r ∷ []) (spec ∷ []) rounds arrived → r.seen ≡ window spec 0 rounds
unfolding rings_from first_seen
window_shown r spec rounds arrived given = ap (λ rs. first_seen rs []) given.rings
