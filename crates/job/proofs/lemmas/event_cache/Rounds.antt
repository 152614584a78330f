-- How arrivals and turns change the rings.
use Rattle.std.proofs.Common.{◌≡◌, ℕ, zero, suc, ◌+◌, ◌<◌, ◌≤◌, ℤ, List, [], ◌∷◌, ◌++◌, length, map, refl, sym, ap, ◌∙◌, arith, set, get_or}
use Rattle.std.proofs.Common.{true, false, cond, nat_eq, inl, inr, append_assoc, append-nil, take, drop, subst, length-set}
use Rattle.std.proofs.lemmas.List.{take_all, drop_all, map_more, length-map, get_or-map}
use Rattle.std.proofs.lemmas.List.Edits.{map_over_more}
use Rattle.std.specs.List.{All}
use Rattle.std.proofs.lemmas.List.Elements.{All-nil, All-same, All-map, All-weaker, All-set, All-get_or, All-drop, All-push, All-append}
use Rattle.det_values.specs.Limits.{IsSampleValue}
use Rattle.std.proofs.lemmas.Bool.Decides.{eqb_tells}
use Rattle.circular_buffer.specs.Buffer.{keep_last}
use Rattle.det_values.specs.Values.{SampleValue, EventSpecValue}
use Rattle.det_values.specs.declared.event.Policy.{Policy}
use Rattle.det_values.specs.declared.event.Policy.TheVariants.{Last, Fresh}
use Rattle.job.specs.event_cache.Rings.{Rings, turned, joined, seen_next, windows, IsInLimits}
use Rattle.job.specs.event_cache.Windows.{values_of, all_of, last_of, looked_at, window, windows_from, rings_from, HasSeen, AreWindows}
use Rattle.job.specs.event_cache.Windows.{staying}
use Rattle.job.specs.event_cache.Windows.{next_windows_from, next_windows, windows_after}
use Rattle.job.proofs.lemmas.event_cache.Keeping.{kept_in, kept_first, kept_none}

pub values_of-append : (event : ℕ) (xs ys : List SampleValue) → values_of event (xs ++ ys) ≡ values_of event xs ++ values_of event ys
unfolding values_of
values_of-append event [] ys = refl
values_of-append event (s ∷ xs) ys =
    elim (nat_eq event s.event) as (λ b. cond b (s.value ∷ values_of event (xs ++ ys)) (values_of event (xs ++ ys))
    ≡ cond b (s.value ∷ values_of event xs) (values_of event xs) ++ values_of event ys) [
      | true ↦ ap (λ l. s.value ∷ l) (values_of-append event xs ys)
      | false ↦ values_of-append event xs ys
    ]

pub all_of-push : (rounds : List (List SampleValue)) (round : List SampleValue) → all_of (rounds ++ round ∷ []) ≡ all_of rounds ++ round
unfolding all_of
all_of-push [] round = append-nil round
all_of-push (first ∷ rounds) round = ap (λ l. first ++ l) (all_of-push rounds round) ∙ sym (append_assoc first (all_of rounds) round)

pub last_of-push : (rounds : List (List SampleValue)) (round : List SampleValue) → last_of (rounds ++ round ∷ []) ≡ round
unfolding last_of
last_of-push [] round = refl
last_of-push (first ∷ []) round = refl
last_of-push (first ∷ second ∷ rounds) round = last_of-push (second ∷ rounds) round

-- a turn of one event's rings
turned_window : (policy : Policy) (capacity event : ℕ) (rounds : List (List SampleValue)) (arrived : List SampleValue)
    → seen_next policy capacity (keep_last capacity (values_of event (looked_at policy rounds)))
    (keep_last capacity (values_of event arrived)) ≡ keep_last capacity (values_of event (looked_at policy (rounds ++ arrived ∷ [])))
turned_window Last capacity event rounds arrived =
    kept_in capacity (values_of event (all_of rounds)) (values_of event arrived)
    ∙ ap (keep_last capacity) (sym (values_of-append event (all_of rounds) arrived)
    ∙ ap (values_of event) (sym (all_of-push rounds arrived)))
turned_window Fresh capacity event rounds arrived = ap (λ l. keep_last capacity (values_of event l)) (sym (last_of-push rounds arrived))

pub turned_rings : (event : ℕ) (specs : List EventSpecValue) (rounds : List (List SampleValue)) (arrived : List SampleValue)
    → map turned (rings_from event specs rounds arrived) ≡ rings_from event specs (rounds ++ arrived ∷ []) []
unfolding rings_from values_of
turned_rings event [] rounds arrived = refl
turned_rings event (spec ∷ specs) rounds arrived =
    λ i. record {
      policy = spec.policy;
      capacity = spec.capacity;
      seen = turned_window spec.policy spec.capacity event rounds arrived i;
      arriving = sym (kept_none {X = ℤ} spec.capacity) i;
    } ∷ turned_rings (suc event) specs rounds arrived i

-- all turned
pub seen_turned : (old new : List Rings) (specs : List EventSpecValue) (rounds : List (List SampleValue)) (arrived : List SampleValue)
    → new ≡ map turned old → HasSeen old specs rounds arrived → HasSeen new specs (rounds ++ arrived ∷ []) []
seen_turned old new specs rounds arrived e has_seen =
    record { rings = e ∙ ap (map turned) has_seen.rings ∙ turned_rings 0 specs rounds arrived }

pub windows_from_rings : (event : ℕ) (specs : List EventSpecValue) (rounds : List (List SampleValue)) (arrived : List SampleValue)
    → windows (rings_from event specs rounds arrived) ≡ windows_from event specs rounds
unfolding rings_from windows_from
windows_from_rings event [] rounds arrived = refl
windows_from_rings event (spec ∷ specs) rounds arrived =
    ap (λ l. window spec event rounds ∷ l) (windows_from_rings (suc event) specs rounds arrived)

-- a sample of one event changes only the arriving values of that event
joined_arriving : (event capacity : ℕ) (arrived : List SampleValue) (sample : SampleValue) → event ≡ sample.event
    → keep_last capacity (keep_last capacity (values_of event arrived) ++ sample.value ∷ [])
    ≡ keep_last capacity (values_of event (arrived ++ sample ∷ []))
unfolding values_of
joined_arriving event capacity arrived sample same =
    let one : values_of event (sample ∷ []) ≡ sample.value
    ∷ [] = elim (eqb_tells event sample.event) [ inl p ↦ rw p.0 refl | inr p ↦ absurd (p.1 same) ] in
    kept_first capacity (values_of event arrived) (sample.value ∷ [])
    ∙ ap (λ l. keep_last capacity (values_of event arrived ++ l)) (sym one)
    ∙ ap (keep_last capacity) (sym (values_of-append event arrived (sample ∷ [])))

other_values : (event : ℕ) (arrived : List SampleValue) (sample : SampleValue) → ¬ (event ≡ sample.event)
    → values_of event (arrived ++ sample ∷ []) ≡ values_of event arrived
unfolding values_of
other_values event arrived sample other =
    let none : values_of event (sample ∷ [])
    ≡ [] = elim (eqb_tells event sample.event) [ inl p ↦ absurd (other p.1) | inr p ↦ rw p.0 refl ] in
    values_of-append event arrived (sample ∷ []) ∙ ap (λ l. values_of event arrived ++ l) none ∙ append-nil (values_of event arrived)

later_rings : (first : ℕ) (specs : List EventSpecValue) (rounds : List (List SampleValue)) (arrived : List SampleValue)
    (sample : SampleValue)
    → sample.event < first → rings_from first specs rounds (arrived ++ sample ∷ []) ≡ rings_from first specs rounds arrived
unfolding rings_from
later_rings first [] rounds arrived sample below = refl
later_rings first (spec ∷ specs) rounds arrived sample below =
    λ i. record {
      policy = spec.policy;
      capacity = spec.capacity;
      seen = window spec first rounds;
      arriving = keep_last spec.capacity (other_values first arrived sample (λ e. omega arith) i);
    } ∷ later_rings (suc first) specs rounds arrived sample (omega arith) i

-- a sample that arrived
joined_rings : (first : ℕ) (specs : List EventSpecValue) (rounds : List (List SampleValue)) (arrived : List SampleValue)
    (sample : SampleValue) (d : Rings) (i : ℕ)
    → first + i ≡ sample.event → i < length (rings_from first specs rounds arrived)
    → set (rings_from first specs rounds arrived) i (joined (get_or (rings_from first specs rounds arrived) i d) sample.value)
    ≡ rings_from first specs rounds (arrived ++ sample ∷ [])
unfolding rings_from
joined_rings first [] rounds arrived sample d i at within = absurd (omega arith)
joined_rings first (spec ∷ specs) rounds arrived sample d zero at within =
    λ i. record {
      policy = spec.policy;
      capacity = spec.capacity;
      seen = window spec first rounds;
      arriving = joined_arriving first spec.capacity arrived sample (omega arith) i;
    } ∷ sym (later_rings (suc first) specs rounds arrived sample (omega arith)) i
joined_rings first (spec ∷ specs) rounds arrived sample d (suc k) at within =
    λ i. record {
      policy = spec.policy;
      capacity = spec.capacity;
      seen = window spec first rounds;
      arriving = keep_last spec.capacity (sym (other_values first arrived sample (λ e. omega arith)) i);
    } ∷ joined_rings (suc first) specs rounds arrived sample d k (omega arith) (omega arith) i

pub seen_joined : (old : List Rings) (rings : Rings) (sample : SampleValue) → sample.event < length old → rings
    ≡ get_or old sample.event rings
    → (specs : List EventSpecValue) (rounds : List (List SampleValue)) (arrived : List SampleValue) → HasSeen old specs rounds arrived
    → HasSeen (set old sample.event (joined rings sample.value)) specs rounds (arrived ++ sample ∷ [])
seen_joined old rings sample within at specs rounds arrived has_seen =
    let i : ℕ = sample.event in
    let all : List Rings = rings_from 0 specs rounds arrived in
    let e : old ≡ all = has_seen.rings in
    record {
      rings =
          (λ k. set (e k) i (joined (at k) sample.value)) ∙ (λ k. set all i (joined (get_or (e k) i rings) sample.value))
          ∙ joined_rings 0 specs rounds arrived sample rings i (omega arith) (omega (arith, ap (λ (l : List Rings). length l) e));
    }

pub windows_joined : (xs : List Rings) (i : ℕ) (d : Rings) (v : ℤ) → i < length xs → windows (set xs i (joined (get_or xs i d) v))
    ≡ windows xs
windows_joined [] i d v within = absurd (omega arith)
windows_joined (x ∷ xs) zero d v within = refl
windows_joined (x ∷ xs) (suc k) d v within = ap (λ l. x.seen ∷ l) (windows_joined xs k d v (omega arith))

pub limits_joined : (rings : Rings) (v : ℤ) → IsSampleValue v → IsInLimits rings → IsInLimits (joined rings v)
limits_joined rings v good limits = record {
  seen = limits.seen;
  arriving = All-drop IsSampleValue _ _ (All-push IsSampleValue rings.arriving v limits.arriving good);
}

limits_seen : (policy : Policy) (capacity : ℕ) (seen arriving : List ℤ) → All IsSampleValue seen → All IsSampleValue arriving
    → All IsSampleValue (seen_next policy capacity seen arriving)
limits_seen Last capacity seen arriving s a = All-drop IsSampleValue _ _ (All-append IsSampleValue seen arriving s a)
limits_seen Fresh capacity seen arriving s a = a

pub limits_turned : (rings : Rings) → IsInLimits rings → IsInLimits (turned rings)
limits_turned rings limits = record {
  seen = limits_seen rings.policy rings.capacity rings.seen rings.arriving limits.seen limits.arriving;
  arriving = All-nil IsSampleValue;
}

pub limits_all_turned : (old new : List Rings) → new ≡ map turned old → All IsInLimits old → All IsInLimits new
limits_all_turned old new e limits =
    All-same IsInLimits new (map turned old) e (All-map IsInLimits turned old
    (All-weaker IsInLimits (λ r. IsInLimits (turned r)) limits_turned old limits))

-- rings of an event without samples
abbrev pub empty : EventSpecValue → Rings
empty spec = record { policy = spec.policy; capacity = spec.capacity; seen = []; arriving = [] }

nothing : (policy : Policy) → looked_at policy [] ≡ []
unfolding all_of last_of
nothing Last = refl
nothing Fresh = refl

none_seen : (event : ℕ) (spec : EventSpecValue) → window spec event [] ≡ []
unfolding values_of all_of last_of
none_seen event spec = ap (λ l. keep_last spec.capacity (values_of event l)) (nothing spec.policy) ∙ kept_none spec.capacity

pub empty_rings : (event : ℕ) (specs : List EventSpecValue) → map empty specs ≡ rings_from event specs [] []
unfolding rings_from values_of all_of last_of
empty_rings event [] = refl
empty_rings event (spec ∷ specs) =
    λ i. record {
      policy = spec.policy;
      capacity = spec.capacity;
      seen = sym (none_seen event spec) i;
      arriving = sym (kept_none spec.capacity) i;
    } ∷ empty_rings (suc event) specs i

pub limits_empty : (specs : List EventSpecValue) → All IsInLimits (map empty specs)
limits_empty specs = All-map IsInLimits empty specs (λ k d below. record { seen = All-nil IsSampleValue; arriving = All-nil IsSampleValue })

pub all_windows : (cache : List Rings) → All IsInLimits cache → All (All IsSampleValue) (windows cache)
all_windows cache limits =
    All-map (All IsSampleValue) (λ (r : Rings). r.seen) cache (All-weaker IsInLimits (λ r. All IsSampleValue r.seen) (λ r l. l.seen) cache
    limits)

pub seen_windows : (cache : List Rings) (specs : List EventSpecValue) (rounds : List (List SampleValue)) (arrived : List SampleValue)
    → HasSeen cache specs rounds arrived → windows cache ≡ windows_from 0 specs rounds
seen_windows cache specs rounds arrived has_seen = ap windows has_seen.rings ∙ windows_from_rings 0 specs rounds arrived

-- a window after a further round
next_window_is : (policy : Policy) (capacity event : ℕ) (rounds : List (List SampleValue)) (round : List SampleValue)
    → keep_last capacity (values_of event (looked_at policy (rounds ++ round ∷ [])))
    ≡ keep_last capacity (staying policy (keep_last capacity (values_of event (looked_at policy rounds))) ++ values_of event round)
next_window_is Last capacity event rounds round =
    ap (λ l. keep_last capacity (values_of event l)) (all_of-push rounds round)
    ∙ ap (keep_last capacity) (values_of-append event (all_of rounds) round)
    ∙ sym (kept_first capacity (values_of event (all_of rounds)) (values_of event round))
next_window_is Fresh capacity event rounds round = ap (λ l. keep_last capacity (values_of event l)) (last_of-push rounds round)

windows_from-push : (event : ℕ) (specs : List EventSpecValue) (rounds : List (List SampleValue)) (round : List SampleValue)
    → windows_from event specs (rounds ++ round ∷ []) ≡ next_windows_from event specs (windows_from event specs rounds) round
unfolding windows_from next_windows_from
windows_from-push event [] rounds round = refl
windows_from-push event (spec ∷ specs) rounds round =
    λ i. next_window_is spec.policy spec.capacity event rounds round i ∷ windows_from-push (suc event) specs rounds round i

pub seen_next_windows : (old new : List Rings) (specs : List EventSpecValue) (rounds : List (List SampleValue)) (arrived : List SampleValue)
    → new ≡ map turned old → HasSeen old specs rounds arrived → windows new ≡ next_windows specs (windows old) arrived
seen_next_windows old new specs rounds arrived e has_seen =
    seen_windows new specs (rounds ++ arrived ∷ []) [] (seen_turned old new specs rounds arrived e has_seen)
    ∙ windows_from-push 0 specs rounds arrived
    ∙ ap (λ w. next_windows_from 0 specs w arrived) (sym (seen_windows old specs rounds arrived has_seen))

-- the rings are turned one after the other
pub turned_more : (xs ys : List Rings) (i : ℕ) (x y : Rings) → i < length xs → ys ≡ map turned (take i xs) ++ drop i xs → x ≡ get_or ys i x
    → y ≡ turned x
    → set ys i y ≡ map turned (take (i + 1) xs) ++ drop (i + 1) xs
turned_more xs ys i x y within before at after = ap (set ys i) after ∙ map_over_more turned xs ys i x within before at

pub turned_whole : (xs ys : List Rings) (i : ℕ) → length xs ≤ i → ys ≡ map turned (take i xs) ++ drop i xs → ys ≡ map turned xs
turned_whole xs ys i whole e = e ∙ (λ k. map turned (take_all i xs whole k) ++ drop_all i xs whole k) ∙ append-nil (map turned xs)

pub made_more : (specs : List EventSpecValue) (made : List Rings) (i : ℕ) (spec : EventSpecValue) (rings : Rings) → i < length specs → made
    ≡ map empty (take i specs) → spec ≡ get_or specs i spec → rings ≡ empty spec
    → made ++ rings ∷ [] ≡ map empty (take (i + 1) specs)
made_more specs made i spec rings within before at after =
    (λ k. before k ++ (after ∙ ap empty at) k ∷ []) ∙ sym (map_more empty specs i spec within)

made_whole : (specs : List EventSpecValue) (made : List Rings) (i : ℕ) → length specs ≤ i → made ≡ map empty (take i specs) → made
    ≡ map empty specs
made_whole specs made i whole e = e ∙ ap (map empty) (take_all i specs whole)

pub seen_nothing : (specs : List EventSpecValue) (made : List Rings) (i : ℕ) → length specs ≤ i → made ≡ map empty (take i specs)
    → HasSeen made specs [] []
seen_nothing specs made i whole e = record { rings = made_whole specs made i whole e ∙ empty_rings 0 specs }

pub made_count : (specs : List EventSpecValue) (made : List Rings) (i : ℕ) → length specs ≤ i → made ≡ map empty (take i specs)
    → length made ≡ length specs
made_count specs made i whole e = ap (λ (l : List Rings). length l) (made_whole specs made i whole e) ∙ length-map specs empty

pub made_windows : (specs : List EventSpecValue) (made : List Rings) (i : ℕ) → length specs ≤ i → made ≡ map empty (take i specs)
    → windows made ≡ windows_after specs []
made_windows specs made i whole e = seen_windows made specs [] [] (seen_nothing specs made i whole e)

pub made_fit : (specs : List EventSpecValue) (made : List Rings) (i : ℕ) → length specs ≤ 256 → length specs ≤ i → made
    ≡ map empty (take i specs) → (length made ≤ 256) × All IsInLimits made
made_fit specs made i few whole e =
    let all : made ≡ map empty specs = made_whole specs made i whole e in (
      omega (arith, ap (λ (l : List Rings). length l) all, length-map specs empty),
      All-same IsInLimits made (map empty specs) all (limits_empty specs),
    )

pub turned_fit : (old new : List Rings) → new ≡ map turned old → (length old ≤ 256) × All IsInLimits old → (length new ≤ 256)
    × All IsInLimits new
turned_fit old new e fit =
    (omega (arith, ap (λ (l : List Rings). length l) e, length-map old turned, fit.0), limits_all_turned old new e fit.1)

pub joined_fit : (cache : List Rings) (i : ℕ) (old new : Rings) (v : ℤ) → i < length cache → old ≡ get_or cache i old → new ≡ joined old v
    → IsSampleValue v
    → (length cache ≤ 256) × All IsInLimits cache → (length (set cache i new) ≤ 256) × All IsInLimits (set cache i new)
joined_fit cache i old new v within at after good fit =
    let was : IsInLimits old = let P : Rings → Type 0 = IsInLimits in subst P (sym at) (All-get_or IsInLimits cache i old within fit.1) in
    let now : IsInLimits new = let P : Rings → Type 0 = IsInLimits in subst P (sym after) (limits_joined old v good was) in
    (omega (arith, length-set {A = Rings}, fit.0), All-set IsInLimits cache i new now fit.1)

pub windows_kept : (cache : List Rings) (i : ℕ) (old new : Rings) (v : ℤ) → i < length cache → old ≡ get_or cache i old → new ≡ joined old v
    → windows (set cache i new) ≡ windows cache
windows_kept cache i old new v within at after =
    ap (λ (r : Rings). windows (set cache i r)) (after ∙ ap (λ r. joined r v) at) ∙ windows_joined cache i old v within

pub seen_arrived : (cache : List Rings) (old new : Rings) (sample : SampleValue) → sample.event < length cache → old
    ≡ get_or cache sample.event old → new ≡ joined old sample.value
    → (specs : List EventSpecValue) (rounds : List (List SampleValue)) (arrived : List SampleValue) → HasSeen cache specs rounds arrived
    → HasSeen (set cache sample.event new) specs rounds (arrived ++ sample ∷ [])
seen_arrived cache old new sample within at after specs rounds arrived has_seen =
    let done : HasSeen (set cache sample.event (joined old sample.value)) specs rounds (arrived ++ sample ∷ []) =
    seen_joined cache old sample within at specs rounds arrived has_seen in
    record { rings = ap (set cache sample.event) after ∙ done.rings }

pub are_windows : (cache : List Rings) (events : ℕ) → events ≡ length cache → All IsInLimits cache → AreWindows events (windows cache)
are_windows cache events e limits = record { count = length-map cache (λ (r : Rings). r.seen) ∙ sym e; values = all_windows cache limits }

pub value_in_limits : (cache : List Rings) (i j : ℕ) (r : Rings) (v : ℤ) → i < length cache → r ≡ get_or cache i r → j < length r.seen → v
    ≡ get_or r.seen j v → All IsInLimits cache → IsSampleValue v
value_in_limits cache i j r v within at inside is limits =
    let good : IsInLimits r = let P : Rings → Type 0 = IsInLimits in subst P (sym at) (All-get_or IsInLimits cache i r within limits) in
    let P : ℤ → Type 0 = IsSampleValue in subst P (sym is) (All-get_or IsSampleValue r.seen j v inside good.seen)

pub window_is : (cache : List Rings) (i : ℕ) (r : Rings) → i < length cache → r ≡ get_or cache i r → get_or (windows cache) i [] ≡ r.seen
window_is cache i r within at = get_or-map (λ (r : Rings). r.seen) cache i r [] within ∙ ap (λ (r : Rings). r.seen) (sym at)
