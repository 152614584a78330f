-- The newest samples of windows have values that samples may have.
use Rattle.std.proofs.Common.{◌≡◌, ℕ, ℤ, zero, suc, ◌+◌, ◌-◌, ◌<◌, ◌≤◌, List, [], ◌∷◌, ◌++◌, length, map, take, get_or, Option, None, Some}
use Rattle.std.proofs.Common.{refl, sym, ap, ◌∙◌, arith}
use Rattle.std.specs.Prelude.{slice_get, slice_index_or}
use Rattle.std.specs.List.{All}
use Rattle.std.proofs.lemmas.List.{length-map, map_more, take_all}
use Rattle.std.proofs.lemmas.List.Elements.{All-nil, All-cons, All-head, All-tail, All-same}
use Rattle.det_values.specs.Limits.{IsSampleValue}
use Rattle.job.specs.event_cache.Windows.{AreWindows}
use Rattle.job_shared.specs.Samples.{newest_in, newest_sample, all_newest, sample_of, IsSample, AreSamples}

get_ok : (w : List ℤ) (i : ℕ) → All IsSampleValue w → IsSample (slice_get w i)
get_ok [] i h = tt
get_ok (x ∷ xs) zero h = All-head IsSampleValue x xs h
get_ok (x ∷ xs) (suc i) h = get_ok xs i (All-tail IsSampleValue x xs h)

window_ok : (ws : List (List ℤ)) (event : ℕ) → All (All IsSampleValue) ws → All IsSampleValue (slice_index_or ws event [])
window_ok [] event h = All-nil IsSampleValue
window_ok (w ∷ ws) zero h = All-head (All IsSampleValue) w ws h
window_ok (w ∷ ws) (suc event) h = window_ok ws event (All-tail (All IsSampleValue) w ws h)

pub newest_ok : (ws : List (List ℤ)) (event : ℕ) → All (All IsSampleValue) ws → IsSample (newest_sample ws event)
newest_ok ws event h = get_ok (slice_index_or ws event []) _ (window_ok ws event h)

all_ok : (ws : List (List ℤ)) → All (All IsSampleValue) ws → All IsSample (all_newest ws)
all_ok [] h = All-nil IsSample
all_ok (w ∷ ws) h = All-cons IsSample (newest_in w) (all_newest ws) (get_ok w _ (All-head (All IsSampleValue) w ws h))
    (all_ok ws (All-tail (All IsSampleValue) w ws h))

pub newest_are_samples : (n : ℕ) (ws : List (List ℤ)) → AreWindows n ws → AreSamples n (all_newest ws)
newest_are_samples n ws h = record { count = length-map ws newest_in ∙ h.count; values = all_ok ws h.values }

found_ok : (samples : List (Option ℤ)) (event : ℕ) → All IsSample samples → IsSample (sample_of samples event)
found_ok [] event h = tt
found_ok (x ∷ xs) zero h = All-head IsSample x xs h
found_ok (x ∷ xs) (suc event) h = found_ok xs event (All-tail IsSample x xs h)

pub sample_ok : (n : ℕ) (samples : List (Option ℤ)) (event : ℕ) → AreSamples n samples → IsSample (sample_of samples event)
sample_ok n samples event h = found_ok samples event h.values

pub all_newest_more : (ws : List (List ℤ)) (event : ℕ) → event < length ws →
    all_newest (take (event + 1) ws) ≡ all_newest (take event ws) ++ newest_sample ws event ∷ []
all_newest_more ws event h = map_more newest_in ws event [] h

pub samples_whole : (n event events : ℕ) (ws : List (List ℤ)) (samples : List (Option ℤ)) → AreWindows n ws → n ≤ event →
    length ws ≡ events → samples ≡ all_newest (take event ws) → AreSamples events samples
samples_whole n event events ws samples h far many e =
    let all : samples ≡ all_newest ws = e ∙ ap all_newest (take_all event ws (let c = h.count in omega arith)) in
    record {
      count = ap length all ∙ length-map ws newest_in ∙ many;
      values = All-same IsSample samples (all_newest ws) all (all_ok ws h.values);
    }
