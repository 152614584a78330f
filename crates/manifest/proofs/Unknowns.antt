-- One event, and those after it, for keys that no table knows.
use Rattle.std.proofs.Common.{◌≡◌, ℕ, List, [], ◌∷◌, ◌++◌, zero, suc, ◌+◌, ◌-◌, ◌<◌, ◌≤◌, Bool, true, false, ◌||◌, refl, ap, arith, take}
use Rattle.std.proofs.Common.{drop, length, replicate}
use Rattle.std.specs.Option.{option_or}
use Rattle.toml.specs.Data.{Data}
use Rattle.manifest.specs.Keys.{found}
use Rattle.manifest.specs.Unknown.{unknown_at, unknown_events, is_known}
use Rattle.manifest.specs.KeyReaders.{is_top_word, is_event_word, is_need_word, with_zeros}
use Rattle.manifest.specs.declared.key.Key.TheVariants.{EventItem}
use Rattle.manifest.specs.declared.unknown_key.KeyTable.TheVariants.{Top, Event, InitNeeds, RunNeeds}

one_more : (i n : ℕ) → i < n → n - i ≡ suc (n - (i + 1))
one_more i n h = omega arith

pub events_step : (tree : Data) (i n : ℕ) → i < n
    → unknown_events tree i (n - i)
    ≡ option_or (unknown_at (Event i) (found tree (EventItem i))) (unknown_events tree (i + 1) (n - (i + 1)))
events_step tree i n h = rw (one_more i n h)

all_of_zeros : (n m : ℕ) → n ≤ m → take n (replicate m zero) ≡ replicate n 0
all_of_zeros zero m h = refl
all_of_zeros (suc n) zero h = absurd (omega arith)
all_of_zeros (suc n) (suc m) h = ap (λ (l : List ℕ). zero ∷ l) (all_of_zeros n m (omega arith))

zeros_behind : (n m : ℕ) (key : List ℕ) → n ≤ m
    → take n (key ++ replicate m zero) ≡ take n key ++ drop (length (take n key)) (replicate n zero)
zeros_behind zero m key h = refl
zeros_behind (suc n) m [] h = all_of_zeros (suc n) m h
zeros_behind (suc n) m (b ∷ key) h = ap (λ (l : List ℕ). b ∷ l) (zeros_behind n m key (omega arith))

-- the first bytes of a key, and zeros after them
pub in_zeros : (key : List ℕ) → take 64 (key ++ replicate 64 zero) ≡ with_zeros (take 64 key)
in_zeros key = zeros_behind 64 64 key (omega arith)

or_false : (b : Bool) → (b || false) ≡ b
or_false true = refl
or_false false = refl

or_or : (a b c : Bool) → ((a || b) || c) ≡ (a || (b || c))
or_or true b c = refl
or_or false b c = refl

-- the names that a table knows, one by one
pub known_top : (key : List ℕ) → is_known Top key ≡ is_top_word key
unfolding is_known
known_top key = simp (or_false, or_or)

pub known_event : (i : ℕ) (key : List ℕ) → is_known (Event i) key ≡ is_event_word key
unfolding is_known
known_event i key = simp (or_false, or_or)

pub known_init : (key : List ℕ) → is_known InitNeeds key ≡ is_need_word key
unfolding is_known
known_init key = simp (or_false, or_or)

pub known_run : (key : List ℕ) → is_known RunNeeds key ≡ is_need_word key
unfolding is_known
known_run key = simp (or_false, or_or)
