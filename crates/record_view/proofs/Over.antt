-- Values in a row that are passed over.
use Rattle.std.proofs.Common.{◌≡◌, ℕ, ◌+◌, ◌-◌, ◌<◌, ◌≤◌, List, [], ◌∷◌, ◌++◌, length, arith}
use Rattle.record_grammar.specs.Read.{Read, Got, many}
use Rattle.record_grammar.proofs.Steady.{IsSteady}
use Rattle.record_view.specs.declared.stop.Stop.{Stop}
use Rattle.record_view.specs.Gives.{Stops}
use Rattle.record_view.proofs.Many.{HasMany, HasMany-begin, HasMany-next, HasMany-stops, HasMany-done, Remains, Remains-begin, Remains-next}

module _ {A : Type 0} where
  -- what a loop over a count keeps, which keeps no value
  pub record Over (item : List ℕ → Read A) (count counter : ℕ) (rest bytes : List ℕ) : Type 0 where
    pub front : List A
    pub many : HasMany item count counter front rest bytes

  pub over_begin : (item : List ℕ → Read A) (count : ℕ) (bytes : List ℕ) → Over item count 0 bytes bytes
  over_begin item count bytes = record { front = []; many = HasMany-begin item count bytes }

  pub over_next : (item : List ℕ → Read A) (count counter : ℕ) (rest bytes : List ℕ) (first : A) (then : List ℕ) → counter < count
      → item rest ≡ Got (first, then)
      → Over item count counter rest bytes → Over item count (counter + 1) then bytes
  over_next item count counter rest bytes first then lt got h =
      record { front = h.front ++ first ∷ []; many = HasMany-next item count counter h.front rest bytes first then lt got h.many }

  pub over_stops : (item : List ℕ → Read A) (count counter : ℕ) (rest bytes : List ℕ) (stop : Stop) → counter < count
      → Stops stop (item rest)
      → Over item count counter rest bytes → Stops stop (many item count bytes)
  over_stops item count counter rest bytes stop lt s h = HasMany-stops item count counter h.front rest bytes stop lt s h.many

  pub over_done : (item : List ℕ → Read A) (count counter : ℕ) (rest bytes : List ℕ) → count ≤ counter → counter ≤ count
      → Over item count counter rest bytes → (ys : List A) × (many item count bytes ≡ Got (ys, rest)) × (length ys ≡ count)
  over_done item count counter rest bytes le ge h =
      (h.front, HasMany-done item count counter h.front rest bytes le h.many, omega (arith, h.many.counted))

  -- what a loop over the bytes that are left keeps
  pub record Beyond (item : List ℕ → Read A) (left : ℕ) (rest : List ℕ) (count : ℕ) (bytes : List ℕ) : Type 0 where
    pub front : List A
    pub remains : Remains item front left rest [] count bytes

  pub beyond_begin : (item : List ℕ → Read A) (count : ℕ) (bytes : List ℕ) → Beyond item count bytes count bytes
  beyond_begin item count bytes = record { front = []; remains = Remains-begin item [] count bytes }

  pub beyond_next : (item : List ℕ → Read A) → IsSteady 0 item
      → (left : ℕ) (rest : List ℕ) (count : ℕ) (bytes : List ℕ) (first : A) (others : List ℕ) → 0 < left → item rest
      ≡ Got (first, others) → Beyond item left rest count bytes → Beyond item (left - 1) others count bytes
  beyond_next item steady left rest count bytes first others positive got h =
      record {
        front = h.front ++ first ∷ [];
        remains = Remains-next item steady h.front left rest [] count bytes first others positive got h.remains;
      }
