-- The elements that a part covers, and the laws that every job keeps. The laws of a shipped job are
-- in its own `specs/`, with their lemmas: its `impl` cites them, and may cite no file of `proofs/`.
use Rattle.std.specs.Prelude.{◌≡◌, ℕ, ℤ, ◌+◌, ◌^◌, ◌≤◌, ◌<◌, List, length, Option, Ok}
use Rattle.std.specs.List.{All}
use Rattle.job.specs.event_cache.Windows.{AreWindows}
use Rattle.job.specs.declared.job_results.Conclusion.{Conclusion}
use Rattle.job.specs.Meaning.{Meaning, Preparation, ElementResult}

-- a part may come from some number of elements
abbrev pub CoversSome : {P : Type 0} → (P → ℕ → Type 0) → P → Type 0
CoversSome Covers part = (n : ℕ) × (n ≤ 65536) × Covers part n

-- two parts may come from few enough elements to be joined
abbrev pub CoverTogether : {P : Type 0} → (P → ℕ → Type 0) → P → P → Type 0
CoverTogether Covers left right = (a : ℕ) × (b : ℕ) × (a + b ≤ 65536) × Covers left a
    × Covers right b

-- a joined part covers the elements of both parts
abbrev pub CoversBoth : {P : Type 0} → (P → ℕ → Type 0) → P → P → P → Type 0
CoversBoth Covers left right part = (a b n : ℕ) → n ≡ a + b → n ≤ 65536 → Covers left a
    → Covers right b → Covers part n

-- the laws of a job, about its meaning and its predicates
pub record JobLaws {S G E L P : Type 0} (m : Meaning S G E L P)
    (Covers : S → P → ℕ → Type 0) (Own : S → E → Type 0) (Fit : S → L → Type 0) : Type 0 where
  -- a job keeps the number of events that it was made for
  pub events_made : (params : List ℤ) (events : ℕ) → events < 2 ^ 16
      → m.events (m.made params events) ≡ events
  -- joining is associative, and the unit is neutral on both sides
  pub assoc : (j : S) (a b c : P) → m.joined j (m.joined j a b) c ≡ m.joined j a (m.joined j b c)
  pub left_unit : (j : S) (part : P) → m.joined j (m.unit_part j) part ≡ part
  pub right_unit : (j : S) (part : P) → m.joined j part (m.unit_part j) ≡ part
  -- the unit covers no element, the part of a run covers one, and a joined part covers those of
  -- both
  pub covers_few : (j : S) (part : P) (n : ℕ) → Covers j part n → n ≤ 65536
  pub covers_unit : (j : S) → Covers j (m.unit_part j) 0
  pub covers_run : (j : S) (plan : L) (carry : P) (pass : ℕ) (e : E) (key : ℕ)
      (w : ElementResult E P) → Fit j plan → Own j e → pass < m.passes_of j plan
      → CoversSome (Covers j) carry → m.worked j plan carry pass e key ≡ Ok w
      → Covers j w.part 1
  pub covers_joined : (j : S) (left right : P) (a b : ℕ) → Covers j left a → Covers j right b
      → a + b ≤ 65536
      → Covers j (m.joined j left right) (a + b)
  -- the elements of a run and of the start are the job's own; a prepared plan is fit
  pub own_run : (j : S) (plan : L) (carry : P) (pass : ℕ) (e : E) (key : ℕ)
      (w : ElementResult E P) → Fit j plan → Own j e → pass < m.passes_of j plan
      → CoversSome (Covers j) carry → m.worked j plan carry pass e key ≡ Ok w
      → Own j w.element
  pub own_started : (j : S) (seed : ℕ) → All (Own j) (m.started j seed).elements
  pub fit_prepared : (j : S) (globals : G) (es : List E) (windows : List (List ℤ)) (seed cycle : ℕ)
      (time next : Option ℕ) (p : Preparation L) →
      All (Own j) es → length es ≤ 65536 → AreWindows (m.events j) windows
      → m.prepared j globals es windows seed cycle time next ≡ Ok p → Fit j p.plan
  -- the bytes of an element are few, and different own elements have different bytes
  pub shown_few : (j : S) (e : E) → Own j e → length (m.shown j e) ≤ 64
  pub shown_apart : (j : S) (a b : E) → Own j a → Own j b → m.shown j a ≡ m.shown j b → a ≡ b
  -- limits of outputs, elements, passes and draws
  pub output_few : (j : S) (globals : G) (plan : L) (part : P) (d : Conclusion G)
      → m.concluded j globals plan part ≡ Ok d → length d.output ≤ 1048576
  pub few_started : (j : S) (seed : ℕ) → length (m.started j seed).elements ≤ 65536
  pub fit_passes : (j : S) (plan : L) → Fit j plan
      → (1 ≤ m.passes_of j plan) × (m.passes_of j plan ≤ 8)
  pub drawn_few : (j : S) (plan : L) (carry : P) (pass : ℕ) (e : E) (key : ℕ)
      → m.drawn j plan carry pass e key ≤ 65535
