-- One cycle of a job: its sequential begin, the passes, its sequential end. It doesn't mention
-- workers.
use Rattle.std.specs.Prelude.{ℕ, ℤ, zero, suc, ◌+◌, ◌-◌, List, [], ◌∷◌, Result, Ok, Err, Option}
use Rattle.det_values.specs.declared.frames.DrawnElement.{DrawnElement}
use Rattle.det_values.specs.declared.frames.Outcome.{Outcome}
use Rattle.det_values.specs.declared.frames.Outcome.TheVariants.{Finished, Refused}
use Rattle.det_values.specs.declared.refused_at.Phase.TheVariants.{Prepare, Pool, Conclude}
use Rattle.det_values.specs.Values.{RefusedAtValue}
use Rattle.job.specs.Meaning.{Meaning}
use Rattle.job.specs.Pass.{PassResult, Refusal, passed}

-- the state between cycles
pub record State (G E : Type 0) : Type 0 where
  pub globals : G
  pub elements : List E
  pub seed : ℕ

-- the state after a finished cycle, the bytes of its elements and its output
pub record Done (G E : Type 0) : Type 0 where
  pub state : State G E
  pub shown : List DrawnElement
  pub output : List ℕ

-- the sums of two lists, number by number
abbrev pub added : List ℕ → List ℕ → List ℕ
added [] ys = []
added (x ∷ xs) [] = []
added (x ∷ xs) (y ∷ ys) = (x + y) ∷ added xs ys

-- the place of a refusal: an element in a pass, or outside the pool, where pass and element are 0
abbrev pub refused_in_pool : ℕ → Refusal → RefusedAtValue
refused_in_pool pass r = record { phase = Pool; pass = pass; element = r.element; code = r.code }

abbrev pub refused_in_prepare : ℕ → RefusedAtValue
refused_in_prepare code = record { phase = Prepare; pass = 0; element = 0; code = code }

abbrev pub refused_in_conclude : ℕ → RefusedAtValue
refused_in_conclude code = record { phase = Conclude; pass = 0; element = 0; code = code }

-- the result of pass p, with a change to it if it succeeded
abbrev pub in_pool : {E P : Type 0} → ℕ → (PassResult E P → PassResult E P)
    → Result (PassResult E P) Refusal → Result (PassResult E P) RefusedAtValue
in_pool p change (Ok next) = Ok (change next)
in_pool p change (Err r) = Err (refused_in_pool p r)

module _ {S G E L P : Type 0} (m : Meaning S G E L P) (j : S) where
  -- each new element's bytes, and its draws
  abbrev pub shown_with : List E → List ℕ → List DrawnElement
  shown_with [] ds = []
  shown_with (e ∷ es) [] = []
  shown_with (e ∷ es) (d ∷ ds) = record { bytes = m.shown j e; draws = d } ∷ shown_with es ds

  -- pass p over the elements of the pass before, carrying its part; its draws are added to those so
  -- far
  abbrev pub next_pass : L → ℕ → ℕ → ℕ → PassResult E P → Result (PassResult E P) RefusedAtValue
  next_pass plan seed cycle p done =
      in_pool p (λ next. record {
        elements = next.elements;
        draws = added done.draws next.draws;
        part = next.part;
      })
      (passed m j plan done.part seed cycle p done.elements)

  -- pass 0, which carries the unit
  abbrev pub first_pass : L → ℕ → ℕ → List E → Result (PassResult E P) RefusedAtValue
  first_pass plan seed cycle es = in_pool 0 (λ first. first)
      (passed m j plan (m.unit_part j) seed cycle 0 es)

  -- n more passes from pass p on; a refusal ends them
  abbrev pub passes_on : L → ℕ → ℕ → ℕ → ℕ → Result (PassResult E P) RefusedAtValue
      → Result (PassResult E P) RefusedAtValue
  passes_on plan seed cycle n p (Err at) = Err at
  passes_on plan seed cycle zero p (Ok done) = Ok done
  passes_on plan seed cycle (suc n) p (Ok done) = passes_on plan seed cycle n (p + 1)
      (next_pass plan seed cycle p done)

  -- all passes of a plan
  abbrev pub all_passes : L → ℕ → ℕ → List E → Result (PassResult E P) RefusedAtValue
  all_passes plan seed cycle es = passes_on plan seed cycle (m.passes_of j plan - 1) 1
      (first_pass plan seed cycle es)

  -- the sequential end, after the last pass
  abbrev pub concluded : G → L → ℕ → PassResult E P → Result (Done G E) RefusedAtValue
  concluded globals plan seed last =
      elim (m.concluded j globals plan last.part) [
        | Ok d ↦ Ok (record {
          state = record { globals = d.globals; elements = last.elements; seed = seed };
          shown = shown_with last.elements last.draws;
          output = d.output;
        })
        | Err code ↦ Err (refused_in_conclude code)
      ]

  -- one cycle from a state, given the windows, the cycle's number, its time and the next time
  abbrev pub cycle_result : State G E → List (List ℤ) → ℕ → Option ℕ → Option ℕ
      → Result (Done G E) RefusedAtValue
  cycle_result s windows cycle time next =
      elim (m.prepared j s.globals s.elements windows s.seed cycle time next) [
        | Ok p ↦ elim (all_passes p.plan p.seed cycle s.elements) [
          | Ok last ↦ concluded s.globals p.plan p.seed last
          | Err at ↦ Err at
        ]
        | Err code ↦ Err (refused_in_prepare code)
      ]

-- the outcome of a cycle, and the state after it: a refused cycle leaves the old one
abbrev pub outcome_of : {G E : Type 0} → Result (Done G E) RefusedAtValue → Outcome
outcome_of (Ok done) = Finished done.shown done.output
outcome_of (Err at) = Refused at

abbrev pub state_after : {G E : Type 0} → State G E → Result (Done G E) RefusedAtValue → State G E
state_after old (Ok done) = done.state
state_after old (Err at) = old
