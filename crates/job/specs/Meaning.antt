-- The functions that define a job, and the results of its calls that agree with them.
use Rattle.std.specs.Prelude.{◌≡◌, ℕ, ℤ, List, Option, Result, Ok, Err}
use Rattle.job.specs.declared.job_results.JobFault.{JobFault}
use Rattle.job.specs.declared.job_results.JobFault.TheVariants.{Code, OutOfMemory}
use Rattle.job.specs.declared.job_results.Conclusion.{Conclusion}

-- globals and elements, and the client's seed afterwards
pub record JobStartValue (G E : Type 0) : Type 0 where
  pub globals : G
  pub elements : List E
  pub seed : ℕ

-- a plan, and the client's seed afterwards
pub record Preparation (L : Type 0) : Type 0 where
  pub plan : L
  pub seed : ℕ

-- an element's new value, and its part
pub record ElementResult (E P : Type 0) : Type 0 where
  pub element : E
  pub part : P

-- The functions of a job, where `Err` carries the code of a refusal. S is the job's type, G that of
-- its globals, E that of an element, L that of a plan and P that of a part.
pub record Meaning (S G E L P : Type 0) : Type 0 where
  -- from parameters and a number of events: the least index of a bad parameter
  pub bad_param : List ℤ → ℕ → Option ℕ
  -- from good parameters and a number of events: the job
  pub made : List ℤ → ℕ → S
  -- the number of events that the job was made for
  pub events : S → ℕ
  -- from the seed; the client is in Init, at the beginning of its own stream
  pub started : S → ℕ → JobStartValue G E
  -- from the globals, the elements, the window of each event, the seed, the number of the cycle,
  -- its time and the next time; the client is at the beginning of its own stream
  pub prepared : S → G → List E → List (List ℤ) → ℕ → ℕ → Option ℕ → Option ℕ
      → Result (Preparation L) ℕ
  -- the number of passes
  pub passes_of : S → L → ℕ
  -- the part of no elements
  pub unit_part : S → P
  -- from the plan, the carried part, the number of the pass, the element and the key of its stream
  pub worked : S → L → P → ℕ → E → ℕ → Result (ElementResult E P) ℕ
  -- from the same: the draws of the element, the count of random numbers that it draws
  pub drawn : S → L → P → ℕ → E → ℕ → ℕ
  -- from the left part and the right part
  pub joined : S → P → P → P
  -- from the globals, the plan and the part of the last pass
  pub concluded : S → G → L → P → Result (Conclusion G) ℕ
  -- the bytes of an element
  pub shown : S → E → List ℕ

-- a result equals the defined one; only "out of memory" may be returned without a cause here
abbrev pub Agrees : {T : Type 0} → Result T JobFault → Result T ℕ → Type 0
Agrees (Ok x) meant = meant ≡ Ok x
Agrees (Err (Code n)) meant = meant ≡ Err n
Agrees (Err OutOfMemory) meant = Unit {0}

-- the same for a result together with the client's seed afterwards
abbrev pub AgreesWithSeed : {L : Type 0} → Result L JobFault → ℕ → Result (Preparation L) ℕ → Type 0
AgreesWithSeed (Ok x) seed meant = meant ≡ Ok (record { plan = x; seed = seed })
AgreesWithSeed (Err (Code n)) seed meant = meant ≡ Err n
AgreesWithSeed (Err OutOfMemory) seed meant = Unit {0}

-- an element's result, with its part joined to that of the elements before it
abbrev pub joined_to : {E P : Type 0} → (P → P → P) → P → Result (ElementResult E P) ℕ
    → Result (ElementResult E P) ℕ
joined_to join part (Ok w) = Ok (record { element = w.element; part = join part w.part })
joined_to join part (Err code) = Err code

-- the same for a result together with the part afterwards
abbrev pub AgreesWithPart : {E P : Type 0} → Result E JobFault → P → Result (ElementResult E P) ℕ
    → Type 0
AgreesWithPart (Ok x) part meant = meant ≡ Ok (record { element = x; part = part })
AgreesWithPart (Err (Code n)) part meant = meant ≡ Err n
AgreesWithPart (Err OutOfMemory) part meant = Unit {0}

-- a fact for every result except "out of memory"
abbrev pub UnlessNoMemory : {T : Type 0} → Result T JobFault → Type 0 → Type 0
UnlessNoMemory (Ok x) fact = fact
UnlessNoMemory (Err (Code n)) fact = fact
UnlessNoMemory (Err OutOfMemory) fact = Unit {0}
