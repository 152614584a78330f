-- A pass to be run, and the results that a pool may return.
use Rattle.std.specs.Prelude.{◌≡◌, ℕ, ◌+◌, ◌-◌, ◌/◌, ◌<◌, ◌≤◌, ◌⊎◌, List, [], ◌∷◌, length, true}
use Rattle.std.specs.Prelude.{Result, Ok, Err, IfOk, IfErr, Bool}
use Rattle.std.specs.List.{All}
use Rattle.job.specs.Meaning.{Meaning}
use Rattle.job.specs.Laws.{CoversSome}
use Rattle.job.specs.Pass.{PassResult, Refusal, block_size, passed, block}
use Rattle.job.specs.Cycle.{added, shown_with}
use Rattle.job.specs.declared.pass.PassDone.{PassDone}
use Rattle.job.specs.declared.pass.PoolFault.{PoolFault}
use Rattle.job.specs.declared.pass.PoolFault.TheVariants.{Refused, OutOfMemory}

-- a pass to be run
pub record PassValue (S E L P : Type 0) : Type 0 where
  pub job : S
  pub plan : L
  -- the part of the pass before, or the unit in the first one
  pub carry : P
  pub number : ℕ
  pub elements : List E
  pub seed : ℕ
  pub cycle : ℕ
  -- the draws of each element in the passes before; empty in the first pass
  pub earlier : List ℕ
  -- whether the pass also returns the bytes of its new elements
  pub shows : Bool

-- the number of blocks of n elements, and of a pass
abbrev pub blocks_of : ℕ → ℕ
blocks_of n = (n + (block_size n - 1)) / block_size n

abbrev pub blocks_in : {S E L P : Type 0} → PassValue S E L P → ℕ
blocks_in t = blocks_of (length t.elements)

abbrev pub pass_result_of : {E P : Type 0} → PassDone E P → PassResult E P
pass_result_of done = record { elements = done.elements; draws = done.draws; part = done.part }

-- the result is that of the pass; only "out of memory" may be returned without a cause here
abbrev pub IsPass : {E P : Type 0} → Result (PassDone E P) PoolFault
    → Result (PassResult E P) Refusal → Type 0
IsPass (Ok done) pass = pass ≡ Ok (pass_result_of done)
IsPass (Err (Refused element code)) pass = pass ≡ Err (record { element = element; code = code })
IsPass (Err OutOfMemory) pass = Unit {0}

-- an element that refuses is one of the first n
abbrev pub RefusedBelow : ℕ → PoolFault → Type 0
RefusedBelow n (Refused element code) = element < n
RefusedBelow n OutOfMemory = Unit {0}

-- the draws of the passes before, if any, plus those of a pass
abbrev pub drawn_so_far : List ℕ → List ℕ → List ℕ
drawn_so_far [] draws = draws
drawn_so_far (n ∷ earlier) draws = added (n ∷ earlier) draws

module _ {S G E L P : Type 0} where
  -- the result of the whole pass
  abbrev pub pass_of : Meaning S G E L P → PassValue S E L P → Result (PassResult E P) Refusal
  pass_of m t =
      passed m t.job t.plan t.carry t.seed t.cycle t.number t.elements

  -- the result of its block b
  abbrev pub block_in : Meaning S G E L P → PassValue S E L P → ℕ → Result (PassResult E P) Refusal
  block_in m t b = block m t.job t.plan t.carry t.seed t.cycle t.number b t.elements

  -- the conditions of a pass
  pub record IsReady (m : Meaning S G E L P) (Covers : S → P → ℕ → Type 0) (Own : S → E → Type 0)
      (Fit : S → L → Type 0) (t : PassValue S E L P) : Type 0 where
    pub fit : Fit t.job t.plan
    pub below : t.number < m.passes_of t.job t.plan
    pub few : length t.elements ≤ 65536
    pub own : All (Own t.job) t.elements
    pub carried : CoversSome (Covers t.job) t.carry
    pub early : t.cycle ≤ 1000000
    pub level : (t.earlier ≡ []) ⊎ (length t.earlier ≡ length t.elements)
    pub few_earlier : All (λ draws. draws ≤ 458745) t.earlier

  -- a result that a pool may return for a pass
  pub record IsAnswer (m : Meaning S G E L P) (Covers : S → P → ℕ → Type 0) (Own : S → E → Type 0)
      (t : PassValue S E L P) (answer : Result (PassDone E P) PoolFault) : Type 0 where
    pub is : IsPass answer (pass_of m t)
    pub own : IfOk answer (λ done. All (Own t.job) done.elements)
    pub many : IfOk answer (λ done. length done.elements ≡ length t.elements)
    pub drew : IfOk answer (λ done. length done.draws ≡ length t.elements)
    pub few_drawn : IfOk answer (λ done. All (λ draws. draws ≤ 65535) done.draws)
    pub covers : IfOk answer (λ done. Covers t.job done.part (length t.elements))
    pub element : IfErr answer (RefusedBelow (length t.elements))
    pub shown : IfOk answer (λ done. t.shows ≡ true → done.shown
        ≡ shown_with m t.job done.elements (drawn_so_far t.earlier done.draws))
