-- A pass, block by block.
use Rattle.std.proofs.Common.{◌≡◌, ℕ, zero, suc, ◌+◌, ◌*◌, ◌<◌, ◌≤◌, true, false, List, [], ◌∷◌, ◌++◌, length, take, drop, Result, Ok, Err}
use Rattle.std.proofs.Common.{is_err, sym, refl, ap, ◌∙◌, arith, append_assoc, length-take}
use mathlib.Core.Logic.{dite}
use native.Mathlib.Decide.{ℕ_discrete}
use Rattle.std.proofs.Math.Seq.{take-add}
use Rattle.std.proofs.lemmas.List.{take_all}
use Rattle.det_client.specs.element_random.RandomStreams.{key}
use Rattle.job.specs.Meaning.{Meaning, ElementResult}
use Rattle.job.specs.Pass.{PassResult, Refusal, nothing, more, taken, passed, block, block_size, in_block}
use Rattle.job.proofs.Sizes.{begins, covers}
use Rattle.job.specs.Passes.{blocks_of}
use Rattle.pass_in_blocks.specs.Steps.{beside}
use Rattle.worker_pool.specs.Gather.{refuses, left_by, together}

append_nil : {A : Type 0} (es : List A) → es ++ [] ≡ es
append_nil [] = refl
append_nil (e ∷ es) = ap (λ (r : List _). e ∷ r) (append_nil es)

three : {A : Type 0} (es fs gs : List A) → (es ++ fs) ++ gs ≡ es ++ (fs ++ gs)
three es fs gs = simp append_assoc

abbrev done : {E P : Type 0} → List E → List ℕ → P → PassResult E P
done es ds p = record { elements = es; draws = ds; part = p }

module _ {E P : Type 0} (join : P → P → P) where
  -- a result after an earlier one
  abbrev pub onto : PassResult E P → Result (PassResult E P) Refusal → Result (PassResult E P) Refusal
  onto d (Ok e) = Ok (beside join d e)
  onto d (Err r) = Err r

  abbrev pub then : Result (PassResult E P) Refusal → Result (PassResult E P) Refusal → Result (PassResult E P) Refusal
  then (Ok d) a = onto d a
  then (Err r) a = Err r

  done_next : (unit : P) (d : PassResult E P) (a : Result (PassResult E P) Refusal) → is_err a ≡ false
      → onto d a ≡ Ok (beside join d (left_by join unit a))
  done_next unit d (Ok e) h = refl
  done_next unit d (Err r) h = absurd (cc)

  stops : (d : PassResult E P) (a : Result (PassResult E P) Refusal) → is_err a ≡ true → onto d a ≡ a
  stops d (Err r) h = refl
  stops d (Ok e) h = absurd (cc)

  stays_stopped : (a c : Result (PassResult E P) Refusal) → is_err a ≡ true → then a c ≡ a
  stays_stopped (Err r) c h = refl
  stays_stopped (Ok d) c h = absurd (cc)

-- the elements in two portions
module _ {S G E L P : Type 0} (m : Meaning S G E L P) (j : S) (plan : L) (carry : P) (seed cycle pass : ℕ) where
  abbrev from : ℕ → List E → PassResult E P → Result (PassResult E P) Refusal
  from = taken m j plan carry seed cycle pass

  abbrev drew : ℕ → E → ℕ
  drew i e = m.drawn j plan carry pass e (key seed cycle pass i)

  -- one element, and then the rest
  abbrev step : ℕ → E → (PassResult E P → Result (PassResult E P) Refusal) → PassResult E P → Result (PassResult E P) Refusal
  step i e rest d = elim (m.worked j plan carry pass e (key seed cycle pass i)) [
    | Ok w ↦ rest (more m j plan carry seed cycle pass d w (drew i e))
    | Err c ↦ Err (record { element = i; code = c })
  ]

  -- a step after two results, if what follows it agrees
  same_step : (i : ℕ) (e : E) (rest others : PassResult E P → Result (PassResult E P) Refusal) (d c : PassResult E P)
      (change : Result (PassResult E P) Refusal → Result (PassResult E P) Refusal)
      → ((w : ElementResult E P) → rest (more m j plan carry seed cycle pass d w (drew i e))
      ≡ change (others (more m j plan carry seed cycle pass c w (drew i e))))
      → ((r : Refusal) → Err r ≡ change (Err r)) → step i e rest d ≡ change (step i e others c)
  same_step i e rest others d c change goes stops =
      elim (m.worked j plan carry pass e (key seed cycle pass i)) as (λ r.
      elim r [
        | Ok w ↦ rest (more m j plan carry seed cycle pass d w (drew i e))
        | Err code ↦ Err (record { element = i; code = code })
      ]
      ≡ change (elim r [
        | Ok w ↦ others (more m j plan carry seed cycle pass c w (drew i e))
        | Err code ↦ Err (record { element = i; code = code })
      ])) [
        | Ok w ↦ goes w
        | Err code ↦ stops (record { element = i; code = code })
      ]

  -- the result of further elements
  abbrev pub on_with : ℕ → List E → Result (PassResult E P) Refusal → Result (PassResult E P) Refusal
  on_with i es (Ok d) = taken m j plan carry seed cycle pass i es d
  on_with i es (Err r) = Err r

  pub through : (i n : ℕ) (es fs : List E) (d : PassResult E P) → n ≡ i + length es
      → taken m j plan carry seed cycle pass i (es ++ fs) d ≡ on_with n fs (taken m j plan carry seed cycle pass i es d)
  through i n [] fs d is = ap (λ (k : ℕ). from k fs d) (omega arith)
  through i n (e ∷ es) fs d is = same_step i e (from (i + 1) (es ++ fs)) (from (i + 1) es) d d (on_with n fs)
      (λ w. through (i + 1) n es fs (more m j plan carry seed cycle pass d w (drew i e)) (omega arith)) (λ r. refl)

  module _ (assoc : (a b c : P) → m.joined j (m.joined j a b) c ≡ m.joined j a (m.joined j b c))
      (left : (a : P) → m.joined j (m.unit_part j) a ≡ a) (right : (a : P) → m.joined j a (m.unit_part j) ≡ a) where
    abbrev join : P → P → P
    join = m.joined j

    abbrev none : PassResult E P
    none = nothing m j plan carry seed cycle pass

    onto_twice : (d e : PassResult E P) (a : Result (PassResult E P) Refusal) → onto join d (onto join e a) ≡ onto join (beside join d e) a
    onto_twice d e (Err r) = refl
    onto_twice d e (Ok f) = λ k. Ok (done (sym (three d.elements e.elements f.elements) k) (sym (three d.draws e.draws f.draws) k)
        (sym (assoc d.part e.part f.part) k))

    -- the earlier result comes before the result from nothing
    from_nothing : (i : ℕ) (es : List E) (d : PassResult E P) → from i es d ≡ onto join d (from i es none)
    from_nothing i [] d = λ k. Ok (done (sym (append_nil d.elements) k) (sym (append_nil d.draws) k) (sym (right d.part) k))
    from_nothing i (e ∷ es) d = same_step i e (from (i + 1) es) (from (i + 1) es) d none (onto join d)
        (λ w. let one : PassResult E P = more m j plan carry seed cycle pass none w (drew i e) in
        from_nothing (i + 1) es (more m j plan carry seed cycle pass d w (drew i e))
        ∙ (λ k. onto join (done (d.elements ++ w.element ∷ []) (d.draws ++ drew i e ∷ []) (join d.part (sym (left w.part) k)))
        (from (i + 1) es none))
        ∙ sym (onto_twice d one (from (i + 1) es none)) ∙ sym (ap (onto join d) (from_nothing (i + 1) es one))) (λ r. refl)

    on_is_then : (i : ℕ) (es : List E) (a : Result (PassResult E P) Refusal) → on_with i es a ≡ then join a (from i es none)
    on_is_then i es (Ok d) = from_nothing i es d
    on_is_then i es (Err r) = refl

    module _ (es : List E) where
      abbrev at : ℕ → Result (PassResult E P) Refusal
      at b = block m j plan carry seed cycle pass b es

      abbrev first : ℕ → Result (PassResult E P) Refusal
      first zero = Ok none
      first (suc n) = then join (first n) (at n)

      abbrev all : ℕ → PassResult E P
      all n = together join (m.unit_part j) at n

      abbrev whole : List E → Result (PassResult E P) Refusal
      whole = passed m j plan carry seed cycle pass

      abbrev w : ℕ
      w = block_size (length es)

      first_blocks : (n : ℕ) → ((b : ℕ) → b < n → w * b < length es) → whole (take (w * n) es) ≡ first n
      first_blocks zero inside = ap (λ (k : ℕ). whole (take k es)) no_elements where
        no_elements : w * 0 ≡ 0
        no_elements = omega arith
      first_blocks (suc n) inside = let ih = first_blocks n (λ b lt. inside b (omega arith)) in
          let full : length (take (w * n) es) ≡ w * n = omega (arith, length-take (w * n) es, inside n (omega arith)) in
          let next : w * suc n ≡ w * n + w = omega arith in
          ap (λ (k : ℕ). whole (take k es)) next ∙ ap whole (take-add (w * n) w es)
          ∙ through 0 (w * n) (take (w * n) es) (in_block (length es) n es) none (omega arith)
          ∙ on_is_then (w * n) (in_block (length es) n es) (whole (take (w * n) es))
          ∙ ap (λ (a : Result (PassResult E P) Refusal). then join a (at n)) ih

      in_blocks : whole es ≡ first (blocks_of (length es))
      in_blocks = ap whole (sym (take_all (w * blocks_of (length es)) es (covers (length es))))
          ∙ first_blocks (blocks_of (length es)) (λ b lt. begins (length es) b lt)

      first_all : (n : ℕ) → ((b : ℕ) → b < n → refuses at b ≡ false) → first n ≡ Ok (all n)
      first_all zero ok = refl
      first_all (suc n) ok = ap (λ (a : Result (PassResult E P) Refusal). then join a (at n)) (first_all n (λ b lt. ok b (omega arith)))
          ∙ done_next join (m.unit_part j) (all n) (at n) (ok n (omega arith))

      -- no block refuses
      pub all_done : ((b : ℕ) → b < blocks_of (length es) → refuses at b ≡ false) → whole es ≡ Ok (all (blocks_of (length es)))
      all_done ok = in_blocks ∙ first_all (blocks_of (length es)) ok

      first_stops : (l n : ℕ) → l < n → refuses at l ≡ true → ((b : ℕ) → b < l → refuses at b ≡ false) → first n ≡ at l
      first_stops l zero lt says ok = absurd (omega arith)
      first_stops l (suc n) lt says ok = dite (ℕ_discrete n l)
          (λ e. ap (λ (a : Result (PassResult E P) Refusal). then join a (at n)) (first_all n (λ b h. ok b (omega arith)))
          ∙ ap (λ (k : ℕ). onto join (all n) (at k)) e ∙ stops join (all n) (at l) says)
          (λ ne. ap (λ (a : Result (PassResult E P) Refusal). then join a (at n)) (first_stops l n (omega arith) says ok)
          ∙ stays_stopped join (at l) (at n) says)

      -- block l is the least that refuses
      pub least_refuses : (l : ℕ) → l < blocks_of (length es) → refuses at l ≡ true → ((b : ℕ) → b < l → refuses at b ≡ false)
          → whole es ≡ at l
      least_refuses l lt says ok = in_blocks ∙ first_stops l (blocks_of (length es)) lt says ok
