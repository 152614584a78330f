-- Elements run in order, in portions.
use Rattle.std.proofs.Common.{◌≡◌, ℕ, ◌+◌, ◌*◌, ◌≤◌, List, [], ◌∷◌, ◌++◌, length, take, drop, Result, Ok, Err, append_assoc}
use Rattle.std.proofs.Common.{sym, refl, ap, ◌∙◌, arith, length-take, take-add}
use Rattle.std.proofs.lemmas.List.{take-append-drop}
use Rattle.det_client.specs.element_random.RandomStreams.{key}
use Rattle.job.specs.Meaning.{Meaning, ElementResult}
use Rattle.job.specs.Laws.{JobLaws}
use Rattle.job.specs.Pass.{PassResult, Refusal, block_size, in_block, more}
use Rattle.job.specs.Passes.{PassValue, pass_of, block_in}
use Rattle.job.proofs.Sizes.{next_begins}
use Rattle.pass_in_blocks.specs.Steps.{pass_result, beside, none_in, added_to, first_in}

append_nil : {A : Type 0} (es : List A) → es ++ [] ≡ es
append_nil [] = refl
append_nil (e ∷ es) = ap (λ (r : List _). e ∷ r) (append_nil es)

three : {A : Type 0} (es fs gs : List A) → (es ++ fs) ++ gs ≡ es ++ (fs ++ gs)
three es fs gs = simp append_assoc

-- a result after an earlier one
abbrev onto : {E P : Type 0} → (P → P → P) → PassResult E P → Result (PassResult E P) Refusal → Result (PassResult E P) Refusal
onto join d (Ok e) = Ok (beside join d e)
onto join d (Err r) = Err r

module _ {S G E L P : Type 0} (m : Meaning S G E L P) (t : PassValue S E L P) where
  abbrev from : ℕ → List E → PassResult E P → Result (PassResult E P) Refusal
  from = added_to m t

  abbrev none : PassResult E P
  none = none_in m t

  abbrev gives : E → ℕ → Result (ElementResult E P) ℕ
  gives e i = m.worked t.job t.plan t.carry t.number e (key t.seed t.cycle t.number i)

  abbrev drew : ℕ → E → ℕ
  drew i e = m.drawn t.job t.plan t.carry t.number e (key t.seed t.cycle t.number i)

  abbrev with_one : PassResult E P → ElementResult E P → ℕ → PassResult E P
  with_one = more m t.job t.plan t.carry t.seed t.cycle t.number

  -- the result of element i and those after it, given the job's result for the element
  abbrev on_from : ℕ → E → List E → PassResult E P → Result (ElementResult E P) ℕ → Result (PassResult E P) Refusal
  on_from i e es d r = elim r [
    | Ok w ↦ from (i + 1) es (with_one d w (drew i e))
    | Err c ↦ Err (record { element = i; code = c })
  ]

  -- the result of further elements
  abbrev on_with : ℕ → List E → Result (PassResult E P) Refusal → Result (PassResult E P) Refusal
  on_with i es (Ok d) = from i es d
  on_with i es (Err r) = Err r

  through : (i n : ℕ) (es fs : List E) (d : PassResult E P) → n ≡ i + length es → from i (es ++ fs) d ≡ on_with n fs (from i es d)
  through i n [] fs d is = ap (λ (k : ℕ). from k fs d) (omega arith)
  through i n (e ∷ es) fs d is =
      elim (gives e i) as (λ r. on_from i e (es ++ fs) d r ≡ on_with n fs (on_from i e es d r)) [
        | Ok w ↦ through (i + 1) n es fs (with_one d w (drew i e)) (omega arith)
        | Err c ↦ refl
      ]

  -- the first k elements, and w more
  module _ (i n : ℕ) (es : List E) (d : PassResult E P) (k w : ℕ) (next : n ≡ i + k) (inside : k ≤ length es) where
    split : from i (take (k + w) es) d ≡ on_with n (take w (drop k es)) (from i (take k es) d)
    split = ap (λ (fs : List E). from i fs d) (take-add k w es)
        ∙ through i n (take k es) (take w (drop k es)) d (omega (arith, length-take k es))

    -- all of them are done
    pub goes_on : (a b : PassResult E P) → added_to m t i (take k es) d ≡ Ok a → added_to m t n (take w (drop k es)) a ≡ Ok b
        → added_to m t i (take (k + w) es) d ≡ Ok b
    goes_on a b is came = split ∙ ap (on_with n (take w (drop k es))) is ∙ came

    -- one of the w more refuses, so all are refused
    pub stops : (a : PassResult E P) (r : Refusal) → added_to m t i (take k es) d ≡ Ok a → added_to m t n (take w (drop k es)) a ≡ Err r
        → added_to m t i es d ≡ Err r
    stops a r is came = ap (λ (fs : List E). from i fs d) (sym (take-append-drop (k + w) es))
        ∙ through i (i + length (take (k + w) es)) (take (k + w) es) (drop (k + w) es) d refl
        ∙ ap (on_with (i + length (take (k + w) es)) (drop (k + w) es)) (split ∙ ap (on_with n (take w (drop k es))) is ∙ came)

  module _ {Covers : S → P → ℕ → Type 0} {Own : S → E → Type 0} {Fit : S → L → Type 0} (laws : JobLaws m Covers Own Fit) where
    abbrev join : P → P → P
    join = m.joined t.job

    onto_twice : (d e : PassResult E P) (a : Result (PassResult E P) Refusal) → onto join d (onto join e a) ≡ onto join (beside join d e) a
    onto_twice d e (Err r) = refl
    onto_twice d e (Ok f) = λ k. Ok (pass_result (sym (three d.elements e.elements f.elements) k) (sym (three d.draws e.draws f.draws) k)
        (sym (laws.assoc t.job d.part e.part f.part) k))

    -- the earlier result comes before the result from nothing
    from_nothing : (i : ℕ) (es : List E) (d : PassResult E P) → from i es d ≡ onto join d (from i es none)
    from_nothing i [] d =
        λ k. Ok (pass_result (sym (append_nil d.elements) k) (sym (append_nil d.draws) k) (sym (laws.right_unit t.job d.part) k))
    from_nothing i (e ∷ es) d =
        elim (gives e i) as (λ r. on_from i e es d r ≡ onto join d (on_from i e es none r)) [
          | Ok w ↦ let one : PassResult E P = with_one none w (drew i e) in
              from_nothing (i + 1) es (with_one d w (drew i e))
              ∙ (λ k. onto join (pass_result (d.elements ++ w.element ∷ []) (d.draws ++ drew i e ∷ [])
              (join d.part (sym (laws.left_unit t.job w.part) k))) (from (i + 1) es none))
              ∙ sym (onto_twice d one (from (i + 1) es none)) ∙ sym (ap (onto join d) (from_nothing (i + 1) es one))
          | Err c ↦ refl
        ]

    -- the blocks before number b are done, and block b
    module _ (b : ℕ) (inside : block_size (length t.elements) * b ≤ length t.elements) (d : PassResult E P)
        (is : first_in m t (block_size (length t.elements) * b) ≡ Ok d) where
      abbrev w : ℕ
      w = block_size (length t.elements)

      after : from (w * b) (in_block (length t.elements) b t.elements) d ≡ onto join d (block_in m t b)
      after = from_nothing (w * b) (in_block (length t.elements) b t.elements) d

      pub block_done : (e : PassResult E P) → block_in m t b ≡ Ok e
          → first_in m t (block_size (length t.elements) * (b + 1)) ≡ Ok (beside (m.joined t.job) d e)
      block_done e came = ap (first_in m t) (next_begins w b)
          ∙ goes_on 0 (w * b) t.elements none (w * b) w (omega arith) inside d (beside join d e) is
          (after ∙ ap (onto join d) came)

      pub block_refuses : (r : Refusal) → block_in m t b ≡ Err r → pass_of m t ≡ Err r
      block_refuses r came =
          stops 0 (w * b) t.elements none (w * b) w (omega arith) inside d r is (after ∙ ap (onto join d) came)
