-- Facts about the results of blocks and passes, from the laws of a job.
use Rattle.std.proofs.Common.{◌≡◌, ℕ, suc, ◌+◌, ◌-◌, ◌*◌, ◌%◌, ◌<◌, ◌≤◌, min, List, [], ◌∷◌, length, take, drop, true, Result, Ok, Err}
use Rattle.std.proofs.Common.{refl, sym, ap, ◌∙◌, subst, arith, length-append, length-take, length-drop}
use Rattle.std.specs.List.{All}
use Rattle.std.proofs.lemmas.List.{take_all}
use Rattle.std.proofs.lemmas.List.Elements.{All-nil, All-head, All-tail, All-push, All-same, All-take, All-drop}
use Rattle.det_client.specs.element_random.RandomStreams.{key}
use Rattle.job.specs.declared.pass.PassDone.{PassDone}
use Rattle.job.specs.declared.pass.PoolFault.{PoolFault}
use Rattle.job.specs.declared.pass.PoolFault.TheVariants.{Refused, OutOfMemory}
use Rattle.job.specs.Meaning.{Meaning, ElementResult}
use Rattle.job.specs.Laws.{JobLaws}
use Rattle.job.specs.Pass.{PassResult, Refusal, block_size, in_block, more}
use Rattle.job.specs.Cycle.{shown_with}
use Rattle.job.specs.Passes.{PassValue, drawn_so_far, pass_result_of, IsPass, RefusedBelow, IsReady, IsAnswer, pass_of, block_in}
use Rattle.job.proofs.Sizes.{together}
use Rattle.job.proofs.Sizes.{some as block_some, few as block_few}
use Rattle.pass_in_blocks.specs.Steps.{beside, HasRoom, CanJoin, none_in, added_to, first_in}
use Rattle.pass_in_blocks.proofs.Running.{block_done, block_refuses}

-- the result of n elements: n new elements, each the job's own, n draws, and a part that covers n
pub record Sums {S E P : Type 0} (Covers : S → P → ℕ → Type 0) (Own : S → E → Type 0) (j : S) (n : ℕ) (done : PassResult E P) : Type 0 where
  pub own : All (Own j) done.elements
  pub many : length done.elements ≡ n
  pub drew : length done.draws ≡ n
  pub few_drawn : All (λ d. d ≤ 65535) done.draws
  pub covers : Covers j done.part n

module _ {E P : Type 0} where
  same_done : (x y : PassResult E P) → ◌≡◌ {A = Result (PassResult E P) Refusal} (Ok x) (Ok y) → x ≡ y
  same_done x y q = cc

  same_refusal : (x y : Refusal) → ◌≡◌ {A = Result (PassResult E P) Refusal} (Err x) (Err y) → x ≡ y
  same_refusal x y q = cc

module _ {S G E L P : Type 0} {m : Meaning S G E L P} {Covers : S → P → ℕ → Type 0} {Own : S → E → Type 0} {Fit : S → L → Type 0}
    (laws : JobLaws m Covers Own Fit) (t : PassValue S E L P) (ready : IsReady m Covers Own Fit t) where
  abbrev job : S
  job = t.job

  abbrev plan : L
  plan = t.plan

  abbrev carry : P
  carry = t.carry

  abbrev es : List E
  es = t.elements

  abbrev from : ℕ → List E → PassResult E P → Result (PassResult E P) Refusal
  from = added_to m t

  abbrev none : PassResult E P
  none = none_in m t

  abbrev Holds : ℕ → PassResult E P → Type 0
  Holds = Sums Covers Own t.job

  abbrev gives : E → ℕ → Result (ElementResult E P) ℕ
  gives e i = m.worked job plan carry t.number e (key t.seed t.cycle t.number i)

  abbrev drew : ℕ → E → ℕ
  drew i e = m.drawn job plan carry t.number e (key t.seed t.cycle t.number i)

  abbrev with_one : PassResult E P → ElementResult E P → ℕ → PassResult E P
  with_one = more m job plan carry t.seed t.cycle t.number

  none_holds : Holds 0 none
  none_holds = record {
    own = All-nil (Own job);
    many = refl;
    drew = refl;
    few_drawn = All-nil (λ (d : ℕ). d ≤ 65535);
    covers = laws.covers_unit job;
  }

  one_more : (n i : ℕ) (d : PassResult E P) (e : E) (w : ElementResult E P) → Holds n d → Own job e → n + 1 ≤ 65536 → gives e i ≡ Ok w
      → Holds (n + 1) (with_one d w (drew i e))
  one_more n i d e w h own small came = let k = key t.seed t.cycle t.number i in record {
    own = All-push (Own job) d.elements w.element h.own
        (laws.own_run job plan carry t.number e k w ready.fit own ready.below ready.carried came);
    many = length-append d.elements (w.element ∷ []) ∙ ap (λ l. l + 1) h.many;
    drew = length-append d.draws (_ ∷ []) ∙ ap (λ l. l + 1) h.drew;
    few_drawn = All-push (λ l. l ≤ 65535) d.draws _ h.few_drawn (laws.drawn_few job plan carry t.number e k);
    covers = laws.covers_joined job d.part w.part n 1 h.covers
        (laws.covers_run job plan carry t.number e k w ready.fit own ready.below ready.carried came) small;
  }

  -- the result of element i and those after it, given the job's result for the element
  abbrev on_from : ℕ → E → List E → PassResult E P → Result (ElementResult E P) ℕ → Result (PassResult E P) Refusal
  on_from i x xs d r = elim r [
    | Ok w ↦ from (i + 1) xs (with_one d w (drew i x))
    | Err c ↦ Err (record { element = i; code = c })
  ]

  -- further elements
  taken_holds : (n i : ℕ) (xs : List E) (d e : PassResult E P) → Holds n d → All (Own job) xs → n + length xs ≤ 65536
      → from i xs d ≡ Ok e → Holds (n + length xs) e
  taken_holds n i [] d e h own small is = subst (λ (k : ℕ). Holds k e) (omega arith) (subst (Holds n) (same_done d e is) h)
  taken_holds n i (x ∷ xs) d e h own small is =
      (elim (gives x i) as (λ r. gives x i ≡ r → on_from i x xs d r ≡ Ok e → Holds (n + suc (length xs)) e) [
        | Ok w ↦ λ came q. subst (λ (k : ℕ). Holds k e) (omega arith)
            (taken_holds (n + 1) (i + 1) xs (with_one d w (drew i x)) e
            (one_more n i d x w h (All-head (Own job) x xs own) (omega arith) came)
            (All-tail (Own job) x xs own) (omega arith) q)
        | Err c ↦ λ came q. absurd (cc)
      ]) refl is

  -- an element that refuses is one of those taken
  refused_inside : (i : ℕ) (xs : List E) (d : PassResult E P) (r : Refusal) → from i xs d ≡ Err r → r.element < i + length xs
  refused_inside i [] d r is = absurd (cc)
  refused_inside i (x ∷ xs) d r is =
      (elim (gives x i) as (λ a. on_from i x xs d a ≡ Err r → r.element < i + suc (length xs)) [
        | Ok w ↦ λ q. let ih = refused_inside (i + 1) xs (with_one d w (drew i x)) r q in omega arith
        | Err c ↦ λ q.
            let number : i ≡ r.element = ap (λ (y : Refusal). y.element) (same_refusal (record { element = i; code = c }) r q) in
            omega arith
      ]) is

  -- the first k elements of some from number i on
  pub first_hold : (i k : ℕ) (xs : List E) (d : PassResult E P) → All (Own job) xs → k ≤ length xs → length xs ≤ 65536
      → from i (take k xs) none ≡ Ok d → Holds k d
  first_hold i k xs d own inside small is = subst (λ (n : ℕ). Holds n d) (omega (arith, length-take k xs))
      (taken_holds 0 i (take k xs) none d none_holds (All-take (Own job) k xs own) (omega (arith, length-take k xs)) is)

  -- the size of blocks, and block b
  abbrev w : ℕ
  w = block_size (length es)

  abbrev of_block : ℕ → List E
  of_block b = in_block (length es) b es

  own_block : (b : ℕ) → All (Own job) (of_block b)
  own_block b = All-take (Own job) w (drop (w * b) es) (All-drop (Own job) (w * b) es ready.own)

  pub block_length : (b : ℕ) → length (of_block b) ≡ min w (length es - w * b)
  block_length b = omega (arith, length-take w (drop (w * b) es), length-drop (w * b) es)

  pub block_holds : (b : ℕ) (d : PassResult E P) → block_in m t b ≡ Ok d → Holds (length (of_block b)) d
  block_holds b d is = let f = ready.few in let size = block_length b in
      subst (λ (k : ℕ). Holds k d) (omega arith) (taken_holds 0 (w * b) (of_block b) none d none_holds (own_block b) (omega arith) is)

  module _ (b k : ℕ) (xs : List E) (is_block : xs ≡ in_block (length t.elements) b t.elements) (inside : k < length xs) where
    pub in_pass : block_size (length t.elements) * b + k < 65536
    in_pass = let f = ready.few in let size = block_length b in let same = ap length is_block in omega arith

    -- the first k elements of a block leave room for another
    pub has_room : (d : PassResult E P) → added_to m t (block_size (length t.elements) * b) (take k xs) (none_in m t) ≡ Ok d
        → HasRoom Covers t d.part
    has_room d is = let size = block_length b in let same = ap length is_block in
        let own = All-same (Own job) xs _ is_block (own_block b) in let n = block_few (length es) in
        (k, omega arith, (first_hold (w * b) k xs d own (omega arith) (omega arith) is).covers)

  -- a result that is that of the pass is right in each of its facts
  pub pass_holds : (d : PassResult E P) → pass_of m t ≡ Ok d → Holds (length es) d
  pass_holds d is = let f = ready.few in
      subst (λ (k : ℕ). Holds k d) (omega arith) (taken_holds 0 0 es none d none_holds ready.own (omega arith) is)

  fault_inside : (f : PoolFault) → IsPass {E = E} {P = P} (Err f) (pass_of m t) → RefusedBelow (length es) f
  fault_inside (Refused element code) h =
      let lt = refused_inside 0 es none (record { element = element; code = code }) h in omega arith
  fault_inside OutOfMemory h = tt

  -- the shown elements are right, if the pass shows them
  abbrev Shows : PassDone E P → Type 0
  Shows d = t.shows ≡ true → d.shown ≡ shown_with m job d.elements (drawn_so_far t.earlier d.draws)

  done_answer : (d : PassDone E P) → pass_of m t ≡ Ok (pass_result_of d) → Shows d → IsAnswer m Covers Own t (Ok d)
  done_answer d is shown = let h = pass_holds (pass_result_of d) is in record {
    is = is;
    own = h.own;
    many = h.many;
    drew = h.drew;
    few_drawn = h.few_drawn;
    covers = h.covers;
    element = tt;
    shown = shown;
  }

  fault_answer : (f : PoolFault) → IsPass {E = E} {P = P} (Err f) (pass_of m t) → IsAnswer m Covers Own t (Err f)
  fault_answer f is = record {
    is = is;
    own = tt;
    many = tt;
    drew = tt;
    few_drawn = tt;
    covers = tt;
    element = fault_inside f is;
    shown = tt;
  }

  -- the blocks before number b are done
  module _ (b : ℕ) (d : PassResult E P) (is : first_in m t (block_size (length t.elements) * b) ≡ Ok d) where
    -- and there are no more
    pub all_answer : (x : PassDone E P) → d ≡ pass_result_of x → length t.elements ≤ block_size (length t.elements) * b → Shows x
        → IsAnswer m Covers Own t (Ok x)
    all_answer x same none_left =
        done_answer x (ap (λ (xs : List E). from 0 xs none) (sym (take_all (w * b) es none_left)) ∙ is ∙ ap Ok same)

    module _ (inside : block_size (length t.elements) * b < length t.elements) where
      -- and block b as well
      pub next_done : (e both : PassResult E P) → block_in m t b ≡ Ok e → both ≡ beside (m.joined t.job) d e
          → first_in m t (block_size (length t.elements) * (b + 1)) ≡ Ok both
      next_done e both came same = block_done m t laws b (omega arith) d is e came ∙ sym (ap Ok same)

      -- and block b refuses
      pub refusal_answer : (element code : ℕ) → block_in m t b ≡ Err (record { element = element; code = code })
          → IsAnswer m Covers Own t (Err (Refused element code))
      refusal_answer element code came = fault_answer (Refused element code)
          (block_refuses m t laws b (omega arith) d is (record { element = element; code = code }) came)

      -- and block b is to join them
      pub can_join : (e : PassResult E P) → block_in m t b ≡ Ok e → CanJoin Covers t.job d e
      can_join e came =
          let h = first_hold 0 (w * b) es d ready.own (omega arith) ready.few is in let p = h.many in
          let g = block_holds b e came in let q = g.many in
          let f = ready.few in let size = block_length b in let n = block_some (length es) in let k = together (length es) b in
          record {
            level = h.drew ∙ sym p;
            some = omega arith;
            together = subst (λ (k : ℕ). k % 256 + length e.elements ≤ 256) (sym p) (omega arith);
            next_level = g.drew ∙ sym q;
            room = omega arith;
            covers = (w * b, length (of_block b), omega arith, h.covers, g.covers);
          }
