-- The elements that the blocks of a pass show, in order.
use Rattle.std.proofs.Common.{◌≡◌, ℕ, zero, suc, ◌+◌, ◌*◌, ◌<◌, ◌≤◌, ◌⊎◌, inl, inr, List, [], ◌∷◌, ◌++◌, length, take, drop, Result}
use Rattle.std.proofs.Common.{Ok, Err, true, false, if◌then◌else◌}
use Rattle.std.proofs.Common.{refl, sym, ap, ◌∙◌, subst, arith, length-take, length-append}
use Rattle.std.specs.Prelude.{OnOk}
use Rattle.std.specs.List.{All}
use Rattle.std.proofs.Math.Seq.{take-add}
use Rattle.std.proofs.lemmas.List.{take_all}
use Rattle.std.proofs.lemmas.List.Elements.{All-take, All-drop}
use Rattle.det_values.specs.declared.frames.DrawnElement.{DrawnElement}
use Rattle.job.specs.Meaning.{Meaning}
use Rattle.job.specs.Laws.{JobLaws}
use Rattle.job.specs.Pass.{PassResult, block_size, in_block}
use Rattle.job.specs.Cycle.{added, shown_with}
use Rattle.job.specs.Passes.{PassValue, IsReady, block_in, drawn_so_far}
use Rattle.job.proofs.Sizes.{next_begins, some, few}
use Rattle.pass_in_blocks.specs.ShownElements.{AreSpelled, shown_before, shown_by, shown_in, frame_before}
use Rattle.pass_in_blocks.specs.Steps.{none_in, first_in}
use Rattle.pass_in_blocks.proofs.Adding.{added-append, length-added, same_takes}
use Rattle.pass_in_blocks.proofs.Sound.{block_holds, block_length, first_hold, Sums}
use Rattle.pass_in_blocks.proofs.Spelled.{shown-append, length-shown}

take-none : (n : ℕ) → ◌≡◌ {A = List ℕ} (take n []) []
take-none zero = refl
take-none (suc n) = refl

drop-none : (n : ℕ) → ◌≡◌ {A = List ℕ} (drop n []) []
drop-none zero = refl
drop-none (suc n) = refl

pub as_added : (xs ds : List ℕ) → length xs ≡ length ds → drawn_so_far xs ds ≡ added xs ds
as_added [] [] e = refl
as_added [] (d ∷ ds) e = absurd (omega (arith, e))
as_added (x ∷ xs) ds e = refl

plain : (n : ℕ) (xs ds : List ℕ) → xs ≡ [] → drawn_so_far (take n xs) ds ≡ ds
plain n xs ds none = ap (λ (ys : List ℕ). drawn_so_far (take n ys) ds) none ∙ ap (λ (ys : List ℕ). drawn_so_far ys ds) (take-none n)

plain_block : (w k : ℕ) (xs ds : List ℕ) → xs ≡ [] → drawn_so_far (take w (drop k xs)) ds ≡ ds
plain_block w k xs ds none =
    ap (λ (ys : List ℕ). drawn_so_far (take w (drop k ys)) ds) none ∙ ap (λ (ys : List ℕ). drawn_so_far (take w ys) ds) (drop-none k)
    ∙ ap (λ (ys : List ℕ). drawn_so_far ys ds) (take-none w)

-- earlier draws, one for each element, or none
module _ {E : Type 0} (w : ℕ) (xs : List ℕ) (es : List E) (b : ℕ) (inside : w * b < length es) where
  abbrev before : List ℕ
  before = take (w * b) xs

  abbrev block : List ℕ
  block = take w (drop (w * b) xs)

  same_block : length xs ≡ length es → length block ≡ length (take w (drop (w * b) es))
  same_block same = same_takes w (w * b) xs es same

  next_before : take (w * (b + 1)) xs ≡ before ++ block
  next_before = ap (λ n. take n xs) (next_begins w b) ∙ take-add (w * b) w xs

  block_so_far_length : (level : (xs ≡ []) ⊎ (length xs ≡ length es)) (ns : List ℕ) → length ns ≡ length (take w (drop (w * b) es))
      → length (drawn_so_far block ns) ≡ length ns
  block_so_far_length level ns next = (elim level as (λ l. length (drawn_so_far block ns) ≡ length ns) [
    | inl none ↦ ap length (plain_block w (w * b) xs ns none)
    | inr same ↦ let k : length block ≡ length ns = same_block same ∙ sym next in
        ap length (as_added block ns k) ∙ length-added block ns k ∙ k
  ])

  module _ (level : (xs ≡ []) ⊎ (length xs ≡ length es)) (ds ns : List ℕ) (whole : length ds ≡ w * b)
      (next : length ns ≡ length (take w (drop (w * b) es))) where
    so_far_length : length (drawn_so_far before ds) ≡ length ds
    so_far_length = (elim level as (λ l. length (drawn_so_far before ds) ≡ length ds) [
      | inl none ↦ ap length (plain (w * b) xs ds none)
      | inr same ↦ let n : length before ≡ length ds = omega (arith, length-take (w * b) xs, same, whole) in
          ap length (as_added before ds n) ∙ length-added before ds n ∙ n
    ])

    so_far_append : drawn_so_far (take (w * (b + 1)) xs) (ds ++ ns) ≡ drawn_so_far before ds ++ drawn_so_far block ns
    so_far_append = (elim level as (λ l.
        drawn_so_far (take (w * (b + 1)) xs) (ds ++ ns) ≡ drawn_so_far before ds ++ drawn_so_far block ns) [
          | inl none ↦ plain (w * (b + 1)) xs (ds ++ ns) none
              ∙ (λ i. sym (plain (w * b) xs ds none) i ++ sym (plain_block w (w * b) xs ns none) i)
          | inr same ↦ let n : length before ≡ length ds = omega (arith, length-take (w * b) xs, same, whole) in
              let k : length block ≡ length ns = same_block same ∙ sym next in
              let all : length (before ++ block) ≡ length (ds ++ ns) =
              omega (arith, length-append before block, length-append ds ns, n, k) in
              ap (λ (ys : List ℕ). drawn_so_far ys (ds ++ ns)) next_before ∙ as_added (before ++ block) (ds ++ ns) all
              ∙ added-append before block ds ns n
              ∙ (λ i. sym (as_added before ds n) i ++ sym (as_added block ns k) i)
        ])

module _ {S G E L P : Type 0} {m : Meaning S G E L P} {Covers : S → P → ℕ → Type 0} {Own : S → E → Type 0} {Fit : S → L → Type 0}
    (laws : JobLaws m Covers Own Fit) (t : PassValue S E L P) (ready : IsReady m Covers Own Fit t) where
  abbrev job : S
  job = t.job

  abbrev es : List E
  es = t.elements

  abbrev xs : List ℕ
  xs = t.earlier

  abbrev w : ℕ
  w = block_size (length t.elements)

  -- the elements that the blocks before b show, and block b
  module _ (b : ℕ) (inside : block_size (length t.elements) * b < length t.elements) (e : PassResult E P) (came : block_in m t b ≡ Ok e) where
    holds : Sums Covers Own t.job (length (in_block (length t.elements) b t.elements)) e
    holds = block_holds laws t ready b e came

    pub own_done : All (Own t.job) e.elements
    own_done = holds.own

    pub level_done : length e.draws ≡ length e.elements
    level_done = holds.drew ∙ sym holds.many

    pub few_done : All (λ draws. draws ≤ 65535) e.draws
    few_done = holds.few_drawn

    pub some_done : 0 < length e.elements
    some_done = let size = block_length laws t ready b in let n = some (length t.elements) in omega (arith, holds.many)

    pub few_elements : length e.elements ≤ 256
    few_elements = let size = block_length laws t ready b in let n = few (length t.elements) in omega (arith, holds.many)

    -- all elements are shown
    pub block_shown : length (shown_by m t b (block_in m t b)) ≡ length e.elements
    block_shown = ap (λ r. length (shown_by m t b r)) came
        ∙ length-shown m job e.elements (drawn_so_far (take w (drop (w * b) xs)) e.draws)
        (block_so_far_length w xs es b inside ready.level e.draws holds.drew ∙ level_done)

    -- earlier draws of the block
    module _ (same : length t.earlier ≡ length t.elements) where
      pub earlier_level : length (in_block (length t.elements) b t.earlier) ≡ length e.draws
      earlier_level = same_block w t.earlier t.elements b inside same ∙ sym holds.drew

      pub earlier_few : All (λ draws. draws ≤ 458745) (in_block (length t.elements) b t.earlier)
      earlier_few = let Few : ℕ → Type 0 = λ n. n ≤ 458745 in
          All-take Few w (drop (w * b) xs) (All-drop Few (w * b) xs ready.few_earlier)

      pub shows_sums : (draw_sums old new : List ℕ) → draw_sums ≡ added (in_block (length t.elements) b t.earlier) e.draws
          → AreSpelled (shown_with m t.job e.elements draw_sums) old new → AreSpelled (shown_by m t b (block_in m t b)) old new
      shows_sums draw_sums old new is spelled =
          let so_far : draw_sums ≡ drawn_so_far (take w (drop (w * b) xs)) e.draws = is ∙ sym (as_added _ e.draws earlier_level) in
          subst (λ r. AreSpelled (shown_by m t b r) old new) (sym came)
          (subst (λ (ds : List ℕ). AreSpelled (shown_with m job e.elements ds) old new) so_far spelled)

    pub shows_plain : (old new : List ℕ) → t.earlier ≡ []
        → AreSpelled (shown_with m t.job e.elements e.draws) old new → AreSpelled (shown_by m t b (block_in m t b)) old new
    shows_plain old new none spelled =
        subst (λ r. AreSpelled (shown_by m t b r) old new) (sym came)
        (subst (λ (ds : List ℕ). AreSpelled (shown_with m job e.elements ds) old new)
        (sym (plain_block w (w * b) xs e.draws none))
        spelled)

    -- after the elements before it
    module _ (d : PassResult E P) (is : first_in m t (block_size (length t.elements) * b) ≡ Ok d) where
      before_holds : Sums Covers Own t.job (w * b) d
      before_holds = first_hold laws t ready 0 (w * b) es d ready.own (omega arith) ready.few is

      so_far_level : length d.elements ≡ length (drawn_so_far (take (w * b) xs) d.draws)
      so_far_level = before_holds.many ∙ sym before_holds.drew
          ∙ sym (so_far_length w xs es b inside ready.level d.draws e.draws before_holds.drew holds.drew)

      shown_next : shown_before m t (w * (b + 1)) (d.elements ++ e.elements) (d.draws ++ e.draws)
          ≡ shown_before m t (w * b) d.elements d.draws ++ shown_by m t b (block_in m t b)
      shown_next = ap (shown_with m job (d.elements ++ e.elements))
          (so_far_append w xs es b inside ready.level d.draws e.draws before_holds.drew holds.drew)
          ∙ shown-append m job d.elements e.elements (drawn_so_far (take (w * b) xs) d.draws)
          (drawn_so_far (take w (drop (w * b) xs)) e.draws) so_far_level
          ∙ ap (λ r. shown_before m t (w * b) d.elements d.draws ++ shown_by m t b r) (sym came)

      -- one block more
      pub frame_next : frame_before m t (block_size (length t.elements) * (b + 1)) (d.elements ++ e.elements) (d.draws ++ e.draws)
          ≡ frame_before m t (block_size (length t.elements) * b) d.elements d.draws ++ shown_in m t b
      frame_next = elim t.shows as (λ s.
          (if s then shown_before m t (w * (b + 1)) (d.elements ++ e.elements) (d.draws ++ e.draws) else [])
          ≡ (if s then shown_before m t (w * b) d.elements d.draws else []) ++ (if s then shown_by m t b (block_in m t b) else [])) [
            | true ↦ shown_next
            | false ↦ refl
          ]

      pub frame_few : length (frame_before m t (block_size (length t.elements) * b) d.elements d.draws) + length (shown_in m t b) ≤ 65536
      frame_few = elim t.shows as (λ s. length (if s then shown_before m t (w * b) d.elements d.draws else [])
          + length (if s then shown_by m t b (block_in m t b) else []) ≤ 65536) [
            | true ↦ let size = block_length laws t ready b in omega (
              arith,
              ready.few,
              inside,
              holds.many,
              before_holds.many,
              length-shown m job d.elements (drawn_so_far (take (w * b) xs) d.draws) (sym so_far_level),
              block_shown,
            )
            | false ↦ omega arith
          ]

  -- before all elements
  pub frame_none : (d : PassResult E P) → d ≡ none_in m t
      → frame_before m t (block_size (length t.elements) * 0) d.elements d.draws ≡ []
  frame_none d is = (λ i. frame_before m t (none_before i) (is i).elements (is i).draws)
      ∙ (elim t.shows as (λ s. (if s then shown_before m t 0 [] [] else []) ≡ []) [ true ↦ refl | false ↦ refl ])
    where
      none_before : w * 0 ≡ 0
      none_before = omega arith

  -- all elements, which are before number n
  module _ (d : PassResult E P) (n : ℕ) (enough : length t.elements ≤ n) where
    all_earlier : take n t.earlier ≡ t.earlier
    all_earlier = elim ready.level as (λ l. take n t.earlier ≡ t.earlier) [
      | inl none ↦ take_all n t.earlier (omega (arith, ap length none))
      | inr same ↦ take_all n t.earlier (omega (arith, same, enough))
    ]

    -- if the pass shows its elements, the frame has all of them
    pub frame_all : (frame : List DrawnElement) → frame ≡ frame_before m t n d.elements d.draws → t.shows ≡ true
        → frame ≡ shown_with m t.job d.elements (drawn_so_far t.earlier d.draws)
    frame_all frame is shows = is ∙ ap (λ s. if s then shown_before m t n d.elements d.draws else []) shows
        ∙ ap (λ (ys : List ℕ). shown_with m job d.elements (drawn_so_far ys d.draws)) all_earlier

-- the same for equal values
pub own_same : {S E : Type 0} (Own : S → E → Type 0) (j k : S) (es fs : List E) → k ≡ j → fs ≡ es → All (Own j) es → All (Own k) fs
own_same {S} {E} Own j k es fs job elements own =
    subst (λ (l : S). All (Own l) fs) (sym job) (subst (λ (gs : List E). All (Own j) gs) (sym elements) own)

pub spelled_same : {S G E L P : Type 0} (m : Meaning S G E L P) (j k : S) (es fs : List E) (ds ns old new : List ℕ) → k ≡ j → fs ≡ es
    → ns ≡ ds
    → AreSpelled (shown_with m k fs ns) old new → AreSpelled (shown_with m j es ds) old new
spelled_same m j k es fs ds ns old new job elements draws spelled =
    subst (λ l. AreSpelled l old new) (λ i. shown_with m (job i) (elements i) (draws i)) spelled

pub both_ok : {T X : Type 0} (r : Result T X) (A B C : Type 0) → (A → B → C) → OnOk r A → OnOk r B → OnOk r C
both_ok (Ok x) A B C f a b = f a b
both_ok (Err e) A B C f a b = tt
