-- The blocks of a finished cycle's elements: one added, the last one changed, and the last one taken.
use Rattle.std.proofs.Common.{◌≡◌, ℕ, zero, suc, ◌+◌, ◌-◌, ◌<◌, ◌≤◌, List, [], ◌∷◌, ◌++◌, length, get_or, set, map, take, drop, refl, sym}
use Rattle.std.proofs.Common.{ap}
use Rattle.std.proofs.Common.{◌∙◌, arith, length-append, append_assoc}
use Rattle.std.proofs.lemmas.List.{append-nil, map-append, take_all, drop_all}
use Rattle.std.proofs.lemmas.Result.{on_ok_weaker}
use Rattle.std.specs.Prelude.{Result, Ok, Err, OnOk}
use Rattle.std.specs.List.{All}
use Rattle.det_values.specs.Blocks.{joined}
use Rattle.det_values.specs.declared.frames.DrawnElement.{DrawnElement}
use Rattle.det_values.specs.Spelling.{spelled_all, IsDrawn}
use Rattle.det_values.specs.Frames.{without_draws, all_without_draws}

module _ {E : Type 0} where
  pub joined_behind : (bs : List (List E)) (b : List E) → joined (bs ++ b ∷ []) ≡ joined bs ++ b
  joined_behind [] b = append-nil b
  joined_behind (c ∷ bs) b = ap (λ (xs : List E). c ++ xs) (joined_behind bs b) ∙ sym (append_assoc c (joined bs) b)

  -- the last block, made longer
  pub last_longer : (bs : List (List E)) (k : ℕ) (b more : List E) → suc k ≡ length bs → b ≡ get_or bs k b
      → joined (set bs k (b ++ more)) ≡ joined bs ++ more
  last_longer [] k b more l e = absurd (omega arith)
  last_longer (c ∷ []) zero b more l e =
      append-nil (b ++ more) ∙ ap (λ (xs : List E). xs ++ more) (e ∙ sym (append-nil c))
  last_longer (c ∷ []) (suc k) b more l e = absurd (omega arith)
  last_longer (c ∷ d ∷ bs) zero b more l e = absurd (omega arith)
  last_longer (c ∷ d ∷ bs) (suc k) b more l e =
      ap (λ (xs : List E). c ++ xs) (last_longer (d ∷ bs) k b more (omega arith) e)
      ∙ sym (append_assoc c (joined (d ∷ bs)) more)

  -- no block is longer than all
  within : (bs : List (List E)) (k : ℕ) (b : List E) → k < length bs → b ≡ get_or bs k b → length b ≤ length (joined bs)
  within [] k b lt e = absurd (omega arith)
  within (c ∷ bs) zero b lt e = omega (arith, ap length e, length-append c (joined bs))
  within (c ∷ bs) (suc k) b lt e = omega (arith, length-append c (joined bs), within bs k b (omega arith) e)

  pub last_within : (bs : List (List E)) (n m : ℕ) (b : List E) → 0 < length bs → n ≡ m → m ≡ length bs → b ≡ get_or bs (n - 1) b
      → length b ≤ length (joined bs)
  last_within bs n m b some l k e = within bs (n - 1) b (omega (arith, some, l, k)) e

  -- one block more, and the number of elements with it
  pub counted_behind : (new bs : List (List E)) (b : List E) (n m : ℕ) → new ≡ bs ++ b ∷ [] → n ≡ length (joined bs) → m ≡ length b
      → n + m ≡ length (joined new)
  counted_behind new bs b n m is c d =
      omega (
        arith,
        c,
        d,
        ap (λ (xs : List (List E)). length (joined xs)) is,
        ap length (joined_behind bs b),
        length-append (joined bs) b,
      )

  -- as code does it

  pub last_extended : {A Z : Type 0} (r : Result A Z) (bs : List (List E)) (n m : ℕ) (b new more : List E) → 0 < length bs → n ≡ m
      → m ≡ length bs → b ≡ get_or bs (n - 1) b → OnOk r (new ≡ b ++ more) → OnOk r (joined (set bs (n - 1) new) ≡ joined bs ++ more)
  last_extended {A} {Z} (Ok a) bs n m b new more some l k e h =
      ap (λ (xs : List E). joined (set bs (n - 1) xs)) h ∙ last_longer bs (n - 1) b more (omega (arith, some, l, k)) e
  last_extended {A} {Z} (Err z) bs n m b new more some l k e h = tt

pub last_extended_by : {A Z : Type 0} (r : Result A Z) (bs : List (List DrawnElement)) (n m : ℕ) (b new : List DrawnElement)
    (bytes : List ℕ) (count : ℕ) → 0 < length bs → n ≡ m → m ≡ length bs → b ≡ get_or bs (n - 1) b
    → OnOk r ((es : List DrawnElement) → bytes ≡ spelled_all es → length es ≡ count → All IsDrawn es → new ≡ b ++ es)
    → OnOk r ((es : List DrawnElement) → bytes ≡ spelled_all es → length es ≡ count → All IsDrawn es
    → joined (set bs (n - 1) new) ≡ joined bs ++ es)
last_extended_by r bs n m b new bytes count some l k e =
    on_ok_weaker r (λ h es s c f.
    ap (λ (xs : List DrawnElement). joined (set bs (n - 1) xs)) (h es s c f) ∙ last_longer bs (n - 1) b es (omega (arith, some, l, k)) e)

pub undrawn_joined : (bs : List (List DrawnElement)) → joined (map all_without_draws bs) ≡ all_without_draws (joined bs)
undrawn_joined [] = refl
undrawn_joined (b ∷ bs) = ap (λ (xs : List DrawnElement). all_without_draws b ++ xs) (undrawn_joined bs)
    ∙ sym (map-append without_draws b (joined bs))

pub all_blocks_undrawn : (bs new : List (List DrawnElement)) (i : ℕ) → length bs ≤ i
    → new ≡ map all_without_draws (take i bs) ++ drop i bs → joined new ≡ all_without_draws (joined bs)
all_blocks_undrawn bs new i le is =
    ap joined (is ∙ ap (λ (xs : List (List DrawnElement)). map all_without_draws (take i bs) ++ xs) (drop_all i bs le)
    ∙ append-nil (map all_without_draws (take i bs)) ∙ ap (map all_without_draws) (take_all i bs le)) ∙ undrawn_joined bs
