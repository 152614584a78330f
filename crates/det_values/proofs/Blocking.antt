-- The contents of a container's blocks: the length, the block and the element at an index.
use Rattle.std.proofs.Common.{◌≡◌, ℕ, zero, suc, ◌+◌, ◌*◌, ◌/◌, ◌%◌, ◌<◌, ◌≤◌, List, [], ◌∷◌, ◌++◌, length, take, drop, get_or, slice_range}
use Rattle.std.proofs.Common.{min, ◌-◌}
use Rattle.std.proofs.Common.{sym, ap, ◌∙◌, arith, length-append, length-drop}
use Rattle.std.specs.declared.vec.Vec.{Vec}
use Rattle.std.specs.Vec.{vec_len}
use Rattle.std.proofs.Math.Seq.{take-append_seam, drop-append-add}
use Rattle.std.proofs.lemmas.List.{append-nil, take_all, get_or-take, get_or-drop, get_or-map, length-take, length-map, take_min, take-take}
use Rattle.std.proofs.lemmas.List.{drop-take, drop-drop}
use Rattle.det_values.specs.Blocks.{joined, AreBlocks, block_items}

module _ {E : Type 0} where
  pub length-joined : (bs : List (List E)) → AreBlocks bs → length (joined bs) ≤ 256 * length bs
  length-joined [] h = omega arith
  length-joined (b ∷ []) h = omega (arith, h.0, length-append b [])
  length-joined (b ∷ c ∷ bs) h = omega (arith, h.0, length-append b (joined (c ∷ bs)), length-joined (c ∷ bs) h.1)

  pub before-last : (bs : List (List E)) (q : ℕ) → AreBlocks bs → q < length bs → 256 * q < length (joined bs)
  before-last [] q h lt = absurd (omega arith)
  before-last (b ∷ []) zero h lt = omega (arith, h.0, length-append b [])
  before-last (b ∷ []) (suc q) h lt = absurd (omega arith)
  before-last (b ∷ c ∷ bs) zero h lt = omega (arith, h.0, length-append b (joined (c ∷ bs)))
  before-last (b ∷ c ∷ bs) (suc q) h lt = let i : 256 * q < length (joined (c ∷ bs)) =
      before-last (c ∷ bs) q h.1 (omega arith) in omega (arith, h.0, length-append b (joined (c ∷ bs)))

  pub in_blocks : (bs : List (List E)) (q : ℕ) → AreBlocks bs → 256 * q < length (joined bs) → q < length bs
  in_blocks bs q h lt = omega (arith, length-joined bs h)

  -- block q is that part of the list
  pub block_is : (bs : List (List E)) (q : ℕ) → AreBlocks bs → q < length bs → get_or bs q [] ≡ take 256 (drop (256 * q) (joined bs))
  block_is [] q h lt = absurd (omega arith)
  block_is (b ∷ []) zero h lt = sym (ap (take 256) (append-nil b) ∙ take_all 256 b (omega (arith, h.0)))
  block_is (b ∷ []) (suc q) h lt = absurd (omega arith)
  block_is (b ∷ c ∷ bs) zero h lt = sym (ap (λ (n : ℕ). take n (b ++ joined (c ∷ bs))) (sym h.0) ∙ take-append_seam b (joined (c ∷ bs)))
  block_is (b ∷ c ∷ bs) (suc q) h lt =
      let n : 256 * suc q ≡ length b + 256 * q = omega (arith, h.0) in
      block_is (c ∷ bs) q h.1 (omega arith) ∙ ap (take 256)
      (sym (drop-append-add b (joined (c ∷ bs)) (256 * q)) ∙ ap (λ (k : ℕ). drop k (b ++ joined (c ∷ bs))) (sym n))

  pub in_block : (bs : List (List E)) (i : ℕ) → AreBlocks bs → i < length (joined bs) → i % 256 < length (get_or bs (i / 256) [])
  in_block bs i h lt =
      let q : i / 256 < length bs = in_blocks bs (i / 256) h (omega arith) in
      omega (
        arith,
        ap length (block_is bs (i / 256) h q),
        length-take 256 (drop (256 * (i / 256)) (joined bs)),
        length-drop (256 * (i / 256)) (joined bs),
      )

  pub element_is : (bs : List (List E)) (i : ℕ) (d : E) → AreBlocks bs → i < length (joined bs)
      → get_or (get_or bs (i / 256) []) (i % 256) d ≡ get_or (joined bs) i d
  element_is bs i d h lt =
      let q : i / 256 < length bs = in_blocks bs (i / 256) h (omega arith) in
      let n : 256 * (i / 256) + i % 256 ≡ i = omega arith in
      ap (λ (xs : List E). get_or xs (i % 256) d) (block_is bs (i / 256) h q)
      ∙ get_or-take 256 (drop (256 * (i / 256)) (joined bs)) (i % 256) d (omega arith)
      ∙ get_or-drop (256 * (i / 256)) (joined bs) (i % 256) d
      ∙ ap (λ (k : ℕ). get_or (joined bs) k d) n

  -- a block, as code reads it
  pub held_at : {Z : Type 0} (vs : List (Vec E Z)) (i : ℕ) (v : Vec E Z) → i < length vs → v ≡ get_or vs i v
      → v.items ≡ get_or (block_items vs) i []
  held_at {Z} vs i v lt e = ap (λ (w : Vec E Z). w.items) e ∙ sym (get_or-map (λ (w : Vec E Z). w.items) vs i v [] lt)

  pub count_is : {Z : Type 0} (v : Vec (Vec E Z) Z) (n : ℕ) → n ≡ vec_len v → n ≡ length (block_items v.items)
  count_is {Z} v n e = e ∙ v.ok.0 ∙ sym (length-map v.items (λ (w : Vec E Z). w.items))

  pub held_block : {Z : Type 0} (vs : List (Vec E Z)) (q : ℕ) (v : Vec E Z) → AreBlocks (block_items vs)
      → 256 * q < length (joined (block_items vs))
      → v ≡ get_or vs q v → v.items ≡ take 256 (drop (256 * q) (joined (block_items vs)))
  held_block {Z} vs q v h lt e =
      let k : q < length (block_items vs) = in_blocks (block_items vs) q h lt in
      held_at vs q v (omega (arith, k, length-map vs (λ (w : Vec E Z). w.items))) e ∙ block_is (block_items vs) q h k

  pub held_room : {Z : Type 0} (vs : List (Vec E Z)) (i : ℕ) (v : Vec E Z) → AreBlocks (block_items vs)
      → i < length (joined (block_items vs))
      → v ≡ get_or vs (i / 256) v → i % 256 < vec_len v
  held_room {Z} vs i v h lt e =
      let k : i / 256 < length (block_items vs) = in_blocks (block_items vs) (i / 256) h (omega arith) in
      let w : v.items ≡ get_or (block_items vs) (i / 256) [] =
      held_at vs (i / 256) v (omega (arith, k, length-map vs (λ (u : Vec E Z). u.items))) e in
      omega (arith, v.ok.0, ap length w, in_block (block_items vs) i h lt)

  pub held_element : {Z : Type 0} (vs : List (Vec E Z)) (i : ℕ) (v : Vec E Z) (x : E) → AreBlocks (block_items vs)
      → i < length (joined (block_items vs)) → v ≡ get_or vs (i / 256) v → x ≡ get_or v.items (i % 256) x
      → x ≡ get_or (joined (block_items vs)) i x
  held_element {Z} vs i v x h lt e f =
      let k : i / 256 < length (block_items vs) = in_blocks (block_items vs) (i / 256) h (omega arith) in
      let w : v.items ≡ get_or (block_items vs) (i / 256) [] =
      held_at vs (i / 256) v (omega (arith, k, length-map vs (λ (u : Vec E Z). u.items))) e in
      f ∙ ap (λ (ys : List E). get_or ys (i % 256) x) w ∙ element_is (block_items vs) i x h lt

  -- the items of a block from an index on
  pub part_is : (bs : List (List E)) (first most : ℕ) (block : List E) → AreBlocks bs → first < length (joined bs)
      → first % 256 + most ≤ 256 → block ≡ get_or bs (first / 256) []
      → slice_range block (first % 256) (min (length block) (first % 256 + most)) ≡ take most (drop first (joined bs))
  part_is bs first most block h lt fits is =
      let at : ℕ = first % 256 in
      let xs : List E = joined bs in
      let ys : List E = drop first xs in
      let b : block ≡ take 256 (drop (256 * (first / 256)) xs) = is ∙ block_is bs (first / 256) h (in_blocks bs (first / 256) h (omega arith)) in
      let whole : 256 ≡ at + (256 - at) = omega arith in
      let sum : 256 * (first / 256) + at ≡ first = omega arith in
      let rest : drop at block ≡ take (256 - at) ys =
      ap (drop at) (b ∙ ap (λ (k : ℕ). take k (drop (256 * (first / 256)) xs)) whole)
      ∙ drop-take at (256 - at) (drop (256 * (first / 256)) xs)
      ∙ ap (take (256 - at)) (drop-drop at (256 * (first / 256)) xs ∙ ap (λ (k : ℕ). drop k xs) sum) in
      let long : length block ≡ min 256 (length xs - 256 * (first / 256)) = omega (
        arith,
        ap length b,
        length-take 256 (drop (256 * (first / 256)) xs),
        length-drop (256 * (first / 256)) xs,
      ) in
      let left : length ys ≡ length xs - first = length-drop first xs in
      let n : ℕ = min (length block) (at + most) - at in
      ap (take n) rest ∙ take-take n (256 - at) ys (omega (arith, long)) ∙ enough n most ys (omega (arith, long, left, lt, fits))
    where
      -- two numbers that are the same, or none of them below the length
      enough : (n m : ℕ) (zs : List E) → min n (length zs) ≡ min m (length zs) → take n zs ≡ take m zs
      enough n m zs e = sym (take_min n zs) ∙ ap (λ (k : ℕ). take k zs) e ∙ take_min m zs

  -- the length, by the number of blocks and the last of them
  pub length-by_last : (bs : List (List E)) (k : ℕ) → AreBlocks bs → suc k ≡ length bs
      → length (joined bs) ≡ 256 * k + length (get_or bs k [])
  length-by_last [] k h l = absurd (omega arith)
  length-by_last (b ∷ []) zero h l = omega (arith, length-append b [])
  length-by_last (b ∷ []) (suc k) h l = absurd (omega arith)
  length-by_last (b ∷ c ∷ bs) zero h l = absurd (omega arith)
  length-by_last (b ∷ c ∷ bs) (suc k) h l = omega (
    arith,
    h.0,
    length-append b (joined (c ∷ bs)),
    length-by_last (c ∷ bs) k h.1 (omega arith),
  )

  pub held_length : {Z : Type 0} (vs : List (Vec E Z)) (n k : ℕ) (v : Vec E Z) → n ≡ length vs → 0 < n → AreBlocks (block_items vs)
      → v ≡ get_or vs (n - 1) v → k ≡ vec_len v → length (joined (block_items vs)) ≡ 256 * (n - 1) + k
  held_length {Z} vs n k v l lt h at len =
      let m : length (block_items vs) ≡ n = length-map vs (λ (u : Vec E Z). u.items) ∙ sym l in
      let b : v.items ≡ get_or (block_items vs) (n - 1) [] = held_at vs (n - 1) v (omega (arith, l)) at in
      omega (arith, len, v.ok.0, length-by_last (block_items vs) (n - 1) h (omega (arith, m)), ap length b)

  pub held_before : {Z : Type 0} (vs : List (Vec E Z)) (n : ℕ) → n ≡ length vs → 0 < n → AreBlocks (block_items vs)
      → 256 * (n - 1) < length (joined (block_items vs))
  held_before {Z} vs n l lt h = before-last (block_items vs) (n - 1) h (omega (arith, l, length-map vs (λ (u : Vec E Z). u.items)))
