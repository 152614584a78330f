-- Elements added after the blocks of a container.
use Rattle.std.proofs.Common.{◌≡◌, ℕ, zero, suc, ◌+◌, ◌-◌, ◌*◌, ◌%◌, ◌<◌, ◌≤◌, List, [], ◌∷◌, ◌++◌, length, get_or, set, sym, ap, subst}
use Rattle.std.proofs.Common.{◌∙◌}
use Rattle.std.proofs.Common.{arith, length-append, append_assoc}
use Rattle.std.specs.Prelude.{Ok, Err}
use Rattle.std.specs.declared.vec.Vec.{Vec}
use Rattle.std.proofs.lemmas.List.{append-nil, length-map, map-set, map-append}
use Rattle.std.proofs.Math.Seq.{map-set_same}
use Rattle.det_values.specs.Blocks.{joined, IsBlock, AreBlocks, HasRoom, AreFull, block_items, Adds}
use Rattle.det_values.proofs.Blocking.{held_at, length-by_last}

module _ {E : Type 0} where
  -- the blocks with these elements after them
  pub record Behind (bs new : List (List E)) (es : List E) : Type 0 where
    pub blocks : AreBlocks new
    pub elements : joined new ≡ joined bs ++ es

  -- a longer list in place of the last
  pub last_grown : (bs : List (List E)) (k : ℕ) (es : List E) → suc k ≡ length bs → AreBlocks bs
      → length (get_or bs k []) + length es ≤ 256 → Behind bs (set bs k (get_or bs k [] ++ es)) es
  last_grown [] k es l h le = absurd (omega arith)
  last_grown (b ∷ []) zero es l h le =
      record {
        blocks = ((omega (arith, h.0.0, length-append b es), omega (arith, le, length-append b es)), tt);
        elements = append-nil (b ++ es) ∙ ap (λ (xs : List E). xs ++ es) (sym (append-nil b));
      }
  last_grown (b ∷ []) (suc k) es l h le = absurd (omega arith)
  last_grown (b ∷ c ∷ bs) zero es l h le = absurd (omega arith)
  last_grown (b ∷ c ∷ bs) (suc k) es l h le =
      let i = last_grown (c ∷ bs) k es (omega arith) h.1 le in
      record {
        blocks = (in_front (c ∷ bs) k (get_or (c ∷ bs) k [] ++ es) h.0, i.blocks);
        elements = ap (λ (xs : List E). b ++ xs) i.elements ∙ sym (append_assoc b (joined (c ∷ bs)) es);
      }
    where
      in_front : (cs : List (List E)) (j : ℕ) (x : List E) → IsBlock b cs → IsBlock b (set cs j x)
      in_front [] j x h = h
      in_front (d ∷ ds) zero x h = h
      in_front (d ∷ ds) (suc j) x h = h

  -- a new block after full ones
  pub behind_full : (bs : List (List E)) (es : List E) → AreFull bs → 0 < length es → length es ≤ 256 → Behind bs (bs ++ es ∷ []) es
  behind_full [] es h some few = record { blocks = ((some, few), tt); elements = append-nil es }
  behind_full (c ∷ bs) es h some few =
      let i = behind_full bs es h.1 some few in
      record {
        blocks = (in_front bs h.0, i.blocks);
        elements = ap (λ (xs : List E). c ++ xs) i.elements ∙ sym (append_assoc c (joined bs) es);
      }
    where
      in_front : (cs : List (List E)) → length c ≡ 256 → IsBlock c (cs ++ es ∷ [])
      in_front [] f = f
      in_front (d ∷ ds) f = f

  -- if the last block is full, all are
  pub all_full : (bs : List (List E)) (k : ℕ) → suc k ≡ length bs → AreBlocks bs → 256 ≤ length (get_or bs k []) → AreFull bs
  all_full [] k l h le = tt
  all_full (b ∷ []) zero l h le = (omega (arith, h.0, le), tt)
  all_full (b ∷ []) (suc k) l h le = absurd (omega arith)
  all_full (b ∷ c ∷ bs) zero l h le = absurd (omega arith)
  all_full (b ∷ c ∷ bs) (suc k) l h le = (h.0, all_full (c ∷ bs) k (omega arith) h.1 le)

  -- the same, as code does it

  pub last_extended : {Z : Type 0} (vs : List (Vec E Z)) (n : ℕ) (v w : Vec E Z) (es : List E) → n ≡ length vs → AreBlocks (block_items vs)
      → HasRoom (block_items vs) → length (joined (block_items vs)) % 256 + length es ≤ 256
      → v ≡ get_or vs (n - 1) v → w.items ≡ v.items ++ es → Behind (block_items vs) (block_items (set vs (n - 1) w)) es
  last_extended {Z} vs n v w es l h room fits at is =
      let items : Vec E Z → List E = λ (u : Vec E Z). u.items in
      let m : length (block_items vs) ≡ n = length-map vs items ∙ sym l in
      let b : v.items ≡ get_or (block_items vs) (n - 1) [] = held_at vs (n - 1) v (omega (arith, l, m, room.0)) at in
      let k : length (block_items vs) - 1 ≡ n - 1 = omega (arith, m) in
      let s : block_items (set vs (n - 1) w) ≡ set (block_items vs) (n - 1) (get_or (block_items vs) (n - 1) [] ++ es) = map-set items vs (n - 1) w
      ∙ ap (λ (xs : List E). set (block_items vs) (n - 1) xs) (is ∙ ap (λ (xs : List E). xs ++ es) b) in
      let r : length (get_or (block_items vs) (n - 1) []) < 256 =
      subst (λ (j : ℕ). length (get_or (block_items vs) j []) < 256) k room.1 in
      let whole : length (joined (block_items vs)) ≡ 256 * (n - 1) + length (get_or (block_items vs) (n - 1) []) =
      length-by_last (block_items vs) (n - 1) h (omega (arith, m, room.0)) in
      subst (λ (xs : List (List E)). Behind (block_items vs) xs es) (sym s)
      (last_grown (block_items vs) (n - 1) es (omega (arith, m, room.0)) h (omega (arith, fits, r, whole)))

  pub last_pushed : {Z : Type 0} (vs : List (Vec E Z)) (n : ℕ) (v w : Vec E Z) (e : E) → n ≡ length vs → AreBlocks (block_items vs)
      → HasRoom (block_items vs) → v ≡ get_or vs (n - 1) v → w.items ≡ v.items ++ e ∷ []
      → Behind (block_items vs) (block_items (set vs (n - 1) w)) (e ∷ [])
  last_pushed {Z} vs n v w e l h room at is = last_extended vs n v w (e ∷ []) l h room (omega arith) at is

  pub last_kept : {Z A F : Type 0} (f : F) (vs : List (Vec E Z)) (k : ℕ) (v w : Vec E Z) (es : List E) → AreBlocks (block_items vs)
      → v ≡ get_or vs k v → w.items ≡ v.items → Adds {A = A} (Err f) vs (set vs k w) es
  last_kept {Z} f vs k v w es h at is =
      let same : block_items (set vs k w) ≡ block_items vs =
      map-set_same (λ (u : Vec E Z). u.items) vs k w v (is ∙ ap (λ (u : Vec E Z). u.items) at) in
      record { blocks = subst AreBlocks (sym same) h; ok = tt; err = ap joined same }

  pub added : {Z A F : Type 0} (a : A) (vs new : List (Vec E Z)) (es : List E) → Behind (block_items vs) (block_items new) es
      → Adds {F = F} (Ok a) vs new es
  added a vs new es h = record { blocks = h.blocks; ok = h.elements; err = tt }

  pub block_behind : {Z : Type 0} (vs new : List (Vec E Z)) (b : Vec E Z) → AreFull (block_items vs) → 0 < length b.items
      → length b.items ≤ 256 → new ≡ vs ++ b ∷ [] → Behind (block_items vs) (block_items new) b.items
  block_behind {Z} vs new b full some few is =
      let s : block_items new ≡ block_items vs ++ b.items ∷ [] = ap block_items is ∙ map-append (λ (u : Vec E Z). u.items) vs (b ∷ []) in
      subst (λ (xs : List (List E)). Behind (block_items vs) xs b.items) (sym s) (behind_full (block_items vs) b.items full some few)

  pub block_pushed : {Z : Type 0} (vs new : List (Vec E Z)) (b : Vec E Z) (e : E) → AreFull (block_items vs) → new ≡ vs ++ b ∷ []
      → b.items ≡ e ∷ [] → Behind (block_items vs) (block_items new) (e ∷ [])
  block_pushed {Z} vs new b e full is one =
      subst (λ (xs : List E). Behind (block_items vs) (block_items new) xs) one
      (block_behind vs new b full (omega (arith, ap length one)) (omega (arith, ap length one)) is)

  pub full_then : {Z : Type 0} (vs : List (Vec E Z)) (n : ℕ) (v : Vec E Z) → n ≡ length vs → 0 < n → AreBlocks (block_items vs)
      → v ≡ get_or vs (n - 1) v → 256 ≤ length v.items → AreFull (block_items vs)
  full_then {Z} vs n v l lt h at le =
      let m : length (block_items vs) ≡ n = length-map vs (λ (u : Vec E Z). u.items) ∙ sym l in
      let b : v.items ≡ get_or (block_items vs) (n - 1) [] = held_at vs (n - 1) v (omega (arith, l)) at in
      all_full (block_items vs) (n - 1) (omega (arith, m)) h (omega (arith, ap length b, le))
