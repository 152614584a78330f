-- The lists of words with which a lane starts its children.
use Rattle.std.proofs.Common.{◌≡◌, ◌<◌, ◌≤◌, ℕ, zero, suc, ◌+◌, ◌-◌, List, [], ◌∷◌, ◌++◌, length, get_or, refl, sym, ap, ◌∙◌, subst}
use Rattle.std.proofs.Common.{append_assoc, arith}
use Rattle.std.specs.Prelude.{IsSome}
use Rattle.std.proofs.lemmas.List.{append-nil}
use Rattle.det_io.specs.Prefix.{IsPrefix}
use Rattle.det_io.proofs.Prefixes.{prefix-behind, prefix-then}
use Rattle.lane.specs.child_processes.Spawners.{SpawnerState, Words, Asks}
use Rattle.lane.specs.Children.{AsksPrefix}
use Rattle.lane.specs.Outcome.{KnowsChildren}
use Rattle.lane.specs.Words.{LaneValue, child_words, words_from}

-- ---- calls one after another

-- a spawner that stays was asked for no child
pub asks-kept : {before after : SpawnerState} → after.asked ≡ before.asked → Asks before after []
asks-kept same = record { told = λ all h. (all, sym same ∙ h, append-nil all) }

-- lists asked for one after another are asked for in this order
pub asks-then : {before mid after : SpawnerState} {a b : List Words} → Asks before mid a → Asks mid after b → Asks before after (a ++ b)
asks-then {a = a} {b = b} p q = record {
  told = λ all h.
      let later = q.told all h in
      let earlier = p.told later.0 later.1 in
      (earlier.0, earlier.1, sym (append_assoc earlier.0 a b) ∙ ap (λ l. l ++ b) earlier.2 ∙ later.2);
}

-- what only reads and ends children asks for no more of them
pub asks-prefix-kept : {before mid after : SpawnerState} {lists : List Words} → AsksPrefix before mid lists
    → after.asked ≡ mid.asked → AsksPrefix before after lists
asks-prefix-kept p same = (p.0, p.1, record { told = λ all h. p.2.told all (sym same ∙ h) })

-- ---- the words of children in a row

-- the words of the first children, and those of the next
words-add : (lane : LaneValue) (k a b : ℕ) → words_from lane k (a + b) ≡ words_from lane k a ++ words_from lane (k + a) b
unfolding words_from
words-add lane k zero b =
    let none : zero + b ≡ b = omega arith in
    let same : k ≡ k + zero = omega arith in
    ap (words_from lane k) none ∙ ap (λ m. words_from lane m b) same
words-add lane k (suc a) b =
    let one : suc a + b ≡ suc (a + b) = omega arith in
    let same : k + 1 + a ≡ k + suc a = omega arith in
    ap (words_from lane k) one ∙ ap (λ ws. child_words lane k ∷ ws) (words-add lane (k + 1) a b)
    ∙ ap (λ m. child_words lane k ∷ (words_from lane (k + 1) a ++ words_from lane m b)) same

words-one : (lane : LaneValue) (k : ℕ) → words_from lane k 1 ≡ child_words lane k ∷ []
unfolding words_from
words-one lane k = refl

-- the words of one child more
pub words-next : (lane : LaneValue) (n : ℕ) → words_from lane 0 (n + 1) ≡ words_from lane 0 n ++ child_words lane n ∷ []
words-next lane n =
    let same : 0 + n ≡ n = omega arith in
    words-add lane 0 n 1 ∙ ap (λ m. words_from lane 0 n ++ words_from lane m 1) same
    ∙ ap (λ ws. words_from lane 0 n ++ ws) (words-one lane n)

-- the words of the first children come first
words-first : (lane : LaneValue) (a n : ℕ) → a ≤ n → IsPrefix (words_from lane 0 a) (words_from lane 0 n)
words-first lane a n h =
    let all : a + (n - a) ≡ n = omega arith in
    (words_from lane (0 + a) (n - a), sym (words-add lane 0 a (n - a)) ∙ ap (words_from lane 0) all)

pub words-none : (lane : LaneValue) → words_from lane 0 0 ≡ []
unfolding words_from
words-none lane = refl

-- one child more was started
pub asks-next : {first mid last : SpawnerState} (lane : LaneValue) (i : ℕ) → Asks first mid (words_from lane 0 i)
    → Asks mid last (child_words lane i ∷ []) → Asks first last (words_from lane 0 (i + 1))
asks-next {first = first} {last = last} lane i p q = subst (Asks first last) (sym (words-next lane i)) (asks-then p q)

-- one child more could not be started
pub asks-stop : {first mid last : SpawnerState} (lane : LaneValue) (i n : ℕ) → i < n → Asks first mid (words_from lane 0 i)
    → AsksPrefix mid last (child_words lane i ∷ []) → AsksPrefix first last (words_from lane 0 n)
asks-stop lane i n h p q =
    let behind : IsPrefix (words_from lane 0 i ++ q.0) (words_from lane 0 (i + 1)) =
    subst (IsPrefix (words_from lane 0 i ++ q.0)) (sym (words-next lane i))
    (prefix-behind (words_from lane 0 i) q.0 (child_words lane i ∷ []) q.1) in (
      words_from lane 0 i ++ q.0,
      prefix-then _ (words_from lane 0 (i + 1)) (words_from lane 0 n) behind (words-first lane (i + 1) n (omega arith)),
      asks-then p q.2,
    )

-- ---- what is told of each child

pub words-long : (lane : LaneValue) (k n : ℕ) → length (words_from lane k n) ≡ n
unfolding words_from
words-long lane k zero = refl
words-long lane k (suc n) = ap suc (words-long lane (k + 1) n)

words-at : (lane : LaneValue) (k n j : ℕ) (d : Words) → j < n → get_or (words_from lane k n) j d ≡ child_words lane (k + j)
unfolding words_from
words-at lane k zero j d h = absurd (omega arith)
words-at lane k (suc n) zero d h = let same : k ≡ k + zero = omega arith in ap (child_words lane) same
words-at lane k (suc n) (suc j) d h =
    let same : k + 1 + j ≡ k + suc j = omega arith in
    words-at lane (k + 1) n j d (omega arith) ∙ ap (child_words lane) same

-- if all is known of the children's arguments, it is known of those of each child
pub is_known-at : (first : SpawnerState) (lane : LaneValue) (n k : ℕ) → k < n → KnowsChildren first (words_from lane 0 n)
    → IsSome (first.gives (child_words lane k)) × IsSome (first.ends (child_words lane k))
is_known-at first lane n k h t =
    let same : 0 + k ≡ k = omega arith in
    let within : k < length (words_from lane 0 n) = (let long = words-long lane 0 n in omega arith) in
    subst (λ w. IsSome (first.gives w) × IsSome (first.ends w)) (words-at lane 0 n k [] h ∙ ap (child_words lane) same)
    (t k [] within)
