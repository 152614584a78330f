-- Parts made of values that come from at least one element. None is the part of no element.
use Rattle.std.specs.Prelude.{◌≡◌, ℕ, ◌+◌, ◌≤◌, Option, None, Some}

-- both parts joined; if one is None, the other
abbrev pub joined_by : {X : Type 0} → (X → X → X) → Option X → Option X → Option X
joined_by join None right = right
joined_by join (Some left) None = Some left
joined_by join (Some left) (Some right) = Some (join left right)

-- a part may come from n elements
abbrev pub covers_by : {X : Type 0} → (X → ℕ → Type 0) → Option X → ℕ → Type 0
covers_by IsOf None n = n ≤ 65536
covers_by IsOf (Some x) n = IsOf x n

-- joining is associative, and covers the elements of both; a value of n elements may be of more
pub record IsJoinable {X : Type 0} (join : X → X → X) (IsOf : X → ℕ → Type 0) : Type 0 where
  pub assoc : (a b c : X) → join (join a b) c ≡ join a (join b c)
  pub few : (x : X) (n : ℕ) → IsOf x n → n ≤ 65536
  pub more : (x : X) (n m : ℕ) → n ≤ m → m ≤ 65536 → IsOf x n → IsOf x m
  pub both : (left right : X) (a b : ℕ) → IsOf left a → IsOf right b → a + b ≤ 65536
      → IsOf (join left right) (a + b)
