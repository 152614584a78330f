-- The result of reading a value from the front of some bytes.
use Rattle.std.specs.Prelude.{ℕ, zero, suc, List, [], ◌∷◌, ◌++◌, length, take, drop, nat_lt}
use Rattle.std.specs.Prelude.{if◌then◌else◌}
use Rattle.record_grammar.specs.declared.record_fault.Reason.{Reason}

pub data Read (A : Type 0) : Type 0 where
  -- a value, and the bytes after it
  Got : A × List ℕ → Read A
  -- the bytes begin a value, but end too early
  More : Read A
  -- No value begins with these bytes. The number counts the bytes from the first faulty one to the
  -- end.
  Bad : Reason → ℕ → Read A

-- reading one value after another
infixl 10 ◌>>=◌
abbrev pub ◌>>=◌ : {A B : Type 0} → Read A → (A × List ℕ → Read B) → Read B
(Got x) >>= f = f x
More >>= f = More
(Bad reason left) >>= f = Bad reason left

-- n bytes, whatever they are
unfoldable pub raw_at : ℕ → List ℕ → Read (List ℕ)
raw_at n bytes = if nat_lt (length bytes) n then More else Got (take n bytes, drop n bytes)

-- n values, one after another
unfoldable pub many : {A : Type 0} → (List ℕ → Read A) → ℕ → List ℕ → Read (List A)
many item zero bytes = Got ([], bytes)
many item (suc n) bytes = do
  first ← item bytes
  others ← many item n first.1
  Got (first.0 ∷ others.0, others.1)

-- these values, and then those that are read
abbrev pub with_front : {A : Type 0} → List A → Read (List A) → Read (List A)
with_front front read = read >>= λ x. Got (front ++ x.0, x.1)
