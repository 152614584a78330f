-- Laws of parts that may be None.
use Rattle.std.proofs.Common.{◌≡◌, ℕ, ◌+◌, ◌≤◌, Option, None, Some, refl, ap, arith}
use Rattle.job_shared.specs.Parts.{joined_by, covers_by, IsJoinable}

module _ {X : Type 0} (join : X → X → X) where
  pub right_unit : (part : Option X) → joined_by join part None ≡ part
  right_unit None = refl
  right_unit (Some x) = refl

  module _ (IsOf : X → ℕ → Type 0) (laws : IsJoinable join IsOf) where
    pub parts_assoc : (a b c : Option X) → joined_by join (joined_by join a b) c ≡ joined_by join a (joined_by join b c)
    parts_assoc None b c = refl
    parts_assoc (Some a) None c = refl
    parts_assoc (Some a) (Some b) None = refl
    parts_assoc (Some a) (Some b) (Some c) = ap Some (laws.assoc a b c)

    pub part_few : (part : Option X) (n : ℕ) → covers_by IsOf part n → n ≤ 65536
    part_few None n h = h
    part_few (Some x) n h = laws.few x n h

    pub part_joined : (left right : Option X) (a b : ℕ) → covers_by IsOf left a → covers_by IsOf right b → a + b ≤ 65536 →
        covers_by IsOf (joined_by join left right) (a + b)
    part_joined None None a b h k few = few
    part_joined None (Some r) a b h k few = laws.more r b (a + b) (omega arith) few k
    part_joined (Some l) None a b h k few = laws.more l a (a + b) (omega arith) few h
    part_joined (Some l) (Some r) a b h k few = laws.both l r a b h k few
