-- Laws of the verdict.
use Rattle.std.specs.Prelude.{◌≡◌, ℕ, ◌↔◌, List, ◌∷◌, None, Ok}
use Rattle.std.specs.List.{AllByRecursion}
use Rattle.record_grammar.specs.Record.{items, fault}
use Rattle.record_grammar.specs.Spelling.{AreBytes}
use Rattle.record_reader.specs.Salvaged.{cycles_of}
use Rattle.copies.specs.declared.verdict.Verdict.TheVariants.{Agree}
use Rattle.copies.specs.Verdict.{verdict}

-- all copies are one whole record with this number of cycles
pub record AreOneRecord (first : List ℕ) (others : List (List ℕ)) (cycles : ℕ) : Type 0 where
  pub whole : fault first ≡ None
  pub same : AllByRecursion (λ copy. copy ≡ first) others
  pub count : cycles ≡ cycles_of (items first)

-- the verdict on copies is that they agree exactly where they are one whole record
abbrev pub Agreeing : Type 0
Agreeing =
    (first : List ℕ) (others : List (List ℕ)) (cycles : ℕ)
    → AllByRecursion AreBytes (first ∷ others)
    → (verdict (first ∷ others) ≡ Ok (Agree cycles)) ↔ AreOneRecord first others cycles
