-- The first of a list that passes a test, found one by one.
use Rattle.std.proofs.Common.{◌≡◌, ◌+◌, ◌<◌, ℕ, List, length, get_or, drop, Bool, false, cond, ap, ◌∙◌}
use Rattle.std.specs.Prelude.{Option, Some, find}
use Rattle.std.proofs.lemmas.List.{at_drop_more}

-- an element that fails the test is left out
pub find-more : {X : Type 0} (p : X → Bool) (xs : List X) (whole : Option X) (i : ℕ) (d : X) → i < length xs
    → whole ≡ find p (drop i xs) → p (get_or xs i d) ≡ false → whole ≡ find p (drop (i + 1) xs)
find-more {X} p xs whole i d within is fails =
    is ∙ at_drop_more (find p) xs i d within ∙ ap (λ (b : Bool). cond b (Some (get_or xs i d)) (find p (drop (i + 1) xs))) fails
