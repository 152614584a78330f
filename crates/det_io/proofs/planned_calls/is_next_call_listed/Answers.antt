use Rattle.std.proofs.Common.{◌≡◌, ◌<◌, ◌+◌, ℕ, List, nat_eq, false, sym, get_or, arith}
use Rattle.std.proofs.lemmas.List.Elements.{All-from_get_or}
use Rattle.std.proofs.lemmas.List.Folds.{list_any_none}
use Rattle.det_io.specs.PlannedCalls.{is_listed}
use Rattle.det_io.proofs.planned_calls.is_next_call_listed.Goals as goal

differs : (n number : ℕ) → n < number → nat_eq n number ≡ false
differs n number h = grind (arith, h)

-- a number beyond all that a list can have isn't listed
beyond : (fails : List ℕ) (number : ℕ) → ((i : ℕ) → get_or fails i 0 < number) → is_listed fails number ≡ false
beyond fails number below = list_any_none (λ n. nat_eq n number) fails
    (All-from_get_or (λ n. nat_eq n number ≡ false) fails 0 (λ i h. differs _ number (below i)))

pub returns-in-None : goal.returns-in-None
returns-in-None c = sym (beyond c.args.fails.now (c.args.made + 1)
    (λ i. let fits = c.type_inv.fails i in let past = c.in-None.ensures in omega (arith, fits, past)))
