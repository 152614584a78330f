-- Tickets, their keeper, and the rule over both.
use Rattle.std.specs.Prelude.{◌≡◌, ℕ, ◌+◌, ◌≤◌, List, [], true, false}
use mathlib.Core.Option.{some}
use lib.ListN.{get_elem?}
use Rattle.atomic_table.specs.Seated.{TableId}
use Rattle.atomic_table.specs.Table.{State, Me, Step}
use Rattle.tickets.specs.declared.view.View.{View}

-- the name of no table
abbrev pub no_table : TableId
no_table = record {
  words = 0;
  slots = 0;
  views_name = 0;
  atom = 0;
  block = 0;
  offset = 0;
  slot_names = [];
}

-- a number, and the work that was announced with it
pub record Announced (T : Type 0) : Type 0 where
  pub number : ℕ
  pub work : List T

-- a seat's data in a step
abbrev pub Here : Type 0 → Type 0
Here T = Me (Unit {0}) (View T)

module _ {T : Type 0} where
  -- the keeper, before any work
  abbrev pub beginning : View T
  beginning = record { keeps = true; number = 0; work = []; claimed = 0; claim = [] }

  -- the keeper, with a number and its work
  abbrev pub keeper : ℕ → List T → View T
  keeper number work = record {
    keeps = true;
    number = number;
    work = work;
    claimed = number;
    claim = work;
  }

  -- a seat that knows only this number and work
  abbrev pub ticket_view : ℕ → List T → View T
  ticket_view number work = record {
    keeps = false;
    number = 0;
    work = [];
    claimed = number;
    claim = work;
  }

  abbrev pub ticket_of : View T → View T
  ticket_of v = ticket_view v.number v.work

  abbrev pub nobody : View T
  nobody = ticket_view 0 []

  -- the keeper with a ticket that it took back
  abbrev pub with_ticket : View T → View T → View T
  with_ticket v w = record {
    keeps = v.keeps;
    number = v.number;
    work = v.work;
    claimed = w.claimed;
    claim = w.claim;
  }

  -- there is one keeper at most, and its number and work are these
  abbrev pub Fits : ℕ → ℕ → List T → ℕ → View T → Type 0
  Fits seat number work by v =
      (v.keeps ≡ true → (by ≡ seat) × (v.number ≡ number) × (v.work ≡ work))
      × (v.claimed ≤ number) × (v.claimed ≡ number → (v.claim ≡ work))

  abbrev pub Ruled : State (Unit {0}) (View T) → Type 0
  Ruled s = (seat : ℕ) × (number : ℕ) × (work : List T) × (number ≡ 0 → [] ≡ work)
      × ((by : ℕ) (v : View T) → get_elem? s.views by ≡ some v → Fits seat number work by v)

  -- the keeper has the next number, for this work
  abbrev pub Announces : List T → Step (Unit {0}) → Here T → ℕ → Here T → Type 0
  Announces work st m n m' = m' ≡ (keeper (m.0.number + 1) work, m.1)

  -- a ticket of the keeper's number is for the keeper's work
  abbrev pub Checks : Step (Unit {0}) → Here T → ℕ → Here T → Type 0
  Checks st m n m' = (m' ≡ m) × (m.0.claimed ≡ m.0.number → m.0.claim ≡ m.0.work)
