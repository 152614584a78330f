-- Reading one item after another.
use Rattle.std.specs.Prelude.{◌≡◌, ℕ, List, [], ◌∷◌}
use Rattle.record_grammar.specs.declared.place.Place.{Place}
use Rattle.record_grammar.specs.declared.item.Item.{Item}
use Rattle.record_grammar.specs.Read.{Got}
use Rattle.record_grammar.specs.Grammar.{item_at}
use Rattle.record_grammar.specs.Places.{after}

-- reading these items leads from a place and bytes to another place and the rest of the bytes
abbrev pub Leads : Place → List ℕ → List Item → Place → List ℕ → Type 0
Leads place bytes [] to rest = (place ≡ to) × (bytes ≡ rest)
Leads place bytes (x ∷ xs) to rest =
    (mid : List ℕ) × (item_at place bytes ≡ Got (x, mid)) × Leads (after place x) mid xs to rest
