-- The items of a record, one read after another.
use Rattle.std.proofs.Common.{◌≡◌, ℕ, zero, suc, List, length, None, refl}
use Rattle.record_grammar.specs.declared.place.Place.{Place}
use Rattle.record_grammar.specs.declared.place.Place.TheVariants as places
use Rattle.record_grammar.specs.declared.item.Item.{Item}
use Rattle.record_grammar.specs.Read.{Read, Got, More, Bad}
use Rattle.record_grammar.specs.Grammar.{item_at}
use Rattle.record_grammar.specs.Places.{after}
use Rattle.record_grammar.specs.Leads.{Leads}
use Rattle.record_grammar.specs.Record.{fault, fault_from, ending_at, Decoded, Ending, whole, early, faulty}
use Rattle.record_grammar.specs.Record.{with_next, decoded, decoded_all}

-- what is decoded leads to a place, which is the end where the record is whole
record AllLead (place : Place) (bytes : List ℕ) (d : Decoded) : Type 0 where
  pub to : Place
  pub rest : List ℕ
  pub leads : Leads place bytes d.items to rest
  pub end : d.ending ≡ whole → to ≡ places.End

is_end : (place : Place) → ending_at place ≡ whole → place ≡ places.End
is_end places.Header e = absurd cc
is_end (places.Register layout) e = absurd cc
is_end (places.Discover layout) e = absurd cc
is_end (places.Init layout) e = absurd cc
is_end (places.Runs layout before) e = absurd cc
is_end places.End e = refl

lead_by : (n : ℕ) (place : Place) (bytes : List ℕ) → ((next : Place) (mid : List ℕ) → AllLead next mid (decoded n next mid))
    → (r : Read Item) → item_at place bytes ≡ r → AllLead place bytes (with_next place r (decoded n))
lead_by n place bytes on (Got x) is =
    let more = on (after place x.0) x.1 in
    record { to = more.to; rest = more.rest; leads = (x.1, is, more.leads); end = more.end }
lead_by n place bytes on More is = record { to = place; rest = bytes; leads = (refl, refl); end = is_end place }
lead_by n place bytes on (Bad reason left) is = record { to = place; rest = bytes; leads = (refl, refl); end = λ e. absurd cc }

all_lead : (n : ℕ) (place : Place) (bytes : List ℕ) → AllLead place bytes (decoded n place bytes)
unfolding decoded
all_lead zero place bytes = record { to = place; rest = bytes; leads = (refl, refl); end = λ e. absurd cc }
all_lead (suc n) place bytes = lead_by n place bytes (all_lead n) (item_at place bytes) refl

no_fault : (len : ℕ) (ending : Ending) → fault_from len ending ≡ None → ending ≡ whole
no_fault len whole e = refl
no_fault len early e = absurd cc
no_fault len (faulty reason left) e = absurd cc

-- all items of a record lead from its header to a place, which is the end where it has no fault
pub record ItemsLead (bytes : List ℕ) : Type 0 where
  pub to : Place
  pub rest : List ℕ
  pub leads : Leads places.Header bytes (decoded_all bytes).items to rest
  pub end : fault bytes ≡ None → to ≡ places.End

pub items_lead : (bytes : List ℕ) → ItemsLead bytes
items_lead bytes =
    let all = all_lead (suc (length bytes)) places.Header bytes in
    record {
      to = all.to;
      rest = all.rest;
      leads = all.leads;
      end = λ none. all.end (no_fault (length bytes) (decoded_all bytes).ending none);
    }
