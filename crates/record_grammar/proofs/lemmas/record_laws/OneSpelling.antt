-- One place, one spelling.
use Rattle.std.proofs.Common.{◌≡◌, ℕ, List, sym, ap, subst, ◌∙◌}
use Rattle.record_grammar.specs.declared.place.Place.{Place}
use Rattle.record_grammar.specs.declared.place.Place.TheVariants as places
use Rattle.record_grammar.specs.declared.item.Item.{Item}
use Rattle.record_grammar.specs.Grammar.{item_at}
use Rattle.record_grammar.specs.Laws.{MayStand}
use Rattle.record_grammar.proofs.Steady.{got_is}
use Rattle.record_grammar.specs.record_laws.Statements.{OneSpelling}
use Rattle.record_grammar.proofs.lemmas.record_laws.LawfulItems.{item_lawful}

-- nothing comes after the end
pub not_end : (place : Place) (x : Item) → MayStand place x → place ≡ places.End → ⊥
not_end place x h e = subst (λ (p : Place). MayStand p x) e h

pub one_spelling : OneSpelling
one_spelling place a b x y fit fa fb e =
    let l = item_lawful place (not_end place a fa) fit in
    let p = got_is (a, x) (b, y) (sym (l.again a x fa) ∙ ap (item_at place) e ∙ l.again b y fb) in
    (ap (λ (q : Item × List ℕ). q.0) p, ap (λ (q : Item × List ℕ). q.1) p)
