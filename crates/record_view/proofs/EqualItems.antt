-- Equal items have equal bytes, and the other way round.
use Rattle.std.proofs.Common.{◌≡◌, ◌≤◌, ℕ, List, [], ◌∷◌, length, take, refl, sym, ap, subst, ◌∙◌}
use Rattle.std.proofs.lemmas.List.{append-nil}
use Rattle.record_grammar.specs.Laws.{item_spelling}
use Rattle.record_grammar.proofs.lemmas.record_laws.InPlaces.{few_fit}
use Rattle.record_grammar.proofs.lemmas.record_laws.OneSpelling.{one_spelling}
use Rattle.record_grammar.specs.declared.place.Place.{Place}
use Rattle.record_grammar.specs.declared.item.Item.{Item}
use Rattle.record_grammar.specs.Spelling.{AreBytes}
use Rattle.record_view.specs.declared.view.ItemView.{ItemView}
use Rattle.record_view.specs.Shows.{Shows, IsSpelling, events_of}
use Rattle.record_view.specs.Laws.{SpanIsSpelling, EqualItems}
use Rattle.record_view.proofs.Spelled.{few_of, front_spells}

pub span_is_spelling : SpanIsSpelling
span_is_spelling place span bytes item few are h = front_spells place item span.len bytes few are h.within h.read

pub equal_items : EqualItems
equal_items place one other xs ys x y few are_x are_y hx hy =
    let f = front_spells place x one.len xs few are_x hx.within hx.read in
    let g = front_spells place y other.len ys few are_y hy.within hy.read in (
      λ e. f.1 ∙ ap (item_spelling place) e ∙ sym g.1,
      λ e. (one_spelling place x y [] [] (few_fit place (few_of place few)) f.0 g.0
          (append-nil (item_spelling place x) ∙ sym f.1 ∙ e ∙ g.1 ∙ sym (append-nil (item_spelling place y)))).0,
    )

take_all : (bytes : List ℕ) → take (length bytes) bytes ≡ bytes
take_all [] = refl
take_all (b ∷ bytes) = ap (λ (xs : List ℕ). b ∷ xs) (take_all bytes)

pub take_whole : (n : ℕ) (bytes : List ℕ) → length bytes ≡ n → take n bytes ≡ bytes
take_whole n bytes e = ap (λ (m : ℕ). take m bytes) (sym e) ∙ take_all bytes

-- two items in one place are equal where all their bytes are, and the other way round
pub spellings_equal : (one other : ItemView) (xs ys : List ℕ) (x y : Item) → one.place ≡ other.place → events_of one.place ≤ 65536
    → AreBytes xs → AreBytes ys → IsSpelling one x xs → IsSpelling other y ys → (x ≡ y → xs ≡ ys) × (xs ≡ ys → x ≡ y)
spellings_equal one other xs ys x y place few are_x are_y h k =
    let there : Shows one.place other.span ys y = subst (λ (p : Place). Shows p other.span ys y) (sym place) k.shows in
    let both = equal_items one.place one.span other.span xs ys x y few are_x are_y h.shows there in (
      λ e. sym (take_whole one.span.len xs h.exact) ∙ both.0 e ∙ take_whole other.span.len ys k.exact,
      λ e. both.1 (take_whole one.span.len xs h.exact ∙ e ∙ sym (take_whole other.span.len ys k.exact)),
    )
