-- A row of a copy, compared with the row of copy 0.
use Rattle.std.proofs.Common.{◌≡◌, ◌-◌, ℕ, List, length, Option, Some, None, refl, sym, ap, subst, ◌∙◌}
use Rattle.record_grammar.specs.declared.item.Item.{Item}
use Rattle.record_grammar.specs.declared.item.Item.TheVariants as items
use Rattle.record_view.specs.declared.view.ItemView.{ItemView}
use Rattle.record_reader.specs.declared.item_reader.reader.ItemReader.{ItemReader}
use Rattle.record_reader.specs.declared.item_reader.comparison.Comparison.{Comparison}
use Rattle.record_reader.specs.declared.item_reader.comparison.Comparison.TheVariants as likes
use Rattle.copies.specs.declared.difference.Difference.{Difference}
use Rattle.copies.specs.declared.difference.Difference.TheVariants as differences
use Rattle.copies.specs.declared.row.Row.TheVariants as rows
use Rattle.copies.specs.Verdict.{row_difference}
use Rattle.copies.specs.ItemRows.{IsHeldAs, IsSpelledBy}
use Rattle.copies.specs.Copies.{row_of, LikeHeld, OtherIsHeld, DifferenceIs, end_difference}
use Rattle.copies.proofs.Judging.{item-apart}

pub other-is-held : (like : Comparison) (ours : Item) (reader : ItemReader) (item : Option Item) → LikeHeld like ours reader item
    → OtherIsHeld like reader
other-is-held likes.Same ours reader item h = tt
other-is-held (likes.Other None) ours reader item h = tt
other-is-held (likes.Other (Some view)) ours reader (Some item) h = (item, h)
other-is-held (likes.Other (Some view)) ours reader None h = absurd h

no-item : (n : ℕ) (ours : Item) → row_difference n (rows.Item ours) rows.Whole ≡ Some (differences.Kind (n - 1))
no-item n (items.Header p) = refl
no-item n (items.Frame f) = refl

held-at : (n : ℕ) (like : Comparison) (ours : Item) (reader : ItemReader) (item : Option Item) (found : Option Difference)
    → LikeHeld like ours reader item → DifferenceIs found n ours like reader → found ≡ row_difference n (rows.Item ours) (row_of item)
held-at n likes.Same ours reader item found h is =
    is ∙ sym (ap (λ o. row_difference n (rows.Item ours) (row_of o)) h ∙ (item-apart n ours (rows.Item ours)).1 refl)
held-at n (likes.Other None) ours reader None found h is = is ∙ sym (no-item n ours)
held-at n (likes.Other (Some view)) ours reader (Some item) found h is = is item h
held-at n (likes.Other None) ours reader (Some item) found h is = absurd h
held-at n (likes.Other (Some view)) ours reader None found h is = absurd h

pub like-held : (n : ℕ) (like : Comparison) (ours : Item) (reader : ItemReader) (item : Option Item) (found : Option Difference)
    (given : List Item) → LikeHeld like ours reader item → DifferenceIs found n ours like reader → n ≡ length given
    → found ≡ row_difference (length given) (rows.Item ours) (row_of item)
like-held n like ours reader item found given h is row =
    subst (λ k. found ≡ row_difference k (rows.Item ours) (row_of item)) row (held-at n like ours reader item found h is)

end-at : (n : ℕ) (next : Option ItemView) (reader : ItemReader) (ours item : Option Item) (bytes : List ℕ) → IsHeldAs next reader item
    → IsSpelledBy None bytes ours → end_difference n next ≡ row_difference n (row_of ours) (row_of item)
end-at n (Some view) reader None (Some item) bytes h spelled = refl
end-at n None reader None None bytes h spelled = refl
end-at n next reader (Some ours) item bytes h spelled = absurd spelled
end-at n (Some view) reader None None bytes h spelled = absurd h
end-at n None reader None (Some item) bytes h spelled = absurd h

pub end-held : (n : ℕ) (next : Option ItemView) (reader : ItemReader) (ours item : Option Item) (bytes : List ℕ)
    (found : Option Difference) (given : List Item) → IsHeldAs next reader item → IsSpelledBy None bytes ours
    → found ≡ end_difference n next → n ≡ length given → found ≡ row_difference (length given) (row_of ours) (row_of item)
end-held n next reader ours item bytes found given h spelled is row =
    is ∙ subst (λ k. end_difference n next ≡ row_difference k (row_of ours) (row_of item)) row
    (end-at n next reader ours item bytes h spelled)
