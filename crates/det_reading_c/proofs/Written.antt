-- What was written is read.
use Rattle.std.proofs.Common.{◌≡◌, ℕ, List, ◌++◌, ap, subst, ◌∙◌, arith}
use Rattle.det_values.specs.Values.{ProfileValue}
use Rattle.record_grammar.specs.declared.place.Place.{Place}
use Rattle.record_grammar.specs.declared.place.Place.TheVariants as places
use Rattle.record_grammar.specs.declared.item.Item.{Item}
use Rattle.record_grammar.specs.declared.item.Item.TheVariants as items
use Rattle.record_grammar.specs.Read.{Read, Got}
use Rattle.record_grammar.specs.Grammar.{profile_at, item_at}
use Rattle.record_grammar.specs.Spelling.{IsHeader, spelled_header}
use Rattle.record_grammar.specs.Laws.{MayStand}
use Rattle.record_grammar.proofs.Steady.{bind_got, got_is}
use Rattle.record_view.proofs.Spelled.{spelling_read}
use Rattle.c_types.specs.Places.{place_of}
use Rattle.det_reading_c.specs.Answers.{IsFrameAnswer, IsHeaderAnswer}
use Rattle.det_reading_c.specs.Statements.{SpelledHeaderIsRead, SpelledFrameIsRead, frame_then}

same_profile : (p q : ProfileValue) → items.Header p ≡ items.Header q → p ≡ q
same_profile p q e = cc

header_read : (p : ProfileValue) (rest : List ℕ) → IsHeader p → profile_at (spelled_header p ++ rest) ≡ Got (p, rest)
unfolding item_at
header_read p rest h =
    let e = spelling_read places.Header (items.Header p) rest (omega arith) h in
    let b = bind_got (profile_at (spelled_header p ++ rest)) (λ x. Got (items.Header x.0, x.1)) (items.Header p, rest) e in
    let same = got_is {A = Item} (items.Header b.0.0, b.0.1) (items.Header p, rest) b.2 in
    let q : b.0.0 ≡ p = same_profile b.0.0 p (ap (λ (x : Item × List ℕ). x.0) same) in
    let r : b.0.1 ≡ rest = ap (λ (x : Item × List ℕ). x.1) same in
    b.1 ∙ ap (λ (x : ProfileValue). got x b.0.1) q ∙ ap (λ (xs : List ℕ). got p xs) r
  where
    got : ProfileValue → List ℕ → Read ProfileValue
    got p rest = Got (p, rest)

pub spelled_header_is_read : SpelledHeaderIsRead
spelled_header_is_read answer p rest old new at fields h =
    subst (λ (r : Read ProfileValue). IsHeaderAnswer answer r (spelled_header p ++ rest) old new) (header_read p rest fields) (h.read at)

pub spelled_frame_is_read : SpelledFrameIsRead
spelled_frame_is_read answer frame rest old new few may scanned h =
    let place = place_of old.reading.record in
    subst (λ (r : Read Item). IsFrameAnswer answer r (frame_then old frame rest) old new)
    (spelling_read place (items.Frame frame) rest few may)
    (h.read (λ e. subst (λ (p : Place). MayStand p (items.Frame frame)) e may) scanned)
