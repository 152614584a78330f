-- Bytes that are put one after another.
use Rattle.std.proofs.Common.{◌≡◌, ℕ, ◌+◌, ◌<◌, ◌≤◌, List, [], ◌∷◌, ◌++◌, length, take, drop, get_or, sym, ap, subst, ◌∙◌, arith}
use Rattle.std.proofs.Common.{append_assoc, length-append}
use Rattle.std.proofs.lemmas.List.{append-nil, take-append-drop, take_at, drop_at, drop-drop, length-take-le, take_all, take_more}
use Rattle.std.proofs.lemmas.List.Elements.{All-push, All-nil}
use Rattle.std.proofs.lemmas.Grind.{flat_map-append}
use Rattle.std.specs.List.{flat_map, All}
use Rattle.det_record_c.specs.Puts.{Puts, with_bytes_at}

pub puts_then : (at : ℕ) (a b old mid new : List ℕ) (to end : ℕ) → Puts at a old to mid → Puts to b mid end new → Puts at (a ++ b) old end new
puts_then at a b old mid new to end p q =
    let n : length (a ++ b) ≡ length a + length b = length-append a b in
    record {
      counted = omega (arith, p.counted, q.counted, n);
      same_room = q.same_room ∙ p.same_room;
      written = λ few fits.
          let is : to ≡ at + length a = omega (arith, p.counted, fits, few, n) in
          let m : mid ≡ with_bytes_at at a old = p.written few (omega (arith, fits, n)) in
          let w : new ≡ with_bytes_at to b mid =
          q.written (omega (arith, few, p.same_room)) (omega (arith, fits, n, is, p.same_room)) in
          let front : List ℕ = take at old ++ a in
          let rest : List ℕ = drop (at + length a) old in
          let long : to ≡ length front =
          omega (arith, is, length-append (take at old) a, length-take-le at old (omega (arith, fits, n))) in
          let cut : mid ≡ front ++ rest = m ∙ sym (append_assoc (take at old) a rest) in
          let before : take to mid ≡ front = ap (take to) cut ∙ take_at front rest to (sym long) in
          let behind : drop to mid ≡ rest = ap (drop to) cut ∙ drop_at front rest to (sym long) in
          let k : at + length a + length b ≡ at + length (a ++ b) = omega (arith, n) in
          let after : drop (to + length b) mid ≡ drop (at + length (a ++ b)) old =
          sym (drop-drop (length b) to mid) ∙ ap (drop (length b)) behind ∙ drop-drop (length b) (at + length a) old
          ∙ ap (λ (j : ℕ). drop j old) k in
          w ∙ ap (λ (xs : List ℕ). xs ++ (b ++ drop (to + length b) mid)) before
          ∙ ap (λ (xs : List ℕ). front ++ (b ++ xs)) after
          ∙ append_assoc (take at old) a (b ++ drop (at + length (a ++ b)) old)
          ∙ ap (λ (xs : List ℕ). take at old ++ xs) (sym (append_assoc a b (drop (at + length (a ++ b)) old)));
    }

pub puts_nothing : (at : ℕ) (old : List ℕ) → at ≤ 18446744073709551615 → Puts at [] old at old
puts_nothing at old few = record {
  counted = omega (arith, few);
  same_room = λ i. length old;
  written = λ _ _.
      let k : at ≡ at + 0 = omega arith in sym (take-append-drop at old) ∙ ap (λ (j : ℕ). take at old ++ drop j old) k;
}

pub puts_as : (at : ℕ) (a b old new : List ℕ) (end : ℕ) → a ≡ b → Puts at a old end new → Puts at b old end new
puts_as at a b old new end e p = subst (λ (xs : List ℕ). Puts at xs old end new) e p

-- what was put at the front of the room
pub put_in_front : (bytes old new : List ℕ) (end : ℕ) → Puts 0 bytes old end new → length old ≤ 18446744073709551615
    → length bytes ≤ length old → new ≡ bytes ++ drop (length bytes) old
put_in_front bytes old new end p few fits =
    let zero : 0 + length bytes ≡ length bytes = omega arith in
    p.written few (omega (arith, fits)) ∙ ap (λ (j : ℕ). bytes ++ drop j old) zero

-- ---- loops

-- the bytes of the first i items were put, and these items are in their ranges
pub record PutSo {X : Type 0} (f : X → List ℕ) (P : X → Type 0) (xs : List X) (i at : ℕ) (old : List ℕ) (end : ℕ) (new : List ℕ) : Type 0 where
  pub puts : Puts at (flat_map f (take i xs)) old end new
  pub fields : All P (take i xs)

module _ {X : Type 0} (f : X → List ℕ) (P : X → Type 0) (xs : List X) where
  pub PutSo-begin : (at : ℕ) (old : List ℕ) → at ≤ 18446744073709551615 → PutSo f P xs 0 at old at old
  PutSo-begin at old few = record { puts = puts_nothing at old few; fields = All-nil P }

  pub PutSo-at : (i at : ℕ) (old mid new : List ℕ) (to end : ℕ) (d : X) → i < length xs → PutSo f P xs i at old to mid
      → Puts to (f (get_or xs i d)) mid end new → P (get_or xs i d) → PutSo f P xs (i + 1) at old end new
  PutSo-at i at old mid new to end d lt h q p =
      let x : X = get_or xs i d in
      let t : take (i + 1) xs ≡ take i xs ++ x ∷ [] = take_more xs i d lt in
      let one : flat_map f (take i xs ++ x ∷ []) ≡ flat_map f (take i xs) ++ (f x ++ []) = flat_map-append f (take i xs) (x ∷ []) in
      let all : flat_map f (take i xs) ++ f x ≡ flat_map f (take (i + 1) xs) =
      ap (λ (ys : List ℕ). flat_map f (take i xs) ++ ys) (sym (append-nil (f x))) ∙ sym one ∙ ap (flat_map f) (sym t) in
      record {
        puts = puts_as at _ _ old new end all (puts_then at (flat_map f (take i xs)) (f x) old mid new to end h.puts q);
        fields = subst (All P) (sym t) (All-push P (take i xs) x h.fields p);
      }

  pub PutSo-done : (i at : ℕ) (old : List ℕ) (end : ℕ) (new : List ℕ) → length xs ≤ i → PutSo f P xs i at old end new
      → Puts at (flat_map f xs) old end new × All P xs
  PutSo-done i at old end new le h =
      let t : take i xs ≡ xs = take_all i xs le in
      (subst (λ (ys : List X). Puts at (flat_map f ys) old end new) t h.puts, subst (All P) t h.fields)
