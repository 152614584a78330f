-- Bytes that are written in three parts.
use Rattle.std.proofs.Common.{◌≡◌, ◌≤◌, ℕ, ◌+◌, List, ◌++◌, length, take, drop, ap, sym, subst, ◌∙◌, arith, length-append, length-take}
use Rattle.std.proofs.Common.{length-drop}
use Rattle.std.proofs.Common.{◌<◌, [], ◌∷◌, get_or}
use Rattle.std.specs.List.{flat_map}
use Rattle.std.proofs.lemmas.List.{take_more, append-nil, take-append-drop}
use Rattle.std.proofs.lemmas.List.Concat.{flat_map-append}
use Rattle.std.specs.Prelude.{Result, Ok, Err, OnOk, OnErr}
use Rattle.det_io.specs.Sink.{Grew, GrewShort}
use Rattle.det_io.proofs.Prefixes.{prefix-append}
use Rattle.det_io.proofs.Growth.{grew-then, short-wider, grew-then-short}
use Rattle.recorder.specs.declared.run_writer.counts.Counts.{Counts}
use Rattle.recorder.specs.run_writer.Record.{counted}
use Rattle.recorder.specs.run_writer.Recording.{counts_after}

module _ (a b c : List ℕ) where
  -- the first write failed
  pub first-short : (before after : List ℕ → Type 0) → GrewShort before after a → GrewShort before after (a ++ (b ++ c))
  first-short before after p = short-wider before after a (a ++ (b ++ c)) p (prefix-append a (b ++ c))

  -- the second write failed
  pub second-short : (before one after : List ℕ → Type 0) → Grew before one a → GrewShort one after b
      → GrewShort before after (a ++ (b ++ c))
  second-short before one after p q =
      grew-then-short before one after a (b ++ c) p (short-wider one after b (b ++ c) q (prefix-append b c))

  -- the third write failed
  third-short : (before one two after : List ℕ → Type 0) → Grew before one a → Grew one two b → GrewShort two after c
      → GrewShort before after (a ++ (b ++ c))
  third-short before one two after p q r =
      grew-then-short before one after a (b ++ c) p (grew-then-short one two after b c q r)

  -- the third write ended
  pub all-written : {A E : Type 0} (result : Result A E) (before one two after : List ℕ → Type 0) → Grew before one a → Grew one two b
      → OnOk result (Grew two after c) → OnOk result (Grew before after (a ++ (b ++ c)))
  all-written (Ok done) before one two after p q r = grew-then p (grew-then q r)
  all-written (Err e) before one two after p q r = tt

  -- or failed
  pub third-cut : {A E : Type 0} (result : Result A E) (before one two after : List ℕ → Type 0) → Grew before one a → Grew one two b
      → OnErr result (GrewShort two after c) → OnErr result (GrewShort before after (a ++ (b ++ c)))
  third-cut (Ok done) before one two after p q r = tt
  third-cut (Err e) before one two after p q r = third-short before one two after p q r

-- bytes put in at a place count beside the others
pub length-parts : (at : ℕ) (ends middle : List ℕ) → at ≤ length ends
    → length (middle ++ ends) ≡ length (take at ends ++ (middle ++ drop at ends))
length-parts at ends middle within = omega (
  arith,
  length-append middle ends,
  length-append (take at ends) (middle ++ drop at ends),
  length-append middle (drop at ends),
  length-take at ends,
  length-drop at ends,
)

-- both ends of some bytes, with others between them
pub parts-are : (at : ℕ) (front behind ends held pieces middle whole : List ℕ) → front ≡ take at ends → behind ≡ drop at ends
    → ends ≡ held → pieces ≡ middle → take at held ++ (middle ++ drop at held) ≡ whole → front ++ (pieces ++ behind) ≡ whole
parts-are at front behind ends held pieces middle whole first last same put is =
    ap (λ (xs : List ℕ). front ++ (xs ++ behind)) put ∙ ap (λ (xs : List ℕ). xs ++ (middle ++ behind)) first
    ∙ ap (λ (xs : List ℕ). take at ends ++ (middle ++ xs)) last
    ∙ ap (λ (xs : List ℕ). take at xs ++ (middle ++ drop at xs)) same ∙ is

-- bytes that were put in are counted beside the others
pub counts_after-parts : (old mid new : Counts) (at : ℕ) (ends middle whole : List ℕ) → at ≤ length ends → mid ≡ old
    → new ≡ counts_after mid (middle ++ ends) → take at ends ++ (middle ++ drop at ends) ≡ whole → new ≡ counts_after old whole
counts_after-parts old mid new at ends middle whole within same counts is =
    let more : ℕ → Counts = λ n. record old { bytes = counted (old.bytes + n) } in
    counts ∙ ap (λ (k : Counts). counts_after k (middle ++ ends)) same ∙ ap more (length-parts at ends middle within ∙ ap length is)

-- pieces that are written one after another
module _ {X : Type 0} (f : X → List ℕ) (xs : List X) (k : ℕ) (x : X) (inside : k < length xs) (is : x ≡ get_or xs k x) where
  next-pieces : flat_map f (take (k + 1) xs) ≡ flat_map f (take k xs) ++ f x
  next-pieces = ap (flat_map f) (take_more xs k x inside ∙ ap (λ y. take k xs ++ y ∷ []) (sym is))
      ∙ flat_map-append f (take k xs) (x ∷ []) ∙ ap (λ ys. flat_map f (take k xs) ++ ys) (append-nil (f x))

  pub piece-written : (before mid after : List ℕ → Type 0) → Grew before mid (flat_map f (take k xs)) → Grew mid after (f x)
      → Grew before after (flat_map f (take (k + 1) xs))
  piece-written before mid after p q = subst (Grew before after) (sym next-pieces) (grew-then p q)

  all-pieces : flat_map f xs ≡ (flat_map f (take k xs) ++ f x) ++ flat_map f (drop (k + 1) xs)
  all-pieces = ap (flat_map f) (sym (take-append-drop (k + 1) xs)) ∙ flat_map-append f (take (k + 1) xs) (drop (k + 1) xs)
      ∙ ap (λ ys. ys ++ flat_map f (drop (k + 1) xs)) next-pieces

  pub piece-short : (before mid after : List ℕ → Type 0) → Grew before mid (flat_map f (take k xs)) → GrewShort mid after (f x)
      → GrewShort before after (flat_map f xs)
  piece-short before mid after p q = subst (GrewShort before after) (sym all-pieces)
      (short-wider before after (flat_map f (take k xs) ++ f x) _ (grew-then-short before mid after (flat_map f (take k xs)) (f x) p q)
      (prefix-append (flat_map f (take k xs) ++ f x) (flat_map f (drop (k + 1) xs))))

  pub count-next : (before : ℕ) → counted (counted (before + length (flat_map f (take k xs))) + length (f x))
      ≡ counted (before + length (flat_map f (take (k + 1) xs)))
  count-next before = omega (arith, ap length next-pieces, length-append (flat_map f (take k xs)) (f x))
