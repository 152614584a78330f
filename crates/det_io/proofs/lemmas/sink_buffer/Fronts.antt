-- Bytes whose front a sink took, piece after piece, and the bytes it took once the rest is written.
use Rattle.std.proofs.Common.{ℕ, List, ◌++◌, append_assoc, sym, ap, ◌∙◌}
use Rattle.std.specs.Prelude.{Result, Ok, Err, IfOk}
use Rattle.det_io.specs.Sink.{Grew, GrewShort}
use Rattle.det_io.proofs.Growth.{grew-then, grew-then-short}
use Rattle.det_io.specs.sink_buffer.Front.{TakesFront}

-- a value with a property has another that follows from it
pub if-ok-then : {X E : Type 0} (r : Result X E) {P Q : X → Type 0} → ((x : X) → P x → Q x) → IfOk r P → IfOk r Q
if-ok-then (Ok x) f p = f x p
if-ok-then (Err e) f p = tt

-- a piece after the held bytes
pub front-then : (start now after : List ℕ → Type 0) (held bytes piece rest : List ℕ) → TakesFront now after (held ++ piece) rest
    → TakesFront start now bytes held → TakesFront start after (bytes ++ piece) rest
front-then start now after held bytes piece rest next first = record {
  front = first.front ++ next.front;
  grew = grew-then first.grew next.grew;
  is = ap (λ (l : List ℕ). l ++ piece) first.is ∙ append_assoc first.front held piece
      ∙ ap (λ (l : List ℕ). first.front ++ l) next.is ∙ sym (append_assoc first.front next.front rest);
}

-- once the rest is written all was taken
pub front-all : (start now after : List ℕ → Type 0) (held bytes : List ℕ) → TakesFront start now bytes held → Grew now after held
    → Grew start after bytes
front-all start now after held bytes first grew = rw first.is (grew-then first.grew grew)

-- once a proper part of the rest is written a proper part was taken
pub front-short : (start now after : List ℕ → Type 0) (held bytes : List ℕ) → TakesFront start now bytes held
    → GrewShort now after held → GrewShort start after bytes
front-short start now after held bytes first short =
    rw first.is (grew-then-short start now after first.front held first.grew short)
