-- How a frame ends after elements were skipped: what the skip says, and then what the output says.
use Rattle.std.proofs.Common.{◌≡◌, ◌≤◌, ◌+◌, ℕ, List, drop, Option, Some, None, Result, Ok, Err, ap, subst, ◌∙◌, sym, arith}
use Rattle.std.proofs.lemmas.List.{drop-drop}
use Rattle.record_grammar.specs.Read.{Read, Got, many}
use Rattle.record_grammar.specs.Grammar.{string_at}
use Rattle.record_view.specs.declared.stop.Stop.{Stop}
use Rattle.record_view.specs.declared.skip.Skip.{Skip}
use Rattle.record_view.specs.Gives.{Gives, Stops}
use Rattle.record_view.specs.Skips.{IsSkip, Ended}

module _ {A : Type 0} (item : List ℕ → Read A) (most : ℕ) (skip : Skip) (read : ℕ) (bytes : List ℕ)
    (p : IsSkip item most skip (drop read bytes)) where
  -- all elements were skipped
  pub none_left : skip.stop ≡ None → skip.left ≡ 0
  none_left is = subst (λ (s : Option Stop). Ended item s skip.left (drop skip.read (drop read bytes))) is p.ended

  -- or the next one can't be read
  pub next_stops : (first stop : Stop) → skip.stop ≡ Some first → first ≡ stop
      → Stops stop (many item skip.left (drop (read + skip.read) bytes))
  next_stops first stop is same =
      let s : Stops first (many item skip.left (drop skip.read (drop read bytes))) =
      subst (λ (s : Option Stop). Ended item s skip.left (drop skip.read (drop read bytes))) is p.ended in
      subst (λ (s : Stop). Stops s (many item skip.left (drop (read + skip.read) bytes))) same (rw drop-drop at s)

-- what a reader returned of the same bytes under another name
gave : {X Y : Type 0} (reader : List ℕ → Read Y) (r : Result X Stop) (x : X) → r ≡ Ok x → (view : X → Y × List ℕ)
    → (rest bytes : List ℕ) → rest ≡ bytes → Gives view r (reader rest) → reader bytes ≡ Got (view x)
gave {X} reader r x is view rest bytes same g =
    ap reader (sym same) ∙ subst (λ (q : Result X Stop). Gives view q (reader rest)) is g

pub gave_stop : {X Y : Type 0} (reader : List ℕ → Read Y) (r : Result X Stop) (stop : Stop) → r ≡ Err stop → (view : X → Y × List ℕ)
    → (rest bytes : List ℕ) → rest ≡ bytes → Gives view r (reader rest) → Stops stop (reader bytes)
gave_stop {X} reader r stop is view rest bytes same g =
    subst (λ (b : List ℕ). Stops stop (reader b)) same (subst (λ (q : Result X Stop). Gives view q (reader rest)) is g)

-- the output comes after the skipped elements
abbrev pub OutputIsAt : Skip → ℕ → List ℕ → List ℕ × List ℕ → Type 0
OutputIsAt skip read bytes output = (skip.left ≤ 0) × (string_at 4 1048576 (drop (read + skip.read) bytes) ≡ Got output)

pub output_follows : {A X : Type 0} (item : List ℕ → Read A) (most : ℕ) (skip : Skip) (read : ℕ) (bytes : List ℕ)
    → IsSkip item most skip (drop read bytes) → skip.stop ≡ None → (r : Result X Stop) (x : X) → r ≡ Ok x
    → (view : X → List ℕ × List ℕ) (rest : List ℕ) → rest ≡ drop (read + skip.read) bytes → Gives view r (string_at 4 1048576 rest)
    → OutputIsAt skip read bytes (view x)
output_follows item most skip read bytes p all r x is view rest same g = (
  omega (arith, none_left item most skip read bytes p all),
  gave (string_at 4 1048576) r x is view rest (drop (read + skip.read) bytes) same g,
)
