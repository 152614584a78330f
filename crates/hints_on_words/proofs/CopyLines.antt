-- The lines of copies, written one after the other.
use Rattle.std.proofs.Common.{◌≡◌, ◌<◌, ℕ, ◌+◌, List, ◌++◌, length, map, drop, get_or, append_assoc, sym, ap, subst, ◌∙◌}
use Rattle.std.proofs.lemmas.List.{drop_more}
use Rattle.det_io.specs.Sink.{Grew, GrewByPrefix}
use Rattle.det_io.proofs.Growth.{grew-then, grew-then-part, part-wider}
use Rattle.det_io.proofs.Prefixes.{prefix-append}
use Rattle.hints_on_words.specs.Texts.{copy_lines, copy_text, hint_line}

-- the lines from a copy on, by its line and those after it
lines-from : {A : Type 0} (bytes : A → List ℕ) (names : List A) (number : ℕ) (none : A) → number < length names
    → copy_lines number (map bytes (drop number names))
    ≡ hint_line (copy_text number (bytes (get_or names number none))) ++ copy_lines (number + 1) (map bytes (drop (number + 1) names))
lines-from bytes names number none within = ap (λ rest. copy_lines number (map bytes rest)) (drop_more names number none within)

-- a sink took the lines before a copy: with those from it on they are all lines
abbrev pub TookLines : {A : Type 0} → (A → List ℕ) → (List ℕ → Type 0) → (List ℕ → Type 0) → ℕ → List A → Type 0
TookLines bytes before now number names =
    (front : List ℕ) × Grew before now front
    × (front ++ copy_lines number (map bytes (drop number names)) ≡ copy_lines 0 (map bytes names))

module _ {A : Type 0} (bytes : A → List ℕ) (before now after : List ℕ → Type 0) (number : ℕ) (names : List A) (none : A) where
  abbrev line : List ℕ
  line = hint_line (copy_text number (bytes (get_or names number none)))

  abbrev rest : List ℕ
  rest = copy_lines (number + 1) (map bytes (drop (number + 1) names))

  -- the next line was taken whole
  pub next-line : number < length names → TookLines bytes before now number names → Grew now after line
      → TookLines bytes before after (number + 1) names
  next-line within taken grew = (
    taken.0 ++ line,
    grew-then taken.1 grew,
    append_assoc taken.0 line rest ∙ ap (λ more. taken.0 ++ more) (sym (lines-from bytes names number none within)) ∙ taken.2,
  )

  -- a prefix of the next line was taken
  pub line-cut : number < length names → TookLines bytes before now number names → GrewByPrefix now after line
      → GrewByPrefix before after (copy_lines 0 (map bytes names))
  line-cut within taken part =
      let wider = part-wider now after line (line ++ rest) part (prefix-append line rest) in
      let lines = subst (GrewByPrefix now after) (sym (lines-from bytes names number none within)) wider in
      subst (GrewByPrefix before after) taken.2
      (grew-then-part before now after taken.0 (copy_lines number (map bytes (drop number names))) taken.1 lines)
