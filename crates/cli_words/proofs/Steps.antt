-- One word more of those after the command.
use Rattle.std.proofs.Common.{◌≡◌, ◌+◌, ◌<◌, ◌≤◌, ℕ, zero, suc, List, [], ◌∷◌, length, get_or, drop, sym, ◌∙◌, ap, add-one, arith}
use Rattle.std.proofs.Common.{string_bytes}
use Rattle.std.specs.Prelude.{Option, Some, None, String}
use Rattle.std.specs.Option.{option_and_then}
use Rattle.std.specs.Global.{Global}
use Rattle.std.proofs.lemmas.List.{drop_all}
use Rattle.cli_words.specs.Names.{texts}
use Rattle.cli_words.specs.Reading.{Reading, with_word, with_words, command_of}
use Rattle.cli_words.specs.FirstWord.{read}

with_words-drop : (words : List (String Global)) (i : ℕ) (word : String Global) (told : Reading) → i < length words
    → word ≡ get_or words i word
    → with_words (texts (drop i words)) told
    ≡ option_and_then (with_words (texts (drop (suc i) words))) (with_word (string_bytes word) told)
unfolding with_words
with_words-drop [] i word told within is = absurd (omega arith)
with_words-drop (first ∷ rest) zero word told within is =
    ap (λ (w : String Global). option_and_then (with_words (texts rest)) (with_word (string_bytes w) told)) (sym is)
with_words-drop (first ∷ rest) (suc i) word told within is = with_words-drop rest i word told (omega arith) is

-- The arguments from a place on give the same as all of them. This stays so with one argument more,
-- and if that can't be there, all arguments give nothing.
module _ (whole : Option Reading) (words : List (String Global)) (i : ℕ) (told : Reading)
    (same : whole ≡ with_words (texts (drop i words)) told) where
  module _ (word : String Global) (text : List ℕ) (within : i < length words) (is : word ≡ get_or words i word)
      (spelled : text ≡ string_bytes word) where
    next : (more : Option Reading) → more ≡ with_word text told → whole ≡ option_and_then (with_words (texts (drop (suc i) words))) more
    next more e =
        same ∙ with_words-drop words i word told within is
        ∙ ap (λ (w : List ℕ). option_and_then (with_words (texts (drop (suc i) words))) (with_word w told)) (sym spelled)
        ∙ ap (option_and_then (with_words (texts (drop (suc i) words)))) (sym e)

    pub goes_on : (more : Reading) → Some more ≡ with_word text told → whole ≡ with_words (texts (drop (i + 1) words)) more
    goes_on more e = rw add-one (next (Some more) e)

    pub ends : None ≡ with_word text told → None ≡ whole
    ends e = sym (next None e)

  pub is_whole : length words ≤ i → Some told ≡ whole
  unfolding with_words
  is_whole past = let none : drop i words ≡ [] =
      drop_all i words past in sym (same ∙ ap (λ (rest : List (String Global)). with_words (texts rest) told) none)

-- three words or more are read by the first of them
pub many : (words : List (String Global)) (first : String Global) → 3 ≤ length words → first ≡ get_or words 0 first
    → command_of (texts words) ≡ read (string_bytes first) (texts (drop 1 words))
many [] first enough is = absurd (omega arith)
many (a ∷ []) first enough is = absurd (omega arith)
many (a ∷ b ∷ []) first enough is = absurd (omega arith)
many (a ∷ b ∷ d ∷ rest) first enough is = ap (λ (f : String Global). read (string_bytes f) (texts (b ∷ d ∷ rest))) (sym is)
