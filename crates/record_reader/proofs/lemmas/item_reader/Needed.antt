-- Reading while something is so of what was read: for longer, and for a weaker reason.
use Rattle.std.proofs.Common.{ℕ, inl, inr, List, ◌++◌, sym, ap, subst, ◌∙◌, append_assoc}
use Rattle.std.proofs.lemmas.List.{append-nil}
use Rattle.record_reader.specs.item_reader.Needed.{ReadsWhile}

pub while-weaker : (P Q : List ℕ → Type 0) (read : List ℕ) → ((first : List ℕ) → P first → Q first) → ReadsWhile P read → ReadsWhile Q read
while-weaker P Q read on (inl none) = inl none
while-weaker P Q read on (inr l) = inr (record { first = l.first; last = l.last; is = l.is; some = l.some; before = on l.first l.before })

-- more bytes were read after some
pub while-then : (P : List ℕ → Type 0) (read more : List ℕ) → ReadsWhile P read → ReadsWhile (λ first. P (read ++ first)) more
    → ReadsWhile P (read ++ more)
while-then P read more p (inl none) =
    subst (λ (xs : List ℕ). ReadsWhile P (read ++ xs)) (sym none) (subst (ReadsWhile P) (sym (append-nil read)) p)
while-then P read more p (inr l) = inr (record {
  first = read ++ l.first;
  last = l.last;
  is = ap (λ (xs : List ℕ). read ++ xs) l.is ∙ sym (append_assoc read l.first l.last);
  some = l.some;
  before = l.before;
})
