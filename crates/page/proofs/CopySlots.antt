-- The slots of up to eight copies, and the verdict on them.
use Rattle.std.proofs.Common.{◌≡◌, ◌≢◌, ◌≤◌, ℕ, zero, suc, List, [], ◌∷◌, length, take, drop, refl, sym, ◌∙◌, ap, arith, subst}
use Rattle.std.specs.Prelude.{Some, Result, Ok, Err}
use Rattle.std.specs.List.{AllByRecursion}
use Rattle.det_io.specs.Count.{Rose}
use Rattle.det_io.specs.Traffic.{failure_in}
use Rattle.det_io.specs.declared.failure.Failure.TheVariants.{Read, Write, OutOfMemory}
use Rattle.det_io.specs.declared.failure.Stopped.{Stopped}
use Rattle.det_io.specs.declared.failure.Stopped.TheVariants.{Refused, Failed}
use Rattle.copies.specs.declared.verdict.BadCopy.{BadCopy}
use Rattle.copies.specs.declared.verdict.Verdict.{Verdict}
use Rattle.copies.specs.CompareCopies.{AreDifferent, AreGiven, AreLeft, VerdictIs}
use Rattle.page.specs.Shelves.{records_in, lent_state}
use Rattle.page.specs.Answers.{IsVerdict}

abbrev pub eight : List ℕ
eight = 0 ∷ 1 ∷ 2 ∷ 3 ∷ 4 ∷ 5 ∷ 6 ∷ 7 ∷ []

pub as-many : (bytes lengths : List ℕ) → length (records_in bytes lengths) ≡ length lengths
as-many bytes [] = refl
as-many bytes (n ∷ lengths) = ap suc (as-many (drop n bytes) lengths)

all-take : (P : ℕ → Type 0) (n : ℕ) (xs : List ℕ) → AllByRecursion P xs → AllByRecursion P (take n xs)
all-take P zero xs h = tt
all-take P (suc n) [] h = tt
all-take P (suc n) (x ∷ xs) h = (h.0, all-take P n xs h.1)

different-take : (n : ℕ) (xs : List ℕ) → AreDifferent xs → AreDifferent (take n xs)
different-take zero xs h = tt
different-take (suc n) [] h = tt
different-take (suc n) (x ∷ xs) h = (all-take (λ other. x ≢ other) n xs h.0, different-take n xs h.1)

different-eight : AreDifferent eight
different-eight = (((λ e. cc), ((λ e. cc), ((λ e. cc), ((λ e. cc), ((λ e. cc), ((λ e. cc), ((λ e. cc), tt))))))), (((λ e. cc), ((λ e. cc), ((λ e. cc), ((λ e. cc), ((λ e. cc), ((λ e. cc), tt)))))), (((λ e. cc), ((λ e. cc), ((λ e. cc), ((λ e. cc), ((λ e. cc), tt))))), (((λ e. cc), ((λ e. cc), ((λ e. cc), ((λ e. cc), tt)))), (((λ e. cc), ((λ e. cc), ((λ e. cc), tt))), (((λ e. cc), ((λ e. cc), tt)), (((λ e. cc), tt), (tt, tt))))))))

left-eight : (rests : List (List ℕ)) → length rests ≤ 8 → AreLeft (lent_state rests) (take (length rests) eight) rests
left-eight [] h = tt
left-eight (a ∷ []) h = (refl, tt)
left-eight (a ∷ b ∷ []) h = (refl, (refl, tt))
left-eight (a ∷ b ∷ c ∷ []) h = (refl, (refl, (refl, tt)))
left-eight (a ∷ b ∷ c ∷ d ∷ []) h = (refl, (refl, (refl, (refl, tt))))
left-eight (a ∷ b ∷ c ∷ d ∷ e ∷ []) h = (refl, (refl, (refl, (refl, (refl, tt)))))
left-eight (a ∷ b ∷ c ∷ d ∷ e ∷ f ∷ []) h = (refl, (refl, (refl, (refl, (refl, (refl, tt))))))
left-eight (a ∷ b ∷ c ∷ d ∷ e ∷ f ∷ g ∷ []) h = (refl, (refl, (refl, (refl, (refl, (refl, (refl, tt)))))))
left-eight (a ∷ b ∷ c ∷ d ∷ e ∷ f ∷ g ∷ i ∷ []) h = (refl, (refl, (refl, (refl, (refl, (refl, (refl, (refl, tt))))))))
left-eight (a ∷ b ∷ c ∷ d ∷ e ∷ f ∷ g ∷ i ∷ j ∷ more) h = absurd (omega arith)

given-eight : (rests : List (List ℕ)) → length rests ≤ 8 → AreGiven (lent_state rests) (take (length rests) eight)
given-eight [] h = tt
given-eight (a ∷ []) h = (omega arith, tt)
given-eight (a ∷ b ∷ []) h = (omega arith, (omega arith, tt))
given-eight (a ∷ b ∷ c ∷ []) h = (omega arith, (omega arith, (omega arith, tt)))
given-eight (a ∷ b ∷ c ∷ d ∷ []) h = (omega arith, (omega arith, (omega arith, (omega arith, tt))))
given-eight (a ∷ b ∷ c ∷ d ∷ e ∷ []) h = (omega arith, (omega arith, (omega arith, (omega arith, (omega arith, tt)))))
given-eight (a ∷ b ∷ c ∷ d ∷ e ∷ f ∷ []) h = (omega arith, (omega arith, (omega arith, (omega arith, (omega arith, (omega arith, tt))))))
given-eight (a ∷ b ∷ c ∷ d ∷ e ∷ f ∷ g ∷ []) h =
    (omega arith, (omega arith, (omega arith, (omega arith, (omega arith, (omega arith, (omega arith, tt)))))))
given-eight (a ∷ b ∷ c ∷ d ∷ e ∷ f ∷ g ∷ i ∷ []) h =
    (omega arith, (omega arith, (omega arith, (omega arith, (omega arith, (omega arith, (omega arith, (omega arith, tt))))))))
given-eight (a ∷ b ∷ c ∷ d ∷ e ∷ f ∷ g ∷ i ∷ j ∷ more) h = absurd (omega arith)

pub is-verdict : (result : Result Verdict (Stopped BadCopy)) (v : Result Verdict BadCopy) → VerdictIs result v
    → (failure_in result ≡ Some Read → Rose 0 0) → (failure_in result ≡ Some Write → ⊥) → IsVerdict result v
is-verdict (Ok found) v is reads writes = is
is-verdict (Err (Refused bad)) v is reads writes = is
is-verdict (Err (Failed Read)) v is reads writes = absurd (let r = reads refl in omega (arith, r))
is-verdict (Err (Failed Write)) v is reads writes = writes refl
is-verdict (Err (Failed OutOfMemory)) v is reads writes = tt

module _ (bytes lengths : List ℕ) (rests : List (List ℕ)) (slots : List ℕ) (few : length lengths ≤ 8)
    (are : rests ≡ records_in bytes lengths) (is : slots ≡ take (length lengths) eight) where
  long : length rests ≡ length lengths
  long = ap length are ∙ as-many bytes lengths

  slots-are : slots ≡ take (length rests) eight
  slots-are = is ∙ ap (λ n. take n eight) (sym long)

  pub given-all : AreGiven (lent_state rests) slots
  given-all = subst (AreGiven (lent_state rests)) (sym slots-are) (given-eight rests (let l = long in omega (arith, l, few)))

  pub different-all : AreDifferent slots
  different-all = subst AreDifferent (sym is) (different-take (length lengths) eight different-eight)

  pub left-all : AreLeft (lent_state rests) slots (records_in bytes lengths)
  left-all = subst (λ s. AreLeft (lent_state rests) s (records_in bytes lengths)) (sym slots-are)
      (subst (AreLeft (lent_state rests) (take (length rests) eight)) are (left-eight rests (let l = long in omega (arith, l, few))))
