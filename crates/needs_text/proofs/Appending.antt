-- Texts appended one after another.
use Rattle.std.proofs.Common.{◌≡◌, ℕ, List, ◌++◌, append_assoc, ap, ◌∙◌}

-- four texts, each after the same word
pub four-appended : (out word a b c d : List ℕ) → (((out ++ (word ++ a)) ++ (word ++ b)) ++ (word ++ c)) ++ (word ++ d) ≡ out
    ++ (word ++ (a ++ (word ++ (b ++ (word ++ (c ++ (word ++ d)))))))
four-appended out word a b c d =
    append_assoc ((out ++ (word ++ a)) ++ (word ++ b)) (word ++ c) (word ++ d)
    ∙ append_assoc (out ++ (word ++ a)) (word ++ b) ((word ++ c) ++ (word ++ d))
    ∙ append_assoc out (word ++ a) ((word ++ b) ++ ((word ++ c) ++ (word ++ d)))
    ∙ ap (λ l. out ++ l) (append_assoc word a ((word ++ b) ++ ((word ++ c) ++ (word ++ d))))
    ∙ ap (λ l. out ++ (word ++ (a ++ l))) (append_assoc word b ((word ++ c) ++ (word ++ d)))
    ∙ ap (λ l. out ++ (word ++ (a ++ (word ++ (b ++ l))))) (append_assoc word c (word ++ d))
