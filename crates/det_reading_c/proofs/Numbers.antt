-- The value and the bytes of a number that was read.
use Rattle.std.proofs.Common.{◌≡◌, ℕ, zero, suc, ◌+◌, ◌*◌, ◌<◌, ◌≤◌, Bool, true, false, cond, List, [], ◌∷◌, length, drop, get_or, ap, ◌∙◌}
use Rattle.std.proofs.Common.{sym, arith}
use Rattle.std.specs.Int.{w16, w32, w64, from_be_bytes}
use Rattle.record_grammar.specs.declared.record_fault.Reason.TheVariants.{Range}
use Rattle.record_grammar.specs.declared.limits.Limits.{Limits}
use Rattle.record_grammar.specs.Read.{Read, Got, Bad}
use Rattle.record_grammar.specs.Numbers.{number_from, can_be}
use Rattle.record_grammar.proofs.Steady.{got_is}
use Rattle.record_view.proofs.Numbers.{number_takes}
use Rattle.record_view.proofs.Wide.{value}
use Rattle.det_reading_c.specs.Numbers.{IsNumber}

chosen : {A : Type 0} (b : Bool) (r : Read A) (left : ℕ) (x : A × List ℕ) → cond b r (Bad Range left) ≡ Got x → r ≡ Got x
chosen true r left x e = e
chosen false r left x e = absurd cc

-- it is that of its bytes, and the others are left
pub of_bytes : (limits : Limits) (k v : ℕ) (bytes : List ℕ) (x : ℕ × List ℕ) → number_from limits k v bytes ≡ Got x
    → (x.0 ≡ value k v bytes) × (x.1 ≡ drop k bytes)
unfolding number_from value
of_bytes limits zero v bytes x e =
    let p = got_is (v, bytes) x e in
    (sym (ap (λ (y : ℕ × List ℕ). y.0) p), sym (ap (λ (y : ℕ × List ℕ). y.1) p))
of_bytes limits (suc k) v [] x e = absurd cc
of_bytes limits (suc k) v (b ∷ bytes) x e =
    of_bytes limits k (v * 256 + b) bytes x
    (chosen (can_be limits k (v * 256 + b)) (number_from limits k (v * 256 + b) bytes) (suc (length bytes)) x e)

pub long_enough : (limits : Limits) (width : ℕ) (bytes : List ℕ) (n : ℕ) (rest : List ℕ) → number_from limits width 0 bytes ≡ Got (n, rest)
    → width ≤ length bytes
long_enough limits width bytes n rest e = omega (arith, number_takes limits width 0 bytes (n, rest) e)

pub first_byte : (bytes : List ℕ) → IsNumber 1 (get_or bytes 0 0) bytes
unfolding value number_from
first_byte [] limits n rest e = absurd cc
first_byte (b ∷ bytes) limits n rest e = let h : n ≡ value 1 0 (b ∷ bytes) = (of_bytes limits 1 0 (b ∷ bytes) (n, rest) e).0 in omega (arith, h)

pub four : (bytes : List ℕ) → 4 ≤ length bytes
    → from_be_bytes w32 (get_or bytes 0 0 ∷ get_or bytes 1 0 ∷ get_or bytes 2 0 ∷ get_or bytes 3 0 ∷ []) ≡ value 4 0 bytes
unfolding value
four [] h = absurd (omega arith)
four (a ∷ []) h = absurd (omega arith)
four (a ∷ b ∷ []) h = absurd (omega arith)
four (a ∷ b ∷ c ∷ []) h = absurd (omega arith)
four (a ∷ b ∷ c ∷ d ∷ bytes) h = omega arith

pub first_four : (v : ℕ) (bytes : List ℕ) → 4 ≤ length bytes
    → v ≡ from_be_bytes w32 (get_or bytes 0 0 ∷ get_or bytes 1 0 ∷ get_or bytes 2 0 ∷ get_or bytes 3 0 ∷ []) → IsNumber 4 v bytes
first_four v bytes le is limits n rest e = is ∙ four bytes le ∙ sym (of_bytes limits 4 0 bytes (n, rest) e).0

two : (bytes : List ℕ) → 2 ≤ length bytes → from_be_bytes w16 (get_or bytes 0 0 ∷ get_or bytes 1 0 ∷ []) ≡ value 2 0 bytes
unfolding value
two [] h = absurd (omega arith)
two (a ∷ []) h = absurd (omega arith)
two (a ∷ b ∷ bytes) h = omega arith

pub first_two : (v : ℕ) (bytes : List ℕ) → 2 ≤ length bytes → v ≡ from_be_bytes w16 (get_or bytes 0 0 ∷ get_or bytes 1 0 ∷ [])
    → IsNumber 2 v bytes
first_two v bytes le is limits n rest e = is ∙ two bytes le ∙ sym (of_bytes limits 2 0 bytes (n, rest) e).0

eight : (bytes : List ℕ) → 8 ≤ length bytes
    → from_be_bytes w64 (get_or bytes 0 0 ∷ get_or bytes 1 0 ∷ get_or bytes 2 0 ∷ get_or bytes 3 0 ∷ get_or bytes 4 0 ∷ get_or bytes 5 0
    ∷ get_or bytes 6 0 ∷ get_or bytes 7 0 ∷ []) ≡ value 8 0 bytes
unfolding value
eight [] h = absurd (omega arith)
eight (a ∷ []) h = absurd (omega arith)
eight (a ∷ b ∷ []) h = absurd (omega arith)
eight (a ∷ b ∷ c ∷ []) h = absurd (omega arith)
eight (a ∷ b ∷ c ∷ d ∷ []) h = absurd (omega arith)
eight (a ∷ b ∷ c ∷ d ∷ e ∷ []) h = absurd (omega arith)
eight (a ∷ b ∷ c ∷ d ∷ e ∷ f ∷ []) h = absurd (omega arith)
eight (a ∷ b ∷ c ∷ d ∷ e ∷ f ∷ g ∷ []) h = absurd (omega arith)
eight (a ∷ b ∷ c ∷ d ∷ e ∷ f ∷ g ∷ h ∷ bytes) k = omega arith

pub first_eight : (v : ℕ) (bytes : List ℕ) → 8 ≤ length bytes
    → v ≡ from_be_bytes w64 (get_or bytes 0 0 ∷ get_or bytes 1 0 ∷ get_or bytes 2 0 ∷ get_or bytes 3 0 ∷ get_or bytes 4 0 ∷ get_or bytes 5 0
    ∷ get_or bytes 6 0 ∷ get_or bytes 7 0 ∷ []) → IsNumber 8 v bytes
first_eight v bytes le is limits n rest e = is ∙ eight bytes le ∙ sym (of_bytes limits 8 0 bytes (n, rest) e).0

-- where there are fewer bytes than it has, none is read
pub none_there : (v width : ℕ) (bytes : List ℕ) → length bytes < width → IsNumber width v bytes
none_there v width bytes lt limits n rest e = absurd (omega (arith, long_enough limits width bytes n rest e))
