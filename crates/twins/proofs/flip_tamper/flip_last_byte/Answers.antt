use Rattle.std.proofs.Common.{◌≡◌, ℕ, List, [], ◌∷◌, ◌++◌, refl, sym, ap, ◌∙◌}
use Rattle.std.specs.Int.Bits.{bit_xor}
use Rattle.twins.specs.Tampers.{flipped_last}
use Rattle.twins.proofs.flip_tamper.flip_last_byte.Goals as goal

flip_frame-last : (bytes : List ℕ) (last : ℕ) → flipped_last (bytes ++ last ∷ []) ≡ bytes ++ bit_xor last 1 ∷ []
flip_frame-last [] last = refl
flip_frame-last (byte ∷ []) last = refl
flip_frame-last (byte ∷ next ∷ more) last = ap (λ l. byte ∷ l) (flip_frame-last (next ∷ more) last)

pub returns : goal.returns
returns c =
    let all : c.into_vec-bytes.result.items ≡ c.pop.new.self.items ++ c.in-Some.last ∷ [] = c.in-Some.ensures.items in
    c.from_vec-2.ensures ∙ c.in_ok-push.ensures ∙ sym (flip_frame-last c.pop.new.self.items c.in-Some.last)
    ∙ ap flipped_last (sym all ∙ c.into_vec-bytes.ensures)
