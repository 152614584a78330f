-- The own stream before and after its first number is drawn.
use Rattle.std.proofs.Common.{◌≡◌, ℕ, refl, sym, subst, ◌∙◌}
use Rattle.det_client.specs.element_random.RandomStreams.{StreamState, StandsFor}
use Rattle.det_client.specs.State.{beginning}

pub equal_places : (p q : StreamState) (k n : ℕ) → StandsFor p k n → StandsFor q k n → p ≡ q
equal_places p q k n x y = λ i. record { state = (x.state ∙ sym y.state) i; draws = (x.draws ∙ sym y.draws) i }

begins_there : (k : ℕ) → StandsFor (beginning k) k 0
begins_there k = record { state = refl; draws = refl }

-- a stream at the beginning of a key is that beginning
pub is_beginning : (p : StreamState) (k : ℕ) → StandsFor p k 0 → p ≡ beginning k
is_beginning p k s = equal_places p (beginning k) k 0 s (begins_there k)

pub begun_is : (p : StreamState) (key k n : ℕ) → StandsFor p key 0 → StandsFor (beginning key) k n → StandsFor p k n
begun_is p key k n s t = subst (λ q. StandsFor q k n) (sym (is_beginning p key s)) t
