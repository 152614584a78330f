use Rattle.std.proofs.Common.{◌≡◌, ℕ, [], ◌∷◌, ap, ◌∙◌}
use Rattle.rand_core.specs.Steps.{first_words}
use Rattle.rand_xoshiro.specs.SplitMix64.{mix_u64, next_state}
use Rattle.det_client.specs.element_random.RandomStreams.{state_at}
use Rattle.det_client_c.proofs.random.stream_state_of_key.Goals as goal

pub returns : goal.returns
unfolding state_at first_words
returns c =
    let key : ℕ = c.args.key in
    let random_of_key : c.seed_from_u64-words.result ≡ key = c.seed_from_u64-words.ensures.same in
    let one : c.next_word-first.new.self ≡ next_state key =
    ap (λ (p : ℕ × ℕ). p.1) c.next_word-first.ensures ∙ ap next_state random_of_key in
    let two : c.next_word-second.new.self ≡ next_state (next_state key) =
    ap (λ (p : ℕ × ℕ). p.1) c.next_word-second.ensures ∙ ap next_state one in
    let three : c.next_word-third.new.self ≡ next_state (next_state (next_state key)) =
    ap (λ (p : ℕ × ℕ). p.1) c.next_word-third.ensures ∙ ap next_state two in
    λ i. (ap (λ (p : ℕ × ℕ). p.0) c.next_word-first.ensures ∙ ap (λ x. (mix_u64 x).0) random_of_key) i
    ∷ (ap (λ (p : ℕ × ℕ). p.0) c.next_word-second.ensures ∙ ap (λ x. (mix_u64 x).0) one) i
    ∷ (ap (λ (p : ℕ × ℕ). p.0) c.next_word-third.ensures ∙ ap (λ x. (mix_u64 x).0) two) i
    ∷ (ap (λ (p : ℕ × ℕ). p.0) c.next_word-last.ensures ∙ ap (λ x. (mix_u64 x).0) three) i ∷ []
