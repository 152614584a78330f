-- Samples, one after another, each of ten bytes.
use Rattle.std.proofs.Common.{◌≡◌, ℕ, zero, suc, ◌+◌, ◌*◌, ◌-◌, ◌<◌, ◌≤◌, List, ◌∷◌, length, drop, Some, refl, sym, ap, subst, ◌∙◌}
use Rattle.std.proofs.Common.{arith}
use Rattle.std.specs.List.{slice_get}
use Rattle.std.specs.Int.{w64, cast_signed}
use Rattle.std.proofs.lemmas.List.{drop-drop}
use Rattle.det_values.specs.Values.{SampleValue}
use Rattle.record_grammar.specs.declared.limits.Limits.TheVariants.{Between, Around}
use Rattle.record_grammar.specs.Read.{Read, Got, ◌>>=◌, many}
use Rattle.record_grammar.specs.Numbers.{number, number_from}
use Rattle.record_grammar.specs.Grammar.{sample_at, sample_value_at}
use Rattle.record_grammar.proofs.Steady.{bind_got, got_is}
use Rattle.record_view.specs.Parts.{a_sample}
use Rattle.record_view.specs.Walks.{is_got, list_got}
use Rattle.record_view.proofs.Many.{many_one}
use Rattle.record_view.proofs.Numbers.{number_takes}
use Rattle.record_view.proofs.Walked.{walk_counted}
use Rattle.det_reading_c.specs.Numbers.{IsNumberAt}
use Rattle.det_reading_c.proofs.Numbers.{of_bytes}

-- how a sample is read
pub record IsSampleRead (bytes : List ℕ) (value : SampleValue) (rest : List ℕ) : Type 0 where
  pub is : (e v : ℕ) → IsNumberAt 2 e 0 bytes → IsNumberAt 8 v 2 bytes → a_sample e (cast_signed w64 v) ≡ value
  pub rest_is : rest ≡ drop 10 bytes
  pub room : 10 ≤ length bytes

pub sample_read : (events : ℕ) (bytes : List ℕ) (value : SampleValue) (rest : List ℕ) → sample_at events bytes ≡ Got (value, rest)
    → IsSampleRead bytes value rest
unfolding sample_at sample_value_at
sample_read events bytes value rest e =
    let a = bind_got (number 2 0 (events - 1) bytes) (λ event. sample_value_at event.1 >>= λ value.
    Got (a_sample event.0 value.0, value.1)) (value, rest) e in
    let b = bind_got (sample_value_at a.0.1) (λ value. Got (a_sample a.0.0 value.0, value.1)) (value, rest) a.2 in
    let n = bind_got (number_from (Around 1000000000000) 8 0 a.0.1) (λ n. Got (cast_signed w64 n.0, n.1)) b.0 b.1 in
    let p = got_is {A = SampleValue} (a_sample a.0.0 b.0.0, b.0.1) (value, rest) b.2 in
    let q = got_is (cast_signed w64 n.0.0, n.0.1) b.0 n.2 in
    let two : a.0.1 ≡ drop 2 bytes = (of_bytes (Between 0 (events - 1)) 2 0 bytes a.0 a.1).1 in
    let eight : n.0.1 ≡ drop 8 a.0.1 = (of_bytes (Around 1000000000000) 8 0 a.0.1 n.0 n.1).1 in
    let l : length bytes ≡ 2 + length a.0.1 = number_takes (Between 0 (events - 1)) 2 0 bytes a.0 a.1 in
    let m : length a.0.1 ≡ 8 + length n.0.1 = number_takes (Around 1000000000000) 8 0 a.0.1 n.0 n.1 in
    let after : b.0.1 ≡ rest = ap (λ (x : SampleValue × List ℕ). x.1) p in
    let before : n.0.1 ≡ b.0.1 = ap (λ x. x.1) q in
    record {
      is = λ k v first second.
          let j : k ≡ a.0.0 = first (Between 0 (events - 1)) a.0.0 a.0.1 a.1 in
          let w : v ≡ n.0.0 = second (Around 1000000000000) n.0.0 n.0.1
          (ap (λ (xs : List ℕ). number_from (Around 1000000000000) 8 0 xs) (sym two) ∙ n.1) in
          ap (λ (i : ℕ). a_sample i (cast_signed w64 v)) j ∙ ap (λ (i : ℕ). a_sample a.0.0 (cast_signed w64 i)) w
          ∙ ap (λ x. a_sample a.0.0 x) (ap (λ x. x.0) q) ∙ ap (λ (x : SampleValue × List ℕ). x.0) p;
      rest_is = sym after ∙ sym before ∙ eight ∙ ap (drop 8) two ∙ drop-drop 8 2 bytes;
      room = omega (arith, l, m);
    }

-- the sample of a number
pub record IsNth (events k : ℕ) (bytes : List ℕ) (samples : List SampleValue) : Type 0 where
  pub value : SampleValue
  pub after : List ℕ
  pub read : sample_at events (drop (10 * k) bytes) ≡ Got (value, after)
  pub is : slice_get samples k ≡ Some value

pub nth_sample : (events n k : ℕ) (bytes : List ℕ) (samples : List SampleValue) (rest : List ℕ)
    → many (sample_at events) n bytes ≡ Got (samples, rest) → k < n → IsNth events k bytes samples
nth_sample events zero k bytes samples rest e lt = absurd (omega arith)
nth_sample events (suc n) k bytes samples rest e lt =
    let a = bind_got (sample_at events bytes) (λ first. many (sample_at events) n first.1 >>= λ others.
    Got (first.0 ∷ others.0, others.1)) (samples, rest) (sym (many_one (sample_at events) n bytes) ∙ e) in
    let b = bind_got (many (sample_at events) n a.0.1) (λ others. Got (a.0.0 ∷ others.0, others.1)) (samples, rest) a.2 in
    let p : a.0.0 ∷ b.0.0 ≡ samples = ap (λ (x : List SampleValue × List ℕ). x.0)
    (got_is {A = List SampleValue} (a.0.0 ∷ b.0.0, b.0.1) (samples, rest) b.2) in
    let r : a.0.1 ≡ drop 10 bytes = (sample_read events bytes a.0.0 a.0.1 a.1).rest_is in
    subst (λ (xs : List SampleValue). IsNth events k bytes xs) p (by k a.0.0 a.0.1 b.0.0 a.1 r lt (λ j less.
    nth_sample events n j a.0.1 b.0.0 b.0.1 b.1 less))
  where
    by : (k : ℕ) (first : SampleValue) (mid : List ℕ) (others : List SampleValue) → sample_at events bytes ≡ Got (first, mid)
        → mid ≡ drop 10 bytes → k < suc n → ((j : ℕ) → j < n → IsNth events j mid others) → IsNth events k bytes (first ∷ others)
    by zero first mid others got r lt later = record { value = first; after = mid; read = got; is = refl }
    by (suc j) first mid others got r lt later =
        let x = later j (omega arith) in
        let m : 10 + 10 * j ≡ 10 * suc j = omega arith in
        let d : drop (10 * j) mid ≡ drop (10 * suc j) bytes =
        ap (drop (10 * j)) r ∙ drop-drop (10 * j) 10 bytes ∙ ap (λ (i : ℕ). drop i bytes) m in
        record { value = x.value; after = x.after; read = ap (sample_at events) (sym d) ∙ x.read; is = x.is }

pub counted : {A : Type 0} (item : List ℕ → Read A) (n : ℕ) (bytes : List ℕ) (values : List A) (rest : List ℕ)
    → many item n bytes ≡ Got (values, rest) → length values ≡ n
counted {A} item n bytes values rest e =
    ap (λ (r : Read (List A)). length (list_got r)) (sym e) ∙ walk_counted item n bytes (ap (λ (r : Read (List A)). is_got r) e)
