-- Numbers are spelled in bytes, and what the shipped jobs show can be spelled.
use Rattle.std.proofs.Common.{◌≡◌, ℕ, ℤ, zero, suc, pos, ◌+◌, ◌^◌, ◌<◌, List, [], ◌∷◌, ◌++◌, length, Bool, true, false, cond, Option, Some}
use Rattle.std.proofs.Common.{None, Result, Ok, Err, subst, arith}
use Rattle.std.specs.Prelude.{nat_le, nat_lt, unwrap_or}
use Rattle.std.specs.List.{flat_map}
use Rattle.std.specs.Int.{w16, w32, w64, bytes_high_first, byte_at, byte_len, cast_unsigned}
use Rattle.std.proofs.lemmas.List.Elements.{All-nil, All-cons, All-append}
use Rattle.job.specs.declared.job_results.Conclusion.{Conclusion}
use Rattle.job.specs.Meaning.{ElementResult}
use Rattle.record_grammar.specs.Spelling.{AreBytes}
use Rattle.job_shared.specs.Samples.{newest_sample}
use Rattle.job_shared.specs.Bytes.{u16_bytes, u32_bytes, u64_bytes, i64_bytes}
use Rattle.jobs.specs.bank.Meaning as bank
use Rattle.jobs.specs.declared.bank.channel.Channel.{Channel as BankChannel}
use Rattle.jobs.specs.declared.bank.summary.Summary.{Summary}
use Rattle.jobs.specs.declared.bank.bank_job.NoGlobals.{NoGlobals}
use Rattle.jobs.specs.cloud.Meaning as cloud
use Rattle.jobs.specs.declared.cloud.best.Best.{Best}
use Rattle.jobs.specs.declared.cloud.cloud_job.Finished.{Finished}
use Rattle.jobs.specs.guard.Meaning as guard
use Rattle.jobs.specs.guard.Bounds.{contains}
use Rattle.jobs.specs.declared.guard.guard.Guard.{Guard}
use Rattle.jobs.specs.declared.guard.channel.Channel.{Channel as GuardChannel}
use Rattle.jobs.specs.declared.guard.guard_job.Total.{Total}
use Rattle.run_laws.proofs.SpelledJob.{IsSpelledJob}

-- ---- bytes

byte_below : (i n : ℕ) → byte_at i n < 256
byte_below zero n = omega arith
byte_below (suc i) n = omega arith

high_first : (k n : ℕ) → AreBytes (bytes_high_first k n)
high_first zero n = All-nil (λ b. b < 256)
high_first (suc k) n = All-cons (λ b. b < 256) (byte_at k n) (bytes_high_first k n) (byte_below k n) (high_first k n)

two_bytes : (n : ℕ) → AreBytes (u16_bytes n)
two_bytes n = high_first (byte_len w16) n

four_bytes : (n : ℕ) → AreBytes (u32_bytes n)
four_bytes n = high_first (byte_len w32) n

eight_bytes : (n : ℕ) → AreBytes (u64_bytes n)
eight_bytes n = high_first (byte_len w64) n

signed_bytes : (z : ℤ) → AreBytes (i64_bytes z)
signed_bytes z = eight_bytes (cast_unsigned w64 z)

both : (xs ys : List ℕ) → AreBytes xs → AreBytes ys → AreBytes (xs ++ ys)
both xs ys h k = All-append (λ b. b < 256) xs ys h k

-- ---- answers

given : {T : Type 0} (a b : T) → ◌≡◌ {A = Result T ℕ} (Ok a) (Ok b) → a ≡ b
given a b h = cc

never : {T : Type 0} (a : T) (code : ℕ) → ◌≡◌ {A = Result T ℕ} (Ok a) (Err code) → code < 2 ^ 32
never a code h = absurd cc

code_is : {T : Type 0} (a b : ℕ) → ◌≡◌ {A = Result T ℕ} (Err a) (Err b) → a ≡ b
code_is a b h = cc

code_if : {T : Type 0} (t : Bool) (c code : ℕ) (x : T) → c < 2 ^ 32 → ◌≡◌ {A = Result T ℕ} (cond t (Err c) (Ok x)) (Err code)
    → code < 2 ^ 32
code_if {T = T} true c code x few e = subst (λ (k : ℕ). k < 2 ^ 32) (code_is {T = T} c code e) few
code_if false c code x few e = never x code e

given_if : {T : Type 0} (t : Bool) (c : ℕ) (a b : T) → ◌≡◌ {A = Result T ℕ} (cond t (Err c) (Ok a)) (Ok b) → a ≡ b
given_if true c a b e = absurd cc
given_if false c a b e = given a b e

-- ---- the bank

bank_shown : (t : Bool) (e : BankChannel) → AreBytes (cond t (u16_bytes e.event ++ i64_bytes e.level) (i64_bytes e.level))
bank_shown true e = both (u16_bytes e.event) (i64_bytes e.level) (two_bytes e.event) (signed_bytes e.level)
bank_shown false e = signed_bytes e.level

bank_summary : (s : Summary) → AreBytes (bank.summary_bytes s)
bank_summary s =
    both (i64_bytes s.sum) (i64_bytes s.least ++ i64_bytes s.greatest) (signed_bytes s.sum)
    (both (i64_bytes s.least) (i64_bytes s.greatest) (signed_bytes s.least) (signed_bytes s.greatest))

bank_output : (part : Option Summary) → AreBytes (bank.output part)
bank_output part = bank_summary (unwrap_or part (bank.summary_of (pos 0)))

pub bank_spelled : IsSpelledJob bank.meaning
bank_spelled = record {
  shown = λ j e. bank_shown (nat_le 2 j.events) e;
  output = λ j g plan part d h. subst (λ (x : Conclusion NoGlobals). AreBytes x.output) (given _ d h) (bank_output part);
  prepare_code = λ j g es windows seed cycle time next code h. never _ code h;
  work_code = λ j plan carry pass e key code h. never _ code h;
  conclude_code = λ j g plan part code h. never _ code h;
}

-- ---- the cloud

three : (n : ℕ) (x y : ℤ) → AreBytes (u32_bytes n ++ i64_bytes x ++ i64_bytes y)
three n x y = both (u32_bytes n) (i64_bytes x ++ i64_bytes y) (four_bytes n)
    (both (i64_bytes x) (i64_bytes y) (signed_bytes x) (signed_bytes y))

four : (n : ℕ) (x y : ℤ) (k : ℕ) → AreBytes (u32_bytes n ++ i64_bytes x ++ i64_bytes y ++ u64_bytes k)
four n x y k =
    both (u32_bytes n) (i64_bytes x ++ i64_bytes y ++ u64_bytes k) (four_bytes n)
    (both (i64_bytes x) (i64_bytes y ++ u64_bytes k) (signed_bytes x) (both (i64_bytes y) (u64_bytes k) (signed_bytes y) (eight_bytes k)))

best_bytes : (part : Option Best) → AreBytes (cloud.best_bytes part)
best_bytes None = four 0 (pos 0) (pos 0) 0
best_bytes (Some best) = four best.number best.x best.y best.distance

cloud_output : (part : Option Best) (finished : ℕ) → AreBytes (cloud.output part finished)
cloud_output part finished = both (cloud.best_bytes part) (u32_bytes finished) (best_bytes part) (four_bytes finished)

pub cloud_spelled : IsSpelledJob cloud.meaning
cloud_spelled = record {
  shown = λ j e. three e.number e.x e.y;
  output = λ j g plan part d h. subst (λ (x : Conclusion Finished). AreBytes x.output) (given_if (cloud.is_far j.far part) 2 _ d h)
      (cloud_output part (cloud.one_more g));
  prepare_code = λ j g es windows seed cycle time next code h. code_if (cloud.is_held (newest_sample windows 2)) 1 code _ (omega arith) h;
  work_code = λ j plan carry pass e key code h. never _ code h;
  conclude_code = λ j g plan part code h. code_if (cloud.is_far j.far part) 2 code _ (omega arith) h;
}

-- ---- the guard

guard_shown : (e : GuardChannel) → AreBytes (guard.shown e)
guard_shown e =
    both (u32_bytes e.number) (i64_bytes e.held ++ u16_bytes e.streak) (four_bytes e.number)
    (both (i64_bytes e.held) (u16_bytes e.streak) (signed_bytes e.held) (two_bytes e.streak))

number_bytes : (ns : List ℕ) → AreBytes (flat_map u32_bytes ns)
number_bytes [] = All-nil (λ b. b < 256)
number_bytes (n ∷ ns) = both (u32_bytes n) (flat_map u32_bytes ns) (four_bytes n) (number_bytes ns)

next_bytes : (next : Option ℕ) → AreBytes (guard.next_bytes next)
next_bytes None = All-cons (λ b. b < 256) 0 [] (omega arith) (All-nil (λ b. b < 256))
next_bytes (Some time) = All-cons (λ b. b < 256) 1 (u64_bytes time) (omega arith) (eight_bytes time)

guard_output : (total : ℕ) (part : List ℕ) (next : Option ℕ) → AreBytes (guard.output total part next)
guard_output total part next =
    both (u64_bytes total) (u32_bytes (length part) ++ (flat_map u32_bytes part ++ guard.next_bytes next)) (eight_bytes total)
    (both (u32_bytes (length part)) (flat_map u32_bytes part ++ guard.next_bytes next) (four_bytes (length part))
    (both (flat_map u32_bytes part) (guard.next_bytes next) (number_bytes part) (next_bytes next)))

judged_code : (j : Guard) (e : GuardChannel) (reading : Option ℤ) (code : ℕ) → guard.channel_after j e reading ≡ Err code → code < 2 ^ 32
judged_code j e None code h = never _ code h
judged_code j e (Some value) code h = in_bounds (contains j.bounds value) _ h where
  in_bounds : (t : Bool) (x : ElementResult GuardChannel (List ℕ)) → ◌≡◌ {A = Result (ElementResult GuardChannel (List ℕ)) ℕ}
      (cond t (Ok x) (cond (nat_le j.limit (e.streak + 1)) (Err 1) (Ok (guard.corrected e)))) (Err code) → code < 2 ^ 32
  in_bounds true x k = never x code k
  in_bounds false x k = code_if (nat_le j.limit (e.streak + 1)) 1 code (guard.corrected e) (omega arith) k

pub guard_spelled : IsSpelledJob guard.meaning
guard_spelled = record {
  shown = λ j e. guard_shown e;
  output = λ j g plan part d h.
      subst (λ (x : Conclusion Total). AreBytes x.output) (given_if (nat_lt j.most (length part)) 2 _ d h)
      (guard_output (guard.total_after g part) part plan.next);
  prepare_code = λ j g es windows seed cycle time next code h. never _ code h;
  work_code = λ j plan carry pass e key code h. judged_code j e (guard.reading plan.samples e) code h;
  conclude_code = λ j g plan part code h. code_if (nat_lt j.most (length part)) 2 code _ (omega arith) h;
}
