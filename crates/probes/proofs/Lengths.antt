-- The lines of the shipped probes are short.
use Rattle.std.proofs.Common.{ℕ, ◌^◌, ◌<◌, ◌≤◌, length, Some, None, arith, length-append}
use Rattle.std.specs.Fmt.{decimal}
use Rattle.std.proofs.lemmas.Fmt.{length-decimal-le}
use Rattle.det_values.specs.Values.{RefusedAtValue, phase_word}
use Rattle.det_values.specs.declared.refused_at.Phase.{Phase}
use Rattle.det_values.specs.declared.refused_at.Phase.TheVariants.{Prepare, Pool, Conclude}
use Rattle.probes.specs.Texts.{count_text, gap_text, limit_text, refusal_text}

short_number : (n : ℕ) → n < 2 ^ 64 → length (decimal n) ≤ 20
short_number n small = length-decimal-le 20 n (omega arith) (omega arith) small

pub count_short : (finished refused : ℕ) → finished < 2 ^ 64 → refused < 2 ^ 64 → length (count_text finished refused) ≤ 256
count_short finished refused f r =
    let a : length (decimal finished) ≤ 20 = short_number finished f in
    let b : length (decimal refused) ≤ 20 = short_number refused r in
    simp length-append (omega arith)

pub limit_short : (seen refused : ℕ) → seen < 2 ^ 64 → refused < 2 ^ 64 → length (limit_text seen refused) ≤ 256
limit_short seen refused s r =
    let a : length (decimal seen) ≤ 20 = short_number seen s in
    let b : length (decimal refused) ≤ 20 = short_number refused r in
    simp length-append (omega arith)

pub gap_short : (gap : ℕ) → gap < 2 ^ 64 → length (gap_text (Some gap)) ≤ 256
gap_short gap g = let a : length (decimal gap) ≤ 20 = short_number gap g in simp length-append (omega arith)

short_phase : (phase : Phase) → length (phase_word phase) ≤ 8
short_phase Prepare = omega arith
short_phase Pool = omega arith
short_phase Conclude = omega arith

pub refusal_short : (seen : ℕ) (at : RefusedAtValue) → seen < 2 ^ 64 → at.pass < 2 ^ 64 → at.element < 2 ^ 64 → at.code < 2 ^ 64
    → length (refusal_text seen (Some at)) ≤ 256
refusal_short seen at s p e c =
    let a : length (decimal seen) ≤ 20 = short_number seen s in
    let b : length (decimal at.pass) ≤ 20 = short_number at.pass p in
    let d : length (decimal at.element) ≤ 20 = short_number at.element e in
    let f : length (decimal at.code) ≤ 20 = short_number at.code c in
    let g : length (phase_word at.phase) ≤ 8 = short_phase at.phase in
    simp length-append (omega arith)
