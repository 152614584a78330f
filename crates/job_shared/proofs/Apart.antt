-- Different numbers have different bytes.
use Rattle.std.proofs.Common.{◌≡◌, ℕ, ℤ, ◌^◌, ◌<◌, ap, sym, ◌∙◌}
use Rattle.std.specs.Int.{w16, w32, w64, from_be_bytes}
use Rattle.std.proofs.lemmas.Nat.{from_be_bytes-to_be_bytes_2, from_be_bytes-to_be_bytes_4, from_be_bytes-to_be_bytes_8}
use Rattle.std.proofs.lemmas.Int.{to_z-of_z}
use mir.Val.{to_z, of_z, SFits}
use Rattle.det_values.specs.Limits.{IsSampleValue}
use Rattle.job_shared.specs.Bytes.{u16_bytes, u32_bytes, i64_bytes}
use Rattle.job_shared.proofs.Ranges.{sample_fits, of_z-below}

pub u16_bytes-apart : (a b : ℕ) → a < 2 ^ 16 → b < 2 ^ 16 → u16_bytes a ≡ u16_bytes b → a ≡ b
u16_bytes-apart a b h k e = sym (from_be_bytes-to_be_bytes_2 a h) ∙ ap (from_be_bytes w16) e ∙ from_be_bytes-to_be_bytes_2 b k

pub u32_bytes-apart : (a b : ℕ) → a < 2 ^ 32 → b < 2 ^ 32 → u32_bytes a ≡ u32_bytes b → a ≡ b
u32_bytes-apart a b h k e = sym (from_be_bytes-to_be_bytes_4 a h) ∙ ap (from_be_bytes w32) e ∙ from_be_bytes-to_be_bytes_4 b k

pub i64_bytes-apart : (a b : ℤ) → IsSampleValue a → IsSampleValue b → i64_bytes a ≡ i64_bytes b → a ≡ b
i64_bytes-apart a b h k e =
    let f : SFits w64 a = sample_fits a h in
    let g : SFits w64 b = sample_fits b k in
    let same : of_z w64 a ≡ of_z w64 b =
    sym (from_be_bytes-to_be_bytes_8 (of_z w64 a) (of_z-below a f)) ∙ ap (from_be_bytes w64) e
    ∙ from_be_bytes-to_be_bytes_8 (of_z w64 b) (of_z-below b g) in
    sym (to_z-of_z w64 a f) ∙ ap (to_z w64) same ∙ to_z-of_z w64 b g
