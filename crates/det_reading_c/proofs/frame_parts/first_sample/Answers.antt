use Rattle.std.proofs.Common.{ℤ, ap, ◌∙◌, arith, rules, SFits, w64}
use Rattle.std.proofs.lemmas.Int.{to_z-of_z}
use Rattle.record_view.specs.Parts.{a_sample}
use Rattle.det_reading_c.proofs.Samples.{sample_read}
use Rattle.det_reading_c.proofs.frame_parts.first_sample.Goals as goal

pub returns-then-bytes-lt-SAMPLE_BYTES : goal.returns-then-bytes-lt-SAMPLE_BYTES
returns-then-bytes-lt-SAMPLE_BYTES c events value rest e =
    let s = sample_read events c.args.bytes.now value rest e in absurd (omega (arith, s.room))

pub returns : goal.returns
returns c events value rest e =
    let fits : SFits w64 c.cast_signed.result = search rules in
    ap (λ (z : ℤ). a_sample c.u16_from-event.result z) (to_z-of_z w64 c.cast_signed.result fits ∙ c.cast_signed.ensures)
    ∙ (sample_read events c.args.bytes.now value rest e).is c.u16_from-event.result c.u64_from-value.result c.u16_from-event.ensures
    c.u64_from-value.ensures
