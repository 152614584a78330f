use Rattle.std.proofs.Common.{List, ℕ, ◌++◌, length, sym, ap, subst, ◌∙◌, arith}
use Rattle.std.proofs.lemmas.Result.{on_ok_weaker}
use Rattle.record_view.specs.Parts.{OutputOf}
use Rattle.record_codec.proofs.Made.{output_short}
use Rattle.record_codec.proofs.fill_run.fill_output.Goals as goal

pub extend_from_slice-requires : goal.extend_from_slice-requires
extend_from_slice-requires c =
    let h = c.requires in
    let short = output_short h.0 h.1 h.2 c.args.output_at h.3 c.args.bytes.now h.4 c.view_output.result.now h.5
    (c.view_output.ensures h.0 h.1 h.2 h.3 h.4 h.5) in
    omega (arith, short, ap length c.clear.ensures)

pub returns : goal.returns
returns c =
    on_ok_weaker c.extend_from_slice.result
    (λ is format count at len outcome h.
    subst (λ (xs : List ℕ). OutputOf xs outcome)
    (sym (is ∙ ap (λ (xs : List ℕ). xs ++ c.view_output.result.now) c.clear.ensures))
    (c.view_output.ensures format count at len outcome h)) c.extend_from_slice.ensures.ok
