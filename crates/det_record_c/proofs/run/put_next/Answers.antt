use Rattle.std.proofs.Common.{rules, ◌≡◌, ◌≤◌, ◌<◌, ◌-◌, length, refl, subst, arith}
use Rattle.det_values.specs.declared.format.Format.{Format}
use Rattle.record_grammar.specs.Spelling.{IsDrawn}
use Rattle.c_types.specs.Places.{format_of}
use Rattle.det_record_c.specs.Items.{element_in}
use Rattle.det_record_c.proofs.Fields.{puts_drawn}
use Rattle.det_record_c.proofs.Written.{counted_fit}
use Rattle.det_record_c.proofs.Running.{is_element_put}
use Rattle.det_record_c.proofs.run.put_next.Goals as goal

pub returns : goal.returns
returns c =
    let some : 1 ≤ c.args.run.now.left = search rules in
    let short : length c.args.bytes.now ≤ 64 = search rules in
    let small : length c.args.out.now < 18446744073709551615 = search rules in
    let le : c.put_drawn-needed.result ≤ length c.args.out.now = search rules in
    let format = format_of c.args.run.now.state.format in
    let same : c.format_from_number-kept.result ≡ format = c.format_from_number-kept.ensures in
    let fits = counted_fit _ _ _ c.args.out.now _ (puts_drawn _ _ _ _ _ _ _ _ same c.put_drawn-needed.ensures.puts) le small in (
      some,
      short,
      fits,
      is_element_put (element_in format c.args.bytes.now c.args.draws) _ (c.args.run.now.left - 1) _ _
          (subst (λ (f : Format). IsDrawn f (element_in f c.args.bytes.now c.args.draws)) same c.put_drawn.ensures.fields)
          (omega (arith, some)) refl (puts_drawn _ _ _ _ _ _ _ _ same c.put_drawn.ensures.puts) (omega (arith, small)) fits refl,
    )
