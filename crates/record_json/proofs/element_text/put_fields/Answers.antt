use Rattle.std.proofs.Common.{append_assoc, sym, ◌∙◌}
use Rattle.record_json.proofs.Fields.{fields_there}
use Rattle.record_json.proofs.element_text.put_fields.Goals as goal

pub returns : goal.returns
returns c =
    rw (
      c.in_ok-put_str-2.ensures,
      c.in_ok-put_numbers.ensures,
      c.in_ok-put_str.ensures,
      fields_there c.args.layout c.args.bytes.now c.in-Some.length (sym c.length.ensures ∙ c.in-Some.is) c.if-bytes-length.false,
    )
    (simp append_assoc)
