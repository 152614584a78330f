use Rattle.std.proofs.Common.{append_assoc}
use Rattle.record_json.proofs.element_text.put_guarded.Goals as goal

pub returns : goal.returns
returns c =
    rw (
      c.in_ok-put_u16.ensures,
      c.in_ok-put_str-3.ensures,
      c.in_ok-put_i64.ensures,
      c.in_ok-put_str-2.ensures,
      c.in_ok-put_u32.ensures,
      c.in_ok-put_str.ensures,
    ) (simp append_assoc)
