use Rattle.std.proofs.Common.{append_assoc}
use Rattle.record_json.proofs.header_line.put_event.Goals as goal

pub returns : goal.returns
returns c =
    rw (
      c.in_ok-put_str-3.ensures,
      c.in_ok-put_policy.ensures,
      c.in_ok-put_number.ensures,
      c.in_ok-put_str-2.ensures,
      c.in_ok-extend_from_slice.ensures.items,
      c.in_ok-put_str.ensures,
      c.as_slice.ensures.bytes,
      ← c.event.view_is,
    ) (simp append_assoc)
