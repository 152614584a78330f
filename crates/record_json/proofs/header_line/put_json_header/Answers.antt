use Rattle.std.proofs.Common.{append_assoc}
use Rattle.record_json.proofs.header_line.put_json_header.Goals as goal

pub returns : goal.returns
returns c =
    rw (
      c.in_ok-put_str-3.ensures,
      c.in_ok-put_events.ensures,
      c.in_ok-put_str-2.ensures,
      c.in_ok-put_params.ensures,
      c.in_ok-put_str.ensures,
      c.in_ok-put_front.ensures,
      c.as_slice.ensures.items,
      c.as_slice-2.ensures.items,
      ← c.profile.view_is,
    ) (simp append_assoc)
