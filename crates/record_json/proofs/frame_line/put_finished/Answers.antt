use Rattle.std.proofs.Common.{append_assoc}
use Rattle.record_json.proofs.frame_line.put_finished.Goals as goal

pub returns : goal.returns
returns c =
    rw (
      c.in_ok-put_str-3.ensures,
      c.in_ok-put_bytes.ensures,
      c.in_ok-put_str-2.ensures,
      c.in_ok-put_elements.ensures,
      c.in_ok-put_str.ensures,
    ) (simp append_assoc)
