use Rattle.std.proofs.Common.{append_assoc}
use Rattle.record_json.proofs.frame_line.put_input.Goals as goal

pub returns : goal.returns
returns c =
    rw (
      c.in_ok-put_str-4.ensures,
      c.in_ok-put_samples.ensures,
      c.in_ok-put_str-3.ensures,
      c.in_ok-put_time.ensures,
      c.in_ok-put_str-2.ensures,
      c.in_ok-put_number.ensures,
      c.in_ok-put_str.ensures,
    ) (simp append_assoc)
