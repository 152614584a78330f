use Rattle.std.proofs.Common.{append_assoc}
use Rattle.record_json.proofs.frame_line.put_refused.Goals as goal

pub returns : goal.returns
returns c =
    rw (
      c.in_ok-put_str-6.ensures,
      c.in_ok-put_number-3.ensures,
      c.in_ok-put_str-5.ensures,
      c.in_ok-put_number-2.ensures,
      c.in_ok-put_str-4.ensures,
      c.in_ok-put_number.ensures,
      c.in_ok-put_str-3.ensures,
      c.in_ok-put_str-2.ensures,
      c.in_ok-put_str.ensures,
      c.word.ensures,
      ← c.refused.view_is,
    )
    (simp append_assoc)
