use Rattle.std.proofs.Common.{append_assoc}
use Rattle.record_json.specs.Records.{front_text}
use Rattle.record_json.proofs.header_line.put_front.Goals as goal

pub returns : goal.returns
unfolding front_text
returns c =
    rw (
      c.in_ok-put_exact-2.ensures,
      c.in_ok-put_str-4.ensures,
      c.in_ok-put_exact.ensures,
      c.in_ok-put_str-3.ensures,
      c.in_ok-put_number.ensures,
      c.in_ok-put_str-2.ensures,
      c.in_ok-put_format.ensures,
      c.in_ok-put_str.ensures,
      ← c.profile.view_is,
    ) (simp append_assoc)
