use Rattle.std.proofs.Common.{append_assoc}
use Rattle.record_json.proofs.reports_line.put_json_reports.Goals as goal

pub returns : goal.returns
returns c =
    rw (c.in_ok-put_str-2.ensures, c.in_ok-put_strings.ensures, c.in_ok-put_str.ensures) (simp append_assoc)
