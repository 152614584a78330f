use Rattle.run_laws.proofs.GenuineLaws.{genuine_is_upgraded, format_two_stays}
use Rattle.run_laws.proofs.upgrade_law.Goals as goal

pub returns-clause-genuine : goal.returns-clause-genuine
returns-clause-genuine c = genuine_is_upgraded

pub returns-clause-format_two : goal.returns-clause-format_two
returns-clause-format_two c = format_two_stays
