use Rattle.stimulus.proofs.Spelling.{number_of_decimal, decimal_of_number}
use Rattle.stimulus.proofs.Signed.{value_of_decimal, decimal_of_value}
use Rattle.stimulus.proofs.Writing.{line_of_spelling, spelling_of_line, line_says}
use Rattle.stimulus.proofs.stimulus_laws.one_spelling.Goals as goal

pub returns-clause-number : goal.returns-clause-number
returns-clause-number c = number_of_decimal

pub returns-clause-only_number : goal.returns-clause-only_number
returns-clause-only_number c = decimal_of_number

pub returns-clause-value : goal.returns-clause-value
returns-clause-value c = value_of_decimal

pub returns-clause-only_value : goal.returns-clause-only_value
returns-clause-only_value c = decimal_of_value

pub returns-clause-line : goal.returns-clause-line
returns-clause-line c = line_of_spelling

pub returns-clause-only_line : goal.returns-clause-only_line
returns-clause-only_line c events bytes l few e = (spelling_of_line events bytes l few e, line_says events bytes l e)
