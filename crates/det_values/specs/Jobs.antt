-- The shipped jobs, by number and by name.
use Rattle.std.specs.Prelude.{ℕ, ◌==◌, List, Option, Some, None, if◌then◌else◌, codes, bytes_eq}
use Rattle.det_values.specs.declared.job_kind.JobKind.{JobKind}
use Rattle.det_values.specs.declared.job_kind.JobKind.TheVariants.{Bank, Cloud, Guard}

abbrev pub number_of_kind : JobKind → ℕ
number_of_kind Bank = 1
number_of_kind Cloud = 2
number_of_kind Guard = 3

abbrev pub kind_of_number : ℕ → Option JobKind
kind_of_number number =
    if number == 1 then Some Bank
    else if number == 2 then Some Cloud
    else if number == 3 then Some Guard
    else None

abbrev pub kind_of_name : List ℕ → Option JobKind
kind_of_name name =
    if bytes_eq name (codes "bank") then Some Bank
    else if bytes_eq name (codes "cloud") then Some Cloud
    else if bytes_eq name (codes "guard") then Some Guard
    else None
