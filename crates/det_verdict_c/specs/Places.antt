-- The first difference that a place of C stands for.
use Rattle.std.specs.Prelude.{◌==◌, Option, Some, None, if◌then◌else◌}
use Rattle.copies.specs.declared.difference.Difference.{Difference}
use Rattle.copies.specs.declared.difference.Difference.TheVariants.{Header, Kind, Time}
use Rattle.copies.specs.declared.difference.Difference.TheVariants.{Samples, Result, Element}
use Rattle.copies.specs.declared.difference.Difference.TheVariants.{Output}
use Rattle.c_types.specs.declared.frame.DetPlace.{DetPlace}

abbrev pub difference_of : DetPlace → Option Difference
difference_of p =
    if p.what == 0 then Some Header
    else if p.what == 1 then Some (Kind p.number)
    else if p.what == 2 then Some (Time p.number)
    else if p.what == 3 then Some (Samples p.number)
    else if p.what == 4 then Some (Result p.number)
    else if p.what == 5 then Some (Element p.number p.element)
    else if p.what == 6 then Some (Output p.number)
    else None
