-- The copies, which send rows, and the taker, which takes them.
use Rattle.std.specs.Prelude.{List, [], ◌∷◌, ◌++◌}
use Rattle.twins.specs.declared.sides.Sides.{Sides}
use Rattle.twins.specs.declared.twin.Twin.{Twin}

-- all copies, in order
abbrev pub twins_of : {S G E L P : Type 0} → Sides S G E L P → List (Twin S G E L P)
twins_of sides = sides.others.items ++ sides.last ∷ []
