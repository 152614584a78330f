-- The policies that a format knows.
use Rattle.std.specs.Prelude.{◌≡◌}
use Rattle.det_values.specs.declared.format.Format.{Format}
use Rattle.det_values.specs.declared.format.Format.TheVariants.{One, Two}
use Rattle.det_values.specs.declared.event.Policy.{Policy}
use Rattle.det_values.specs.declared.event.Policy.TheVariants.{Last}

abbrev pub KnowsPolicy : Format → Policy → Type 0
KnowsPolicy One policy = policy ≡ Last
KnowsPolicy Two policy = Unit {0}
