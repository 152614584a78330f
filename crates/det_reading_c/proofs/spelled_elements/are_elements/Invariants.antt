use Rattle.std.specs.Prelude.{ℕ, List}
use Rattle.det_values.specs.declared.frames.DrawnElement.{DrawnElement}
use Rattle.record_grammar.specs.Grammar.{drawn_at}
use Rattle.record_view.proofs.Many.{HasMany}
use Rattle.det_reading_c.proofs.spelled_elements.are_elements.Given as goal

abbrev pub invariant-elements : goal.invariant-elements
invariant-elements l = (front : List DrawnElement) × HasMany (drawn_at l.format) l.count l.index front l.rest l.bytes
