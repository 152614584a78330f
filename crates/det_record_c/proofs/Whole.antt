-- A record whose place is the end is a whole one.
use Rattle.std.proofs.Common.{subst}
use Rattle.record_grammar.specs.declared.place.Place.TheVariants as places
use Rattle.record_grammar.specs.declared.place.Place.{Place}
use Rattle.record_grammar.specs.Laws.{AreItems}
use Rattle.record_grammar.proofs.lemmas.record_laws.Order.{whole_run}
use Rattle.det_record_c.specs.Statements.{WholeRecord}

pub whole_record : WholeRecord
whole_record r xs bytes ended w =
    let whole = whole_run xs bytes (subst (λ (to : Place). AreItems places.Header xs to) ended w.stand) w.spelling in
    record { profile = whole.profile; frames = whole.run; parts = whole.parts; spells = whole.spells }
