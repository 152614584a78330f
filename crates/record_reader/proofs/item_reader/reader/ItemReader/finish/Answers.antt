use Rattle.std.proofs.Common.{ℕ, ◌+◌, Option, length, Some, refl, sym, ap, ◌∙◌}
use Rattle.record_grammar.specs.declared.record_fault.Reason.TheVariants.{Truncated}
use Rattle.record_grammar.specs.declared.record_fault.RecordFault.{RecordFault}
use Rattle.record_grammar.specs.declared.place.Place.{Place}
use Rattle.record_grammar.specs.Record.{Ending, fault_from, ending_at}
use Rattle.record_reader.proofs.lemmas.item_reader.Reading.{fault_is, ends_early}
use Rattle.record_reader.proofs.item_reader.reader.ItemReader.finish.Goals as goal

pub returns-in-End : goal.returns-in-End
returns-in-End c = (
  refl,
  λ read given h. fault_is c.args.self.now read given h
      ∙ ap (λ (place : Place). fault_from (length read) (ending_at place)) c.in-End.is,
)

abbrev truncated : ℕ → Option RecordFault
truncated len = Some (record { offset = len; reason = Truncated })

pub returns : goal.returns
returns c =
    let r = c.args.self.now in (
      refl,
      refl,
      refl,
      λ read given h. fault_is r read given h
          ∙ ap (λ (x : Ending). fault_from (length read) x) (ends_early r.place c.in_default.not-End)
          ∙ ap (λ (len : ℕ). truncated len) (sym h.stands.counted ∙ ap (λ (n : ℕ). r.before + n) (sym c.len.ensures)),
    )
