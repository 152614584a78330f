use Rattle.std.proofs.Common.{◌≡◌, None, rules, subst}
use Rattle.std.specs.Prelude.{Option}
use Rattle.record_view.specs.declared.view.ItemView.{ItemView}
use Rattle.copies.specs.ItemRows.{IsSpelledBy}
use Rattle.copies.proofs.Holding.{end-held}
use Rattle.copies.proofs.copy_readers.compare_row.Goals as goal

pub returns-in_ok-next-in-None-clause-row : goal.returns-in_ok-next-in-None-clause-row
returns-in_ok-next-in-None-clause-row g c first given slot ours behind spelled row =
    let none : c.args.item ≡ None = search rules in
    let next = c.in_ok-next-in-None.ensures.row first given slot behind in (
      next.0,
      next.2,
      end-held c.args.place.row c.in_ok-next-in-None.next c.next_of_copy.new.reader ours next.0 c.args.bytes.now
          c.end_difference.result given
          next.1 (subst (λ (o : Option ItemView). IsSpelledBy o c.args.bytes.now ours) none spelled) c.end_difference.ensures row,
    )
