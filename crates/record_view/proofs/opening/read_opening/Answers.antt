use Rattle.std.proofs.Common.{◌-◌, length, refl, arith}
use Rattle.record_grammar.specs.declared.item.Item.TheVariants as items
use Rattle.record_grammar.specs.Grammar.{profile_at}
use Rattle.record_grammar.proofs.SteadyFields.{profile_steady}
use Rattle.record_view.specs.Opening.{ready, opening_at}
use Rattle.record_view.proofs.Suffix.{behind_read}
use Rattle.record_view.proofs.opening.read_opening.Goals as goal

pub returns-in-Header : goal.returns-in-Header
unfolding opening_at
returns-in-Header c =
    let p = c.in_ok-layout.ensures in
    let b = behind_read profile_at profile_steady c.args.bytes.now p.0 c.in_ok-layout.rest.now p.1 in (
      ready (items.Header p.0),
      rw (c.in-Header.is, p.1) refl,
      (length c.args.bytes.now - length c.in_ok-layout.rest.now, omega arith, b.is, p.2),
    )
