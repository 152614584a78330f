use Rattle.std.proofs.Common.{◌≡◌}
use Rattle.toml.specs.View.{table_view, members_view}
use Rattle.manifest.specs.Unknown.{unknown_in}
use Rattle.manifest.proofs.unknown_key.KeyTable.unknown_in.Given as goal

abbrev pub invariant-each_member : goal.invariant-each_member
invariant-each_member l = unknown_in l.self (table_view l.members) ≡ unknown_in l.self (members_view l.key-iterator)
