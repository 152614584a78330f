use Rattle.std.proofs.Common.{◌≡◌, ◌≤◌, List, ℕ, get_or, arith, rules, subst}
use Rattle.det_io.specs.Traffic.{sink_run}
use Rattle.record_view.specs.Shows.{events_of}
use Rattle.cmd_records.specs.declared.voter.voter_rows.Voter.{Voter}
use Rattle.cmd_records.specs.voter.Rows.{HoldsAt}
use Rattle.cmd_records.specs.voter.VotersState.{Writes}
use Rattle.cmd_records.proofs.lemmas.voter.Holding.{spelled-at}
use Rattle.cmd_records.proofs.voter.voters.Voters.write.Goals as goal

pub returns-clause-writes : goal.returns-clause-writes
returns-clause-writes g c place x h =
    let v = c.index.result.now in
    let most : c.events_at-events.result ≤ 65536 = omega (arith, c.events_at-events.type_inv) in
    let few : events_of c.args.item.view.place ≤ 65536 = rw c.events_at-events.ensures at most in
    let is : get_or c.args.self.now.voters.items c.args.item.copy v ≡ v = search rules in
    let holds : HoldsAt place v.reader c.args.item.view x =
    subst (λ (w : Voter). HoldsAt place w.reader c.args.item.view x) is (h.holds v) in
    let s = spelled-at place v.reader c.args.item.view x c.bytes.result.now holds (c.bytes.ensures x holds.holds) few
    c.write_majority_row.ensures.bytes in (
      subst (λ (bytes : List ℕ). Writes c.write_majority_row.result bytes
          (sink_run g.K.Sink.took g.K.Sink.faults c.args.sink.now c.write_majority_row.new.sink)) s.1 c.write_majority_row.ensures.writes,
      s.0,
    )
