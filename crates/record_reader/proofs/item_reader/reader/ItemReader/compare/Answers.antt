use Rattle.std.proofs.Common.{◌≡◌, ◌<◌, ◌+◌, ℕ, length, take, ap, sym, ◌∙◌, arith}
use Rattle.std.proofs.lemmas.List.{length-take-le}
use Rattle.std.proofs.lemmas.List.Elements.{All-from_get_or}
use Rattle.record_reader.proofs.lemmas.item_reader.Matching.{start_of, compared_all, compared_some}
use Rattle.record_reader.proofs.item_reader.reader.ItemReader.compare.Goals as goal

pub returns-then-matched-bytes-clause-compared : goal.returns-then-matched-bytes-clause-compared
returns-then-matched-bytes-clause-compared g c =
    let old = c.args.self.now in
    let mid = c.forget_last.new.self in
    let p = c.pass_front-matched in
    let s = start_of old mid c.forget_last.ensures in
    compared_all p.result.1 c.args.bytes.now p.result.0 _ _ old _ p.new.self
    (record { is = s.is; count = s.count; slot = s.slot; place = s.place; fault = s.fault }) p.ensures.within c.if-matched-bytes.true
    p.ensures.passed

pub returns-clause-compared : goal.returns-clause-compared
returns-clause-compared g c =
    let old = c.args.self.now in
    let mid = c.forget_last.new.self in
    let p = c.pass_front-matched in
    let s = start_of old mid c.forget_last.ensures in
    let bytes = c.args.bytes.now in
    let back = c.in_ok-put_back.ensures in
    let n : length (take p.result.0 bytes) ≡ p.result.0 = length-take-le p.result.0 bytes p.ensures.within in
    compared_some p.result.1 bytes p.result.0 _ _ old _ p.new.self c.put_back.new.self
    (record { is = s.is; count = s.count; slot = s.slot; place = s.place; fault = s.fault }) p.ensures.within c.if-matched-bytes.false
    (All-from_get_or (λ b. b < 256) bytes 0 (λ i l. omega (arith, c.type_inv.bytes i))) p.ensures.passed back.aside back.held
    (ap (λ (k : ℕ). c.put_back.new.self.before + k) (sym n) ∙ back.before)
