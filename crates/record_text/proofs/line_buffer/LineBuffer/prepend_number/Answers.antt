use Rattle.std.proofs.Common.{◌≤◌, ℕ, length, decimal, ap, arith, length-append, length-drop}
use Rattle.std.proofs.lemmas.Fmt.{length-decimal-le}
use Rattle.record_text.proofs.line_buffer.LineBuffer.prepend_number.Goals as goal

pub write_digits-self-inside-requires : goal.write_digits-self-inside-requires
write_digits-self-inside-requires c =
    let few : length (decimal c.args.number) ≤ 10 = length-decimal-le 10 c.args.number (omega arith) (omega arith) (omega arith) in
    let held = length-drop c.self.inside.from c.self.inside.bytes in
    let is = ap length c.self.view_is in
    (omega (arith, few, held, is, c.self.told), omega (arith, c.self.invariant, c.self.told))

pub returns-clause-short : goal.returns-clause-short
returns-clause-short c =
    let few : length (decimal c.args.number) ≤ 10 = length-decimal-le 10 c.args.number (omega arith) (omega arith) (omega arith) in
    let is = ap length c.self.view_is in
    let new = ap length c.write_digits-self-inside.ensures.written in
    omega (arith, few, is, new, length-append {A = ℕ})
