use Rattle.std.proofs.Common.{◌≡◌, ℕ, ◌+◌, ◌-◌, ◌≤◌, List, length, take, drop, ap, ◌∙◌, arith}
use lib.Seq.{paste}
use Rattle.record_reader.specs.item_reader.Held.{held}
use Rattle.record_reader.proofs.lemmas.item_reader.Lists.{moved, length-held}
use Rattle.record_reader.proofs.item_reader.window.Window.move_to.Goals as goal

pub returns-clause-same : goal.returns-clause-same
returns-clause-same c =
    let w = c.args.self.now in
    let at = c.args.place in
    let xs = w.buffer.items in
    let within : w.to ≤ length w.buffer.items = omega (arith, w.buffer.ok.0) in
    let n : length (held w) ≡ w.to - w.from = length-held w.from w.to w.buffer.items within in
    let len : c.len-len.result ≡ w.to - w.from = c.len-len.ensures ∙ n in
    ap (λ (xs : List ℕ). drop at (take (at + c.len-len.result) xs)) c.copy_within.ensures.items
    ∙ ap (λ (k : ℕ). drop at (take (at + k) (paste xs at (drop w.from xs) (w.to - w.from)))) len
    ∙ moved w.from w.to at w.buffer.items (omega arith) within (omega (arith, w.buffer.ok.0))
