use Rattle.std.proofs.Common.{◌≡◌, ℕ, ◌+◌, ◌-◌, List, ◌++◌, length, take, drop, ap, ◌∙◌, arith}
use Rattle.record_reader.proofs.lemmas.item_reader.Lists.{wrote_front}
use Rattle.record_reader.proofs.item_reader.window.Window.write_front.Goals as goal

pub returns : goal.returns
returns c =
    let w = c.args.self.now in
    let bytes = c.args.bytes.now in
    let at : ℕ = w.from - length bytes in
    let xs = w.buffer.items in
    let e : at + length bytes ≡ w.from = omega arith in
    ap (λ (ys : List ℕ). drop at (take w.to ys)) c.write_buffer_at.ensures.items
    ∙ ap (λ (k : ℕ). drop at (take w.to (take at xs ++ (bytes ++ drop k xs)))) e
    ∙ wrote_front at w.from w.to xs bytes e (omega arith) (omega (arith, w.buffer.ok.0))
