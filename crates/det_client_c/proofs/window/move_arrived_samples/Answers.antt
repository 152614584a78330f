use Rattle.std.proofs.Common.{◌≡◌, ℕ, ◌+◌, ◌-◌, ◌*◌, drop, ap, ◌∙◌, arith}
use Rattle.std.specs.List.{copy_within}
use Rattle.det_client_c.proofs.Moves.{moved, drop-copied}
use Rattle.det_client_c.proofs.window.move_arrived_samples.Goals as goal

pub returns-clause-seen : goal.returns-clause-seen
returns-clause-seen c =
    let w = c.args.window.now in
    let first : c.copy_within.new.self ≡ copy_within c.args.places.now c.args.gone w.seen 0 =
    c.copy_within.ensures.after ∙ (λ i. copy_within c.args.places.now (c.from-2.ensures i) (c.from-3.ensures i) 0) in
    let second : c.copy_within-2.new.self
    ≡ copy_within c.copy_within.new.self w.capacity (w.capacity + w.arriving) (w.seen - c.args.gone) =
    c.copy_within-2.ensures.after
    ∙ (λ i. copy_within c.copy_within.new.self (c.from-waiting.ensures i) (c.from-waiting.ensures i + c.from.ensures i)
    (c.from-4.ensures i)) in
    moved _ _ _ c.args.gone w.seen w.capacity w.arriving c.requires.gone c.requires.fits.seen c.requires.fits.arriving
    c.requires.fits.room first second

pub returns-clause-behind : goal.returns-clause-behind
returns-clause-behind c =
    let end : ℕ = 2 * c.args.window.now.capacity in
    let waiting = c.from-waiting.result in
    ap (drop end) c.copy_within-2.ensures.after
    ∙ drop-copied c.copy_within.new.self waiting (waiting + c.from.result) c.from-4.result end (omega arith) (omega arith) (omega arith)
    ∙ ap (drop end) c.copy_within.ensures.after
    ∙ drop-copied c.args.places.now c.from-2.result c.from-3.result 0 end (omega arith) (omega arith) (omega arith)
