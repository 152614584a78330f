use Rattle.std.proofs.Common.{◌≡◌, [], ◌∷◌, ◌++◌, ◌+◌, drop, get_or, rules, sym, subst}
use Rattle.std.proofs.lemmas.List.{append-nil, drop_more, drop_all}
use Rattle.copies.specs.ItemRows.{AreReadersAfter}
use Rattle.copies.proofs.SideBySide.{readers-next}
use Rattle.copies.proofs.copy_readers.readers_at.Goals as goal

pub slots-preserved : goal.slots-preserved
slots-preserved c state tail h =
    let pushed : c.slots.readers.items ++ c.new.result ∷ [] ≡ c.push.new.self.items = search rules in
    subst (λ rs. AreReadersAfter state state [] c.args.slots.now (rs ++ tail)) pushed
    (readers-next state c.args.slots.now (get_or c.args.slots.now c.slots.slot-index 0) (drop (c.slots.slot-index + 1) c.args.slots.now)
    c.slots.readers.items c.new.result
    (λ more b. c.slots.invariant state more (subst (λ ks. AreReadersAfter state state [] ks more)
    (sym (drop_more c.args.slots.now c.slots.slot-index 0 (search rules))) b))
    c.new.ensures.stands (search rules) tail h)

pub returns : goal.returns
returns c state =
    let none : [] ≡ drop c.slots.slot-index c.args.slots.now = sym (drop_all c.slots.slot-index c.args.slots.now (search rules)) in
    subst (λ rs. AreReadersAfter state state [] c.args.slots.now rs) (append-nil c.slots.readers.items)
    (c.slots.invariant state [] (subst (λ ks. AreReadersAfter state state [] ks []) none tt))
