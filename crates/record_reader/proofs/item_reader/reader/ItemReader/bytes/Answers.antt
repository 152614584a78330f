use Rattle.std.proofs.Common.{◌≡◌, ◌≤◌, ℕ, List, take, ap, subst, sym, arith}
use Rattle.std.proofs.lemmas.List.{length-take-le}
use Rattle.record_grammar.specs.Spelling.{AreBytes}
use Rattle.record_view.specs.Shows.{events_of, IsSpelling}
use Rattle.record_view.proofs.Cutting.{cut_shows}
use Rattle.record_reader.specs.item_reader.Held.{held}
use Rattle.record_reader.proofs.item_reader.reader.ItemReader.bytes.Goals as goal

pub returns : goal.returns
returns c item h =
    let view = c.args.view in
    let bytes : List ℕ = held c.args.self.now.window in
    let same : c.as_slice.result.now ≡ bytes = c.as_slice.ensures.value in
    let most : c.events_at-events.result ≤ 65536 = omega (arith, c.events_at-events.type_inv) in
    let few : events_of view.place ≤ 65536 = rw c.events_at-events.ensures at most in
    let are : AreBytes bytes = rw same at c.as_slice.ensures.bytes in
    subst (λ (xs : List ℕ). IsSpelling view item xs) (sym (ap (take view.span.len) same)) (record {
      shows = cut_shows view.place view.span bytes item few are h.shows;
      exact = length-take-le view.span.len bytes h.shows.within;
    })
