use Rattle.std.proofs.Common.{◌≡◌, ◌<◌, ◌≤◌, ℕ, List, ◌++◌, sym, ap, subst, ◌∙◌, arith}
use Rattle.std.proofs.lemmas.List.Elements.{All-from_get_or}
use Rattle.det_values.specs.declared.format.Format.{Format}
use Rattle.record_grammar.specs.Places.{format_of}
use Rattle.record_grammar.specs.Spelling.{AreBytes, IsFrame, spelled_frame}
use Rattle.record_view.specs.Shows.{events_of}
use Rattle.copies.proofs.Equality.{bytes_decide}
use Rattle.rerun.proofs.lemmas.checker.Spellings.{spelling-one, same-spelling}
use Rattle.rerun.proofs.checker.frame_room.rerun_equals_read.Goals as goal

pub returns : goal.returns
returns c same read h =
    let place = c.args.view.place in
    let given = c.args.given.now in
    let items = c.encode_frame.new.out.items in
    let one = c.requires.read in
    let most : c.events_at.result ≤ 65536 = omega (arith, c.events_at.type_inv) in
    let few : events_of place ≤ 65536 = rw c.events_at.ensures at most in
    let fields : IsFrame (format_of place) (events_of place) given =
    rw (c.format_at.ensures, c.events_at.ensures) at c.in_ok-encode_frame.ensures.fields in
    let spelled : items ≡ spelled_frame (format_of place) given =
    c.in_ok-encode_frame.ensures.ok ∙ ap (λ (l : List ℕ). l ++ spelled_frame c.format_at.result given) c.clear.ensures.items
    ∙ ap (λ (f : Format). spelled_frame f given) c.format_at.ensures in
    let equal : items ≡ c.args.bytes.now =
    sym c.as_slice.ensures.value ∙ (bytes_decide c.as_slice.result.now c.args.bytes.now).0 (sym c.eq.ensures ∙ same) in
    let are : AreBytes items = All-from_get_or (λ b. b < 256) items 0 (λ i l. omega (arith, c.type_inv.spelling i 0 l)) in
    same-spelling c.args.view one.0 given c.args.bytes.now few (subst AreBytes equal are) one.1 one.2 fields (sym spelled ∙ equal)
    ∙ spelling-one c.args.view one.0 read c.args.bytes.now one.1 h
