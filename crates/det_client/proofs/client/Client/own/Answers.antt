use Rattle.std.proofs.Common.{◌≡◌, ap, sym, subst, ◌∙◌}
use Rattle.det_client.specs.element_random.RandomStreams.{StandsFor}
use Rattle.det_client.specs.State.{own_place}
use Rattle.det_client.proofs.OwnStreams.{is_beginning}
use Rattle.det_client.proofs.client.Client.own.Goals as goal

pub returns-in-Some : goal.returns-in-Some
returns-in-Some c = λ k n s.
    let there : c.in-Some.own ≡ c.args.self.now.own =
    ap (λ o. own_place o c.self.inside.seed c.self.inside.cycle) (sym c.in-Some.is) ∙ ap (λ v. v.own) c.self.view_is in
    let stands : StandsFor c.in-Some.own k n = subst (λ p. StandsFor p k n) (sym there) s in
    let again : c.from_parts.result ≡ c.in-Some.own = λ i. record {
      state = (c.from_parts.ensures.state ∙ c.state.ensures.again k n stands) i;
      draws = (c.from_parts.ensures.draws ∙ c.draws.ensures.kept) i;
    } in
    again ∙ there

pub returns-in-None : goal.returns-in-None
returns-in-None c = λ k n s.
    is_beginning c.own_stream.result _ c.own_stream.ensures
    ∙ ap (λ o. own_place o c.self.inside.seed c.self.inside.cycle) (sym c.in-None.is) ∙ ap (λ v. v.own) c.self.view_is
