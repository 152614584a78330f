use Rattle.std.proofs.Common.{List, [], length, arith, ap, ◌∙◌, subst}
use Rattle.det_values.specs.Values.{EventSpecValue}
use Rattle.det_client.specs.Life.{successor}
use Rattle.job.specs.event_cache.Windows.{HasSeen}
use Rattle.std.specs.Arc.{arc_value}
use Rattle.cycle_engine.proofs.Beginning.{comes-to-init, events-made, begins-run, all_own}
use Rattle.cycle_engine.proofs.engine.Engine.start.Goals as goal

pub invariant_of-result : goal.invariant_of-result
invariant_of-result g c =
    let laws = g.met.J.Job.laws in
    let init = comes-to-init _ _ _ _ _ _ _ _ c.new-client.ensures.life c.set_random_seed.ensures.same
    c.wait_for_activation.ensures.step c.wait_for_activation-2.ensures.step c.wait_for_activation-3.ensures.step in
    record {
      own = all_own g.J.Job.Own _ _ _ _ c.in_ok-job.ensures c.in_ok-elements.ensures c.in_ok-begun.ensures.own;
      few = omega (arith, ap length c.in_ok-elements.ensures, c.in_ok-begun.ensures.few);
      events = events-made g.J.Job.meaning c.args.profile.now (arc_value c.in_ok-job.job) c.in_ok-cache.cache c.profile.inside.events
          laws.events_made (c.in_ok-job.ensures ∙ c.requires.made) c.in_ok-cache.ensures.count (ap (λ p. p.events) c.profile.view_is)
          (omega (arith, c.events-events.ensures.count, c.events-events.ensures.few));
      ready = λ going. ap successor (c.start.ensures.same.last ∙ init.last);
      timed = c.start.ensures.same.cycle_time ∙ init.cycle_time ∙ c.new-client.ensures.cycle_time;
      in_limits = c.profile.invariant.0;
    }

pub returns-clause-stands : goal.returns-clause-stands
returns-clause-stands g c =
    let init = comes-to-init _ _ _ _ _ _ _ _ c.new-client.ensures.life c.set_random_seed.ensures.same
    c.wait_for_activation.ensures.step c.wait_for_activation-2.ensures.step c.wait_for_activation-3.ensures.step in
    let AreEvents : List EventSpecValue → Type 0 = λ events. HasSeen c.in_ok-cache.cache events [] [] in
    record {
      job = c.in_ok-job.ensures ∙ c.requires.made;
      format = ap (λ p. p.format) c.profile.view_is;
      cycle_time = ap (λ p. p.cycle_time) c.profile.view_is;
      state = begins-run g.J.Job.meaning c.args.profile.now c.args.job c.wait_for_activation-3.new.self.seed _
          (arc_value c.in_ok-elements.elements) c.requires.made
          (init.seed ∙ c.set_random_seed.ensures.seed ∙ ap (λ p. p.seed) c.profile.view_is)
          c.in_ok-begun.ensures.gives c.in_ok-elements.ensures;
      cycles = c.start.ensures.same.cycle ∙ init.cycle;
      rings = subst AreEvents (ap (λ p. p.events) c.profile.view_is) c.in_ok-cache.ensures.seen;
    }
