use Rattle.std.proofs.Common.{◌<◌, ◌-◌, ℕ, length, Some, refl, sym, ap, ◌∙◌, subst, arith, length-take}
use Rattle.std.specs.List.{All}
use Rattle.std.proofs.lemmas.List.Elements.{All-get_or}
use Rattle.det_values.specs.Values.{SampleValue}
use Rattle.det_values.specs.declared.frames.CycleInput.{CycleInput}
use Rattle.det_values.specs.declared.frames.RunFrame.{RunFrame}
use Rattle.det_values.specs.declared.frames.Frame.TheVariants.{Run}
use Rattle.cycle_engine.proofs.Standing.{stands_events}
use Rattle.twins.proofs.Made.{input-at, run-frame, made-run}
use Rattle.twins.proofs.twin.Twin.next_run.Goals as goal

pub cycle-requires-clause-few : goal.cycle-requires-clause-few
cycle-requires-clause-few g c =
    let few = c.requires.few in
    let count = c.requires.made.stands.cycles in
    omega (arith, few, count, length-take (c.args.self.now.number - 3) c.args.run.now.inputs)

pub cycle-requires-clause-events : goal.cycle-requires-clause-events
cycle-requires-clause-events g c =
    let within : c.args.self.now.number - 3 < length c.args.run.now.inputs =
    (let a = c.requires.opened in let b = c.requires.more in omega (arith, a, b)) in
    let Known : CycleInput → Type 0 = λ input. All (λ (s : SampleValue). s.event < length c.args.run.now.profile.events) input.samples in
    let known : Known c.in_ok-input.input = subst Known (sym (c.in_ok-input.ensures ∙ c.item.ensures))
    (All-get_or Known c.args.run.now.inputs (c.args.self.now.number - 3) c.item.result.now within c.requires.known) in
    subst (λ (n : ℕ). All (λ (s : SampleValue). s.event < n) c.in_ok-input.input.samples)
    (sym (stands_events g.J.Job.meaning c.args.run.now.profile c.args.self.now.engine _ c.requires.made.stands)) known

pub returns : goal.returns
returns g c =
    let at = input-at g.J.Job.meaning c.args.run.now.profile c.args.run.now.inputs c.args.self.now.number c.item.result.now
    c.in_ok-input.input c.requires.opened c.requires.more c.item.ensures c.in_ok-input.ensures in
    record {
      frame = run-frame g.J.Job.meaning c.args.run.now.profile c.args.run.now.inputs c.args.self.now.number c.in_ok-input.input
          c.requires.opened at
          ∙ ap (λ (x : RunFrame). Some (Run x)) (sym (c.in_ok-frame.ensures.frame c.args.run.now.profile _ c.requires.made.stands));
      made = made-run g.J.Job.meaning c.args.run.now.profile c.args.run.now.inputs c.args.self.now.number c.in_ok-input.input
          c.args.self.now.engine c.cycle.new.self c.requires.opened at c.in_ok-frame.ensures.after.going
          (c.in_ok-frame.ensures.stands c.args.run.now.profile _ c.requires.made.stands);
      keeps = refl;
    }
