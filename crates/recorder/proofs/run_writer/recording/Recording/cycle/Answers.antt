use Rattle.std.proofs.Common.{◌≡◌, ◌<◌, ◌≤◌, ◌+◌, ℕ, [], ◌∷◌, ◌++◌, sym, ap, subst, ◌∙◌, arith}
use Rattle.det_values.specs.declared.frames.Frame.TheVariants.{Run}
use Rattle.cycle_engine.specs.Engine.{StandsFor as EngineStands}
use Rattle.record_grammar.specs.Spelling.{spelled_frame}
use Rattle.recorder.specs.declared.run_writer.counts.Counts.{Counts}
use Rattle.recorder.specs.run_writer.Recording.{counts_after}
use Rattle.recorder.proofs.lemmas.run_writer.Framing.{few_refused, stands-next}
use Rattle.recorder.proofs.run_writer.recording.Recording.cycle.Goals as goal

pub overflow_add-self : goal.overflow_add-self
overflow_add-self g c =
    let few : c.args.self.now.counts.refused ≤ c.args.self.now.engine.cycles = few_refused g.J.Job.meaning c.args.self.now
    c.requires.stands.0 c.requires.stands.1 in
    let kept : c.run_cycle.new.self.counts.refused ≡ c.args.self.now.counts.refused =
    ap (λ r. r.counts.refused) c.run_cycle.ensures.keeps in
    let one : c.refusals.result ≤ 1 = c.refusals.ensures.few in
    let cycles : c.args.self.now.engine.cycles < 1000000 = c.requires.few in
    omega arith

pub run_cycle-requires-clause-stands : goal.run_cycle-requires-clause-stands
run_cycle-requires-clause-stands g c = let stands = c.requires.stands in (stands.0, stands.1.engine)

pub returns-clause-ran : goal.returns-clause-ran
returns-clause-ran g c given h =
    let old = c.args.self.now in
    let profile = old.profile in
    let new = c.write_run.new.self in
    let same_counts : c.run_cycle.new.self.counts ≡ old.counts = ap (λ r. r.counts) c.run_cycle.ensures.keeps in
    let same_profile : c.run_cycle.new.self.profile ≡ profile = ap (λ r. r.profile) c.run_cycle.ensures.keeps in
    let wrote_it = rw (same_counts, same_profile) at c.in_ok-write_run.ensures in
    let run_is = c.in_ok-run.ensures.frame given h.engine in
    let counts : ℕ → Counts = λ n. record { cycles = n; refused = old.counts.refused + c.refusals.result; bytes = old.counts.bytes } in
    let all = wrote_it.counts_after
    ∙ ap (λ n. counts_after (counts n) (spelled_frame profile.format (Run c.in_ok-run.run')))
    (c.cycles-self.ensures ∙ ap (λ e. e.cycles) (sym wrote_it.engine)) in
    record {
      stands = stands-next g.J.Job.meaning old new given c.args.input c.in_ok-run.run' c.refusals.result h run_is
          (subst (λ e. EngineStands g.J.Job.meaning profile e (given ++ c.args.input ∷ [])) (sym wrote_it.engine)
          (c.in_ok-run.ensures.stands given h.engine))
          (ap (λ e. e.stopped) wrote_it.engine ∙ c.in_ok-run.ensures.going) wrote_it.profile c.refusals.ensures.refusals all;
      run = run_is;
      took = wrote_it.took;
    }
