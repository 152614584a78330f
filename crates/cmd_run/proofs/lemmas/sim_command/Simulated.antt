-- The result of the run of `sim`.
use Rattle.std.proofs.Common.{◌≡◌, ℕ, List, [], ◌++◌, length, sym, ap, ◌∙◌, subst}
use Rattle.std.specs.Prelude.{None, Result, Ok, Err, IfOk, OnOk}
use Rattle.det_io.specs.Sink.{Grew, GrewByPrefix}
use Rattle.det_io.specs.Traffic.{SinkRun}
use Rattle.det_values.specs.Values.{ProfileValue}
use Rattle.jobs.specs.cloud.Meaning.{meaning}
use Rattle.stimulus.specs.GeneratedText.{made}
use Rattle.stimulus.specs.Reading.{Terminated, ending}
use Rattle.probes.specs.Reports.{AudienceState, reported}
use Rattle.probes.proofs.Shown.{all-told}
use Rattle.record_text.specs.Summaries.{summary_lines}
use Rattle.record_text.specs.declared.summary_lines.Summary.{Summary}
use Rattle.cli_answers.specs.declared.answer.Answer.TheVariants.{Done, WriteFault}
use Rattle.cli_answers.specs.Outcome.{Meets, HasRisen, text_outcome}
use Rattle.cli_answers.proofs.AnswerMeets.{meets-whole, meets-write-fault}
use Rattle.cmd_run.specs.sim_command.Sim.{sim_profile, runs_over, summary_over, sim_runs, summary_of, sim_text, sim_outcome}
use Rattle.cmd_run.proofs.lemmas.sim_command.Whole.{made-is-good}

module _ (number : ℕ) (p : ProfileValue) (is : p ≡ sim_profile number) where
  -- the cloud takes its parameters
  pub takes-params : meaning.bad_param p.params (length p.events) ≡ None
  takes-params = ap (λ (q : ProfileValue). meaning.bad_param q.params (length q.events)) is

  -- the made text is whole
  pub is-whole : (text : List ℕ) → text ≡ made number → ending (length p.events) text ≡ Terminated
  is-whole text same = ap (λ (q : ProfileValue). ending (length q.events) text) is ∙ ap (ending 3) same ∙ made-is-good number

  -- the summary of the run over it and the reports of its cycles are the text
  pub text-is : {X F : Type 0} (items : X → List ℕ) (lines : Result X F) (audience : AudienceState) (text told : List ℕ) (summary : Summary)
      → text ≡ made number
      → summary ≡ summary_over meaning p text number → told ≡ reported audience (runs_over meaning p text)
      → IfOk lines (λ x. items x ≡ summary_lines summary ++ told) → IfOk lines (λ x. items x ≡ sim_text audience number)
  unfolding sim_text summary_of sim_runs
  text-is items (Ok x) audience text told summary same sum report all =
      all ∙ (λ i. summary_lines (sum i) ++ report i) ∙
      (λ i. summary_lines (summary_over meaning (is i) (same i) number) ++ reported audience (runs_over meaning (is i) (same i)))
  text-is items (Err e) audience text told summary same sum report all = tt

-- it has seen all runs of the cloud
pub saw-all : {T F : Type 0} (lines : Result T F) (number : ℕ) (p : ProfileValue) → p ≡ sim_profile number
    → (text : List ℕ) → text ≡ made number → (first mid last : AudienceState)
    → reported mid [] ≡ reported first (runs_over meaning p text) → last.left ≡ reported mid [] → last.seeing ≡ []
    → OnOk lines (reported last [] ≡ reported first (sim_runs number))
unfolding sim_runs
saw-all (Ok value) number p is text same first mid last saw left none =
    all-told last none ∙ left ∙ saw ∙ (λ i. reported first (runs_over meaning (is i) (same i)))
saw-all (Err e) number p is text same first mid last saw left none = tt

module _ (audience : AudienceState) (number : ℕ) (out : SinkRun) (text : List ℕ) (is : text ≡ sim_text audience number) where
  -- the text was written
  pub meets-done : Grew out.before out.after text → Meets (sim_outcome audience number) (Unit {0}) ⊥ out Done
  unfolding sim_outcome
  meets-done grew = meets-whole (sim_outcome audience number) (Unit {0}) ⊥ out Done text (λ e. cc) (λ e. cc)
      (λ t. ap text_outcome (sym is)) grew

  -- its writing failed
  pub meets-failed : GrewByPrefix out.before out.after text → HasRisen out → Meets (sim_outcome audience number) (Unit {0}) ⊥ out WriteFault
  unfolding sim_outcome
  meets-failed part failed = meets-write-fault (sim_outcome audience number) (Unit {0}) ⊥ out
      (λ t. subst (λ bytes. GrewByPrefix out.before out.after bytes) is part) failed
