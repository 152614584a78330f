use Rattle.std.proofs.Common.{[], ◌∷◌, true, false, refl, sym, ap, subst, ◌∙◌, inl, inr, arith}
use Rattle.std.specs.Prelude.{Some, None}
use Rattle.det_io.specs.Traffic.{sink_run}
use Rattle.det_io.proofs.Opening.{asks-all, asks-prefix-none}
use Rattle.record_grammar.specs.Record.{items as items_in}
use Rattle.cli_answers.specs.BreaksOff.{BreaksOff}
use Rattle.cli_answers.specs.Ends.{reads_nothing, reads_records}
use Rattle.cli_answers.proofs.Keeping.{keeps-same}
use Rattle.cli_answers.proofs.AnswerMeets.{meets-under}
use Rattle.cli_words.specs.declared.table.CommandWord.TheVariants as words
use Rattle.cli_words.specs.Command.{command_value}
use Rattle.cmd_records.specs.declared.record_show.show_form.ShowForm.{ShowForm}
use Rattle.cmd_records.specs.record_show.Text.{lines_of}
use Rattle.det_cli.proofs.Helping.{help-there}
use Rattle.det_cli.proofs.Joining.{same-command, sole-name, no-name, workers-fit, is-kept, is-gone, no-difference, help-is}
use Rattle.det_cli.proofs.Joining.{runs-command, reported-runs}
use Rattle.det_cli.proofs.Joining.{same-reports, names-enough}
use Rattle.det_cli.proofs.Plain.{plain-command, plain-sole, runs-quiet}
use Rattle.det_cli.proofs.ThroughBuffer.{record-of}
use Rattle.det_cli.proofs.det_program.dispatch_command.Goals as goal

pub returns-in-Needs : goal.returns-in-Needs
returns-in-Needs g c =
    let seen = command_value c.args.command in
    let name = c.name-first.result.now in
    plain-sole seen words.Needs c.requires.range c.in-Needs.is name c.name-first.ensures _ _ _ _ _ refl refl refl
    (meets-under _ _ _ _ _ _ _ (λ t. t 0 name (omega arith)) (λ r. r) c.needs.ensures.meets) c.needs.ensures.ends
    (asks-all _ _ _ c.needs.ensures.asked) refl c.needs.ensures.earlier

pub returns-in-Show : goal.returns-in-Show
returns-in-Show g c =
    let seen = command_value c.args.command in
    let names = c.name-first.result.now ∷ [] in
    let is = sole-name seen words.Show c.requires.range c.in-Show.is refl refl c.name-first.result.now c.name-first.ensures in
    let form = c.show_form.ensures in
    let part = ap (λ (f : ShowForm). f.part) form in
    runs-command (g.S.Slots.sees c.args.shelf.now) _ _ _ _ _ seen _ (same-command seen words.Show names c.in-Show.is is)
    (record {
      meets = rw (← form) c.show.ensures.meets;
      broken = λ t e. subst (λ (f : ShowForm). BreaksOff (g.S.Slots.sees c.args.shelf.now) (g.S.Slots.sees c.show.new.shelf)
          c.name-first.result.now (λ read. lines_of f (items_in read))
          (sink_run g.K.Sink.took g.K.Sink.faults c.args.out.now c.show.new.out)) form (c.show.ensures.broken e t);
      ends = c.show.ensures.ends;
      asked = c.show.ensures.asked;
      needed = λ t. c.show.ensures.asked;
      earlier = c.show.ensures.earlier;
      left = rw (← part) (is-kept c.show_form.result.part _ _ c.show.ensures.kept);
      gone = rw (← part) (λ e done. is-gone c.show_form.result.part _ (elim done [
        | inl is ↦ c.show.ensures.gone is
        | inr is ↦ absurd (no-difference reads_records _ is c.show.ensures.ends refl)
      ]) e);
      saw = rw (← form) (λ t ne. c.show.ensures.saw ne t);
    })

pub returns-in-Sim : goal.returns-in-Sim
returns-in-Sim g c =
    let seen = command_value c.args.command in
    let first = g.S.Slots.sees c.args.shelf.now in
    let number = c.number.ensures in
    runs-command first _ _ _ _ _ seen _ (same-command seen words.Sim seen.names c.in-Sim.is refl) (record {
      meets = rw (sym number) (meets-under _ _ _ _ _ _ _ (λ t. tt) (λ r. absurd r) c.sim.ensures.meets);
      broken = λ t e. tt;
      ends = c.sim.ensures.ends;
      asked = asks-prefix-none first first [] refl;
      needed = λ t. asks-prefix-none first first [] refl;
      earlier = keeps-same first;
      left = λ e. absurd cc;
      gone = λ e done. elim done [
        | inl is ↦ c.sim.ensures.gone is
        | inr is ↦ absurd (no-difference reads_nothing _ is c.sim.ensures.ends refl)
      ];
      saw = rw (sym number) (λ t ne. c.sim.ensures.saw ne);
    })

pub returns-in-Some : goal.returns-in-Some
returns-in-Some g c =
    let seen = command_value c.args.command in
    let first = g.S.Slots.sees c.args.shelf.now in
    let text = help-is (Some c.in-Some.text.now) _ seen.names c.as_slice.ensures.names c.in-Some.ensures in
    plain-command seen words.Help seen.names c.in-Help.is refl first _ _ _ _ refl
    (rw text (meets-under _ _ _ _ _ _ _ (λ t. tt) (λ r. absurd r) c.print_page.ensures.meets)) c.print_page.ensures.ends
    (asks-prefix-none first first [] refl) (λ t. asks-prefix-none first first [] refl) (keeps-same first)

pub unreachable-requires : goal.unreachable-requires
unreachable-requires g c =
    let seen = command_value c.args.command in
    let there = help-there seen c.requires.range c.in-Help.is in
    let none = sym (help-is None _ seen.names c.as_slice.ensures.names c.in-None.ensures) ∙ there.1 in
    cc

pub returns-in-Version : goal.returns-in-Version
returns-in-Version g c =
    let seen = command_value c.args.command in
    let first = g.S.Slots.sees c.args.shelf.now in
    plain-command seen words.Version [] c.in-Version.is (no-name seen words.Version c.requires.range c.in-Version.is refl) first _ _ _ _ refl
    (meets-under _ _ _ _ _ _ _ (λ t. tt) (λ r. absurd r) c.print_page-in-Version.ensures.meets) c.print_page-in-Version.ensures.ends
    (asks-prefix-none first first [] refl) (λ t. asks-prefix-none first first [] refl) (keeps-same first)

pub returns-in-Check : goal.returns-in-Check
returns-in-Check g c =
    let seen = command_value c.args.command in
    let names = c.name-first.result.now ∷ [] in
    let is = sole-name seen words.Check c.requires.range c.in-Check.is refl refl c.name-first.result.now c.name-first.ensures in
    runs-command (g.S.Slots.sees c.args.shelf.now) _ _ _ _ _ seen _ (same-command seen words.Check names c.in-Check.is is)
    (record {
      meets = c.check.ensures.meets;
      broken = λ t e. tt;
      ends = c.check.ensures.ends;
      asked = c.check.ensures.asked;
      needed = λ t. c.check.ensures.asked;
      earlier = c.check.ensures.earlier;
      left = λ e. absurd cc;
      gone = λ e done. elim done [
        | inl is ↦ c.check.ensures.gone is
        | inr is ↦ c.check.ensures.gone_differing is
      ];
      saw = λ t ne. c.check.ensures.saw ne t;
    })

pub returns-in-Vote : goal.returns-in-Vote
returns-in-Vote g c = c.dispatch_vote.ensures _

pub workers_by_option-requires : goal.workers_by_option-requires
workers_by_option-requires g c = workers-fit (command_value c.args.command) c.requires.range

pub workers_by_option-requires-in-Check : goal.workers_by_option-requires-in-Check
workers_by_option-requires-in-Check g c = workers-fit (command_value c.args.command) c.requires.range

pub compare-requires-clause-some : goal.compare-requires-clause-some
compare-requires-clause-some g c =
    names-enough (command_value c.args.command) words.Compare c.requires.range c.in-Compare.is _ (λ name. name.now)
    c.as_slice-in-Compare.ensures.names 2 refl

pub compare-requires-clause-few : goal.compare-requires-clause-few
compare-requires-clause-few g c = c.as_slice-in-Compare.ensures.within

pub returns-in-Compare : goal.returns-in-Compare
returns-in-Compare g c =
    plain-command (command_value c.args.command) words.Compare _ c.in-Compare.is (sym c.as_slice-in-Compare.ensures.names) _ _ _ _ _ refl
    c.compare.ensures.meets c.compare.ensures.ends c.compare.ensures.asked (λ t. c.compare.ensures.asked) c.compare.ensures.earlier

pub returns-then-command : goal.returns-then-command
returns-then-command g c =
    let seen = command_value c.args.command in
    let names = c.name-first.result.now ∷ [] in
    let is = sole-name seen words.Salvage c.requires.range c.in-Salvage.is refl refl c.name-first.result.now c.name-first.ensures in
    runs-command (g.S.Slots.sees c.args.shelf.now) _ _ _ _ _ seen _
    (same-reports seen words.Salvage names true c.in-Salvage.is is c.if-command.true) (record {
      meets = c.salvage_reports.ensures.meets;
      broken = λ t e. c.salvage_reports.ensures.broken e;
      ends = c.salvage_reports.ensures.ends;
      asked = c.salvage_reports.ensures.asked;
      needed = λ t. c.salvage_reports.ensures.asked;
      earlier = c.salvage_reports.ensures.earlier;
      left = λ e. absurd cc;
      gone = λ e done. elim done [
        | inl is ↦ c.salvage_reports.ensures.gone is
        | inr is ↦ absurd (no-difference reads_records _ is c.salvage_reports.ensures.ends refl)
      ];
      saw = λ t ne e. reported-runs (c.salvage_reports.ensures.saw ne t) (c.salvage_reports.ensures.meets.part t);
    })

pub returns-else-command : goal.returns-else-command
returns-else-command g c =
    let seen = command_value c.args.command in
    let names = c.name-first.result.now ∷ [] in
    let is = sole-name seen words.Salvage c.requires.range c.in-Salvage.is refl refl c.name-first.result.now c.name-first.ensures in
    runs-command (g.S.Slots.sees c.args.shelf.now) _ _ _ _ _ seen _
    (same-reports seen words.Salvage names false c.in-Salvage.is is c.if-command.false)
    (runs-quiet (record { broken = λ t e. c.salvage.ensures.broken e t; hidden = refl; seen = λ holds audience e. absurd cc })
    c.salvage.ensures.meets c.salvage.ensures.ends c.salvage.ensures.asked (λ t. c.salvage.ensures.asked) c.salvage.ensures.earlier)

pub dispatch_gathered-requires-clause-word : goal.dispatch_gathered-requires-clause-word
dispatch_gathered-requires-clause-word g c = record-of c.args.command.word c.in-Demo.is

pub returns-in-Demo : goal.returns-in-Demo
returns-in-Demo g c = c.dispatch_gathered.ensures _
