use Rattle.std.proofs.Common.{◌≡◌, ℕ, List, ◌<◌, ◌+◌, [], ◌∷◌, ◌++◌, map, length, refl, sym, ap, ◌∙◌, arith, length-append, get_or-set_same}
use Rattle.std.proofs.lemmas.List.{length-map}
use Rattle.std.proofs.lemmas.Grind.{common_steps}
use Rattle.std.specs.Prelude.{Result, OnErr}
use Rattle.probes.specs.Reports.{joined}
use Rattle.probes.specs.Shows.{ShowsPartly}
use Rattle.probes.proofs.Joining.{partly_none, partly_all, stay-step, leave-step, join-left}
use Rattle.probes.proofs.Seeing.{seeing-none, seeing-stay, seeing-leave, seeing-lost}
use Rattle.probes.proofs.probe_list.show_to_probes.Given.{Over}
use Rattle.probes.proofs.probe_list.show_to_probes.Goals.{After-remove-probe}
use Rattle.probes.proofs.probe_list.show_to_probes.Goals as goal

-- a probe left, and its report was lost
cut-short : (g : Over) (c : After-remove-probe g) {T E : Type 0} (answer : Result T E) (now : List ℕ) → now ≡ c.loop-at.left
    → OnErr answer (ShowsPartly
    (record { seeing = map (λ b. (goal.Probe-dyn g (b.vtable, b.value)).life b.value) c.args.probes.now.items; left = c.args.left.now })
    (record { seeing = map (λ b. (goal.Probe-dyn g (b.vtable, b.value)).life b.value) c.remove-probe.new.self.items; left = now })
    c.args.run.now)
cut-short g c answer now same =
    let lt : c.loop-at.at < length c.loop-at.probes.items = grind (arith, common_steps) in
    seeing-lost (λ b. (goal.Probe-dyn g (b.vtable, b.value)).life b.value) c.args.run.now c.loop-at.at c.loop-at.probes.items
    c.index_mut.result.now _ lt c.index_mut.ensures.value _ c.args.left.now c.loop-at.left c.loop-at.invariant.seeing answer
    c.remove-probe.new.self.items now c.remove-probe.ensures.items c.in-Leave.ensures same

pub loop-at-init : goal.loop-at-init
loop-at-init g c = record {
  partly = λ runs. ap (λ xs. c.args.left.now ++ xs)
      (sym (partly_none c.args.run.now runs (map (λ b. (goal.Probe-dyn g (b.vtable, b.value)).life b.value) c.args.probes.now.items)));
  seeing = seeing-none c.args.run.now _ c.args.left.now;
  room = omega arith;
  fewer = omega arith;
  within = omega arith;
}

pub loop-at-preserved-in-Stay : goal.loop-at-preserved-in-Stay
loop-at-preserved-in-Stay g c =
    let lt : c.loop-at.at < length c.loop-at.probes.items = grind (arith, common_steps) in
    record {
      partly = λ runs. c.loop-at.invariant.partly runs ∙ ap (λ xs. c.loop-at.left ++ joined (c.args.run.now ∷ runs) xs)
          (sym (stay-step (λ b. (goal.Probe-dyn g (b.vtable, b.value)).life b.value) c.args.run.now runs c.loop-at.at c.loop-at.probes.items
          _ c.index_mut.result.now _ lt c.index_mut.ensures.value refl c.in-Stay.ensures));
      seeing = seeing-stay (λ b. (goal.Probe-dyn g (b.vtable, b.value)).life b.value) c.args.run.now c.loop-at.at c.loop-at.probes.items
          c.index_mut.result.now _ lt c.index_mut.ensures.value
          _ c.args.left.now c.loop-at.left c.loop-at.invariant.seeing _ refl c.in-Stay.ensures;
      room = c.loop-at.invariant.room;
      fewer = c.loop-at.invariant.fewer;
      within = let l = c.loop-at-test.true in let e = c.len.ensures in omega arith;
    }

pub loop-at-preserved : goal.loop-at-preserved
loop-at-preserved g c =
    let lt : c.loop-at.at < length c.loop-at.probes.items = grind (arith, common_steps) in
    let same = c.remove-probe.ensures.value ∙ get_or-set_same c.loop-at.probes.items c.loop-at.at c.see_one.new.probe c.remove-probe.result
    lt in
    let grew = c.in_ok-extend_from_slice-in-Leave.ensures.ok
    ∙ ap (λ xs. c.loop-at.left ++ xs) (c.as_slice.ensures.items ∙ c.in_ok-report-in-Leave.ensures.bytes ∙ ap
    (λ b. ((goal.Probe-dyn g (b.vtable, b.value)).life b.value).report_after []) same) in
    record {
      partly = λ runs. c.loop-at.invariant.partly runs ∙ ap (λ xs. c.loop-at.left ++ xs)
          (leave-step (λ b. (goal.Probe-dyn g (b.vtable, b.value)).life b.value) c.args.run.now runs c.loop-at.at c.loop-at.probes.items
          c.remove-probe.new.self.items c.index_mut.result.now _ lt c.index_mut.ensures.value c.remove-probe.ensures.items
          c.in-Leave.ensures)
          ∙ join-left c.loop-at.left c.extend_from_slice.new.self _ _ grew;
      seeing = seeing-leave (λ b. (goal.Probe-dyn g (b.vtable, b.value)).life b.value) c.args.run.now c.loop-at.at c.loop-at.probes.items
          c.index_mut.result.now _ lt c.index_mut.ensures.value
          _ c.args.left.now c.loop-at.left c.loop-at.invariant.seeing c.remove-probe.new.self.items c.extend_from_slice.new.self
          c.remove-probe.ensures.items c.in-Leave.ensures grew;
      room = let short = c.in_ok-report-in-Leave.ensures.short in let size : length c.extend_from_slice.new.self ≡ length c.loop-at.left +
          length c.in_ok-report-in-Leave.report = ap length
          (c.in_ok-extend_from_slice-in-Leave.ensures.ok ∙ ap (λ xs. c.loop-at.left ++ xs) c.as_slice.ensures.items)
          ∙ length-append c.loop-at.left c.in_ok-report-in-Leave.report in
          let r = c.remove-probe.ensures.len in let l = c.loop-at.invariant.room in omega arith;
      fewer = let r = c.remove-probe.ensures.len in let l = c.loop-at.invariant.fewer in omega arith;
      within = let r = c.remove-probe.ensures.len in let l = c.loop-at-test.true in let e = c.len.ensures in omega arith;
    }

pub returns-clause-shown : goal.returns-clause-shown
returns-clause-shown g c = record {
  each = λ runs. c.loop-at.invariant.partly runs ∙ ap (λ xs. c.loop-at.left ++ xs)
      (partly_all c.args.run.now runs c.loop-at.at (map (λ b. (goal.Probe-dyn g (b.vtable, b.value)).life b.value) c.loop-at.probes.items)
      (let k = length-map c.loop-at.probes.items (λ b. (goal.Probe-dyn g (b.vtable, b.value)).life b.value) in grind
      (arith, common_steps)));
}

pub returns-in_err-report-in-Leave-clause-partly : goal.returns-in_err-report-in-Leave-clause-partly
returns-in_err-report-in-Leave-clause-partly g c =
    cut-short g (goal.at.returns-in_err-report-in-Leave-clause-partly g c).After-remove-probe _ _ refl

pub returns-in_err-extend_from_slice-in-Leave-clause-partly : goal.returns-in_err-extend_from_slice-in-Leave-clause-partly
returns-in_err-extend_from_slice-in-Leave-clause-partly g c =
    cut-short g (goal.at.returns-in_err-extend_from_slice-in-Leave-clause-partly g c).After-remove-probe _ _
    c.in_err-extend_from_slice-in-Leave.ensures.err
