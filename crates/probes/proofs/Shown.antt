-- Runs shown one after another.
use Rattle.std.proofs.Common.{◌≡◌, ℕ, List, [], ◌++◌, refl, sym, ap, ◌∙◌, append_assoc, append-nil}
use Rattle.det_values.specs.declared.frames.RunFrame.{RunFrame}
use Rattle.probes.specs.Reports.{ProbeLife, AudienceState, reported, reports, in_turn}
use Rattle.probes.specs.Shows.{Shows}

pub shows-none : (audience : AudienceState) → Shows audience audience []
shows-none audience = record { each = λ later. refl }

pub shows-then : {first mid last : AudienceState} {shown more : List RunFrame}
    → Shows first mid shown → Shows mid last more → Shows first last (shown ++ more)
shows-then {first = first} {shown = shown} {more = more} p q = record {
  each = λ later. ap (reported first) (append_assoc shown more later) ∙ p.each (more ++ later) ∙ q.each later;
}

-- what is reported at last is all that is reported of the runs shown
pub all-reports : {first last : AudienceState} {runs : List RunFrame} → Shows first last runs → reported last [] ≡ reported first runs
all-reports {first = first} {runs = runs} h = sym (h.each []) ∙ ap (reported first) (append-nil runs)

none_more : reports [] [] ≡ []
unfolding reports in_turn
none_more = refl

-- an audience that gave all its reports reports nothing else
pub all-told : (last : AudienceState) → last.seeing ≡ [] → reported last [] ≡ last.left
all-told last none =
    ap (λ (probes : List ProbeLife). last.left ++ reports probes []) none ∙ ap (λ (more : List ℕ). last.left ++ more) none_more
    ∙ append-nil last.left
