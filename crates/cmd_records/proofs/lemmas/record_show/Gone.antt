-- An audience without probes left has seen all runs.
use Rattle.std.proofs.Common.{◌≡◌, ℕ, ◌+◌, List, [], ◌∷◌, ◌++◌, length, refl, sym, ap, ◌∙◌, arith}
use Rattle.det_values.specs.declared.frames.RunFrame.{RunFrame}
use Rattle.probes.specs.Reports.{ProbeLife, AudienceState, reports, in_turn}
use Rattle.probes.specs.Shows.{Shows}

nothing_in_turn : (k : ℕ) (runs : List RunFrame) → in_turn k runs [] ≡ []
unfolding in_turn
nothing_in_turn k [] = refl
nothing_in_turn k (run ∷ runs) = nothing_in_turn (k + 1) runs

no_reports : (runs : List RunFrame) → reports [] runs ≡ []
unfolding reports
no_reports runs = ap (λ (xs : List ℕ). xs ++ []) (nothing_in_turn 0 runs)

none_left : (probes : List ProbeLife) → length probes ≡ 0 → probes ≡ []
none_left [] none = refl
none_left (p ∷ probes) none = absurd (omega (arith, none))

pub shows-gone : (now : AudienceState) (runs : List RunFrame) → length now.seeing ≡ 0 → Shows now now runs
shows-gone now runs none =
    let same = λ (xs : List RunFrame). ap (λ (probes : List ProbeLife). now.left ++ reports probes xs) (none_left now.seeing none)
    ∙ ap (λ (more : List ℕ). now.left ++ more) (no_reports xs) in
    record { each = λ later. same (runs ++ later) ∙ sym (same later) }
