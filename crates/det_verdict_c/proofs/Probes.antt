-- Three probes, of which the last one may leave, see a run.
use Rattle.std.proofs.Common.{◌≡◌, ◌+◌, List, ℕ, [], ◌∷◌, ◌++◌, Bool, true, false, sym, ap, ◌∙◌, arith, if◌then◌else◌}
use Rattle.det_values.specs.declared.frames.RunFrame.{RunFrame}
use Rattle.probes.specs.declared.probe.ProbeStep.TheVariants.{Stay, Leave}
use Rattle.probes.specs.Reports.{ProbeLife, AudienceState, Sees, joined, reports}
use Rattle.probes.specs.Shows.{Shows}
use Rattle.probes.proofs.Joining.{partly_none, partly_stay, partly_leave, partly_all}

-- two probes, and a third one or the report with which it left
abbrev pub state : Bool → ProbeLife → ProbeLife → ProbeLife → List ℕ → AudienceState
state t c g r left = record { seeing = c ∷ g ∷ (if t then r ∷ [] else []); left = if t then [] else left }

module _ (run : RunFrame) (c g c' g' : ProbeLife) (counts : Sees Stay c c' run) (gaps : Sees Stay g g' run) where
  two_stay : (later : List RunFrame) → reports (c ∷ g ∷ []) (run ∷ later) ≡ reports (c' ∷ g' ∷ []) later
  two_stay later =
      sym (partly_none run later (c ∷ g ∷ []))
      ∙ ap (joined (run ∷ later)) (sym (partly_stay run later 0 (c ∷ g ∷ []) c c' (omega arith) counts))
      ∙ ap (joined (run ∷ later)) (sym (partly_stay run later 1 (c' ∷ g ∷ []) c g' (omega arith) gaps))
      ∙ partly_all run later 2 (c' ∷ g' ∷ []) (omega arith)

  three_stay : (r r' : ProbeLife) → Sees Stay r r' run → (later : List RunFrame)
      → reports (c ∷ g ∷ r ∷ []) (run ∷ later) ≡ reports (c' ∷ g' ∷ r' ∷ []) later
  three_stay r r' stays later =
      sym (partly_none run later (c ∷ g ∷ r ∷ []))
      ∙ ap (joined (run ∷ later)) (sym (partly_stay run later 0 (c ∷ g ∷ r ∷ []) c c' (omega arith) counts))
      ∙ ap (joined (run ∷ later)) (sym (partly_stay run later 1 (c' ∷ g ∷ r ∷ []) c g' (omega arith) gaps))
      ∙ ap (joined (run ∷ later)) (sym (partly_stay run later 2 (c' ∷ g' ∷ r ∷ []) c r' (omega arith) stays))
      ∙ partly_all run later 3 (c' ∷ g' ∷ r' ∷ []) (omega arith)

  third_leaves : (r r' : ProbeLife) → Sees Leave r r' run → (later : List RunFrame)
      → reports (c ∷ g ∷ r ∷ []) (run ∷ later) ≡ r'.report_after [] ++ reports (c' ∷ g' ∷ []) later
  third_leaves r r' leaves later =
      sym (partly_none run later (c ∷ g ∷ r ∷ []))
      ∙ ap (joined (run ∷ later)) (sym (partly_stay run later 0 (c ∷ g ∷ r ∷ []) c c' (omega arith) counts))
      ∙ ap (joined (run ∷ later)) (sym (partly_stay run later 1 (c' ∷ g ∷ r ∷ []) c g' (omega arith) gaps))
      ∙ partly_leave run later 2 (c' ∷ g' ∷ r ∷ []) c r' (omega arith) leaves
      ∙ ap (λ l. r'.report_after [] ++ l) (partly_all run later 2 (c' ∷ g' ∷ []) (omega arith))

  -- the third one leaves
  pub shown-leaving : (r r' : ProbeLife) → Sees Leave r r' run
      → Shows (record { seeing = c ∷ g ∷ r ∷ []; left = [] }) (record { seeing = c' ∷ g' ∷ []; left = r'.report_after [] }) (run ∷ [])
  shown-leaving r r' leaves = record { each = λ later. third_leaves r r' leaves later }

  -- it left before
  pub shown-after : (left : List ℕ) → Shows (record { seeing = c ∷ g ∷ []; left = left }) (record { seeing = c' ∷ g' ∷ []; left = left })
      (run ∷ [])
  shown-after left = record { each = λ later. ap (λ l. left ++ l) (two_stay later) }

  -- the third one stays, or left before
  pub shown-staying : (t : Bool) (r r' : ProbeLife) (left : List ℕ) → Sees Stay r r' run
      → Shows (state t c g r left) (state t c' g' r' left) (run ∷ [])
  shown-staying true r r' left stays = record { each = λ later. three_stay r r' stays later }
  shown-staying false r r' left stays = shown-after left
