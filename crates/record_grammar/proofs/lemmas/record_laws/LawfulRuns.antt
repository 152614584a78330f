-- The frame of a run is read lawfully.
use Rattle.std.proofs.Common.{◌≡◌, ℕ, zero, suc, ◌≤◌, Bool, true, false, cond, eqb, List, [], ◌∷◌, ◌++◌, length, None, refl, sym, ap, ◌∙◌}
use Rattle.std.proofs.Common.{append_assoc, arith, lit≤, lit<}
use Rattle.std.specs.List.{flat_map, All}
use Rattle.std.proofs.lemmas.List.Elements.{All-nil}
use Rattle.det_values.specs.declared.format.Format.{Format}
use Rattle.det_values.specs.declared.refused_at.Phase.TheVariants as phases
use Rattle.det_values.specs.declared.frames.CycleInput.{CycleInput}
use Rattle.det_values.specs.declared.frames.DrawnElement.{DrawnElement}
use Rattle.det_values.specs.declared.frames.Outcome.{Outcome}
use Rattle.det_values.specs.declared.frames.Outcome.TheVariants.{Finished, Refused}
use Rattle.det_values.specs.declared.frames.RunFrame.{RunFrame}
use Rattle.det_values.specs.Values.{RefusedAtValue}
use Rattle.record_grammar.specs.declared.place.Layout.{Layout}
use Rattle.record_grammar.specs.Read.{Read, Got, More, Bad, ◌>>=◌, many, with_front}
use Rattle.record_grammar.specs.Numbers.{number}
use Rattle.record_grammar.specs.Grammar.{string_at, drawn_at, input_at, refusal_at, finished_from, finished_at, refused_at, run_at}
use Rattle.record_grammar.specs.Spelling.{IsString, spelled_u32, spelled_drawn, IsDrawn, spelled_input, IsInput, spelled_refusal, IsRefusal}
use Rattle.record_grammar.specs.Spelling.{spelled_finished, spelled_outcome, IsOutcome}
use Rattle.det_values.specs.declared.frames.Frame.{Frame}
use Rattle.det_values.specs.declared.frames.Frame.TheVariants as frames
use Rattle.record_grammar.proofs.lemmas.record_laws.Lawful.{IsLawful, lawful_read, lawful_values, lawful_map, lawful_then}
use Rattle.record_grammar.proofs.lemmas.record_laws.LawfulWords.{IsFrom, byte_lawful, u32_lawful, string_lawful}
use Rattle.record_grammar.proofs.lemmas.record_laws.LawfulFields.{bind_bind, bind_same, counted_lawful}
use Rattle.record_grammar.proofs.lemmas.record_laws.LawfulParts.{no_bytes, drawn_lawful, some_drawn, input_lawful, no_input, an_input}
use Rattle.record_grammar.proofs.lemmas.record_laws.LawfulParts.{a_refusal, refusal_lawful}

pub nothing_before : {A : Type 0} (r : Read (List A)) → with_front [] r ≡ r
nothing_before (Got x) = refl
nothing_before More = refl
nothing_before (Bad reason left) = refl

-- ---- how a run ended

module _ (format : Format) where
  abbrev AreElements : List DrawnElement → Type 0
  AreElements xs = IsFrom 0 65536 (length xs) × All (IsDrawn format) xs

  abbrev spelled_elements : List DrawnElement → List ℕ
  spelled_elements xs = spelled_u32 (length xs) ++ flat_map (spelled_drawn format) xs

  abbrev elements_at : List ℕ → Read (List DrawnElement)
  elements_at bytes = number 4 0 65536 bytes >>= λ n. many (drawn_at format) n.0 n.1

  elements_lawful : IsLawful AreElements spelled_elements elements_at
  elements_lawful =
      let d = some_drawn format in counted_lawful (IsDrawn format) (spelled_drawn format) (drawn_at format) d.0 d.1 (drawn_lawful format) 4
      0 65536 spelled_u32 (u32_lawful 0 65536 (lit≤ tt) (lit≤ tt))

  abbrev output_at : List ℕ → Read (List ℕ)
  output_at bytes = string_at 4 1048576 bytes

  output_lawful : IsLawful (IsString 1048576) (λ xs. spelled_u32 (length xs) ++ xs) output_at
  output_lawful = string_lawful 4 1048576 spelled_u32 (u32_lawful 0 1048576 (lit≤ tt) (lit≤ tt))

  abbrev with_output : List DrawnElement → List ℕ → Read Outcome
  with_output elements bytes = output_at bytes >>= λ output. Got (Finished elements output.0, output.1)

  abbrev finished_part : List ℕ → Read Outcome
  finished_part bytes = elements_at bytes >>= λ elements. with_output elements.0 elements.1

  abbrev refused_part : List ℕ → Read Outcome
  refused_part bytes = refusal_at bytes >>= λ r. Got (Refused r.0, r.1)

  abbrev flag_of : Outcome → ℕ
  flag_of (Finished elements output) = 0
  flag_of (Refused r) = 1

  abbrev elements_of : Outcome → List DrawnElement
  elements_of (Finished elements output) = elements
  elements_of (Refused r) = []

  abbrev output_of : Outcome → List ℕ
  output_of (Finished elements output) = output
  output_of (Refused r) = []

  abbrev refusal_of : Outcome → RefusedAtValue
  refusal_of (Finished elements output) = a_refusal phases.Prepare 0 0 0
  refusal_of (Refused r) = r

  abbrev behind_flag : Outcome → List ℕ
  behind_flag (Finished elements output) = spelled_finished format elements output
  behind_flag (Refused r) = spelled_refusal r

  abbrev EndsBy : ℕ → Outcome → Type 0
  EndsBy flag o = IsOutcome format o × (flag_of o ≡ flag)

  finished_there : (o : Outcome) → EndsBy 0 o → AreElements (elements_of o)
  finished_there (Finished elements output) h = ((omega arith, h.0.0), h.0.1)
  finished_there (Refused r) h = absurd (omega (arith, h.1))

  output_there : (es : List DrawnElement) (o : Outcome) → EndsBy 0 o → elements_of o ≡ es → IsString 1048576 (output_of o)
      × (o ≡ Finished es (output_of o))
  output_there es (Finished elements output) h e = (h.0.2, ap (λ (xs : List DrawnElement). Finished xs output) e)
  output_there es (Refused r) h e = absurd (omega (arith, h.1))

  finished_spelled : (o : Outcome) → EndsBy 0 o → EndsBy 0 o
      × (behind_flag o ≡ spelled_elements (elements_of o) ++ (spelled_u32 (length (output_of o)) ++ output_of o))
  finished_spelled (Finished elements output) h = (
    h,
    sym (append_assoc (spelled_u32 (length elements)) (flat_map (spelled_drawn format) elements)
        (spelled_u32 (length output) ++ output)),
  )
  finished_spelled (Refused r) h = absurd (omega (arith, h.1))

  finished_lawful : IsLawful (EndsBy 0) behind_flag finished_part
  finished_lawful =
      lawful_values (EndsBy 0) (EndsBy 0) (λ o. spelled_elements (elements_of o) ++ (spelled_u32 (length (output_of o)) ++ output_of o))
      behind_flag finished_part (λ o h. h) finished_spelled
      (lawful_then AreElements spelled_elements elements_at (EndsBy 0) elements_of (λ o. spelled_u32 (length (output_of o)) ++ output_of o)
      with_output
      finished_there (λ es h. (Finished es [], ((h.0.1, h.1, no_bytes 1048576), refl), refl)) elements_lawful
      (λ es h. lawful_map (IsString 1048576) (λ xs. spelled_u32 (length xs) ++ xs) output_at (λ o. EndsBy 0 o × (elements_of o ≡ es))
      output_of (λ output. Finished es output)
      (λ o k. output_there es o k.0 k.1) (λ output k. ((((h.0.1, h.1, k), refl), refl), refl)) output_lawful))

  refused_there : (o : Outcome) → EndsBy 1 o → IsRefusal (refusal_of o) × (o ≡ Refused (refusal_of o))
  refused_there (Refused r) h = (h.0, refl)
  refused_there (Finished elements output) h = absurd (omega (arith, h.1))

  refused_spelled : (o : Outcome) → EndsBy 1 o → EndsBy 1 o × (behind_flag o ≡ spelled_refusal (refusal_of o))
  refused_spelled (Refused r) h = (h, refl)
  refused_spelled (Finished elements output) h = absurd (omega (arith, h.1))

  refused_lawful : IsLawful (EndsBy 1) behind_flag refused_part
  refused_lawful =
      lawful_values (EndsBy 1) (EndsBy 1) (λ o. spelled_refusal (refusal_of o)) behind_flag refused_part (λ o h. h) refused_spelled
      (lawful_map IsRefusal spelled_refusal refusal_at (EndsBy 1) refusal_of Refused refused_there (λ r h. ((h, refl), refl))
      refusal_lawful)

  abbrev outcome_by : ℕ → List ℕ → Read Outcome
  outcome_by flag bytes = cond (eqb flag 0) (finished_part bytes) (refused_part bytes)

  by_lawful : (flag : ℕ) → IsFrom 0 1 flag → IsLawful (EndsBy flag) behind_flag (outcome_by flag)
  by_lawful zero h = let l = finished_lawful in record { again = l.again; sound = l.sound; more = l.more; bad = l.bad }
  by_lawful (suc zero) h = let l = refused_lawful in record { again = l.again; sound = l.sound; more = l.more; bad = l.bad }
  by_lawful (suc (suc n)) h = absurd (omega (arith, h.1))

  flag_there : (o : Outcome) → IsOutcome format o → IsFrom 0 1 (flag_of o)
  flag_there (Finished elements output) h = (lit≤ tt, lit≤ tt)
  flag_there (Refused r) h = (lit≤ tt, lit≤ tt)

  some_refusal : IsRefusal (a_refusal phases.Prepare 0 0 0)
  some_refusal = ((lit≤ tt, lit≤ tt), lit< tt)

  flag_example : (flag : ℕ) → IsFrom 0 1 flag → (o : Outcome) × IsOutcome format o × (flag_of o ≡ flag)
  flag_example zero h = (Finished [] [], (lit≤ tt, All-nil (IsDrawn format), no_bytes 1048576), refl)
  flag_example (suc zero) h = (Refused (a_refusal phases.Prepare 0 0 0), some_refusal, refl)
  flag_example (suc (suc n)) h = absurd (omega (arith, h.1))

  outcome_spelled : (o : Outcome) → IsOutcome format o → IsOutcome format o × (spelled_outcome format o ≡ flag_of o ∷ behind_flag o)
  outcome_spelled (Finished elements output) h = (h, refl)
  outcome_spelled (Refused r) h = (h, refl)

  abbrev outcome_at : List ℕ → Read Outcome
  outcome_at bytes = number 1 0 1 bytes >>= λ flag. outcome_by flag.0 flag.1

  outcome_lawful : IsLawful (IsOutcome format) (spelled_outcome format) outcome_at
  outcome_lawful =
      lawful_values (IsOutcome format) (IsOutcome format) (λ o. flag_of o ∷ behind_flag o) (spelled_outcome format) outcome_at (λ o h. h)
      outcome_spelled
      (lawful_then (IsFrom 0 1) (λ n. n ∷ []) (number 1 0 1) (IsOutcome format) flag_of behind_flag outcome_by flag_there flag_example
      (byte_lawful 0 1 (lit≤ tt) (lit≤ tt)) by_lawful)

-- ---- a run

abbrev pub a_run : CycleInput → Outcome → RunFrame
a_run input outcome = record { input = input; outcome = outcome }

abbrev pub IsRun : Layout → RunFrame → Type 0
IsRun layout r = IsInput layout.events r.input × IsOutcome layout.format r.outcome

abbrev pub spelled_run : Layout → RunFrame → List ℕ
spelled_run layout r = spelled_input r.input ++ spelled_outcome layout.format r.outcome

abbrev with_outcome : Layout → CycleInput → List ℕ → Read RunFrame
with_outcome layout input bytes = outcome_at layout.format bytes >>= λ outcome. Got (a_run input outcome.0, outcome.1)

abbrev parts_at : Layout → List ℕ → Read RunFrame
parts_at layout bytes = input_at layout.events bytes >>= λ input. with_outcome layout input.0 input.1

pub some_run : (layout : Layout) → (r : RunFrame) × IsRun layout r
some_run layout =
    (a_run (an_input None []) (Refused (a_refusal phases.Prepare 0 0 0)), (no_input layout.events, some_refusal layout.format))

parts_lawful : (layout : Layout) → layout.events ≤ 65536 → IsLawful (IsRun layout) (spelled_run layout) (parts_at layout)
parts_lawful layout few =
    lawful_then (IsInput layout.events) spelled_input (input_at layout.events) (IsRun layout) (λ r. r.input)
    (λ r. spelled_outcome layout.format r.outcome) (with_outcome layout)
    (λ r h. h.0) (λ i h. (a_run i (Refused (a_refusal phases.Prepare 0 0 0)), (h, some_refusal layout.format), refl))
    (input_lawful layout.events few)
    (λ input hi. lawful_map (IsOutcome layout.format) (spelled_outcome layout.format) (outcome_at layout.format)
    (λ r. IsRun layout r × (r.input ≡ input)) (λ r. r.outcome) (a_run input)
    (λ r h. (h.0.1, ap (λ (i : CycleInput). a_run i r.outcome) h.1)) (λ o h. (((hi, h), refl), refl)) (outcome_lawful layout.format))

-- ---- the reader, in these parts

abbrev as_run : CycleInput → Outcome × List ℕ → Read Frame
as_run input o = Got (frames.Run (a_run input o.0), o.1)

abbrev then : CycleInput → List DrawnElement × List ℕ → Read Frame
then input es = string_at 4 1048576 es.1 >>= λ output. Got (frames.Run (a_run input (Finished es.0 output.0)), output.1)

finished_reads : (format : Format) (input : CycleInput) (bytes : List ℕ) → finished_at format input bytes
    ≡ (finished_part format bytes >>= as_run input)
unfolding finished_at finished_from
finished_reads format input bytes =
    bind_same (number 4 0 65536 bytes) (λ n. with_front [] (many (drawn_at format) n.0 n.1) >>= (then input))
    (λ n. many (drawn_at format) n.0 n.1 >>= (then input)) (λ n. ap (λ (r : Read (List DrawnElement)). r >>= (then input))
    (nothing_before (many (drawn_at format) n.0 n.1)))
    ∙ sym (bind_bind (number 4 0 65536 bytes) (λ n. many (drawn_at format) n.0 n.1) (then input))
    ∙ bind_same (elements_at format bytes) (then input) (λ es. with_output format es.0 es.1 >>= as_run input)
    (λ es. sym (bind_bind (output_at format es.1) (λ output. Got (Finished es.0 output.0, output.1)) (as_run input)))
    ∙ sym (bind_bind (elements_at format bytes) (λ es. with_output format es.0 es.1) (as_run input))

refused_reads : (format : Format) (input : CycleInput) (bytes : List ℕ) → refused_at input bytes
    ≡ (refused_part format bytes >>= as_run input)
unfolding refused_at
refused_reads format input bytes = sym (bind_bind (refusal_at bytes) (λ r. Got (Refused r.0, r.1)) (as_run input))

by_reads : (t : Bool) (format : Format) (input : CycleInput) (bytes : List ℕ)
    → cond t (finished_at format input bytes) (refused_at input bytes)
    ≡ (cond t (finished_part format bytes) (refused_part format bytes) >>= as_run input)
by_reads true format input bytes = finished_reads format input bytes
by_reads false format input bytes = refused_reads format input bytes

outcome_reads : (format : Format) (input : CycleInput) (bytes : List ℕ)
    → (number 1 0 1 bytes >>= λ flag. cond (eqb flag.0 0) (finished_at format input flag.1) (refused_at input flag.1))
    ≡ (outcome_at format bytes >>= as_run input)
outcome_reads format input bytes =
    bind_same (number 1 0 1 bytes) (λ flag. cond (eqb flag.0 0) (finished_at format input flag.1) (refused_at input flag.1))
    (λ flag. outcome_by format flag.0 flag.1 >>= as_run input) (λ flag. by_reads (eqb flag.0 0) format input flag.1)
    ∙ sym (bind_bind (number 1 0 1 bytes) (λ flag. outcome_by format flag.0 flag.1) (as_run input))

abbrev as_frame : RunFrame × List ℕ → Read Frame
as_frame r = Got (frames.Run r.0, r.1)

run_reads : (layout : Layout) (bytes : List ℕ) → run_at layout bytes ≡ (parts_at layout bytes >>= λ r. Got (frames.Run r.0, r.1))
unfolding run_at
run_reads layout bytes =
    bind_same (input_at layout.events bytes) (λ input. number 1 0 1 input.1 >>= λ flag.
    cond (eqb flag.0 0) (finished_at layout.format input.0 flag.1) (refused_at input.0 flag.1))
    (λ input. with_outcome layout input.0 input.1 >>= as_frame)
    (λ input. outcome_reads layout.format input.0 input.1 ∙ sym (bind_bind (outcome_at layout.format input.1)
    (λ outcome. Got (a_run input.0 outcome.0, outcome.1)) as_frame))
    ∙ sym (bind_bind (input_at layout.events bytes) (λ input. with_outcome layout input.0 input.1) as_frame)

-- ---- as a frame

abbrev pub IsRunFrame : Layout → Frame → Type 0
IsRunFrame layout (frames.Run r) = IsRun layout r
IsRunFrame layout frames.Register = ⊥
IsRunFrame layout frames.Discover = ⊥
IsRunFrame layout (frames.Init elements) = ⊥
IsRunFrame layout frames.Terminate = ⊥

abbrev pub run_of : Frame → RunFrame
run_of (frames.Run r) = r
run_of frames.Register = a_run (an_input None []) (Finished [] [])
run_of frames.Discover = a_run (an_input None []) (Finished [] [])
run_of (frames.Init elements) = a_run (an_input None []) (Finished [] [])
run_of frames.Terminate = a_run (an_input None []) (Finished [] [])

run_there : (layout : Layout) (f : Frame) → IsRunFrame layout f → IsRun layout (run_of f) × (f ≡ frames.Run (run_of f))
run_there layout (frames.Run r) h = (h, refl)
run_there layout frames.Register h = absurd h
run_there layout frames.Discover h = absurd h
run_there layout (frames.Init elements) h = absurd h
run_there layout frames.Terminate h = absurd h

pub run_lawful : (layout : Layout) → layout.events ≤ 65536
    → IsLawful (IsRunFrame layout) (λ f. spelled_run layout (run_of f)) (run_at layout)
run_lawful layout few =
    lawful_read (IsRunFrame layout) (λ f. spelled_run layout (run_of f)) (run_at layout)
    (λ bytes. parts_at layout bytes >>= λ r. Got (frames.Run r.0, r.1)) (run_reads layout)
    (lawful_map (IsRun layout) (spelled_run layout) (parts_at layout) (IsRunFrame layout) run_of (λ r. frames.Run r) (run_there layout)
    (λ r h. (h, refl)) (parts_lawful layout few))
