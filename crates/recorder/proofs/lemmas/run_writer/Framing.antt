-- A recording that goes on by a frame.
use Rattle.std.proofs.Common.{◌≡◌, ◌<◌, ◌≤◌, ℕ, ◌+◌, List, [], ◌∷◌, ◌++◌, length, map, true, false, cond, refl, sym, ap, subst, ◌∙◌, arith}
use Rattle.std.proofs.Common.{length-append}
use Rattle.std.specs.List.{All, count_by}
use Rattle.std.proofs.lemmas.List.Elements.{All-nil, All-cons}
use Rattle.std.proofs.lemmas.List.Sums.{sum_by-append, count_by-le-length}
use Rattle.std.specs.Prelude.{Result, Ok, Err, OnOk, IfOk}
use Rattle.det_io.specs.Sink.{Grew}
use Rattle.det_io.specs.declared.failure.Failure.{Failure}
use Rattle.det_values.specs.Values.{ProfileValue, SampleValue}
use Rattle.det_values.specs.Frames.{without_draws, outcome_in_format}
use Rattle.det_values.specs.declared.format.Format.{Format}
use Rattle.det_values.specs.declared.format.Format.TheVariants.{One, Two}
use Rattle.det_values.specs.declared.frames.CycleInput.{CycleInput}
use Rattle.det_values.specs.declared.frames.DrawnElement.{DrawnElement}
use Rattle.det_values.specs.declared.frames.Outcome.{Outcome}
use Rattle.det_values.specs.declared.frames.Outcome.TheVariants.{Finished, Refused}
use Rattle.det_values.specs.declared.frames.RunFrame.{RunFrame}
use Rattle.det_values.specs.declared.frames.Frame.TheVariants.{Register, Discover, Init, Run, Terminate}
use Rattle.job.specs.Meaning.{Meaning}
use Rattle.cycle_engine.specs.Engine.{EngineState, StandsFor as EngineStands}
use Rattle.cycle_engine.specs.Frames.{first_state, state_of, frame_of, runs}
use Rattle.cycle_engine.proofs.Standing.{runs-append, length-runs, init_is}
use Rattle.record_grammar.specs.Spelling.{CanSpell, MayDraw, MayDrawAll, spelled, spelled_frame}
use Rattle.probes.specs.Shipped.{is_refused}
use Rattle.recorder.specs.declared.run_writer.counts.Counts.{Counts}
use Rattle.recorder.specs.declared.run_writer.recording.Recording.{Recording}
use Rattle.recorder.specs.run_writer.Record.{counted, Counted, record_with, opening}
use Rattle.recorder.specs.run_writer.Recording.{Keeps, IsNew, IsRecordingAfter, counts_after}
use Rattle.recorder.proofs.lemmas.run_writer.Growing.{runs-none, record-opened, record-next, record-ended}

-- ---- what a format can spell

none_drawn : (elements : List DrawnElement) → All (λ (e : DrawnElement). MayDraw One e.draws) (map without_draws elements)
none_drawn [] = All-nil (λ (e : DrawnElement). MayDraw One e.draws)
none_drawn (x ∷ xs) = All-cons (λ (e : DrawnElement). MayDraw One e.draws) (without_draws x) (map without_draws xs) refl (none_drawn xs)

any_drawn : (elements : List DrawnElement) → All (λ (e : DrawnElement). MayDraw Two e.draws) elements
any_drawn [] = All-nil (λ (e : DrawnElement). MayDraw Two e.draws)
any_drawn (x ∷ xs) = All-cons (λ (e : DrawnElement). MayDraw Two e.draws) x xs tt (any_drawn xs)

-- an outcome as a format keeps it draws what the format can spell
may_draw : (format : Format) (outcome : Outcome) → MayDrawAll format (outcome_in_format format outcome)
may_draw One (Finished elements output) = none_drawn elements
may_draw One (Refused at) = tt
may_draw Two (Finished elements output) = any_drawn elements
may_draw Two (Refused at) = tt

-- ---- counts

refusals-append : (xs ys : List RunFrame) → count_by is_refused (xs ++ ys) ≡ count_by is_refused xs + count_by is_refused ys
refusals-append xs ys = sum_by-append (λ run. cond (is_refused run) 1 0) xs ys

counted-sum : (a b : ℕ) → counted (counted a + b) ≡ counted (a + b)
counted-sum a b = omega arith

-- bytes more
counted-then : (n : ℕ) (front more all : List ℕ) → n ≡ counted (length front) → all ≡ front ++ more
    → counted (n + length more) ≡ counted (length all)
counted-then n front more all is whole =
    ap (λ k. counted (k + length more)) is ∙ counted-sum (length front) (length more)
    ∙ ap counted (sym (ap length whole ∙ length-append front more))

counted-first : (bytes : List ℕ) → counted (0 + length bytes) ≡ counted (length bytes)
counted-first bytes = let sum : 0 + length bytes ≡ length bytes = omega arith in ap counted sum

module _ {S G E L P : Type 0} (m : Meaning S G E L P) where
  -- the frame that the engine returns can be spelled
  pub spelled-run : {F : Type 0} (engine : EngineState S G E) (profile : ProfileValue) (given : List CycleInput) (input : CycleInput)
      (result : Result RunFrame F)
      → IfOk result (λ run. (p : ProfileValue) (inputs : List CycleInput) → EngineStands m p engine inputs
      → run ≡ frame_of m p inputs (state_of m p inputs) input)
      → EngineStands m profile engine given → All (λ (s : SampleValue). s.event < length profile.events) input.samples
      → IfOk result (λ run. CanSpell profile.format (length profile.events) (Run run))
  spelled-run engine profile given input (Ok run) is stands known =
      let all : CanSpell profile.format (length profile.events) (Run (frame_of m profile given (state_of m profile given) input)) =
      (known, may_draw profile.format _) in
      rw (is profile given stands) all
  spelled-run engine profile given input (Err e) is stands known = tt

  -- no more refused cycles than cycles
  pub few_refused : (recording : Recording S G E L P) (given : List CycleInput) → IsRecordingAfter m recording given
      → recording.counts.refused ≤ recording.engine.cycles
  few_refused recording given h =
      let few = count_by-le-length is_refused (runs m recording.profile given) in
      let all : length (runs m recording.profile given) ≡ length given = length-runs m recording.profile [] given
      (first_state m recording.profile) in
      let refused = h.counts.refused in
      let cycles = h.engine.cycles in
      omega arith

  -- an engine that was just started shows the elements that the run starts with
  pub opening-is : (recording : Recording S G E L P) → IsNew m recording
      → spelled recording.profile (Register ∷ Discover ∷ Init (map (m.shown recording.engine.job) recording.engine.state.elements) ∷ []) ≡
      opening m recording.profile
  unfolding opening
  opening-is recording h = ap (λ init. spelled recording.profile (Register ∷ Discover ∷ Init init ∷ []))
      (init_is m recording.profile recording.engine h.engine)

  -- the opening was written
  pub stands-opened : (old new : Recording S G E L P) (bytes : List ℕ) → IsNew m old → new.engine ≡ old.engine → new.profile ≡ old.profile
      → bytes ≡ opening m old.profile
      → new.counts ≡ counts_after old.counts bytes → IsRecordingAfter m new []
  stands-opened old new bytes h engine profile is counts =
      let none : runs m new.profile [] ≡ [] = runs-none m new.profile in
      let zero : new.counts ≡ counts_after (record { cycles = 0; refused = 0; bytes = 0 }) bytes = counts
      ∙ ap (λ (k : Counts). counts_after k bytes) h.counts in
      let whole : bytes ≡ record_with m new.profile [] false = is ∙ ap (opening m) (sym profile) ∙ sym (record-opened m new.profile) in
      record {
        engine = rw (engine, profile) h.engine;
        going = ap (λ (e : EngineState S G E). e.stopped) engine ∙ h.going;
        counts = record {
          cycles = ap (λ (k : Counts). k.cycles) zero ∙ sym (ap length none);
          refused = ap (λ (k : Counts). k.refused) zero ∙ sym (ap (count_by is_refused) none);
          bytes = ap (λ (k : Counts). k.bytes) zero ∙ counted-first bytes ∙ ap (λ l. counted (length l)) whole;
        };
      }

  pub opened-ok : (old mid new : Recording S G E L P) (before after : List ℕ → Type 0) (answer : Result (Unit {0}) Failure) → IsNew m old
      → Keeps old mid
      → mid.buffer.items ≡ opening m old.profile → new.engine ≡ mid.engine → new.profile ≡ mid.profile
      → OnOk answer (new.counts ≡ counts_after mid.counts mid.buffer.items) → OnOk answer (Grew before after mid.buffer.items)
      → OnOk answer (IsRecordingAfter m new [] × Grew before after (opening m old.profile))
  opened-ok old mid new before after (Ok value) h keeps is engine profile counts took = (
    stands-opened old new mid.buffer.items h (engine ∙ keeps.engine) (profile ∙ keeps.profile) is
        (counts ∙ ap (λ (k : Counts). counts_after k mid.buffer.items) keeps.counts),
    subst (Grew before after) is took,
  )
  opened-ok old mid new before after (Err failure) h keeps is engine profile counts took = tt

  -- a run's frame was written
  pub stands-next : (old new : Recording S G E L P) (given : List CycleInput) (input : CycleInput) (run : RunFrame) (refusals : ℕ)
      → IsRecordingAfter m old given → run ≡ frame_of m old.profile given (state_of m old.profile given) input
      → EngineStands m old.profile new.engine (given ++ input ∷ []) → new.engine.stopped ≡ false → new.profile ≡ old.profile
      → refusals ≡ count_by is_refused (run ∷ [])
      → new.counts ≡ counts_after (record { cycles = new.engine.cycles; refused = old.counts.refused + refusals; bytes = old.counts.bytes })
      (spelled_frame old.profile.format (Run run))
      → IsRecordingAfter m new (given ++ input ∷ [])
  stands-next old new given input run refusals h run_is engine going profile refused counts =
      let all : runs m old.profile given ++ run ∷ [] ≡ runs m new.profile (given ++ input ∷ []) =
      ap (λ r. runs m old.profile given ++ r ∷ []) run_is ∙ sym (runs-append m old.profile given input)
      ∙ ap (λ p. runs m p (given ++ input ∷ [])) (sym profile) in
      let whole : record_with m new.profile (given ++ input ∷ []) false ≡ record_with m old.profile given false
      ++ spelled_frame old.profile.format (Run run) =
      ap (λ p. record_with m p (given ++ input ∷ []) false) profile ∙ record-next m old.profile given input
      ∙ ap (λ r. record_with m old.profile given false ++ spelled_frame old.profile.format (Run r)) (sym run_is) in
      record {
        engine = rw profile engine;
        going = going;
        counts = record {
          cycles = ap (λ (k : Counts). k.cycles) counts ∙ engine.cycles
              ∙ sym (length-runs m old.profile [] (given ++ input ∷ []) (first_state m old.profile))
              ∙ ap (λ p. length (runs m p (given ++ input ∷ []))) (sym profile);
          refused = ap (λ (k : Counts). k.refused) counts ∙ ap (λ n. old.counts.refused + n) refused
              ∙ ap (λ n. n + count_by is_refused (run ∷ [])) h.counts.refused
              ∙ sym (refusals-append (runs m old.profile given) (run ∷ [])) ∙ ap (count_by is_refused) all;
          bytes = ap (λ (k : Counts). k.bytes) counts ∙ counted-then old.counts.bytes (record_with m old.profile given false) _ _
              h.counts.bytes whole;
        };
      }

  -- Terminate was written
  pub counted-ended : (old : Recording S G E L P) (counts : Counts) (given : List CycleInput) → IsRecordingAfter m old given
      → counts ≡ counts_after old.counts (spelled_frame old.profile.format Terminate)
      → Counted counts (runs m old.profile given) (record_with m old.profile given true)
  counted-ended old counts given h is = record {
    cycles = ap (λ (k : Counts). k.cycles) is ∙ h.counts.cycles;
    refused = ap (λ (k : Counts). k.refused) is ∙ h.counts.refused;
    bytes = ap (λ (k : Counts). k.bytes) is ∙ counted-then old.counts.bytes (record_with m old.profile given false) _ _ h.counts.bytes
        (record-ended m old.profile given);
  }
