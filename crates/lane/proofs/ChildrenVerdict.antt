-- What a lane finds of its children, if their outputs and exit statuses are known.
use Rattle.std.proofs.Common.{◌≡◌, ◌<◌, ◌≤◌, ◌⊎◌, inl, inr, ℕ, zero, suc, ◌+◌, List, [], ◌∷◌, length, take, get_or, nat_eq, cond}
use Rattle.std.proofs.Common.{Bool, true, false, refl, sym, ap, ◌∙◌, subst, arith}
use Rattle.std.specs.Prelude.{Option, Some, None, IsSome, IfSome, Result, Ok, Err}
use Rattle.std.specs.Option.{unwrap_or}
use Rattle.std.proofs.lemmas.List.{get_or-take}
use Rattle.det_io.specs.Count.{Rose}
use Rattle.det_io.specs.Shelf.{IsAtEnd}
use Rattle.det_io.specs.Traffic.{failure_in}
use Rattle.det_io.specs.declared.failure.Failure.TheVariants as failures
use Rattle.det_io.specs.declared.failure.Stopped.{Stopped}
use Rattle.det_io.specs.declared.failure.Stopped.TheVariants.{Refused, Failed}
use Rattle.det_io.proofs.Counts.{rose-before}
use Rattle.record_grammar.specs.declared.record_fault.Reason.{Reason}
use Rattle.record_grammar.specs.declared.record_fault.Reason.TheVariants.{Truncated}
use Rattle.copies.specs.declared.verdict.BadCopy.{BadCopy}
use Rattle.copies.specs.declared.verdict.Verdict.{Verdict}
use Rattle.copies.specs.declared.verdict.Verdict.TheVariants.{Agree, Differ}
use Rattle.copies.specs.CompareCopies.{AreLeft, Compared}
use Rattle.copies.specs.Verdict.{verdict}
use Rattle.lane.specs.child_processes.Spawners.{SpawnerState, Words, Fixed, StatusIs}
use Rattle.lane.specs.child_processes.ChildShelves.{shelf_state, ShelfStays}
use Rattle.lane.specs.declared.lane_answer.LaneAnswer.{LaneAnswer}
use Rattle.lane.specs.declared.lane_answer.LaneAnswer.TheVariants.{BadWords, BadRecord, WriteFault, OutOfMemory, ChildFailed, SpawnFault}
use Rattle.lane.specs.Answers.{failed}
use Rattle.lane.specs.Children.{AsksPrefix, AllFinished, HasAll, StatusesAre}
use Rattle.lane.specs.VerdictOrAnswer.{failure_among, known_statuses, unless, refused_by, verdict_or_answer}
use Rattle.lane.specs.Outcome.{outcome_with, first_failed, agreed, broken_off, bad_by, lane_by, outputs, statuses_of, lane_outcome}
use Rattle.lane.specs.Outcome.{KnowsChildren, StatusCounts}
use Rattle.lane.specs.Watched.{found_outcome, Watched}
use Rattle.lane.specs.Words.{LaneValue, child_words, words_from, words_of_all}
use Rattle.lane.proofs.Asking.{is_known-at, words-long}
use Rattle.lane.proofs.Statuses.{known_statuses-are, unknown-one, child-failed, found-unless}
use Rattle.lane.proofs.Slots.{slots_from, all-end, copy-ends}

-- children that were started and compared, and their exit statuses
pub record Observed (first mid late : SpawnerState) (lane : LaneValue) (ends : List (Option ℕ)) : Type 0 where
  pub left : (k : ℕ) → k < lane.copies → HasAll mid (child_words lane k) k
  pub fixed : Fixed first mid
  pub stays : ShelfStays mid late
  pub children : late.children ≡ lane.copies
  pub long : lane.copies ≤ length ends
  pub statuses : StatusesAre late ends

has-all : (told left : Option (List ℕ)) (P : Type 0) → IfSome told (λ bytes. (left ≡ Some bytes) × P) → IsSome told
    → (left ≡ Some (unwrap_or told [])) × P
has-all (Some bytes) left P h t = h
has-all None left P h t = absurd cc

held : (o : Option ℕ) → IsSome o → o ≡ Some (unwrap_or o 0)
held (Some n) t = refl
held None t = absurd cc

at-end : (o : Option (List ℕ)) → IsSome o → IfSome o (λ rest. rest ≡ []) → o ≡ Some []
at-end (Some rest) t e = ap Some e
at-end None t e = absurd cc

is-some : (o : Option (List ℕ)) (bytes : List ℕ) → o ≡ Some bytes → IsSome o
is-some (Some b) bytes e = refl
is-some None bytes e = absurd cc

weaker : (o : Option ℕ) (P Q : ℕ → Type 0) → ((s : ℕ) → P s → Q s) → IfSome o P → IfSome o Q
weaker (Some s) P Q f h = f s h
weaker None P Q f h = tt

-- the exit status that is known of a child
abbrev end_of : SpawnerState → LaneValue → ℕ → ℕ
end_of first lane k = unwrap_or (first.ends (child_words lane k)) 0

-- ---- what is told of the children in a row

outputs-left : (first mid : SpawnerState) (lane : LaneValue) (k n : ℕ)
    → ((j : ℕ) → k ≤ j → j < k + n → mid.left j ≡ Some (unwrap_or (first.gives (child_words lane j)) []))
    → AreLeft (shelf_state mid) (slots_from k n) (outputs first (words_from lane k n))
unfolding words_from slots_from
outputs-left first mid lane k zero each = tt
outputs-left first mid lane k (suc n) each =
    (each k (omega arith) (omega arith), outputs-left first mid lane (k + 1) n (λ j from below. each j (omega arith) (omega arith)))

statuses-none : (first : SpawnerState) (lane : LaneValue) (k : ℕ) → statuses_of first (words_from lane k zero) ≡ []
unfolding words_from
statuses-none first lane k = refl

statuses-more : (first : SpawnerState) (lane : LaneValue) (k n : ℕ)
    → statuses_of first (words_from lane k (suc n)) ≡ end_of first lane k ∷ statuses_of first (words_from lane (k + 1) n)
unfolding words_from
statuses-more first lane k n = refl

statuses-from : (first : SpawnerState) (lane : LaneValue) (k n j : ℕ) → j < n
    → get_or (statuses_of first (words_from lane k n)) j 0 ≡ end_of first lane (k + j)
unfolding words_from
statuses-from first lane k zero j h = absurd (omega arith)
statuses-from first lane k (suc n) zero h = let same : k ≡ k + zero = omega arith in ap (end_of first lane) same
statuses-from first lane k (suc n) (suc j) h =
    let same : k + 1 + j ≡ k + suc j = omega arith in
    statuses-from first lane (k + 1) n j (omega arith) ∙ ap (end_of first lane) same

statuses-at : (first : SpawnerState) (lane : LaneValue) (n j : ℕ) → j < n
    → get_or (statuses_of first (words_from lane 0 n)) j 0 ≡ end_of first lane j
statuses-at first lane n j h = let same : 0 + j ≡ j = omega arith in statuses-from first lane 0 n j h ∙ ap (end_of first lane) same

-- ---- one refusal

refused-told : (reason : Reason) (bad : BadCopy) (status : Option ℕ) (statuses : List ℕ)
    → (reason ≡ Truncated → IfSome status (λ s. s ≡ get_or statuses bad.copy 0))
    → (refused_by reason bad status ≡ SpawnFault) ⊎ (refused_by reason bad status ≡ bad_by reason bad statuses)
refused-told Truncated bad None statuses h = inl refl
refused-told Truncated bad (Some s) statuses h = inr (by (nat_eq s 0) ∙ ap (broken_off bad) (h refl))
  where
    by : (b : Bool) → unwrap_or (cond b None (Some (ChildFailed bad.copy s))) (BadRecord bad.copy bad.fault)
        ≡ cond b (BadRecord bad.copy bad.fault) (ChildFailed bad.copy s)
    by true = refl
    by false = refl
refused-told reason bad status statuses h = inr refl

refused-cause : (reason : Reason) (bad : BadCopy) (status : Option ℕ) → refused_by reason bad status ≡ SpawnFault
    → (reason ≡ Truncated) × (status ≡ None)
refused-cause Truncated bad None e = (refl, refl)
refused-cause Truncated bad (Some s) e = absurd (by (nat_eq s 0) e)
  where
    by : (b : Bool) → unwrap_or (cond b None (Some (ChildFailed bad.copy s))) (BadRecord bad.copy bad.fault) ≡ SpawnFault → ⊥
    by true e = cc
    by false e = cc
refused-cause reason bad status e = absurd cc

refused-quiet : (reason : Reason) (bad : BadCopy) (status : Option ℕ) (answer : LaneAnswer) → refused_by reason bad status ≡ answer
    → (answer ≡ WriteFault) ⊎ (answer ≡ BadWords) → ⊥
refused-quiet Truncated bad None answer e q = elim q [ inl w ↦ cc | inr w ↦ cc ]
refused-quiet Truncated bad (Some s) answer e q = by (nat_eq s 0) e
  where
    by : (b : Bool) → unwrap_or (cond b None (Some (ChildFailed bad.copy s))) (BadRecord bad.copy bad.fault) ≡ answer → ⊥
    by true e = elim q [ inl w ↦ cc | inr w ↦ cc ]
    by false e = elim q [ inl w ↦ cc | inr w ↦ cc ]
refused-quiet reason bad status answer e q = elim q [ inl w ↦ cc | inr w ↦ cc ]

-- ---- the whole

module _ {first mid late : SpawnerState} (lane : LaneValue) (ends : List (Option ℕ)) (h : Observed first mid late lane ends) where
  child-had : (k : ℕ) → k < lane.copies → KnowsChildren first (words_of_all lane)
      → (mid.left k ≡ Some (unwrap_or (first.gives (child_words lane k)) [])) × (mid.words k ≡ Some (child_words lane k))
  child-had k within t =
      let words : Words = child_words lane k in
      has-all (first.gives words) (mid.left k) (mid.words k ≡ Some words)
      (subst (λ (o : Option (List ℕ)). IfSome o (λ bytes. (mid.left k ≡ Some bytes) × (mid.words k ≡ Some words)))
      (ap (λ (f : Words → Option (List ℕ)). f words) h.fixed.gives) (h.left k within)) (is_known-at first lane lane.copies k within t).0

  are-left : KnowsChildren first (words_of_all lane)
      → AreLeft (shelf_state mid) (slots_from 0 lane.copies) (outputs first (words_of_all lane))
  are-left t = outputs-left first mid lane 0 lane.copies (λ j from below. (child-had j (omega arith) t).0)

  -- a child with nothing left ended as is known of it
  child-ended : (k : ℕ) → k < lane.copies → KnowsChildren first (words_of_all lane) → IsAtEnd (shelf_state late) k
      → IfSome (get_or ends k None) (λ s. s ≡ end_of first lane k)
  child-ended k within t end =
      let words : Words = child_words lane k in
      let had = child-had k within t in
      let same : late.words k ≡ Some words = ap (λ (f : ℕ → Option Words). f k) h.stays.stays.words ∙ had.1 in
      let told : IsSome (late.left k) = h.stays.told k (is-some (mid.left k) _ had.0) in
      let ended : late.ends words ≡ Some (end_of first lane k) =
      ap (λ (f : Words → Option ℕ). f words) (h.stays.stays.ends ∙ h.fixed.ends)
      ∙ held (first.ends words) (is_known-at first lane lane.copies k within t).1 in
      let below : k < late.children = (let n = h.children in omega arith) in
      weaker (get_or ends k None) (StatusIs late k) (λ s. s ≡ end_of first lane k)
      (λ s is. is words (end_of first lane k) same (at-end (late.left k) told end) ended) (h.statuses k below)

  found-agreed : (cycles : ℕ) → KnowsChildren first (words_of_all lane) → ((k : ℕ) → k < lane.copies → IsAtEnd (shelf_state late) k)
      → (all : Option (List ℕ)) → known_statuses (take lane.copies ends) ≡ all
      → (unless (failure_among all) (Agree cycles) ≡ Err SpawnFault) ⊎ (found_outcome (unless (failure_among all) (Agree cycles))
      ≡ agreed (first_failed 0 (statuses_of first (words_of_all lane))) cycles)
  found-agreed cycles t end None is = inl refl
  found-agreed cycles t end (Some all) is =
      let each : (j : ℕ) → j < lane.copies → IfSome (get_or ends j None) (λ s. s ≡ end_of first lane (0 + j)) =
      (λ j below. let same : j ≡ 0 + j = omega arith in
      subst (λ m. IfSome (get_or ends j None) (λ s. s ≡ end_of first lane m)) same (child-ended j below t (end j below))) in
      let these : all ≡ statuses_of first (words_of_all lane) =
      known_statuses-are (end_of first lane) 0 lane.copies ends all (λ k n. statuses_of first (words_from lane k n))
      (statuses-none first lane) (statuses-more first lane) h.long each is in
      inr (found-unless (first_failed 0 all) cycles ∙ ap (λ (l : List ℕ). agreed (first_failed 0 l) cycles) these)

  -- what is found and what is known of an end
  abbrev Told : Result Verdict (Stopped BadCopy) → Type 0
  Told r = (verdict_or_answer r (take lane.copies ends) ≡ Err SpawnFault) ⊎ ((verdict_or_answer r (take lane.copies ends) ≡ Err OutOfMemory)
      ⊎ (found_outcome (verdict_or_answer r (take lane.copies ends)) ≡ lane_outcome first lane))

  abbrev IsCompared : Result Verdict (Stopped BadCopy) → Type 0
  IsCompared r = Compared r (shelf_state mid) (shelf_state late) (slots_from 0 lane.copies)

  -- the outcome, by the verdict
  outcome-by : (v : Result Verdict BadCopy) → verdict (outputs first (words_of_all lane)) ≡ v
      → lane_by v (statuses_of first (words_of_all lane)) ≡ lane_outcome first lane
  outcome-by v is = ap (λ (w : Result Verdict BadCopy). lane_by w (statuses_of first (words_of_all lane))) (sym is)

  told-agreed : (cycles : ℕ) → IsCompared (Ok (Agree cycles)) → KnowsChildren first (words_of_all lane) → Told (Ok (Agree cycles))
  told-agreed cycles c t =
      elim (found-agreed cycles t (λ k below. all-end (shelf_state late) lane.copies k c.ends below) (known_statuses (take lane.copies
      ends)) refl) [
        | inl fault ↦ inl fault
        | inr same ↦ inr (inr (same ∙ outcome-by (Ok (Agree cycles)) (c.is _ (are-left t))))
      ]

  told-refused : (bad : BadCopy) → IsCompared (Err (Refused bad)) → KnowsChildren first (words_of_all lane) → Told (Err (Refused bad))
  told-refused bad c t =
      let statuses : List ℕ = statuses_of first (words_of_all lane) in
      let status : Option ℕ = get_or (take lane.copies ends) bad.copy None in
      let ended : bad.fault.reason ≡ Truncated → IfSome status (λ s. s ≡ get_or statuses bad.copy 0) =
      (λ e.
      let copy = copy-ends (shelf_state late) lane.copies bad.copy (c.ends e) in
      let same : status ≡ get_or ends bad.copy None = get_or-take lane.copies ends bad.copy None copy.0 in
      subst (λ (o : Option ℕ). IfSome o (λ s. s ≡ get_or statuses bad.copy 0)) (sym same)
      (weaker (get_or ends bad.copy None) _ _ (λ s is. is ∙ sym (statuses-at first lane lane.copies bad.copy copy.0))
      (child-ended bad.copy copy.0 t copy.1))) in
      elim (refused-told bad.fault.reason bad status statuses ended) [
        | inl fault ↦ inl (ap Err fault)
        | inr same ↦ inr (inr (ap (λ (a : LaneAnswer). outcome_with a []) same ∙ outcome-by (Err bad) (c.is _ (are-left t))))
      ]

  found-told : (r : Result Verdict (Stopped BadCopy)) → IsCompared r → (failure_in r ≡ Some failures.Write → ⊥)
      → KnowsChildren first (words_of_all lane) → Told r
  found-told (Ok (Agree cycles)) c no_write t = told-agreed cycles c t
  found-told (Ok (Differ copy place)) c no_write t = inr (inr (outcome-by (Ok (Differ copy place)) (c.is _ (are-left t))))
  found-told (Err (Refused bad)) c no_write t = told-refused bad c t
  found-told (Err (Failed failures.Read)) c no_write t = inl refl
  found-told (Err (Failed failures.OutOfMemory)) c no_write t = inr (inl refl)
  found-told (Err (Failed failures.Write)) c no_write t = absurd (no_write refl)

  -- the exit status of a child counts, by the verdict
  counts-by : (v : Result Verdict BadCopy) (child : ℕ) → verdict (outputs first (words_of_all lane)) ≡ v → StatusCounts v child
      → StatusCounts (verdict (outputs first (words_of_all lane))) child
  counts-by v child is counts = subst (λ (w : Result Verdict BadCopy). StatusCounts w child) (sym is) counts

  -- a spawn fault is reported only if reading failed or an exit status isn't known
  unless-cause : (all : Option (List ℕ)) (cycles : ℕ) → unless (failure_among all) (Agree cycles) ≡ Err SpawnFault → all ≡ None
  unless-cause None cycles e = refl
  unless-cause (Some all) cycles e = by (first_failed 0 all) refl e
    where
      by : (o : Option LaneAnswer) → first_failed 0 all ≡ o → unless o (Agree cycles) ≡ Err SpawnFault → Some all ≡ None
      by None is e = absurd cc
      by (Some a) is e = let failed = child-failed 0 all a is in let other = failed.2 in absurd cc

  fault-cause : (r : Result Verdict (Stopped BadCopy)) → IsCompared r → verdict_or_answer r (take lane.copies ends) ≡ Err SpawnFault
      → (failure_in r ≡ Some failures.Read) ⊎ ((j : ℕ) × (j < lane.copies) × (get_or ends j None ≡ None)
      × (KnowsChildren first (words_of_all lane) → StatusCounts (verdict (outputs first (words_of_all lane))) j))
  fault-cause (Ok (Agree cycles)) c e =
      let one = unknown-one lane.copies ends h.long (unless-cause (known_statuses (take lane.copies ends)) cycles e) in
      inr (one.0, one.1, one.2, λ t. counts-by (Ok (Agree cycles)) one.0 (c.is _ (are-left t)) tt)
  fault-cause (Ok (Differ copy place)) c e = absurd cc
  fault-cause (Err (Refused bad)) c e =
      let fault : refused_by bad.fault.reason bad (get_or (take lane.copies ends) bad.copy None) ≡ SpawnFault = cc in
      let cause = refused-cause bad.fault.reason bad (get_or (take lane.copies ends) bad.copy None) fault in
      let copy = copy-ends (shelf_state late) lane.copies bad.copy (c.ends cause.0) in
      inr (
        bad.copy,
        copy.0,
        sym (get_or-take lane.copies ends bad.copy None copy.0) ∙ cause.1,
        λ t.
            counts-by (Err bad) bad.copy (c.is _ (are-left t)) (cause.0, refl),
      )
  fault-cause (Err (Failed failures.Read)) c e = inl refl
  fault-cause (Err (Failed failures.OutOfMemory)) c e = absurd cc
  fault-cause (Err (Failed failures.Write)) c e = absurd cc

-- a verdict on children is never reported as a failed write or bad words
verdict_or_answer-quiet : (r : Result Verdict (Stopped BadCopy)) (statuses : List (Option ℕ)) (answer : LaneAnswer)
    → (failure_in r ≡ Some failures.Write → ⊥) → verdict_or_answer r statuses ≡ Err answer → (answer ≡ WriteFault) ⊎ (answer ≡ BadWords) → ⊥
verdict_or_answer-quiet (Ok (Agree cycles)) statuses answer no_write e q = by (known_statuses statuses) e
  where
    by-first : (all : List ℕ) (o : Option LaneAnswer) → first_failed 0 all ≡ o → unless o (Agree cycles) ≡ Err answer → ⊥
    by-first all None is e = cc
    by-first all (Some a) is e =
        let failed = child-failed 0 all a is in let other = failed.2 in elim q [ inl w ↦ cc | inr w ↦ cc ]

    by : (all : Option (List ℕ)) → unless (failure_among all) (Agree cycles) ≡ Err answer → ⊥
    by None e = elim q [ inl w ↦ cc | inr w ↦ cc ]
    by (Some all) e = by-first all (first_failed 0 all) refl e
verdict_or_answer-quiet (Ok (Differ copy place)) statuses answer no_write e q = cc
verdict_or_answer-quiet (Err (Refused bad)) statuses answer no_write e q =
    refused-quiet bad.fault.reason bad (get_or statuses bad.copy None) answer (cc) q
verdict_or_answer-quiet (Err (Failed failures.Read)) statuses answer no_write e q = elim q [ inl w ↦ cc | inr w ↦ cc ]
verdict_or_answer-quiet (Err (Failed failures.OutOfMemory)) statuses answer no_write e q = elim q [ inl w ↦ cc | inr w ↦ cc ]
verdict_or_answer-quiet (Err (Failed failures.Write)) statuses answer no_write e q = absurd (no_write refl)

-- what a call did to the counts of faults, from the first child on
pub record Rises (first mid late last : SpawnerState) : Type 0 where
  pub started : first.faults ≤ mid.faults
  pub compared : mid.faults ≤ late.faults
  pub finished : last.faults ≡ late.faults

-- children that were compared and finished
pub watched : {first mid late last : SpawnerState} (lane : LaneValue) (ends : List (Option ℕ)) (r : Result Verdict (Stopped BadCopy))
    → Observed first mid late lane ends → Compared r (shelf_state mid) (shelf_state late) (slots_from 0 lane.copies)
    → (failure_in r ≡ Some failures.Write → ⊥) → (failure_in r ≡ Some failures.Read → Rose mid.faults late.faults)
    → ((k : ℕ) → k < lane.copies → get_or ends k None ≡ None → last.lost k ≡ true)
    → Rises first mid late last → AsksPrefix first last (words_of_all lane) → last.children ≤ lane.copies → AllFinished last
    → Watched first last lane (verdict_or_answer r (take lane.copies ends))
watched {first = first} {mid = mid} {late = late} {last = last} lane ends r h c no_write read unknown rises asked few finished = record {
  found = record {
    finds = λ t. found-told lane ends h r c no_write t;
    read_fault = λ e. elim (fault-cause lane ends h r c e) [
      | inl failed ↦ inl (rw rises.finished (rose-before first.faults mid.faults late.faults rises.started (read failed)))
      | inr one ↦ inr (record {
        child = one.0;
        is_copy = (let long = words-long lane 0 lane.copies in omega (arith, long, one.1));
        is_lost = unknown one.0 one.1 one.2;
        counts = one.3;
      })
    ];
    writes_nothing = λ e. verdict_or_answer-quiet r (take lane.copies ends) WriteFault no_write e (inl refl);
  };
  words = λ e. verdict_or_answer-quiet r (take lane.copies ends) BadWords no_write e (inr refl);
  asked = asked;
  children = few;
  finished = finished;
}
