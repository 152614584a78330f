-- Copies are made, one after another.
use Rattle.std.proofs.Common.{◌≡◌, ◌+◌, ℕ, List, [], ◌∷◌, ◌++◌, length, map, refl, sym, ap, ◌∙◌, zero-add}
use Rattle.std.specs.List.{range_with_len}
use Rattle.std.proofs.lemmas.List.{map-append, length-map}
use Rattle.std.proofs.lemmas.List.Elements.{All-append, All-cons, All-nil}
use Rattle.std.proofs.lemmas.List.FromFn.{map-range_with_len_more, length-range_with_len}
use Rattle.det_values.specs.Values.{ProfileValue}
use Rattle.det_values.specs.declared.frames.CycleInput.{CycleInput}
use Rattle.det_values.specs.declared.frames.Frame.{Frame}
use Rattle.job.specs.Meaning.{Meaning}
use Rattle.frame_queue.specs.declared.queue.FrameQueue.{FrameQueue}
use Rattle.twins.specs.declared.twin_copies.TwinCopies.{TwinCopies}
use Rattle.twins.specs.declared.taker.Intake.{Intake}
use Rattle.twins.specs.declared.twin.Twin.{Twin}
use Rattle.twins.specs.TwinCopies.{AreCopies}
use Rattle.twins.specs.Intakes.{IsIntakeOf, rows_in}
use Rattle.twins.specs.TwinFrames.{IsTwin}
use Rattle.twins.specs.TwinQueues.{numbers_of}
use Rattle.twins.specs.TakenRows.{HaveTaken}
use Rattle.twins.proofs.InTurn.{Took}
use Rattle.twins.proofs.Pairs.{pair_none, pair_more}

map-same : (xs : List ℕ) → map (λ x. x) xs ≡ xs
map-same [] = refl
map-same (x ∷ xs) = ap (λ l. x ∷ l) (map-same xs)

range-more : (n : ℕ) → range_with_len 0 (n + 1) ≡ range_with_len 0 n ++ n ∷ []
range-more n =
    sym (map-same (range_with_len 0 (n + 1))) ∙ map-range_with_len_more (λ x. x) 0 n n (zero-add n)
    ∙ ap (λ l. l ++ n ∷ []) (map-same (range_with_len 0 n))

took-none : (intake : Intake) → intake.rows ≡ 0 → rows_in intake ≡ [] → HaveTaken 0 (intake ∷ [])
took-none intake rows taken = All-cons (Took 0) intake [] (rows, ap length taken) (All-nil (Took 0))

module _ {S G E L P : Type 0} (m : Meaning S G E L P) (profile : ProfileValue) (inputs : List CycleInput)
    (altered : ℕ → ℕ → Frame → Frame) where
  pub none-begun : (copies : TwinCopies S G E L P) → copies.queues.items ≡ [] → copies.twins.items ≡ [] → copies.intakes.items ≡ []
      → AreCopies m profile inputs altered 0 copies
  none-begun copies q t l = record {
    twins = rw (q, t) (pair_none (IsTwin m profile inputs altered));
    numbers = ap numbers_of t;
    intakes = rw (q, l) (pair_none IsIntakeOf);
    taken = rw l (All-nil (Took 0));
  }

  pub one-begun : (count : ℕ) (old new : TwinCopies S G E L P) (queue : FrameQueue) (twin : Twin S G E L P) (intake : Intake)
      → AreCopies m profile inputs altered count old → new.queues.items ≡ old.queues.items ++ queue ∷ []
      → new.twins.items ≡ old.twins.items ++ twin ∷ [] → new.intakes.items ≡ old.intakes.items ++ intake ∷ []
      → IsTwin m profile inputs altered queue twin → twin.copy ≡ count → IsIntakeOf queue intake → intake.rows ≡ 0 → rows_in intake ≡ []
      → AreCopies m profile inputs altered (count + 1) new
  one-begun count old new queue twin intake all q t l is copy of rows taken = record {
    twins = rw (q, t) (pair_more (IsTwin m profile inputs altered) old.queues.items old.twins.items queue twin all.twins is);
    numbers = ap numbers_of t ∙ map-append (λ (x : Twin S G E L P). x.copy) old.twins.items (twin ∷ [])
        ∙ (λ i. all.numbers i ++ copy i ∷ []) ∙ sym (range-more count);
    intakes = rw (q, l) (pair_more IsIntakeOf old.queues.items old.intakes.items queue intake all.intakes of);
    taken = rw l (All-append (Took 0) old.intakes.items (intake ∷ []) all.taken (took-none intake rows taken));
  }

-- as many copies as were made
pub many-begun : {S G E L P : Type 0} {m : Meaning S G E L P} {profile : ProfileValue} {inputs : List CycleInput}
    {altered : ℕ → ℕ → Frame → Frame} (count : ℕ) (copies : TwinCopies S G E L P) → AreCopies m profile inputs altered count copies
    → length copies.twins.items ≡ count
many-begun {S} {G} {E} {L} {P} count copies all =
    sym (length-map copies.twins.items (λ (x : Twin S G E L P). x.copy)) ∙ ap length all.numbers ∙ length-range_with_len 0 count

-- copies with the same numbers, and one more of the same number
pub same-numbers : {S G E L P : Type 0} (new old : List (Twin S G E L P)) (x y : Twin S G E L P) → numbers_of new ≡ numbers_of old
    → x.copy ≡ y.copy → numbers_of (new ++ x ∷ []) ≡ numbers_of (old ++ y ∷ [])
same-numbers {S} {G} {E} {L} {P} new old x y same copy =
    map-append (λ (t : Twin S G E L P). t.copy) new (x ∷ []) ∙ ap (λ l. l ++ x.copy ∷ []) same
    ∙ ap (λ k. numbers_of old ++ k ∷ []) copy ∙ sym (map-append (λ (t : Twin S G E L P). t.copy) old (y ∷ []))
