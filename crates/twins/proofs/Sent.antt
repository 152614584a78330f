-- A copy sends one row more.
use Rattle.std.proofs.Common.{◌≡◌, ◌<◌, ◌+◌, ℕ, List, [], ◌∷◌, ◌++◌, length, take, true, sym, ap, ◌∙◌, subst, arith}
use Rattle.det_values.specs.Values.{ProfileValue}
use Rattle.det_values.specs.declared.frames.CycleInput.{CycleInput}
use Rattle.det_values.specs.declared.frames.Frame.{Frame}
use Rattle.job.specs.Meaning.{Meaning}
use Rattle.cycle_engine.specs.Frames.{frames}
use Rattle.frame_queue.specs.declared.row.Row.{Row}
use Rattle.frame_queue.specs.declared.queue.FrameQueue.{FrameQueue}
use Rattle.frame_queue.specs.declared.ends.Sender.{Sender}
use Rattle.frame_queue.specs.Queues.{sent_of, IsSenderOf}
use Rattle.twins.specs.declared.twin.Twin.{Twin}
use Rattle.twins.specs.TwinFrames.{HasMade, IsRow, IsTwin}
use Rattle.twins.specs.TwinVerdict.{rows_from}
use Rattle.twins.proofs.Rows.{rows-more}

module _ {S G E L P : Type 0} (m : Meaning S G E L P) (profile : ProfileValue) (inputs : List CycleInput)
    (altered : ℕ → ℕ → Frame → Frame) where
  pub one-sent : (queue : FrameQueue) (old mid : Twin S G E L P) (row : Row) (sender : Sender) → IsTwin m profile inputs altered queue old
      → mid ≡ record old { engine = mid.engine } → old.number < length inputs + 4
      → IsRow m profile inputs (altered old.copy) old.number row → HasMade m profile inputs (old.number + 1) mid.engine
      → IsSenderOf queue sender → sent_of sender ≡ sent_of mid.sender ++ row ∷ []
      → IsTwin m profile inputs altered queue (record mid { sender = sender; number = mid.number + 1 })
  one-sent queue old mid row sender twin keeps within r made is_sender told =
      let all : List Frame = frames m profile inputs true in
      let copy : mid.copy ≡ old.copy = ap (λ (t : Twin S G E L P). t.copy) keeps in
      let number : mid.number ≡ old.number = ap (λ (t : Twin S G E L P). t.number) keeps in
      let before : sent_of mid.sender ≡ rows_from (altered old.copy) 0 (take old.number all) =
      ap (λ (t : Twin S G E L P). sent_of t.sender) keeps ∙ twin.sent in
      record {
        sender = is_sender;
        number = omega (arith, number, within);
        sent = told ∙ ap (λ l. l ++ row ∷ []) before ∙ ap (λ x. rows_from (altered old.copy) 0 (take old.number all) ++ x ∷ []) r.2
            ∙ sym (rows-more (altered old.copy) all old.number r.0 r.1)
            ∙ (λ i. rows_from (altered (sym copy i)) 0 (take (sym number i + 1) all));
        made = λ _. subst (λ k. HasMade m profile inputs (k + 1) mid.engine) (sym number) made;
      }

  -- a copy that sent nothing
  pub none-sent : (queue : FrameQueue) (twin : Twin S G E L P) → IsSenderOf queue twin.sender → sent_of twin.sender ≡ [] → twin.number ≡ 0
      → HasMade m profile inputs 0 twin.engine → IsTwin m profile inputs altered queue twin
  none-sent queue twin is_sender none zero made = record {
    sender = is_sender;
    number = omega (arith, zero);
    sent = none ∙ ap (λ k. rows_from (altered twin.copy) 0 (take k (frames m profile inputs true))) (sym zero);
    made = λ _. subst (λ k. HasMade m profile inputs k twin.engine) (sym zero) made;
  }
