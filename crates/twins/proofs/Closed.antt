-- Queues are closed, the last one first.
use Rattle.std.proofs.Common.{◌≡◌, List, [], ◌∷◌, ◌++◌, sym, ap, ◌∙◌, append_assoc}
use Rattle.std.proofs.lemmas.List.{append-nil}
use Rattle.det_io.specs.Prefix.{IsPrefix}
use Rattle.frame_queue.specs.Queues.{sent_of}
use Rattle.twins.specs.declared.taker.Intake.{Intake}
use Rattle.twins.specs.declared.twin.Twin.{Twin}
use Rattle.twins.specs.Intakes.{rows_in}
use Rattle.twins.specs.ClosedQueues.{AreBegun}
use Rattle.twins.proofs.Pairs.{pair_none, pair_one, pair_join}

module _ {S G E L P : Type 0} where
  -- the last ones of all are closed
  pub record HaveClosed (intakes all_intakes : List Intake) (twins all_twins : List (Twin S G E L P)) : Type 0 where
    pub closed_intakes : List Intake
    pub closed_twins : List (Twin S G E L P)
    pub intakes_are : all_intakes ≡ intakes ++ closed_intakes
    pub twins_are : all_twins ≡ twins ++ closed_twins
    pub begun : AreBegun closed_intakes closed_twins

  pub none-closed : (intakes : List Intake) (twins : List (Twin S G E L P)) → HaveClosed intakes intakes twins twins
  none-closed intakes twins = record {
    closed_intakes = [];
    closed_twins = [];
    intakes_are = sym (append-nil intakes);
    twins_are = sym (append-nil twins);
    begun = pair_none (λ intake (twin : Twin S G E L P). IsPrefix (rows_in intake) (sent_of twin.sender));
  }

  pub one-closed : (intakes all_intakes rest_intakes : List Intake) (twins all_twins rest_twins : List (Twin S G E L P)) (intake : Intake)
      (twin : Twin S G E L P) → HaveClosed intakes all_intakes twins all_twins → intakes ≡ rest_intakes ++ intake ∷ []
      → twins ≡ rest_twins ++ twin ∷ []
      → IsPrefix (rows_in intake) (sent_of twin.sender) → HaveClosed rest_intakes all_intakes rest_twins all_twins
  one-closed intakes all_intakes rest_intakes twins all_twins rest_twins intake twin h l t one = record {
    closed_intakes = intake ∷ h.closed_intakes;
    closed_twins = twin ∷ h.closed_twins;
    intakes_are = h.intakes_are ∙ ap (λ x. x ++ h.closed_intakes) l ∙ append_assoc rest_intakes (intake ∷ []) h.closed_intakes;
    twins_are = h.twins_are ∙ ap (λ x. x ++ h.closed_twins) t ∙ append_assoc rest_twins (twin ∷ []) h.closed_twins;
    begun = pair_join (λ a (b : Twin S G E L P). IsPrefix (rows_in a) (sent_of b.sender)) (intake ∷ []) h.closed_intakes
        (twin ∷ []) h.closed_twins
        (pair_one (λ a (b : Twin S G E L P). IsPrefix (rows_in a) (sent_of b.sender)) intake twin one) h.begun;
  }

  pub all-closed : (all_intakes : List Intake) (all_twins : List (Twin S G E L P)) → HaveClosed [] all_intakes [] all_twins
      → AreBegun all_intakes all_twins
  all-closed all_intakes all_twins h = rw (h.intakes_are, h.twins_are) h.begun
