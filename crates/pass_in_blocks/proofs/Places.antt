-- The results of blocks in their places.
use Rattle.std.proofs.Common.{ℕ, ◌<◌, List, length, slice_index_or, slice_set, Option, Result, sym, subst, arith, length-set}
use mathlib.Core.Logic.{dite}
use native.Mathlib.Decide.{ℕ_discrete}
use Rattle.std.proofs.lemmas.List.{get_or-set_same, get_or-set_other}
use Rattle.det_values.specs.declared.frames.DrawnElement.{DrawnElement}
use Rattle.job.specs.Pass.{PassResult, Refusal}
use Rattle.pass_in_blocks.specs.declared.block_answer.BlockAnswer.{BlockAnswer}
use Rattle.pass_in_blocks.specs.Steps.{IsPlace, ArePlaces}

-- one place has another content
module _ {E P : Type 0} (block : ℕ → Result (PassResult E P) Refusal) (shown : ℕ → List DrawnElement)
    (places : List (Option (BlockAnswer E P))) (b : ℕ) where
  pub placed : ArePlaces block shown places → b < length places → (x : Option (BlockAnswer E P)) → IsPlace block shown b x
      → ArePlaces block shown (slice_set places b x)
  placed here inside x is k d lt = dite (ℕ_discrete k b)
      (λ e. subst (λ (n : ℕ). IsPlace block shown n (slice_index_or (slice_set places b x) n d)) (sym e)
      (subst (IsPlace block shown b) (sym (get_or-set_same places b x d inside)) is))
      (λ ne. subst (IsPlace block shown k) (sym (get_or-set_other places b k x d ne)) (here k d (omega (arith, length-set places b x))))
