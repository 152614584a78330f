-- What a vote has written where a read failed.
use Rattle.std.proofs.Common.{◌≡◌, ◌<◌, ◌≤◌, ◌+◌, ℕ, zero, suc, List, [], ◌∷◌, Bor, map, length, get_or, arith}
use Rattle.std.proofs.Common.{refl, sym, ap, subst, ◌∙◌, inl, inr, Some}
use Rattle.std.proofs.lemmas.List.{length-map, get_or-map}
use Rattle.std.proofs.lemmas.List.FromFn.{length-range_with_len, get_or-range_with_len}
use Rattle.std.specs.Prelude.{Result, Ok, Err}
use Rattle.std.specs.List.{Contains}
use Rattle.det_io.specs.Shelf.{ShelfState}
use Rattle.det_io.specs.Traffic.{SinkRun}
use Rattle.det_io.specs.declared.failure.Failure.{Failure}
use Rattle.det_io.specs.declared.failure.Failure.TheVariants.{Read, Write, OutOfMemory}
use Rattle.det_io.specs.declared.failure.Stopped.{Stopped}
use Rattle.det_io.specs.declared.failure.Stopped.TheVariants.{Refused, Failed}
use Rattle.det_io.proofs.Growth.{grew-none}
use Rattle.det_io.proofs.SlotReads.{gave-told}
use Rattle.record_grammar.specs.declared.item.Item.{Item}
use Rattle.cmd_records.specs.open_names.OpenedSlots.{Opened}
use Rattle.cmd_records.proofs.lemmas.open_names.Copies.{texts, are-left}
use Rattle.copies.specs.CompareCopies.{AreLeft}
use Rattle.cmd_records.specs.declared.voter.outcome.NoMajority.{NoMajority}
use Rattle.cmd_records.specs.declared.voter.outcome.Vote.{Vote}
use Rattle.cmd_records.specs.voter.VoteResult.{ShowsRows, Breaks, HasVoted}
use Rattle.cmd_records.proofs.lemmas.voter.Held.{held-nothing}
use Rattle.cli_answers.specs.declared.answer.Answer.TheVariants.{ReadFault}
use Rattle.cli_answers.specs.Answers.{failed}
use Rattle.cli_answers.specs.Outcome.{KnowsBytes, known_bytes}
use Rattle.cli_answers.proofs.AnswerMeets.{unwritten}
use Rattle.cmd_records.specs.command_ends.Results.{answer_by}
use Rattle.cmd_records.specs.vote_command.Vote.{split_answer, CopyShows, VoteBreaksOff}

-- each slot has its copy left
left-at : (state : ShelfState) (slots : List ℕ) (copies : List (List ℕ)) (k d : ℕ) (e : List ℕ) → AreLeft state slots copies
    → k < length slots → state.left (get_or slots k d) ≡ Some (get_or copies k e)
left-at state [] copies k d e l less = absurd (omega (arith, less))
left-at state (s ∷ slots) [] k d e l less = absurd l
left-at state (s ∷ slots) (c ∷ copies) zero d e l less = l.0
left-at state (s ∷ slots) (c ∷ copies) (suc k) d e l less = left-at state slots copies k d e l.1 (omega (arith, less))

-- a name couldn't be opened
pub unopened : (first last : ShelfState) (names : List (List ℕ)) (took : List ℕ → Type 0) (m n : ℕ) (failure : Failure)
    → (Some failure ≡ Some Read → last.slots < first.slots + length names) → 1 ≤ length names → failed failure ≡ ReadFault
    → VoteBreaksOff first last names (unwritten took m n)
unopened first last names took m n Read fewer some e = record {
  rows = [];
  shown = inr (fewer refl, refl);
  held = held-nothing (map (known_bytes first) names) (let many = length-map names (known_bytes first) in omega (arith, some, many));
  grew = grew-none took;
}
unopened first last names took m n Write fewer some e = absurd cc
unopened first last names took m n OutOfMemory fewer some e = absurd cc

module _ {first mid : ShelfState} {slots here : List ℕ} (recorded : List (Bor (List ℕ))) (same : here ≡ slots)
    (opened : Opened first mid (texts recorded) slots) where
  as-many : length here ≡ length (texts recorded)
  as-many = ap length (same ∙ opened.numbered) ∙ length-range_with_len first.slots (length (texts recorded))

  number-at : (k d : ℕ) → k < length (texts recorded) → get_or here k d ≡ first.slots + k
  number-at k d there =
      ap (λ ks. get_or ks k d) (same ∙ opened.numbered) ∙ get_or-range_with_len first.slots (length (texts recorded)) k d there

  copy-shows : (last : ShelfState) (rows : List Item) (slot : ℕ) → KnowsBytes first (texts recorded) → Contains here slot
      → ShowsRows mid last rows slot → CopyShows first last (texts recorded) rows
  copy-shows last rows slot is_known among shown =
      let k = among.0 in
      let less = among.1 in
      let many = as-many in
      let there : k < length (texts recorded) = omega (arith, less, many) in
      let copy = known_bytes first (get_or (texts recorded) k []) in
      let left : mid.left slot ≡ Some copy =
      subst (λ (s : ℕ). mid.left s ≡ Some copy) among.2
      (left-at mid here (map (known_bytes first) (texts recorded)) k slot (known_bytes first []) (are-left recorded same opened is_known)
      less
      ∙ ap Some (get_or-map (known_bytes first) (texts recorded) k [] (known_bytes first []) there)) in
      let rest = gave-told copy shown.gave left in
      record {
        copy = k;
        there = there;
        read = shown.read;
        rest = rest.0;
        all = sym rest.2;
        left = subst (λ (s : ℕ). last.left s ≡ Some rest.0) (sym among.2 ∙ number-at k slot there) rest.1;
        items = shown.items;
        sound = shown.sound;
      }

  -- a copy couldn't be read further
  pub vote-broke : (last : ShelfState) (out : SinkRun) (result : Result Vote (Stopped NoMajority)) → HasVoted result mid last here out
      → answer_by split_answer result ≡ ReadFault → KnowsBytes first (texts recorded)
      → VoteBreaksOff first last (texts recorded) out
  vote-broke last out (Err (Failed Read)) h e is_known =
      let b : Breaks mid last here (map (known_bytes first) (texts recorded)) out =
      h.answers (map (known_bytes first) (texts recorded)) (are-left recorded same opened is_known) in
      record { rows = b.rows; shown = inl (copy-shows last b.rows b.slot is_known b.among b.shown); held = b.held; grew = b.grew }
  vote-broke last out (Ok vote) h e is_known = absurd cc
  vote-broke last out (Err (Refused split)) h e is_known = absurd cc
  vote-broke last out (Err (Failed Write)) h e is_known = absurd cc
  vote-broke last out (Err (Failed OutOfMemory)) h e is_known = absurd cc
