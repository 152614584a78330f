-- What is found of the rows taken.
use Rattle.std.proofs.Common.{◌≡◌, ◌≢◌, ◌<◌, ◌≤◌, ◌+◌, ◌⊎◌, inl, inr, ℕ}
use Rattle.std.proofs.Common.{List, [], ◌∷◌, length, map, get_or, true, false, eqb}
use Rattle.std.proofs.Common.{Option, Some, None, refl, sym, ap, ◌∙◌, subst, arith, length-append}
use Rattle.std.specs.Prelude.{IfNone}
use Rattle.std.specs.Option.{unwrap_or}
use Rattle.std.specs.List.{All, range_with_len}
use Rattle.std.proofs.lemmas.Bool.Decides.{eqb_tells}
use Rattle.std.proofs.lemmas.List.Elements.{All-get_or}
use Rattle.det_io.specs.Prefix.{IsPrefix}
use Rattle.det_io.proofs.Prefixes.{prefix-then}
use Rattle.det_values.specs.Values.{ProfileValue}
use Rattle.det_values.specs.declared.frames.CycleInput.{CycleInput}
use Rattle.det_values.specs.declared.frames.Frame.{Frame}
use Rattle.job.specs.Meaning.{Meaning}
use Rattle.cycle_engine.specs.Frames.{frames}
use Rattle.frame_queue.specs.declared.row.Row.{Row}
use Rattle.frame_queue.specs.declared.queue.FrameQueue.{FrameQueue}
use Rattle.frame_queue.specs.Queues.{sent_of}
use Rattle.copies.specs.declared.verdict.Verdict.{Verdict}
use Rattle.copies.specs.declared.verdict.Verdict.TheVariants.{Agree}
use Rattle.twins.specs.declared.taker.Intake.{Intake}
use Rattle.twins.specs.declared.taker.Taker.{Taker}
use Rattle.twins.specs.Intakes.{rows_in}
use Rattle.twins.specs.declared.twin.Twin.{Twin}
use Rattle.twins.specs.Pairs.{EachPair}
use Rattle.twins.specs.TwinVerdict.{row_at, row_verdict, copy_rows, twin_verdict}
use Rattle.twins.specs.TwinFrames.{IsTwin}
use Rattle.twins.specs.TwinQueues.{AreTwins, numbers_of}
use Rattle.twins.specs.TakenRows.{AreIntakes, HaveTaken, TookOne, taken_by, Agreed, Judged}
use Rattle.twins.specs.ClosedQueues.{AreBegun}
use Rattle.twins.proofs.Pairs.{pair_map, pair_then, pair_with, pair_with_right, pair_all}
use Rattle.twins.proofs.Rows.{row-of-prefix, rows-begin, length-rows}
use Rattle.twins.proofs.InTurn.{Took}
use Rattle.twins.proofs.Made.{length-frames}
use Rattle.twins.proofs.Verdicts.{same-verdict, first-none, first-some}

map-map : {A B C : Type 0} (f : A → B) (g : B → C) (xs : List A) → map g (map f xs) ≡ map (λ x. g (f x)) xs
map-map f g [] = refl
map-map f g (x ∷ xs) = ap (λ l. g (f x) ∷ l) (map-map f g xs)

-- ---- one row more of each copy

all-more : (n : ℕ) (old new : List Intake) → EachPair TookOne old new → HaveTaken n old → HaveTaken (n + 1) new
all-more n old new took all = λ k d h.
    let one = took.each k d d h in
    let was : Took n (get_or old k d) = All-get_or (Took n) old k d (let c = took.count in omega (arith, h)) all in
    let count = was.0 in
    let many = was.1 in
    let rows : (get_or new k d).rows ≡ n + 1 = (let c = one.2 in omega (arith, c, count)) in
    let all : length (rows_in (get_or new k d)) ≡ n + 1 =
    ap length one.1 ∙ omega (arith, length-append (rows_in (get_or old k d)) (one.0 ∷ []), many) in
    (rows, all)

-- the rows before are as they were
same-before : (n f : ℕ) (old new : List Intake) → EachPair TookOne old new → HaveTaken n old → f < n
    → row_verdict f (taken_by new) ≡ row_verdict f (taken_by old)
same-before n f old new took all h =
    same-verdict f (taken_by new) (taken_by old)
    (map-map rows_in (row_at f) new ∙ sym (pair_map (λ a b. TookOne a b × Took n a) (λ a. row_at f (rows_in a)) (λ b. row_at f (rows_in b))
    (λ a b p. row-of-prefix (rows_in a) (rows_in b) f (p.0.0 ∷ [], sym p.0.1) (let l = p.1.1 in omega arith)) old new
    (pair_with TookOne (Took n) old new took all)) ∙ sym (map-map rows_in (row_at f) old))

pub next-judged : (queues : List FrameQueue) (old new : Taker) (found : Option Verdict) → Agreed queues old → new.rows ≡ old.rows + 1
    → AreIntakes queues new.intakes.items → EachPair TookOne old.intakes.items new.intakes.items
    → found ≡ row_verdict old.rows (taken_by new.intakes.items) → Judged found queues new
next-judged queues old new None agreed rows all took told = record {
  intakes = all;
  taken = subst (λ n. HaveTaken n new.intakes.items) (sym rows) (all-more old.rows _ _ took agreed.taken);
  same = λ f h. at f (omega (arith, rows, h)) (eqb_tells f old.rows);
}
  where
    at : (f : ℕ) → f < old.rows + 1 → ((eqb f old.rows ≡ true) × (f ≡ old.rows)) ⊎ ((eqb f old.rows ≡ false) × (f ≢ old.rows))
        → row_verdict f (taken_by new.intakes.items) ≡ None
    at f h (inl e) = ap (λ k. row_verdict k (taken_by new.intakes.items)) e.1 ∙ sym told
    at f h (inr e) =
        let ne = e.1 in
        same-before old.rows f old.intakes.items new.intakes.items took agreed.taken (omega arith) ∙ agreed.same f (omega arith)
next-judged queues old new (Some verdict) agreed rows all took told = record {
  intakes = all;
  taken = subst (λ n. HaveTaken n new.intakes.items) (sym rows) (all-more old.rows _ _ took agreed.taken);
  same = λ f h. let w : f < old.rows = omega (arith, rows, h) in
      same-before old.rows f old.intakes.items new.intakes.items took agreed.taken w ∙ agreed.same f w;
  last = (old.rows, rows, sym told);
}

-- ---- whether to go on

-- nothing was taken
pub none-agreed : (queues : List FrameQueue) (taker : Taker) → AreIntakes queues taker.intakes.items → HaveTaken 0 taker.intakes.items
    → taker.rows ≡ 0
    → Agreed queues taker
none-agreed queues taker all taken none = record {
  intakes = all;
  taken = subst (λ n. HaveTaken n taker.intakes.items) (sym none) taken;
  same = λ f h. absurd (omega (arith, none, h));
}

pub intakes-judged : (found : Option Verdict) (queues : List FrameQueue) (taker : Taker) → Judged found queues taker
    → AreIntakes queues taker.intakes.items
intakes-judged None queues taker h = h.intakes
intakes-judged (Some verdict) queues taker h = h.intakes

-- ---- all rows

module _ {S G E L P : Type 0} (m : Meaning S G E L P) (profile : ProfileValue) (inputs : List CycleInput)
    (altered : ℕ → ℕ → Frame → Frame) where
  abbrev all_rows : ℕ → List Row
  all_rows copy = copy_rows m profile inputs altered copy

  -- what was taken of a copy is the first of its rows
  abbrev IsBegun : Intake → Twin S G E L P → Type 0
  IsBegun intake twin = IsPrefix (rows_in intake) (all_rows twin.copy)

  begun : (queues : List FrameQueue) (intakes : List Intake) (twins : List (Twin S G E L P))
      → AreTwins m profile inputs altered queues twins → AreBegun intakes twins → EachPair IsBegun intakes twins
  begun queues intakes twins sent closed =
      let Sent : Twin S G E L P → Type 0 = λ twin. IsPrefix (sent_of twin.sender) (all_rows twin.copy) in
      let each : All Sent twins = pair_all (IsTwin m profile inputs altered) Sent
      (λ q twin p. subst (λ (l : List Row). IsPrefix l (all_rows twin.copy)) (sym p.sent)
      (rows-begin (altered twin.copy) (frames m profile inputs true) twin.number)) queues twins sent in
      let both = pair_with_right (λ intake (twin : Twin S G E L P). IsPrefix (rows_in intake) (sent_of twin.sender)) Sent
      intakes twins closed each in
      pair_then _ IsBegun intakes twins (λ intake twin p.
      prefix-then (rows_in intake) (sent_of twin.sender) (all_rows twin.copy) p.0 p.1) both

  -- the rows taken are those of the copies
  taken-are : (f n copies : ℕ) (intakes : List Intake) (twins : List (Twin S G E L P)) → EachPair IsBegun intakes twins
      → HaveTaken n intakes → f < n → numbers_of twins ≡ range_with_len 0 copies
      → row_verdict f (taken_by intakes) ≡ row_verdict f (map all_rows (range_with_len 0 copies))
  taken-are f n copies intakes twins p all h numbers =
      same-verdict f (taken_by intakes) (map all_rows (range_with_len 0 copies))
      (map-map rows_in (row_at f) intakes
      ∙ pair_map (λ r (twin : Twin S G E L P). IsBegun r twin × Took n r) (λ r. row_at f (rows_in r))
      (λ (twin : Twin S G E L P). row_at f (all_rows twin.copy))
      (λ r twin b. row-of-prefix (rows_in r) (all_rows twin.copy) f b.0 (let l = b.1.1 in omega arith)) intakes twins
      (pair_with IsBegun (Took n) intakes twins p all)
      ∙ sym (map-map (λ (twin : Twin S G E L P). twin.copy) (λ k. row_at f (all_rows k)) twins)
      ∙ ap (map (λ k. row_at f (all_rows k))) numbers
      ∙ sym (map-map all_rows (row_at f) (range_with_len 0 copies)))

  -- the last row taken is one of the run
  rows-within : (n : ℕ) (intakes : List Intake) (twins : List (Twin S G E L P)) → EachPair IsBegun intakes twins → 0 < length intakes
      → HaveTaken n intakes → n ≤ length (frames m profile inputs true)
  rows-within n [] twins p some all = absurd (omega arith)
  rows-within n (r ∷ intakes) [] p some all = absurd (let c = p.count in omega arith)
  rows-within n (r ∷ intakes) (twin ∷ twins) p some all =
      let first = p.each 0 r twin (omega arith) in
      let taken : length (rows_in r) ≡ n = (All-get_or (Took n) (r ∷ intakes) 0 r some all).1 in
      let e = ap length first.1 in
      omega (arith, e, taken, length-append (rows_in r) first.0, length-rows (altered twin.copy) 0 (frames m profile inputs true))

  -- what was found is the verdict
  pub decided : (copies : ℕ) (queues : List FrameQueue) (taker : Taker) (twins : List (Twin S G E L P)) (found : Option Verdict)
      → 0 < length taker.intakes.items → AreTwins m profile inputs altered queues twins → AreBegun taker.intakes.items twins
      → numbers_of twins ≡ range_with_len 0 copies → Judged found queues taker → IfNone found (taker.rows ≡ length inputs + 4)
      → unwrap_or found (Agree (length inputs)) ≡ twin_verdict m profile inputs altered copies
  decided copies queues taker twins None some sent closed numbers judged all =
      let p = begun queues taker.intakes.items twins sent closed in
      let rows : taker.rows ≡ length (frames m profile inputs true) = all ∙ sym (length-frames m profile inputs) in
      ap (λ o. unwrap_or o (Agree (length inputs)))
      (sym (first-none 0 (length (frames m profile inputs true)) (map all_rows (range_with_len 0 copies))
      (λ f low high. let w : f < taker.rows = omega (arith, rows, high) in
      sym (taken-are f taker.rows copies taker.intakes.items twins p judged.taken w numbers) ∙ judged.same f w)))
  decided copies queues taker twins (Some verdict) some sent closed numbers judged all =
      let p = begun queues taker.intakes.items twins sent closed in
      let f = judged.last.0 in
      let rows : taker.rows ≡ f + 1 = judged.last.1 in
      let within : taker.rows ≤ length (frames m profile inputs true) =
      rows-within taker.rows taker.intakes.items twins p some judged.taken in
      ap (λ o. unwrap_or o (Agree (length inputs)))
      (sym (first-some 0 (length (frames m profile inputs true)) (map all_rows (range_with_len 0 copies)) verdict f
      (λ g h. sym (taken-are g taker.rows copies taker.intakes.items twins p judged.taken (omega (arith, rows, h)) numbers)
      ∙ judged.same g (omega (arith, rows, h))) (omega arith) (omega (arith, rows, within))
      (sym (taken-are f taker.rows copies taker.intakes.items twins p judged.taken (omega (arith, rows)) numbers) ∙ judged.last.2)))
