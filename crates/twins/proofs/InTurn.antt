-- A row is taken of each copy in turn.
use Rattle.std.proofs.Common.{◌≡◌, ◌<◌, ◌≤◌, ◌+◌, ℕ, List, [], ◌∷◌, ◌++◌, length, take, drop, set, get_or}
use Rattle.std.proofs.Common.{Option, Some, None, refl, sym, ap, ◌∙◌, subst, arith, add-one, length-take}
use Rattle.std.specs.Option.{option_or, option_map}
use Rattle.std.proofs.Math.Seq.{take-suc, take-suc-set}
use Rattle.std.proofs.lemmas.List.{length-set, get_or-drop, drop-set-lt, drop-drop, get_or_default, take_all, map-append, length-map}
use Rattle.std.proofs.lemmas.List.Elements.{All-get_or}
use Rattle.frame_queue.specs.declared.row.Row.{Row}
use Rattle.frame_queue.specs.declared.queue.FrameQueue.{FrameQueue}
use Rattle.copies.specs.declared.verdict.Verdict.{Verdict}
use Rattle.copies.specs.declared.verdict.Verdict.TheVariants.{Differ}
use Rattle.copies.specs.Verdict.{row_difference}
use Rattle.twins.specs.declared.taker.Intake.{Intake}
use Rattle.twins.specs.Intakes.{IsIntakeOf, rows_in}
use Rattle.twins.specs.Pairs.{EachPair}
use Rattle.twins.specs.TwinVerdict.{as_read, row_at, row_verdict}
use Rattle.twins.specs.TakenRows.{AreIntakes, HaveTaken, TookOne, taken_by}
use Rattle.twins.proofs.Pairs.{pair_none, pair_more, pair_set}
use Rattle.twins.proofs.Rows.{row-last}
use Rattle.twins.proofs.Verdicts.{verdict-more}

-- of the first `k` copies the row `n` was taken, and compared with that of copy 0
pub record Round (k n : ℕ) (queues : List FrameQueue) (old now : List Intake) (ours : Row) (found : Option Verdict) : Type 0 where
  pub intakes : AreIntakes queues now
  pub many : length now ≡ length old
  pub grown : EachPair TookOne (take k old) (take k now)
  pub still : drop k now ≡ drop k old
  pub front : List Row
  pub others : List (List Row)
  pub taken : taken_by (take k now) ≡ front ∷ others
  pub ours_at : row_at n front ≡ as_read (Some ours)
  pub told : found ≡ row_verdict n (front ∷ others)

-- the receiver of this place is the old one
still-at : (k : ℕ) (old now : List Intake) (d : Intake) → drop k now ≡ drop k old → get_or now k d ≡ get_or old k d
still-at k old now d e =
    let n : k ≡ k + 0 = omega arith in
    ap (λ i. get_or now i d) n ∙ sym (get_or-drop k now 0 d) ∙ ap (λ l. get_or l 0 d) e ∙ get_or-drop k old 0 d
    ∙ ap (λ i. get_or old i d) (sym n)

-- one more receiver took a row
grown-more : (k : ℕ) (old now : List Intake) (d new : Intake) → length now ≡ length old → k < length now → drop k now ≡ drop k old
    → EachPair TookOne (take k old) (take k now) → TookOne (get_or now k d) new
    → EachPair TookOne (take (k + 1) old) (take (k + 1) (set now k new))
grown-more k old now d new many within still grown one =
    rw (add-one, take-suc old k d (omega arith), take-suc-set now k new within)
    (pair_more TookOne (take k old) (take k now) (get_or old k d) new grown (subst (λ r. TookOne r new) (still-at k old now d still) one))

taken-more : (k : ℕ) (now : List Intake) (new : Intake) → k < length now
    → taken_by (take (k + 1) (set now k new)) ≡ taken_by (take k now) ++ rows_in new ∷ []
taken-more k now new within =
    rw (add-one, take-suc-set now k new within) (map-append rows_in (take k now) (new ∷ []))

intakes-more : (k : ℕ) (queues : List FrameQueue) (now : List Intake) (d : FrameQueue) (new : Intake) → k < length now
    → AreIntakes queues now → IsIntakeOf (get_or queues k d) new → AreIntakes queues (set now k new)
intakes-more k queues now d new within all one =
    pair_set IsIntakeOf queues now k new all within
    (λ x. subst (λ q. IsIntakeOf q new) (get_or_default queues k d x (let c = all.count in omega (arith, within))) one)

-- this number of rows was taken of a copy
abbrev pub Took : ℕ → Intake → Type 0
Took n intake = (intake.rows ≡ n) × (length (rows_in intake) ≡ n)

-- a row that was taken is the last one
last-row : (n k : ℕ) (old now : List Intake) (d new : Intake) (row : Row) → HaveTaken n old → k < length old
    → drop k now ≡ drop k old → rows_in new ≡ rows_in (get_or now k d) ++ row ∷ [] → row_at n (rows_in new) ≡ as_read (Some row)
last-row n k old now d new row all within still took =
    let was : length (rows_in (get_or now k d)) ≡ n =
    ap (λ (l : Intake). length (rows_in l)) (still-at k old now d still) ∙ (All-get_or (Took n) old k d within all).1 in
    ap (row_at n) took ∙ row-last (rows_in (get_or now k d)) row n was

-- the row of copy 0 was taken
pub round-begins : (n : ℕ) (queues : List FrameQueue) (old : List Intake) (q : FrameQueue) (d new : Intake) (ours : Row)
    → AreIntakes queues old → HaveTaken n old → 0 < length old → IsIntakeOf (get_or queues 0 q) new
    → rows_in new ≡ rows_in (get_or old 0 d) ++ ours ∷ [] → new.rows ≡ (get_or old 0 d).rows + 1 → Round 1 n queues old
    (set old 0 new) ours None
round-begins n queues old q d new ours all taken some one took count = record {
  intakes = intakes-more 0 queues old q new some all one;
  many = length-set old 0 new;
  grown = grown-more 0 old old d new refl some refl (pair_none TookOne) (ours, took, count);
  still = drop-set-lt 1 old 0 new (omega arith);
  front = rows_in new;
  others = [];
  taken = taken-more 0 old new some;
  ours_at = last-row n 0 old old d new ours taken some refl took;
  told = refl;
}

-- and that of one copy more
pub round-goes : (k n : ℕ) (queues : List FrameQueue) (old now : List Intake) (ours row : Row) (found next : Option Verdict)
    (q : FrameQueue) (d new : Intake) → Round k n queues old now ours found → HaveTaken n old → k < length now
    → IsIntakeOf (get_or queues k q) new → rows_in new ≡ rows_in (get_or now k d) ++ row ∷ [] → new.rows ≡ (get_or now k d).rows + 1
    → next ≡ option_or found (option_map (Differ k) (row_difference (n + 1) (as_read (Some ours)) (as_read (Some row))))
    → Round (k + 1) n queues old (set now k new) ours next
round-goes k n queues old now ours row found next q d new r taken within one took count is =
    let many = r.many in
    let in_old : k < length old = omega arith in
    let at : row_at n (rows_in new) ≡ as_read (Some row) = last-row n k old now d new row taken in_old r.still took in
    let copy : 1 + length r.others ≡ k =
    (let e = ap length r.taken in let l = length-map (take k now) rows_in in omega (arith, e, l, length-take k now)) in
    record {
      intakes = intakes-more k queues now q new within r.intakes one;
      many = length-set now k new ∙ r.many;
      grown = grown-more k old now d new r.many within r.still r.grown (row, took, count);
      still = drop-set-lt (k + 1) now k new (omega arith) ∙ sym (drop-drop 1 k now) ∙ ap (drop 1) r.still ∙ drop-drop 1 k old;
      front = r.front;
      others = r.others ++ rows_in new ∷ [];
      taken = taken-more k now new within ∙ ap (λ l. l ++ rows_in new ∷ []) r.taken;
      ours_at = r.ours_at;
      told = is
          ∙ (λ i. option_or (r.told i) (option_map (Differ k) (row_difference (n + 1) (sym r.ours_at i) (sym at i))))
          ∙ sym (verdict-more n r.front r.others (rows_in new) k copy);
    }

-- and of all copies
pub round-ends : (k n : ℕ) (queues : List FrameQueue) (old now : List Intake) (ours : Row) (found : Option Verdict)
    → Round k n queues old now ours found → length now ≤ k
    → AreIntakes queues now × EachPair TookOne old now × (found ≡ row_verdict n (taken_by now))
round-ends k n queues old now ours found r h =
    let many = r.many in
    let a : take k old ≡ old = take_all k old (omega arith) in
    let b : take k now ≡ now = take_all k now h in (
      r.intakes,
      rw (a, b) at r.grown,
      r.told ∙ ap (row_verdict n) (sym r.taken ∙ ap taken_by b),
    )

-- of a copy whose turn comes no row more was taken
pub not-yet : (k n : ℕ) (queues : List FrameQueue) (old now : List Intake) (ours : Row) (found : Option Verdict) (d : Intake)
    → Round k n queues old now ours found → HaveTaken n old → k < length now → (get_or now k d).rows ≡ n
not-yet k n queues old now ours found d r taken within =
    let many = r.many in
    ap (λ (l : Intake). l.rows) (still-at k old now d r.still) ∙ (All-get_or (Took n) old k d (omega arith) taken).0
