-- An ended machine gathers the result of the pass.
use Rattle.std.proofs.Common.{◌≡◌, ℕ, zero, suc, ◌<◌, ◌≤◌, ◌⊎◌, Bool, true, false, cond, ltb, List, [], ◌∷◌, length, Result, Ok, sym, refl}
use Rattle.std.proofs.Common.{subst, inl, inr, ⊎_elim, arith}
use mathlib.Core.Option.{some}
use lib.ListN.{get_elem?}
use Rattle.std.proofs.lemmas.Bool.{lt-ltb, ltb-true}
use Rattle.job.specs.Meaning.{Meaning}
use Rattle.job.specs.Passes.{blocks_of}
use Rattle.job.proofs.Sizes.{few_blocks}
use Rattle.job.specs.Pass.{PassResult, Refusal, passed, block}
use Rattle.worker_pool.specs.declared.pool_view.Mark.{Mark}
use Rattle.worker_pool.specs.declared.pool_view.Mark.TheVariants.{Open, Finished, Reported, Skipped}
use Rattle.worker_pool.specs.Views.{no_block}
use Rattle.worker_pool.specs.Machine.{Machine, next, start, Event, Has, Leads, HasEnded}
use Rattle.worker_pool.specs.Gather.{refuses, together, gather}
use Rattle.worker_pool.proofs.InBlocks.{all_done, least_refuses}
use Rattle.worker_pool.proofs.Schedules.{Kept, run_kept, start_kept, at_inside}

there : {A : Type 0} (l : List A) (i : ℕ) → i < length l → (a : A) × (get_elem? l i ≡ some a)
there [] i h = absurd (omega arith)
there (x ∷ xs) zero h = (x, refl)
there (x ∷ xs) (suc i) h = there xs i (omega arith)

not_ltb : (l b : ℕ) → b ≤ l → ltb l b ≡ false
not_ltb l b le = grind (arith, ltb-true)

module _ (all : ℕ) (no : ℕ → Bool) (m : Machine) (kept : Kept all no m) (no_open : (b : ℕ) → ¬ Has m b Open) where
  -- a claimed block below the least that was reported was finished
  settled : (b : ℕ) → b < m.least → (k : Mark) → Has m b k → no b ≡ false
  settled b lt Open h = absurd (no_open b h)
  settled b lt Finished h = kept.true_marks b Finished h
  settled b lt Reported h = let t = (kept.true_marks b Reported h).1 in absurd (omega arith)
  settled b lt Skipped h = let t : m.least < b = kept.true_marks b Skipped h in absurd (omega arith)

module _ {S G E L P : Type 0} (m : Meaning S G E L P) (j : S) (plan : L) (carry : P) (seed cycle pass : ℕ)
    (assoc : (a b c : P) → m.joined j (m.joined j a b) c ≡ m.joined j a (m.joined j b c))
    (left : (a : P) → m.joined j (m.unit_part j) a ≡ a) (right : (a : P) → m.joined j a (m.unit_part j) ≡ a)
    (es : List E) where
  abbrev B : ℕ
  B = blocks_of (length es)

  abbrev at : ℕ → Result (PassResult E P) Refusal
  at b = block m j plan carry seed cycle pass b es

  abbrev no : ℕ → Bool
  no = refuses at

  abbrev whole : Result (PassResult E P) Refusal
  whole = passed m j plan carry seed cycle pass es

  abbrev all : PassResult E P
  all = together (m.joined j) (m.unit_part j) at B

  -- the result, if the least refusing block is known or none refuses
  answer_is : (l : ℕ) → (((l < B) × (no l ≡ true)) ⊎ (B ≤ l)) → ((b : ℕ) → b < B → b < l → no b ≡ false)
      → cond (ltb l B) (at l) (Ok all) ≡ whole
  answer_is l which below = let C : Bool → Type 0 = λ t. cond t (at l) (Ok all) ≡ whole in ⊎_elim
      (λ (h : (l < B) × (no l ≡ true)). let r = h.0 in subst C (sym (lt-ltb l B h.0))
      (sym (least_refuses m j plan carry seed cycle pass assoc left right es l h.0 h.1 (λ b lt. below b (omega arith) lt))))
      (λ (h : B ≤ l). subst C (sym (not_ltb l B h)) (sym (all_done m j plan carry seed cycle pass assoc left right es
      (λ b lt. below b lt (omega arith)))))
      which

  gathered : (end : Machine) → length es ≤ 65536 → Kept B no end → HasEnded B end → gather (m.joined j) (m.unit_part j) at B end ≡ whole
  gathered end small kept ended = let few = few_blocks (length es) small in ⊎_elim
      (λ (none : end.least ≡ no_block). answer_is end.least (inr (omega arith)) (λ b lt low. ⊎_elim
      (λ (h : (c : ℕ) × Has end c Reported). let t = (kept.true_marks h.0 Reported h.1).1 in let i = at_inside end.marks h.0 Reported h.1 in
      let k = kept.inside in absurd (omega arith))
      (λ (h : next end ≡ B). let k = there end.marks b (omega arith) in settled B no end kept ended.0 b low k.0 k.1)
      ended.1))
      (λ (named : Has end end.least Reported). let i = at_inside end.marks end.least Reported named in let k = kept.inside in
      answer_is end.least (inl (omega arith, (kept.true_marks end.least Reported named).0))
      (λ b lt low. let k = there end.marks b (omega arith) in settled B no end kept ended.0 b low k.0 k.1))
      kept.named

  pub any_run : (events : List Event) (end : Machine) → length es ≤ 65536 → Leads B no events start end → HasEnded B end
      → gather (m.joined j) (m.unit_part j) at B end ≡ whole
  any_run events end small leads ended = gathered end small (run_kept B no events start end (start_kept B no) leads) ended
