-- What a pass keeps of its elements, and where it may be refused.
use Rattle.std.proofs.Common.{◌≡◌, ℕ, ◌+◌, ◌^◌, ◌<◌, ◌≤◌, List, [], ◌∷◌, length, Result, Ok, Err, refl, ap, ◌∙◌, subst, arith}
use Rattle.std.proofs.Common.{length-append}
use Rattle.std.specs.List.{All}
use Rattle.std.proofs.lemmas.List.Elements.{All-nil, All-head, All-tail, All-push}
use Rattle.det_client.specs.element_random.RandomStreams.{key}
use Rattle.job.specs.Meaning.{Meaning, ElementResult}
use Rattle.job.specs.Laws.{JobLaws, CoversSome}
use Rattle.job.specs.Pass.{PassResult, Refusal, nothing, more, taken, passed}
use Rattle.run_laws.proofs.SpelledJob.{IsSpelledJob}

-- n elements that are the job's own, each with at most this number of random words, and a part that
-- covers them
pub record IsKept {S E P : Type 0} (Covers : S → P → ℕ → Type 0) (Own : S → E → Type 0) (j : S) (n most : ℕ) (done : PassResult E P) : Type 0
  where
    pub own : All (Own j) done.elements
    pub many : length done.elements ≡ n
    pub drew : length done.draws ≡ n
    pub few_drawn : All (λ d. d ≤ most) done.draws
    pub covers : Covers j done.part n

-- a pass over n elements keeps them, or one of them refuses
abbrev pub IsPassed : {S E P : Type 0} → (S → P → ℕ → Type 0) → (S → E → Type 0) → S → ℕ → Result (PassResult E P) Refusal → Type 0
IsPassed Covers Own j n (Ok done) = IsKept Covers Own j n 65535 done
IsPassed Covers Own j n (Err r) = (r.element < n) × (r.code < 2 ^ 32)

module _ {S G E L P : Type 0} (m : Meaning S G E L P) (Covers : S → P → ℕ → Type 0) (Own : S → E → Type 0) (Fit : S → L → Type 0)
    (laws : JobLaws m Covers Own Fit) (spells : IsSpelledJob m) (j : S) (plan : L) (fit : Fit j plan)
    (carry : P) (seed cycle pass : ℕ) (below : pass < m.passes_of j plan) (carried : CoversSome (Covers j) carry) where
  abbrev from : ℕ → List E → PassResult E P → Result (PassResult E P) Refusal
  from = taken m j plan carry seed cycle pass

  abbrev at : ℕ → ℕ
  at i = key seed cycle pass i

  abbrev with_one : PassResult E P → E → ℕ → ElementResult E P → PassResult E P
  with_one done e i w = more m j plan carry seed cycle pass done w (m.drawn j plan carry pass e (at i))

  one_more : (i : ℕ) (done : PassResult E P) (e : E) (w : ElementResult E P) → IsKept Covers Own j i 65535 done → Own j e → i + 1 ≤ 65536
      → m.worked j plan carry pass e (at i) ≡ Ok w → IsKept Covers Own j (i + 1) 65535 (with_one done e i w)
  one_more i done e w kept own few came = record {
    own = All-push (Own j) done.elements w.element kept.own (laws.own_run j plan carry pass e (at i) w fit own below carried came);
    many = length-append done.elements (w.element ∷ []) ∙ ap (λ k. k + 1) kept.many;
    drew = length-append done.draws (_ ∷ []) ∙ ap (λ k. k + 1) kept.drew;
    few_drawn = All-push (λ d. d ≤ 65535) done.draws _ kept.few_drawn (laws.drawn_few j plan carry pass e (at i));
    covers = laws.covers_joined j done.part w.part i 1 kept.covers (laws.covers_run j plan carry pass e (at i) w fit own below carried came)
        few;
  }

  -- the elements from one on, by what the job gives for it
  abbrev on_from : ℕ → E → List E → PassResult E P → Result (ElementResult E P) ℕ → Result (PassResult E P) Refusal
  on_from i e es done r = elim r [
    | Ok w ↦ from (i + 1) es (with_one done e i w)
    | Err code ↦ Err (record { element = i; code = code })
  ]

  one : (i n : ℕ) (e : E) (es : List E) (done : PassResult E P) → IsKept Covers Own j i 65535 done → Own j e → i + 1 ≤ 65536 → i < n
      → ((next : PassResult E P) → IsKept Covers Own j (i + 1) 65535 next → IsPassed Covers Own j n (from (i + 1) es next))
      → (r : Result (ElementResult E P) ℕ) → m.worked j plan carry pass e (at i) ≡ r → IsPassed Covers Own j n (on_from i e es done r)
  one i n e es done kept own few inside rest (Ok w) came = rest (with_one done e i w) (one_more i done e w kept own few came)
  one i n e es done kept own few inside rest (Err code) came = (inside, spells.work_code j plan carry pass e (at i) code came)

  all_from : (i n : ℕ) (es : List E) (done : PassResult E P) → n ≡ i + length es → n ≤ 65536 → All (Own j) es
      → IsKept Covers Own j i 65535 done
      → IsPassed Covers Own j n (from i es done)
  all_from i n [] done e few own kept = subst (λ (k : ℕ). IsKept Covers Own j k 65535 done) (omega arith) kept
  all_from i n (x ∷ es) done e few own kept =
      one i n x es done kept (All-head (Own j) x es own) (omega arith) (omega arith)
      (λ next k. all_from (i + 1) n es next (omega arith) few (All-tail (Own j) x es own) k)
      (m.worked j plan carry pass x (at i)) refl

  pub pass_kept : (es : List E) → length es ≤ 65536 → All (Own j) es → IsPassed Covers Own j (length es)
      (passed m j plan carry seed cycle pass es)
  pass_kept es few own = all_from 0 (length es) es (nothing m j plan carry seed cycle pass) (omega arith) few own (record {
    own = All-nil (Own j);
    many = refl;
    drew = refl;
    few_drawn = All-nil (λ (d : ℕ). d ≤ 65535);
    covers = laws.covers_unit j;
  })
