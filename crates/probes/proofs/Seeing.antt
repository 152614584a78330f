-- A run that is being shown, probe by probe.
use Rattle.std.proofs.Common.{◌≡◌, ◌<◌, inl, inr, ℕ, suc, ◌+◌, List, [], ◌∷◌, ◌++◌, length, take, drop, set, get_or, map, refl, sym, ap}
use Rattle.std.proofs.Common.{subst}
use Rattle.std.proofs.Common.{◌∙◌, arith, append_assoc}
use Rattle.std.proofs.lemmas.List.{append-nil, map-set, take_more_set, drop-set-lt, take_at, drop_at}
use Rattle.std.proofs.Math.Seq.{drop-cons}
use Rattle.std.proofs.Math.ListN.{get_or-map, length-map}
use Rattle.std.specs.List.{remove}
use Rattle.std.specs.Prelude.{Result, Ok, Err, OnErr}
use Rattle.det_values.specs.declared.frames.RunFrame.{RunFrame}
use Rattle.probes.specs.declared.probe.ProbeStep.TheVariants.{Stay, Leave}
use Rattle.probes.specs.Reports.{ProbeLife, Sees}
use Rattle.probes.specs.Shows.{Saw, ShowsPartly}
use Rattle.probes.proofs.Joining.{remove-set, length-front, map-remove}

-- one more saw it and stayed
saw-stay : (run : RunFrame) (probes stayed : List ProbeLife) (new_reports : List ℕ) (p q : ProbeLife) → Saw run probes stayed new_reports
    → Sees Stay p q run
    → Saw run (probes ++ p ∷ []) (stayed ++ q ∷ []) new_reports
saw-stay run [] stayed new_reports p q (none, nothing) sees = inl (q, [], sees, ap (λ xs. xs ++ q ∷ []) none, (refl, nothing))
saw-stay run (r ∷ probes) stayed new_reports p q (inl (s, others, first, is, rest)) sees =
    inl (s, others ++ q ∷ [], first, ap (λ xs. xs ++ q ∷ []) is, saw-stay run probes others new_reports p q rest sees)
saw-stay run (r ∷ probes) stayed new_reports p q (inr (s, others, first, is, rest)) sees =
    inr (s, others, first, is, saw-stay run probes stayed others p q rest sees)

-- one more saw it and left
saw-leave : (run : RunFrame) (probes stayed : List ProbeLife) (new_reports : List ℕ) (p q : ProbeLife) → Saw run probes stayed new_reports
    → Sees Leave p q run
    → Saw run (probes ++ p ∷ []) stayed (new_reports ++ q.report_after [])
saw-leave run [] stayed new_reports p q (none, nothing) sees =
    inr (q, [], sees, ap (λ xs. xs ++ q.report_after []) nothing ∙ sym (append-nil (q.report_after [])), (none, refl))
saw-leave run (r ∷ probes) stayed new_reports p q (inl (s, others, first, is, rest)) sees =
    inl (s, others, first, is, saw-leave run probes others new_reports p q rest sees)
saw-leave run (r ∷ probes) stayed new_reports p q (inr (s, others, first, is, rest)) sees =
    inr (
      s,
      others ++ q.report_after [],
      first,
      ap (λ xs. xs ++ q.report_after []) is
          ∙ append_assoc (s.report_after []) others (q.report_after []),
      saw-leave run probes stayed others p q rest sees,
    )

-- The run was shown to the first probes, some of which stayed. The others are as before.
pub record Seeing (run : RunFrame) (at : ℕ) (first now : List ProbeLife) (before left : List ℕ) : Type 0 where
  pub front : List ProbeLife
  pub new_reports : List ℕ
  pub saw : Saw run front (take at now) new_reports
  pub rest : first ≡ front ++ drop at now
  pub grew : left ≡ before ++ new_reports

pub seeing-none : (run : RunFrame) (first : List ProbeLife) (left : List ℕ) → Seeing run 0 first first left left
seeing-none run first left = record { front = []; new_reports = []; saw = (refl, refl); rest = refl; grew = sym (append-nil left) }

module _ {X : Type 0} (f : X → ProbeLife) (run : RunFrame) (at : ℕ) (items : List X) (b x : X) (lt : at < length items)
    (read : b ≡ get_or items at b) where
  within : at < length (map f items)
  within = let k : length (map f items) ≡ length items = length-map items f in omega arith

  next : drop at (map f items) ≡ f b ∷ drop (at + 1) (map f items)
  next =
      drop-cons (map f items) at (f b) within ∙ ap (λ p. p ∷ drop (suc at) (map f items)) (get_or-map f items at b ∙ sym (ap f read))
      ∙ ap (λ n. f b ∷ drop n (map f items)) (let e : suc at ≡ at + 1 = omega arith in e)

  taken-out : map f (remove (set items at x) at) ≡ take at (map f items) ++ drop (at + 1) (map f items)
  taken-out = map-remove f (set items at x) at ∙ ap (λ ps. remove ps at) (map-set f items at x) ∙ remove-set at (map f items) (f x)

  module _ (first : List ProbeLife) (before left : List ℕ) (seeing : Seeing run at first (map f items) before left) where
    pub seeing-stay : (items' : List X) → items' ≡ set items at x → Sees Stay (f b) (f x) run
        → Seeing run (at + 1) first (map f items') before left
    seeing-stay items' is sees =
        let now : map f items' ≡ set (map f items) at (f x) = ap (map f) is ∙ map-set f items at x in
        let front : take (at + 1) (map f items') ≡ take at (map f items) ++ f x ∷ [] = ap (take (at + 1)) now
        ∙ take_more_set (map f items) at (f x) within in
        let back : drop (at + 1) (map f items') ≡ drop (at + 1) (map f items) = ap (drop (at + 1)) now
        ∙ drop-set-lt (at + 1) (map f items) at (f x) (omega arith) in
        record {
          front = seeing.front ++ f b ∷ [];
          new_reports = seeing.new_reports;
          saw = subst (λ stayed. Saw run (seeing.front ++ f b ∷ []) stayed seeing.new_reports) (sym front)
              (saw-stay run seeing.front _ seeing.new_reports (f b) (f x) seeing.saw sees);
          rest = seeing.rest ∙ ap (λ ps. seeing.front ++ ps) (next ∙ ap (λ ps. f b ∷ ps) (sym back))
              ∙ sym (append_assoc seeing.front (f b ∷ []) (drop (at + 1) (map f items')));
          grew = seeing.grew;
        }

    pub seeing-leave : (items' : List X) (now : List ℕ) → items' ≡ remove (set items at x) at → Sees Leave (f b) (f x) run → now ≡ left
        ++ (f x).report_after []
        → Seeing run at first (map f items') before now
    seeing-leave items' now is sees reported =
        let all : map f items' ≡ take at (map f items) ++ drop (at + 1) (map f items) = ap (map f) is ∙ taken-out in
        let front : take at (map f items') ≡ take at (map f items) = ap (take at) all
        ∙ take_at (take at (map f items)) (drop (at + 1) (map f items)) at (length-front at (map f items) within) in
        let back : drop at (map f items') ≡ drop (at + 1) (map f items) = ap (drop at) all
        ∙ drop_at (take at (map f items)) (drop (at + 1) (map f items)) at (length-front at (map f items) within) in
        record {
          front = seeing.front ++ f b ∷ [];
          new_reports = seeing.new_reports ++ (f x).report_after [];
          saw = subst (λ stayed. Saw run (seeing.front ++ f b ∷ []) stayed (seeing.new_reports ++ (f x).report_after [])) (sym front)
              (saw-leave run seeing.front _ seeing.new_reports (f b) (f x) seeing.saw sees);
          rest = seeing.rest ∙ ap (λ ps. seeing.front ++ ps) (next ∙ ap (λ ps. f b ∷ ps) (sym back))
              ∙ sym (append_assoc seeing.front (f b ∷ []) (drop at (map f items')));
          grew = reported ∙ ap (λ xs. xs ++ (f x).report_after []) seeing.grew ∙ append_assoc before seeing.new_reports ((f x).report_after
              []);
        }

    lost : (items' : List X) (now : List ℕ) → items' ≡ remove (set items at x) at → Sees Leave (f b) (f x) run → now ≡ left
        → ShowsPartly (record { seeing = first; left = before }) (record { seeing = map f items'; left = now }) run
    lost items' now is sees same = record {
      front = seeing.front;
      lost = f b;
      gone = f x;
      behind = drop (at + 1) (map f items);
      stayed = take at (map f items);
      new_reports = seeing.new_reports;
      all = seeing.rest ∙ ap (λ ps. seeing.front ++ ps) next;
      saw = seeing.saw;
      leaves = sees;
      seeing = ap (map f) is ∙ taken-out;
      reports = same ∙ seeing.grew;
    }

    -- its report couldn't be had
    pub seeing-lost : {T E : Type 0} (answer : Result T E) (items' : List X) (now : List ℕ) → items' ≡ remove (set items at x) at
        → Sees Leave (f b) (f x) run → now ≡ left
        → OnErr answer (ShowsPartly (record { seeing = first; left = before }) (record { seeing = map f items'; left = now }) run)
    seeing-lost (Ok value) items' now is sees same = tt
    seeing-lost (Err error) items' now is sees same = lost items' now is sees same
