-- Reports, while a run is being shown.
use Rattle.std.proofs.Common.{◌≡◌, ◌≤◌, ◌<◌, ℕ, suc, ◌+◌, List, [], ◌∷◌, ◌++◌, length, take, drop, set, get_or, map, refl, sym, ap, subst}
use Rattle.std.proofs.Common.{◌∙◌, arith, append_assoc, nat_eq}
use Rattle.std.proofs.lemmas.List.{append-nil, take-map, drop-map, map-set, take_more, take_more_set, drop-set-lt, take-set, drop_all}
use Rattle.std.proofs.lemmas.List.{take_all, take_at, drop_at, length-take}
use Rattle.std.proofs.Math.Seq.{drop-cons}
use Rattle.std.proofs.Math.ListN.{get_or-map, length-map}
use Rattle.std.proofs.lemmas.Bool.Decides.{nat_tests}
use Rattle.std.specs.List.{remove, flat_map}
use Rattle.std.specs.Prelude.{Option, Some, None, Bool, true, false, if◌then◌else◌}
use Rattle.std.specs.Option.{option_map}
use Rattle.det_values.specs.declared.frames.RunFrame.{RunFrame}
use Rattle.probes.specs.declared.probe.ProbeStep.TheVariants.{Stay, Leave}
use Rattle.probes.specs.Reports.{ProbeLife, leaves, Sees, Report, report_of, bytes_at, bytes_last, in_turn, joined}
use Rattle.probes.specs.Reports.{reports}
use Rattle.probes.proofs.Partly.{later, partly}

map-append : {A B : Type 0} (f : A → B) (xs ys : List A) → map f (xs ++ ys) ≡ map f xs ++ map f ys
map-append f [] ys = refl
map-append f (x ∷ xs) ys = ap (λ rest. f x ∷ rest) (map-append f xs ys)

-- the reports of those that leave after k runs and the next one, and of those that stay
abbrev leaving : ℕ → List Report → List ℕ
leaving k rs = flat_map (bytes_at k) rs

abbrev remaining : List Report → List ℕ
remaining rs = flat_map bytes_last rs

leaving-append : (k : ℕ) (xs ys : List Report) → leaving k (xs ++ ys) ≡ leaving k xs ++ leaving k ys
leaving-append k [] ys = refl
leaving-append k (x ∷ xs) ys = ap (λ rest. bytes_at k x ++ rest) (leaving-append k xs ys)
    ∙ sym (append_assoc (bytes_at k x) (leaving k xs) (leaving k ys))

remaining-append : (xs ys : List Report) → remaining (xs ++ ys) ≡ remaining xs ++ remaining ys
remaining-append [] ys = refl
remaining-append (x ∷ xs) ys = ap (λ rest. bytes_last x ++ rest) (remaining-append xs ys)
    ∙ sym (append_assoc (bytes_last x) (remaining xs) (remaining ys))

-- one that leaves at the first run, among others
gone : List ℕ → Report
gone bytes = record { bytes = bytes; before = Some 0 }

if-false : (b : Bool) (xs : List ℕ) → b ≡ false → (if b then xs else []) ≡ []
if-false true xs h = cc
if-false false xs h = refl

-- later reports
later-first : (bytes : List ℕ) (before : Option ℕ) → bytes_at 0 (later (record { bytes = bytes; before = before })) ≡ []
later-first bytes (Some n) = if-false (nat_eq (n + 1) 0) bytes (grind (arith, nat_tests))
later-first bytes None = refl

later-at : (k : ℕ) (bytes : List ℕ) (before : Option ℕ)
    → bytes_at (k + 1) (later (record { bytes = bytes; before = before })) ≡ bytes_at k (record { bytes = bytes; before = before })
later-at k bytes (Some n) = ap (λ b. if b then bytes else []) (let e : nat_eq (n + 1) (k + 1) ≡ nat_eq n k = grind (arith, nat_tests) in e)
later-at k bytes None = refl

later-last : (bytes : List ℕ) (before : Option ℕ)
    → bytes_last (later (record { bytes = bytes; before = before })) ≡ bytes_last (record { bytes = bytes; before = before })
later-last bytes (Some n) = refl
later-last bytes None = refl

later_never : (rs : List Report) → leaving 0 (map later rs) ≡ []
later_never [] = refl
later_never (r ∷ rs) = ap (λ xs. xs ++ leaving 0 (map later rs)) (later-first r.bytes r.before) ∙ later_never rs

later_leaving : (k : ℕ) (rs : List Report) → leaving (k + 1) (map later rs) ≡ leaving k rs
later_leaving k [] = refl
later_leaving k (r ∷ rs) = ap (λ xs. xs ++ leaving (k + 1) (map later rs)) (later-at k r.bytes r.before)
    ∙ ap (λ xs. bytes_at k r ++ xs) (later_leaving k rs)

later_staying : (rs : List Report) → remaining (map later rs) ≡ remaining rs
later_staying [] = refl
later_staying (r ∷ rs) = ap (λ xs. xs ++ remaining (map later rs)) (later-last r.bytes r.before)
    ∙ ap (λ xs. bytes_last r ++ xs) (later_staying rs)

later_in_turn : (k : ℕ) (runs : List RunFrame) (rs : List Report) → in_turn (k + 1) runs (map later rs) ≡ in_turn k runs rs
unfolding in_turn
later_in_turn k [] rs = refl
later_in_turn k (run ∷ runs) rs = rw (later_leaving k rs, later_in_turn (k + 1) runs rs) refl

-- no report of one that is gone comes later
gone_in_turn : (k : ℕ) (runs : List RunFrame) (xs ys : List Report) (bytes : List ℕ)
    → in_turn (k + 1) runs (xs ++ gone bytes ∷ ys) ≡ in_turn (k + 1) runs (xs ++ ys)
unfolding in_turn gone
gone_in_turn k [] xs ys bytes = refl
gone_in_turn k (run ∷ runs) xs ys bytes =
    let here : leaving (k + 1) (xs ++ gone bytes ∷ ys) ≡ leaving (k + 1) (xs ++ ys) =
    leaving-append (k + 1) xs (gone bytes ∷ ys)
    ∙ ap (λ rest. leaving (k + 1) xs ++ (rest ++ leaving (k + 1) ys)) (if-false (nat_eq 0 (k + 1)) bytes (grind (arith, nat_tests)))
    ∙ sym (leaving-append (k + 1) xs ys) in
    ap (λ rest. rest ++ in_turn (k + 1 + 1) runs (xs ++ gone bytes ∷ ys)) here
    ∙ ap (λ rest. leaving (k + 1) (xs ++ ys) ++ rest) (gone_in_turn (k + 1) runs xs ys bytes)

gone_joined : (run : RunFrame) (runs : List RunFrame) (xs ys : List Report) (bytes : List ℕ)
    → joined (run ∷ runs) (map later xs ++ gone bytes ∷ ys) ≡ bytes ++ joined (run ∷ runs) (map later xs ++ ys)
unfolding in_turn gone
gone_joined run runs xs ys bytes =
    let first : leaving 0 (map later xs ++ gone bytes ∷ ys) ≡ bytes ++ leaving 0 (map later xs ++ ys) =
    leaving-append 0 (map later xs) (gone bytes ∷ ys)
    ∙ ap (λ rest. rest ++ (bytes ++ leaving 0 ys)) (later_never xs)
    ∙ ap (λ rest. bytes ++ rest) (ap (λ rest. rest ++ leaving 0 ys) (sym (later_never xs)) ∙ sym (leaving-append 0 (map later xs) ys)) in
    let others : in_turn (0 + 1) runs (map later xs ++ gone bytes ∷ ys) ≡ in_turn (0 + 1) runs (map later xs ++ ys) =
    gone_in_turn 0 runs (map later xs) ys bytes in
    let last : remaining (map later xs ++ gone bytes ∷ ys) ≡ remaining (map later xs ++ ys) =
    remaining-append (map later xs) (gone bytes ∷ ys) ∙ sym (remaining-append (map later xs) ys) in
    rw (first, others, last) (simp append_assoc)

all_later : (run : RunFrame) (runs : List RunFrame) (xs : List Report) → joined (run ∷ runs) (map later xs ++ []) ≡ joined runs xs
unfolding in_turn
all_later run runs xs = rw (append-nil (map later xs), later_never xs, later_in_turn 0 runs xs, later_staying xs) refl

pub partly_none : (run : RunFrame) (runs : List RunFrame) (ps : List ProbeLife)
    → joined (run ∷ runs) (partly run runs 0 ps) ≡ reports ps (run ∷ runs)
unfolding partly reports
partly_none run runs ps = refl

report-is : (a b : Report) → a.bytes ≡ b.bytes → a.before ≡ b.before → a ≡ b
report-is a b p q = ap (λ bytes. record { bytes = bytes; before = a.before }) p
    ∙ ap (λ before. record { bytes = b.bytes; before = before }) q

-- numbers from 1 and from 0
same_before : (a b : Option ℕ) → option_map (λ n. n + 1) a ≡ option_map (λ n. n + 1) (option_map (λ n. n + 1) b)
    → a ≡ option_map (λ n. n + 1) b
same_before None None e = refl
same_before None (Some m) e = cc
same_before (Some n) None e = cc
same_before (Some n) (Some m) e = let same : n + 1 ≡ m + 1 + 1 = cc in let less : n ≡ m + 1 = omega arith in ap Some less

none_before : (a : Option ℕ) → option_map (λ n. n + 1) a ≡ Some 1 → a ≡ Some 0
none_before None e = cc
none_before (Some n) e = let same : n + 1 ≡ 1 = cc in let none : n ≡ 0 = omega arith in ap Some none

never_before : (a : Option ℕ) → option_map (λ n. n + 1) a ≡ None → a ≡ None
never_before None e = refl
never_before (Some n) e = cc

pub partly_stay : (run : RunFrame) (runs : List RunFrame) (at : ℕ) (ps : List ProbeLife) (d p : ProbeLife) → at < length ps
    → Sees Stay (get_or ps at d) p run
    → partly run runs (at + 1) (set ps at p) ≡ partly run runs at ps
unfolding partly
partly_stay run runs at ps d p lt sees =
    let front : take (at + 1) (set ps at p) ≡ take at ps ++ p ∷ [] = take_more_set ps at p lt in
    let back : drop (at + 1) (set ps at p) ≡ drop (at + 1) ps = drop-set-lt (at + 1) ps at p (omega arith) in
    let old : drop at ps ≡ get_or ps at d ∷ drop (at + 1) ps = drop-cons ps at d lt
    ∙ ap (λ n. get_or ps at d ∷ drop n ps) (let e : suc at ≡ at + 1 = omega arith in e) in
    let one : later (report_of runs p) ≡ report_of (run ∷ runs) (get_or ps at d) =
    report-is _ _ (sym (sees runs).0) (sym (same_before _ _ (sees runs).1)) in
    ap (λ xs. map later (map (report_of runs) xs) ++ map (report_of (run ∷ runs)) (drop (at + 1) (set ps at p))) front
    ∙ ap (λ xs. map later (map (report_of runs) (take at ps ++ p ∷ [])) ++ map (report_of (run ∷ runs)) xs) back
    ∙ ap (λ xs. map later xs ++ map (report_of (run ∷ runs)) (drop (at + 1) ps)) (map-append (report_of runs) (take at ps) (p ∷ []))
    ∙ ap (λ xs. xs ++ map (report_of (run ∷ runs)) (drop (at + 1) ps))
    (map-append later (map (report_of runs) (take at ps)) (report_of runs p ∷ []))
    ∙ append_assoc (map later (map (report_of runs) (take at ps))) (later (report_of runs p) ∷ [])
    (map (report_of (run ∷ runs)) (drop (at + 1) ps))
    ∙ ap (λ x. map later (map (report_of runs) (take at ps)) ++ x ∷ map (report_of (run ∷ runs)) (drop (at + 1) ps)) one
    ∙ ap (λ xs. map later (map (report_of runs) (take at ps)) ++ map (report_of (run ∷ runs)) xs) (sym old)

pub remove-set : (at : ℕ) (ps : List ProbeLife) (p : ProbeLife) → remove (set ps at p) at ≡ take at ps ++ drop (at + 1) ps
remove-set at ps p =
    ap (λ xs. xs ++ drop (suc at) (set ps at p)) (take-set ps at p)
    ∙ ap (λ n. take at ps ++ drop n (set ps at p)) (let e : suc at ≡ at + 1 = omega arith in e)
    ∙ ap (λ xs. take at ps ++ xs) (drop-set-lt (at + 1) ps at p (omega arith))

pub length-front : (at : ℕ) (ps : List ProbeLife) → at < length ps → length (take at ps) ≡ at
length-front at ps lt = let k = length-take at ps in omega arith

pub partly_leave : (run : RunFrame) (runs : List RunFrame) (at : ℕ) (ps : List ProbeLife) (d p : ProbeLife) → at < length ps
    → Sees Leave (get_or ps at d) p run
    → joined (run ∷ runs) (partly run runs at ps) ≡ p.report_after [] ++ joined (run ∷ runs) (partly run runs at (remove (set ps at p) at))
unfolding partly gone
partly_leave run runs at ps d p lt sees =
    let old : drop at ps ≡ get_or ps at d ∷ drop (at + 1) ps = drop-cons ps at d lt
    ∙ ap (λ n. get_or ps at d ∷ drop n ps) (let e : suc at ≡ at + 1 = omega arith in e) in
    let one : report_of (run ∷ runs) (get_or ps at d) ≡ gone (p.report_after []) =
    report-is _ _ (sees runs).0 (none_before _ (sees runs).1) in
    let front : take at (remove (set ps at p) at) ≡ take at ps = ap (take at) (remove-set at ps p)
    ∙ take_at (take at ps) (drop (at + 1) ps) at (length-front at ps lt) in
    let back : drop at (remove (set ps at p) at) ≡ drop (at + 1) ps = ap (drop at) (remove-set at ps p)
    ∙ drop_at (take at ps) (drop (at + 1) ps) at (length-front at ps lt) in
    ap (λ xs. joined (run ∷ runs) (map later (map (report_of runs) (take at ps)) ++ map (report_of (run ∷ runs)) xs)) old
    ∙ ap (λ x. joined (run ∷ runs) (map later (map (report_of runs) (take at ps)) ++ x ∷ map (report_of (run ∷ runs)) (drop (at + 1) ps)))
    one
    ∙ gone_joined run runs (map (report_of runs) (take at ps)) (map (report_of (run ∷ runs)) (drop (at + 1) ps)) (p.report_after [])
    ∙ ap (λ xs. p.report_after []
    ++ joined (run ∷ runs) (map later (map (report_of runs) xs) ++ map (report_of (run ∷ runs)) (drop (at + 1) ps))) (sym front)
    ∙ ap (λ xs. p.report_after []
    ++ joined (run ∷ runs) (map later (map (report_of runs) (take at (remove (set ps at p) at))) ++ map (report_of (run ∷ runs)) xs))
    (sym back)

pub partly_all : (run : RunFrame) (runs : List RunFrame) (at : ℕ) (ps : List ProbeLife) → length ps ≤ at
    → joined (run ∷ runs) (partly run runs at ps) ≡ reports ps runs
unfolding partly reports
partly_all run runs at ps h =
    ap (λ xs. joined (run ∷ runs) (map later (map (report_of runs) (take at ps)) ++ map (report_of (run ∷ runs)) xs)) (drop_all at ps h)
    ∙ all_later run runs (map (report_of runs) (take at ps))
    ∙ ap (λ xs. joined runs (map (report_of runs) xs)) (take_all at ps h)

pub map-remove : {X : Type 0} (f : X → ProbeLife) (xs : List X) (i : ℕ) → map f (remove xs i) ≡ remove (map f xs) i
map-remove f xs i = map-append f (take i xs) (drop (suc i) xs) ∙ ap (λ ys. ys ++ map f (drop (suc i) xs)) (sym (take-map f i xs))
    ∙ ap (λ ys. take i (map f xs) ++ ys) (sym (drop-map f (suc i) xs))

pub stay-step : {X : Type 0} (f : X → ProbeLife) (run : RunFrame) (runs : List RunFrame) (at : ℕ) (items items' : List X) (b x : X)
    → at < length items → b ≡ get_or items at b → items' ≡ set items at x
    → Sees Stay (f b) (f x) run → partly run runs (at + 1) (map f items') ≡ partly run runs at (map f items)
stay-step f run runs at items items' b x lt read is sees =
    ap (λ xs. partly run runs (at + 1) (map f xs)) is ∙ ap (partly run runs (at + 1)) (map-set f items at x)
    ∙ partly_stay run runs at (map f items) (f b) (f x) (let k : length (map f items) ≡ length items = simp length-map in omega arith)
    (subst (λ p. Sees Stay p (f x) run) (ap f read ∙ sym (get_or-map f items at b)) sees)

pub leave-step : {X : Type 0} (f : X → ProbeLife) (run : RunFrame) (runs : List RunFrame) (at : ℕ) (items items' : List X) (b x : X)
    → at < length items → b ≡ get_or items at b → items' ≡ remove (set items at x) at
    → Sees Leave (f b) (f x) run
    → joined (run ∷ runs) (partly run runs at (map f items)) ≡ (f x).report_after []
    ++ joined (run ∷ runs) (partly run runs at (map f items'))
leave-step f run runs at items items' b x lt read is sees =
    partly_leave run runs at (map f items) (f b) (f x) (let k : length (map f items) ≡ length items = simp length-map in omega arith)
    (subst (λ p. Sees Leave p (f x) run) (ap f read ∙ sym (get_or-map f items at b)) sees)
    ∙ ap (λ xs. (f x).report_after [] ++ joined (run ∷ runs) (partly run runs at xs))
    (ap (λ ys. remove ys at) (sym (map-set f items at x)) ∙ sym (map-remove f (set items at x) at) ∙ ap (map f) (sym is))

last-by : (bytes : List ℕ) (before : Option ℕ) → before ≡ None → bytes_last (record { bytes = bytes; before = before }) ≡ bytes
last-by bytes (Some n) h = cc
last-by bytes None h = refl

last-stays : (p : ProbeLife) → leaves p [] ≡ None → bytes_last (report_of [] p) ≡ p.report_after []
last-stays p h = last-by (p.report_after []) (p.runs_before []) (never_before (p.runs_before []) h)

pub one-more-remaining : {X : Type 0} (f : X → ProbeLife) (items : List X) (i : ℕ) (d : X) → i < length items
    → leaves (f (get_or items i d)) [] ≡ None
    → reports (map f (take (i + 1) items)) [] ≡ reports (map f (take i items)) [] ++ (f (get_or items i d)).report_after []
unfolding reports in_turn
one-more-remaining f items i d lt here =
    ap (λ xs. remaining (map (report_of []) xs)) (ap (map f) (take_more items i d lt) ∙ map-append f (take i items) (get_or items i d ∷ []))
    ∙ ap remaining (map-append (report_of []) (map f (take i items)) (f (get_or items i d) ∷ []))
    ∙ remaining-append (map (report_of []) (map f (take i items))) (report_of [] (f (get_or items i d)) ∷ [])
    ∙ ap (λ xs. remaining (map (report_of []) (map f (take i items))) ++ xs)
    (append-nil (bytes_last (report_of [] (f (get_or items i d)))) ∙ last-stays (f (get_or items i d)) here)

pub join-left : (before now report rest : List ℕ) → now ≡ before ++ report → before ++ (report ++ rest) ≡ now ++ rest
join-left before now report rest e = sym (append_assoc before report rest) ∙ ap (λ xs. xs ++ rest) (sym e)

pub remaining-step : {X : Type 0} (f : X → ProbeLife) (items : List X) (i : ℕ) (b : X) (before mid now report : List ℕ) → i < length items
    → b ≡ get_or items i b → leaves (f b) [] ≡ None → report ≡ (f b).report_after []
    → mid ≡ before ++ reports (map f (take i items)) [] → now ≡ mid ++ report → now ≡ before ++ reports (map f (take (i + 1) items)) []
remaining-step f items i b before mid now report lt read here is done grew =
    grew ∙ ap (λ xs. xs ++ report) done ∙ append_assoc before (reports (map f (take i items)) []) report
    ∙ ap (λ xs. before ++ (reports (map f (take i items)) [] ++ xs)) (is ∙ ap (λ b. (f b).report_after []) read)
    ∙ ap (λ xs. before ++ xs) (sym (one-more-remaining f items i b lt (subst (λ b. leaves (f b) [] ≡ None) read here)))
