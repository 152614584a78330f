-- A frame that was read can be spelled again.
use Rattle.std.proofs.Common.{◌≡◌, ℕ, zero, suc, ◌+◌, ◌-◌, ◌*◌, ◌<◌, ◌≤◌, Bool, true, false, cond, eqb, ltb, leb, ◌&&◌, List, [], ◌∷◌}
use Rattle.std.proofs.Common.{length, refl, subst, arith}
use Rattle.std.proofs.lemmas.Bool.{leb-true}
use Rattle.std.proofs.lemmas.List.Elements.{All-nil, All-cons}
use Rattle.std.specs.List.{All}
use Rattle.det_values.specs.declared.format.Format.{Format}
use Rattle.det_values.specs.declared.format.Format.TheVariants.{One, Two}
use Rattle.det_values.specs.declared.frames.CycleInput.{CycleInput}
use Rattle.det_values.specs.declared.frames.DrawnElement.{DrawnElement}
use Rattle.det_values.specs.declared.frames.Outcome.TheVariants.{Finished, Refused}
use Rattle.det_values.specs.declared.frames.Frame.{Frame}
use Rattle.det_values.specs.declared.frames.Frame.TheVariants.{Run, Terminate}
use Rattle.det_values.specs.Values.{SampleValue}
use Rattle.record_grammar.specs.declared.record_fault.Reason.TheVariants.{Range, TooMany}
use Rattle.record_grammar.specs.declared.limits.Limits.TheVariants.{Between}
use Rattle.record_grammar.specs.declared.place.Layout.{Layout}
use Rattle.record_grammar.specs.declared.place.Place.TheVariants as places
use Rattle.record_grammar.specs.declared.item.Item.{Item}
use Rattle.record_grammar.specs.declared.item.Item.TheVariants as items
use Rattle.record_grammar.specs.Numbers.{number, number_from, can_be, lowest}
use Rattle.record_grammar.specs.Read.{Read, Got, More, Bad, ◌>>=◌, many, with_front}
use Rattle.record_grammar.specs.Grammar.{most_samples, time_at, sample_value_at, sample_at, samples_at, input_at, drawn_at, element_at}
use Rattle.record_grammar.specs.Grammar.{string_at, refusal_at, finished_from, finished_at, refused_at, run_at, tag_reason, tagged_at}
use Rattle.record_grammar.specs.Grammar.{frame_at, item_at}
use Rattle.record_grammar.specs.Spelling.{MayDraw, CanSpell}

-- what is read has a property
abbrev pub Gives : {A : Type 0} → (A → Type 0) → Read A → Type 0
Gives P (Got x) = P x.0
Gives P More = Unit {0}
Gives P (Bad reason left) = Unit {0}

then : {A B : Type 0} (P : A → Type 0) (Q : B → Type 0) (r : Read A) (f : A × List ℕ → Read B) → Gives P r
    → ((x : A × List ℕ) → P x.0 → Gives Q (f x)) → Gives Q (r >>= f)
then P Q (Got x) f h k = k x h
then P Q More f h k = tt
then P Q (Bad reason left) f h k = tt

-- whatever is read first
after_any : {A B : Type 0} (Q : B → Type 0) (r : Read A) (f : A × List ℕ → Read B) → ((x : A × List ℕ) → Gives Q (f x)) → Gives Q (r >>= f)
after_any Q (Got x) f k = k x
after_any Q More f k = tt
after_any Q (Bad reason left) f k = tt

choice : {A : Type 0} (P : A → Type 0) (b : Bool) (r s : Read A) → (b ≡ true → Gives P r) → Gives P s → Gives P (cond b r s)
choice P true r s h k = h refl
choice P false r s h k = k

second : (a b : Bool) → (a && b) ≡ true → b ≡ true
second true b e = e
second false b e = absurd cc

-- a number is no greater than its limit
limited : (least most left v : ℕ) (bytes : List ℕ) → (left ≡ 0 → v ≤ most)
    → Gives (λ n. n ≤ most) (number_from (Between least most) left v bytes)
unfolding number_from lowest
limited least most zero v bytes h = h refl
limited least most (suc left) v [] h = tt
limited least most (suc left) v (b ∷ bytes) h =
    choice (λ n. n ≤ most) (can_be (Between least most) left (v * 256 + b)) (number_from (Between least most) left (v * 256 + b) bytes)
    (Bad Range (length (b ∷ bytes)))
    (λ e. limited least most left (v * 256 + b) bytes (λ z. fits left (v * 256 + b) z (second _ _ e))) tt
  where
    fits : (left w : ℕ) → left ≡ 0 → leb (lowest left w) most ≡ true → w ≤ most
    fits left w z e = leb-true w most (subst (λ (k : ℕ). leb (lowest k w) most ≡ true) z e)

list : {A : Type 0} (P : A → Type 0) (item : List ℕ → Read A) → ((bytes : List ℕ) → Gives P (item bytes)) → (n : ℕ) (bytes : List ℕ)
    → Gives (All P) (many item n bytes)
unfolding many
list P item h zero bytes = All-nil P
list P item h (suc n) bytes = then P (All P) (item bytes) _ (h bytes) (λ x p.
    then (All P) (All P) (many item n x.1) _ (list P item h n x.1) (λ y q. All-cons P x.0 y.0 p q))

-- ---- the samples are of the run's events

abbrev AreOf : ℕ → List SampleValue → Type 0
AreOf events samples = All (λ s. s.event < events) samples

sample : (n : ℕ) (bytes : List ℕ) → Gives (λ (s : SampleValue). s.event < suc n) (sample_at (suc n) bytes)
unfolding sample_at
sample n bytes = then (λ e. e ≤ suc n - 1) _ _ _ (limited 0 (suc n - 1) 2 0 bytes (λ z. absurd (omega arith)))
    (λ e p. after_any _ (sample_value_at e.1) _ (λ v. omega arith))

no_samples : (n : ℕ) (bytes : List ℕ) → n ≤ 0 → Gives (AreOf 0) (many (sample_at 0) n bytes)
unfolding many
no_samples zero bytes h = All-nil _
no_samples (suc n) bytes h = absurd (omega arith)

samples : (n : ℕ) (bytes : List ℕ) → Gives (AreOf n) (samples_at n bytes)
unfolding samples_at
samples zero bytes = then (λ c. c ≤ 0) _ _ _ (limited 0 0 4 0 bytes (λ z. absurd (omega arith))) (λ c p. no_samples c.0 c.1 p)
samples (suc n) bytes = after_any {B = List SampleValue} (AreOf (suc n)) (number 4 0 (most_samples (suc n)) bytes)
    (λ x. many (sample_at (suc n)) x.0 x.1) (λ c. list (λ (s : SampleValue). s.event < suc n) (sample_at (suc n)) (sample n) c.0 c.1)

input : (n : ℕ) (bytes : List ℕ) → Gives (λ (i : CycleInput). AreOf n i.samples) (input_at n bytes)
unfolding input_at
input n bytes = after_any (λ (i : CycleInput). AreOf n i.samples) (time_at bytes)
    (λ t. samples_at n t.1 >>= λ s. Got (record { time = t.0; samples = s.0 }, s.1))
    (λ t. then (AreOf n) (λ (i : CycleInput). AreOf n i.samples) (samples_at n t.1) (λ s. Got (record { time = t.0; samples = s.0 }, s.1))
    (samples n t.1) (λ s p. p))

-- ---- in format 1 nothing is drawn

drawn : (f : Format) (bytes : List ℕ) → Gives (λ (e : DrawnElement). MayDraw f e.draws) (drawn_at f bytes)
unfolding drawn_at
drawn One bytes = after_any _ (element_at bytes) _ (λ e. refl)
drawn Two bytes = after_any _ (element_at bytes) _ (λ e. after_any {B = DrawnElement} (λ (x : DrawnElement). MayDraw Two x.draws)
    (number 4 0 4294967295 e.1) (λ d. Got (record { bytes = e.0; draws = d.0 }, d.1)) (λ d. tt))

-- ---- the frames

abbrev ran : CycleInput → List DrawnElement → List ℕ → Frame
ran i elements output = Run (record { input = i; outcome = Finished elements output })

abbrev CanBe : Layout → Frame → Type 0
CanBe layout f = CanSpell layout.format layout.events f

finished : (layout : Layout) (i : CycleInput) (bytes : List ℕ) → AreOf layout.events i.samples
    → Gives (CanBe layout) (finished_at layout.format i bytes)
unfolding finished_at finished_from
finished layout i bytes h = after_any (CanBe layout) (number 4 0 65536 bytes) (λ n. finished_from layout.format i [] n.0 n.1) (λ n.
    then (All (λ (e : DrawnElement). MayDraw layout.format e.draws)) (CanBe layout) (with_front [] (many (drawn_at layout.format) n.0 n.1))
    (λ e. string_at 4 1048576 e.1 >>= λ x. Got (ran i e.0 x.0, x.1))
    (then (All (λ (e : DrawnElement). MayDraw layout.format e.draws)) _ (many (drawn_at layout.format) n.0 n.1) _
    (list _ (drawn_at layout.format) (drawn layout.format) n.0 n.1) (λ x p. p))
    (λ e p. after_any (CanBe layout) (string_at 4 1048576 e.1) (λ x. Got (ran i e.0 x.0, x.1)) (λ x. (h, p))))

refused : (layout : Layout) (i : CycleInput) (bytes : List ℕ) → AreOf layout.events i.samples → Gives (CanBe layout) (refused_at i bytes)
unfolding refused_at
refused layout i bytes h = after_any (CanBe layout) (refusal_at bytes) (λ x. Got (Run (record { input = i; outcome = Refused x.0 }), x.1))
    (λ x. (h, tt))

run : (layout : Layout) (bytes : List ℕ) → Gives (CanBe layout) (run_at layout bytes)
unfolding run_at
run layout bytes = then (λ (i : CycleInput). AreOf layout.events i.samples) (CanBe layout) (input_at layout.events bytes)
    (λ i. number 1 0 1 i.1 >>= λ flag. cond (eqb flag.0 0) (finished_at layout.format i.0 flag.1) (refused_at i.0 flag.1))
    (input layout.events bytes)
    (λ i p. after_any (CanBe layout) (number 1 0 1 i.1) (λ flag. cond (eqb flag.0 0) (finished_at layout.format i.0 flag.1)
    (refused_at i.0 flag.1)) (λ flag. choice (CanBe layout) (eqb flag.0 0) (finished_at layout.format i.0 flag.1)
    (refused_at i.0 flag.1) (λ e. finished layout i.0 flag.1 p) (refused layout i.0 flag.1 p)))

tagged : (layout : Layout) (before b : ℕ) (bytes : List ℕ) → Gives (CanBe layout) (tagged_at (places.Runs layout before) b bytes)
unfolding tagged_at
tagged layout before b bytes =
    choice (CanBe layout) (eqb b 4) (cond (ltb before 1000000) (run_at layout bytes) (Bad TooMany (suc (length bytes))))
    (cond (eqb b 5) (Got (Terminate, bytes)) (Bad (tag_reason b) (suc (length bytes))))
    (λ e. choice (CanBe layout) (ltb before 1000000) (run_at layout bytes) (Bad TooMany (suc (length bytes))) (λ few. run layout bytes) tt)
    (choice (CanBe layout) (eqb b 5) (Got (Terminate, bytes)) (Bad (tag_reason b) (suc (length bytes))) (λ e. tt) tt)

frame : (layout : Layout) (before : ℕ) (bytes : List ℕ) → Gives (CanBe layout) (frame_at (places.Runs layout before) bytes)
unfolding frame_at
frame layout before [] = tt
frame layout before (b ∷ bytes) = tagged layout before b bytes

abbrev pub ItemCanBe : Layout → Item → Type 0
ItemCanBe layout (items.Header p) = Unit {0}
ItemCanBe layout (items.Frame f) = CanSpell layout.format layout.events f

item : (layout : Layout) (before : ℕ) (bytes : List ℕ) → Gives (ItemCanBe layout) (item_at (places.Runs layout before) bytes)
unfolding item_at
item layout before bytes = then (CanBe layout) (ItemCanBe layout) (frame_at (places.Runs layout before) bytes)
    (λ f. Got (items.Frame f.0, f.1)) (frame layout before bytes) (λ f p. p)

-- the frame can be spelled
pub spells_in_runs : (layout : Layout) (before : ℕ) (bytes rest : List ℕ) (f : Frame)
    → item_at (places.Runs layout before) bytes ≡ Got (items.Frame f, rest) → CanSpell layout.format layout.events f
spells_in_runs layout before bytes rest f e = subst (Gives (ItemCanBe layout)) e (item layout before bytes)
