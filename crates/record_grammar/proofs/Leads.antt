-- The items that were read, and the rest, are all of the bytes.
use Rattle.std.proofs.Common.{◌≡◌, ℕ, suc, ◌+◌, ◌-◌, ◌<◌, ◌≤◌, Bool, true, false, cond, eqb, ltb, List, [], ◌∷◌, ◌++◌, length, Some, None}
use Rattle.std.proofs.Common.{refl, sym, ap, subst, ◌∙◌, arith, length-drop}
use Rattle.std.proofs.lemmas.List.{append-nil}
use Rattle.std.proofs.lemmas.Bool.{ltb-true}
use Rattle.det_values.specs.declared.frames.CycleInput.{CycleInput}
use Rattle.det_values.specs.declared.frames.Frame.{Frame}
use Rattle.det_values.specs.declared.frames.Frame.TheVariants as frames
use Rattle.det_values.specs.Values.{ProfileValue}
use Rattle.record_grammar.specs.declared.record_fault.Reason.{Reason}
use Rattle.record_grammar.specs.declared.record_fault.Reason.TheVariants.{Magic, TooMany}
use Rattle.record_grammar.specs.declared.place.Layout.{Layout}
use Rattle.record_grammar.specs.declared.place.Place.{Place}
use Rattle.record_grammar.specs.declared.place.Place.TheVariants as places
use Rattle.record_grammar.specs.declared.item.Item.{Item}
use Rattle.record_grammar.specs.declared.item.Item.TheVariants as items
use Rattle.record_grammar.specs.Read.{Read, Got, More, Bad, ◌>>=◌, many, with_front}
use Rattle.record_grammar.specs.Numbers.{number}
use Rattle.record_grammar.specs.Grammar.{exactly_at, magic_at, profile_at, element_at, drawn_at, string_at, input_at, refusal_at, init_from}
use Rattle.record_grammar.specs.Grammar.{finished_from, init_at, finished_at, refused_at, run_at, tag_reason, tagged_at, frame_at, item_at}
use Rattle.record_grammar.specs.Places.{after, CanFollow, may_come}
use Rattle.record_grammar.specs.Record.{Decoded, faulty, ending_at, decoded, decoded_all, with_next, items as items_in, fault, fault_from}
use Rattle.record_grammar.specs.Record.{fault_so_far, fault_so_far_from}
use Rattle.record_grammar.specs.Leads.{Leads}
use Rattle.det_values.specs.declared.frames.Outcome.TheVariants.{Refused}
use Rattle.record_grammar.proofs.Steady.{IsSteady, bind_got, by_first, got, got_is, steady_give}
use Rattle.record_grammar.proofs.SteadyFields.{after_first, after_first_steady, finished, behind_magic, behind_magic_steady, profile_is, tagged_steady}
use Rattle.record_grammar.proofs.SteadyFields.{frame_same, item_steady}

-- ---- each item has a byte

first_takes : {A : Type 0} (f : ℕ → List ℕ → Read A) (bytes : List ℕ) (x : A × List ℕ) → ((b : ℕ) → IsSteady 1 (f b)) → by_first f bytes
    ≡ Got x → length x.1 < length bytes
first_takes f [] x h e = absurd cc
first_takes f (b ∷ bytes) x h e =
    let r = (h b).rest bytes x e in
    let m : length x.1 ≡ length bytes - r.0 = ap length r.2 ∙ length-drop r.0 bytes in
    omega (arith, r.1)

taken : (t : Bool) (b : ℕ) (bytes : List ℕ) (left : ℕ) (x : ℕ × List ℕ) → cond t (got (b, bytes)) (Bad Magic left) ≡ Got x
    → length x.1 < suc (length bytes)
taken true b bytes left x e = let l : length bytes ≡ length x.1 = ap (λ (y : ℕ × List ℕ). length y.1) (got_is (b, bytes) x e) in omega arith
taken false b bytes left x e = absurd cc

then_takes : {A B : Type 0} (r : List ℕ → Read A) (f : A → List ℕ → Read B) (bytes : List ℕ) (y : B × List ℕ)
    → ((x : A × List ℕ) → r bytes ≡ Got x → length x.1 < length bytes) → ((a : A) → IsSteady 0 (f a))
    → (r bytes >>= λ x. f x.0 x.1) ≡ Got y → length y.1 < length bytes
then_takes r f bytes y less steady e =
    let b = bind_got (r bytes) (λ x. f x.0 x.1) y e in
    let one : length b.0.1 < length bytes = less b.0 b.1 in
    let s = (steady b.0.0).rest b.0.1 y b.2 in
    let m : length y.1 ≡ length b.0.1 - s.0 = ap length s.2 ∙ length-drop s.0 b.0.1 in
    omega arith

exactly_takes : (bytes : List ℕ) (x : ℕ × List ℕ) → exactly_at Magic 68 bytes ≡ Got x → length x.1 < length bytes
exactly_takes [] x e = absurd cc
exactly_takes (b ∷ bytes) x e = taken (eqb b 68) 68 bytes (suc (length bytes)) x e

magic_takes : (bytes : List ℕ) (x : ℕ × List ℕ) → magic_at bytes ≡ Got x → length x.1 < length bytes
unfolding magic_at
magic_takes bytes x e = then_takes (exactly_at Magic 68) after_first bytes x (exactly_takes bytes) after_first_steady e

profile_takes : (bytes : List ℕ) (x : ProfileValue × List ℕ) → profile_at bytes ≡ Got x → length x.1 < length bytes
profile_takes bytes x e = then_takes magic_at behind_magic bytes x (magic_takes bytes) behind_magic_steady (sym (profile_is bytes) ∙ e)

frame_takes : (place : Place) (bytes : List ℕ) (x : Frame × List ℕ) → frame_at place bytes ≡ Got x → length x.1 < length bytes
frame_takes place bytes x e = first_takes (tagged_at place) bytes x (tagged_steady place) (sym (frame_same place bytes) ∙ e)

framed_takes : (place : Place) (bytes : List ℕ) (x : Item × List ℕ) → (frame_at place bytes >>= λ f. Got (items.Frame f.0, f.1)) ≡ Got x
    → length x.1 < length bytes
framed_takes place bytes x e =
    then_takes (frame_at place) (λ f rest. Got (items.Frame f, rest)) bytes x (frame_takes place bytes) (λ f. steady_give 0 (items.Frame f))
    e

pub item_takes : (place : Place) (bytes : List ℕ) (x : Item × List ℕ) → item_at place bytes ≡ Got x → length x.1 < length bytes
unfolding item_at
item_takes places.Header bytes x e =
    then_takes profile_at (λ p rest. Got (items.Header p, rest)) bytes x (profile_takes bytes) (λ p. steady_give 0 (items.Header p)) e
item_takes (places.Register layout) bytes x e = framed_takes (places.Register layout) bytes x e
item_takes (places.Discover layout) bytes x e = framed_takes (places.Discover layout) bytes x e
item_takes (places.Init layout) bytes x e = framed_takes (places.Init layout) bytes x e
item_takes (places.Runs layout before) bytes x e = framed_takes (places.Runs layout before) bytes x e
item_takes places.End bytes x e = framed_takes places.End bytes x e

-- ---- leading on

pub leads_on : (given : List Item) (place to : Place) (bytes rest : List ℕ) (x : Item) (mid : List ℕ) → Leads place bytes given to rest
    → item_at to rest ≡ Got (x, mid) → Leads place bytes (given ++ x ∷ []) (after to x) mid
leads_on [] place to bytes rest x mid h got =
    (mid, ap (λ (p : Place). item_at p bytes) h.0 ∙ ap (item_at to) h.1 ∙ got, (ap (λ (p : Place). after p x) h.0, refl))
leads_on (y ∷ given) place to bytes rest x mid h got = (h.0, h.1, leads_on given (after place y) to h.0 rest x mid h.2 got)

pub leads_grow : (given : List Item) (place to : Place) (bytes rest tail : List ℕ) → Leads place bytes given to rest
    → Leads place (bytes ++ tail) given to (rest ++ tail)
leads_grow [] place to bytes rest tail h = (h.0, ap (λ (xs : List ℕ). xs ++ tail) h.1)
leads_grow (y ∷ given) place to bytes rest tail h =
    (h.0 ++ tail, (item_steady place).got bytes tail (y, h.0) h.1, leads_grow given (after place y) to h.0 rest tail h.2)

leads_short : (given : List Item) (place to : Place) (bytes rest : List ℕ) → Leads place bytes given to rest
    → length given + length rest ≤ length bytes
leads_short [] place to bytes rest h = let e : length bytes ≡ length rest = ap length h.1 in omega arith
leads_short (y ∷ given) place to bytes rest h =
    let i : length given + length rest ≤ length h.0 = leads_short given (after place y) to h.0 rest h.2 in
    let t : length h.0 < length bytes = item_takes place bytes (y, h.0) h.1 in
    omega arith

-- ---- what is decoded

abbrev fuel : List Item → ℕ → ℕ
fuel [] k = suc k
fuel (x ∷ xs) k = suc (fuel xs k)

fuel_is : (xs : List Item) (k : ℕ) → fuel xs k ≡ length xs + suc k
fuel_is [] k = omega arith
fuel_is (x ∷ xs) k = let i : fuel xs k ≡ length xs + suc k = fuel_is xs k in omega arith

abbrev with_items : List Item → Decoded → Decoded
with_items xs d = record { items = xs ++ d.items; ending = d.ending }

decoded_leads : (xs : List Item) (k : ℕ) (place to : Place) (bytes rest : List ℕ) → Leads place bytes xs to rest
    → decoded (fuel xs k) place bytes ≡ with_items xs (decoded (suc k) to rest)
unfolding decoded
decoded_leads [] k place to bytes rest h = ap (λ (p : Place). decoded (suc k) p bytes) h.0 ∙ ap (decoded (suc k) to) h.1
decoded_leads (x ∷ xs) k place to bytes rest h =
    let one : decoded (suc (fuel xs k)) place bytes
    ≡ with_items (x ∷ []) (decoded (fuel xs k) (after place x) h.0) = ap (λ (r : Read Item). with_next place r (decoded (fuel xs k))) h.1 in
    one ∙ ap (with_items (x ∷ [])) (decoded_leads xs k (after place x) to h.0 rest h.2)

decoded_step : (k : ℕ) (place : Place) (bytes : List ℕ) → decoded (suc k) place bytes ≡ with_next place (item_at place bytes) (decoded k)
unfolding decoded
decoded_step k place bytes = refl

pub all_leads : (given : List Item) (to : Place) (bytes rest : List ℕ) → Leads places.Header bytes given to rest
    → decoded_all bytes ≡ with_items given (with_next to (item_at to rest) (decoded (length bytes - length given)))
all_leads given to bytes rest h =
    let s : length given + length rest ≤ length bytes = leads_short given places.Header to bytes rest h in
    let f : suc (length bytes) ≡ fuel given (length bytes - length given) = omega (arith, fuel_is given (length bytes - length given)) in
    ap (λ (n : ℕ). decoded n places.Header bytes) f ∙ decoded_leads given (length bytes - length given) places.Header to bytes rest h
    ∙ ap (with_items given) (decoded_step (length bytes - length given) to rest)

no_fault_yet : (len : ℕ) (place : Place) → fault_so_far_from len (ending_at place) ≡ None
no_fault_yet len places.Header = refl
no_fault_yet len (places.Register layout) = refl
no_fault_yet len (places.Discover layout) = refl
no_fault_yet len (places.Init layout) = refl
no_fault_yet len (places.Runs layout before) = refl
no_fault_yet len places.End = refl

pub all_at_more : (given : List Item) (to : Place) (bytes rest : List ℕ) → Leads places.Header bytes given to rest → item_at to rest ≡ More
    → (items_in bytes ≡ given) × (fault_so_far bytes ≡ None) × (fault bytes ≡ fault_from (length bytes) (ending_at to))
all_at_more given to bytes rest h e =
    let d : decoded_all bytes ≡ with_items given (record { items = []; ending = ending_at to }) = all_leads given to bytes rest h
    ∙ ap (λ (r : Read Item). with_items given (with_next to r (decoded (length bytes - length given)))) e in
    let i : items_in bytes ≡ given ++ [] = ap (λ (x : Decoded). x.items) d in
    let f : (decoded_all bytes).ending ≡ ending_at to = ap (λ (x : Decoded). x.ending) d in
    (i ∙ append-nil given, ap (fault_so_far_from (length bytes)) f ∙ no_fault_yet (length bytes) to, ap (fault_from (length bytes)) f)

pub all_at_bad : (given : List Item) (to : Place) (bytes rest : List ℕ) (reason : Reason) (left : ℕ)
    → Leads places.Header bytes given to rest → item_at to rest ≡ Bad reason left
    → (items_in bytes ≡ given) × (fault_so_far bytes ≡ Some (record { offset = length bytes - left; reason = reason }))
    × (fault bytes ≡ Some (record { offset = length bytes - left; reason = reason }))
all_at_bad given to bytes rest reason left h e =
    let d : decoded_all bytes ≡ with_items given (record { items = []; ending = faulty reason left }) = all_leads given to bytes rest h
    ∙ ap (λ (r : Read Item). with_items given (with_next to r (decoded (length bytes - length given)))) e in
    let i : items_in bytes ≡ given ++ [] = ap (λ (x : Decoded). x.items) d in
    let f : (decoded_all bytes).ending ≡ faulty reason left = ap (λ (x : Decoded). x.ending) d in
    (i ∙ append-nil given, ap (fault_so_far_from (length bytes)) f, ap (fault_from (length bytes)) f)

pub all_at_got : (given : List Item) (to : Place) (bytes rest : List ℕ) (x : Item) (mid : List ℕ) → Leads places.Header bytes given to rest
    → item_at to rest ≡ Got (x, mid)
    → (others : List Item) × (items_in bytes ≡ given ++ x ∷ others)
all_at_got given to bytes rest x mid h e =
    let next = decoded (length bytes - length given) in
    let d : decoded_all bytes ≡ with_items given (with_next to (Got (x, mid)) next) = all_leads given to bytes rest h
    ∙ ap (λ (r : Read Item). with_items given (with_next to r next)) e in
    ((next (after to x) mid).items, ap (λ (y : Decoded). y.items) d)

-- ---- an item that was read may stand in its place

-- reading gives values of a kind
abbrev GivesOnly : {A : Type 0} → (A → Type 0) → Read A → Type 0
GivesOnly {A = A} P read = (x : A × List ℕ) → read ≡ Got x → P x.0

only_then : {A B : Type 0} (P : B → Type 0) (r : Read A) (f : A × List ℕ → Read B) → ((x : A × List ℕ) → GivesOnly P (f x))
    → GivesOnly P (r >>= f)
only_then P r f h y e = let b = bind_got r f y e in h b.0 y b.2

only_give : {A : Type 0} (P : A → Type 0) (a : A) (rest : List ℕ) → P a → GivesOnly P (Got (a, rest))
only_give {A = A} P a rest p y e = subst (λ (x : A × List ℕ). P x.0) (got_is (a, rest) y e) p

only_bad : {A : Type 0} (P : A → Type 0) (why : Reason) (left : ℕ) → GivesOnly {A = A} P (Bad why left)
only_bad P why left y e = absurd cc

only_more : {A : Type 0} (P : A → Type 0) → GivesOnly {A = A} P More
only_more P y e = absurd cc

only_if : {A : Type 0} (P : A → Type 0) (t : Bool) (r s : Read A) → (t ≡ true → GivesOnly P r) → GivesOnly P s → GivesOnly P (cond t r s)
only_if P true r s h k = h refl
only_if P false r s h k = k

abbrev IsKind : Place → Frame → Type 0
IsKind place f = CanFollow place (items.Frame f)

init_only : (layout : Layout) (bytes : List ℕ) → GivesOnly (IsKind (places.Init layout)) (init_at bytes)
unfolding init_at init_from
init_only layout bytes = only_then _ (number 4 0 65536 bytes) (λ count. init_from [] count.0 count.1) (λ count.
    only_then _ (with_front [] (many element_at count.0 count.1)) (λ es. Got (frames.Init es.0, es.1))
    (λ es. only_give (IsKind (places.Init layout)) (frames.Init es.0) es.1 tt))

finished_only : (layout : Layout) (before : ℕ) (input : CycleInput) (bytes : List ℕ) → before < 1000000
    → GivesOnly (IsKind (places.Runs layout before)) (finished_at layout.format input bytes)
unfolding finished_at finished_from
finished_only layout before input bytes few =
    only_then _ (number 4 0 65536 bytes) (λ count. finished_from layout.format input [] count.0 count.1) (λ count.
    only_then _ (with_front [] (many (drawn_at layout.format) count.0 count.1))
    (λ es. string_at 4 1048576 es.1 >>= λ out. Got (finished input es.0 out.0, out.1)) (λ es.
    only_then _ (string_at 4 1048576 es.1) (λ out. Got (finished input es.0 out.0, out.1))
    (λ out. only_give (IsKind (places.Runs layout before)) (finished input es.0 out.0) out.1 few)))

refused_only : (layout : Layout) (before : ℕ) (input : CycleInput) (bytes : List ℕ) → before < 1000000
    → GivesOnly (IsKind (places.Runs layout before)) (refused_at input bytes)
unfolding refused_at
refused_only layout before input bytes few =
    only_then _ (refusal_at bytes) (λ at. Got (frames.Run (record { input = input; outcome = Refused at.0 }), at.1)) (λ at.
    only_give (IsKind (places.Runs layout before)) (frames.Run (record { input = input; outcome = Refused at.0 })) at.1 few)

run_only : (layout : Layout) (before : ℕ) (bytes : List ℕ) → before < 1000000
    → GivesOnly (IsKind (places.Runs layout before)) (run_at layout bytes)
unfolding run_at
run_only layout before bytes few =
    only_then _ (input_at layout.events bytes) (λ input. number 1 0 1 input.1 >>= λ flag.
    cond (eqb flag.0 0) (finished_at layout.format input.0 flag.1) (refused_at input.0 flag.1)) (λ input.
    only_then _ (number 1 0 1 input.1) (λ flag. cond (eqb flag.0 0) (finished_at layout.format input.0 flag.1) (refused_at input.0 flag.1))
    (λ flag.
    only_if _ (eqb flag.0 0) (finished_at layout.format input.0 flag.1) (refused_at input.0 flag.1)
    (λ e. finished_only layout before input.0 flag.1 few) (refused_only layout before input.0 flag.1 few)))

tagged_only : (place : Place) (b : ℕ) (bytes : List ℕ) → GivesOnly (IsKind place) (tagged_at place b bytes)
unfolding tagged_at
tagged_only places.Header b bytes = only_more _
tagged_only (places.Register layout) b bytes =
    only_if _ (eqb b 1) (Got (frames.Register, bytes)) (Bad (tag_reason b) (suc (length bytes)))
    (λ e. only_give (IsKind (places.Register layout)) frames.Register bytes tt) (only_bad _ (tag_reason b) (suc (length bytes)))
tagged_only (places.Discover layout) b bytes =
    only_if _ (eqb b 2) (Got (frames.Discover, bytes)) (Bad (tag_reason b) (suc (length bytes)))
    (λ e. only_give (IsKind (places.Discover layout)) frames.Discover bytes tt) (only_bad _ (tag_reason b) (suc (length bytes)))
tagged_only (places.Init layout) b bytes =
    only_if _ (eqb b 3) (init_at bytes) (Bad (tag_reason b) (suc (length bytes))) (λ e. init_only layout bytes)
    (only_bad _ (tag_reason b) (suc (length bytes)))
tagged_only (places.Runs layout before) b bytes =
    only_if _ (eqb b 4) (cond (ltb before 1000000) (run_at layout bytes) (Bad TooMany (suc (length bytes))))
    (cond (eqb b 5) (Got (frames.Terminate, bytes)) (Bad (tag_reason b) (suc (length bytes))))
    (λ e. only_if _ (ltb before 1000000) (run_at layout bytes) (Bad TooMany (suc (length bytes)))
    (λ few. run_only layout before bytes (ltb-true before 1000000 few)) (only_bad _ TooMany (suc (length bytes))))
    (only_if _ (eqb b 5) (Got (frames.Terminate, bytes)) (Bad (tag_reason b) (suc (length bytes)))
    (λ e. only_give (IsKind (places.Runs layout before)) frames.Terminate bytes tt) (only_bad _ (tag_reason b) (suc (length bytes))))
tagged_only places.End b bytes = only_bad _ _ _

frame_only : (place : Place) (bytes : List ℕ) → GivesOnly (IsKind place) (frame_at place bytes)
unfolding frame_at
frame_only place [] = only_more _
frame_only place (b ∷ bytes) = tagged_only place b bytes

framed_only : (place : Place) (bytes : List ℕ) → GivesOnly (CanFollow place) (frame_at place bytes >>= λ f. Got (items.Frame f.0, f.1))
framed_only place bytes y e =
    let b = bind_got (frame_at place bytes) (λ f. Got (items.Frame f.0, f.1)) y e in
    let p : (items.Frame b.0.0, b.0.1) ≡ y = got_is (items.Frame b.0.0, b.0.1) y b.2 in
    subst (λ (x : Item × List ℕ). CanFollow place x.0) p (frame_only place bytes b.0 b.1)

-- an item that was read is of the kind that may come in its place
pub can_follow : (place : Place) (bytes : List ℕ) (item : Item) (mid : List ℕ) → item_at place bytes ≡ Got (item, mid)
    → CanFollow place item
unfolding item_at
can_follow places.Header bytes item mid e =
    only_then (CanFollow places.Header) (profile_at bytes) (λ p. Got (items.Header p.0, p.1))
    (λ p. only_give (CanFollow places.Header) (items.Header p.0) p.1 tt) (item, mid) e
can_follow (places.Register layout) bytes item mid e = framed_only (places.Register layout) bytes (item, mid) e
can_follow (places.Discover layout) bytes item mid e = framed_only (places.Discover layout) bytes (item, mid) e
can_follow (places.Init layout) bytes item mid e = framed_only (places.Init layout) bytes (item, mid) e
can_follow (places.Runs layout before) bytes item mid e = framed_only (places.Runs layout before) bytes (item, mid) e
can_follow places.End bytes item mid e = framed_only places.End bytes (item, mid) e

-- each item leaves fewer that may come
pub room_falls : (place : Place) (item : Item) → CanFollow place item → may_come (after place item) < may_come place
room_falls places.Header (items.Header p) h = omega arith
room_falls (places.Register layout) (items.Frame frames.Register) h = omega arith
room_falls (places.Discover layout) (items.Frame frames.Discover) h = omega arith
room_falls (places.Init layout) (items.Frame (frames.Init elements)) h = omega arith
room_falls (places.Runs layout before) (items.Frame (frames.Run r)) h = omega arith
room_falls (places.Runs layout before) (items.Frame frames.Terminate) h = omega arith
room_falls place item h = elim h [ ]
