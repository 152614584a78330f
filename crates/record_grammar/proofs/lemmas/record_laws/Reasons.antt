-- Why an item is refused, by the place of the faulty byte.
use Rattle.std.proofs.Common.{◌≡◌, ℕ, suc, ◌+◌, ◌<◌, ◌≤◌, Bool, true, false, cond, eqb, ltb, List, [], ◌∷◌, length, refl, sym, ap, ◌∙◌}
use Rattle.std.proofs.Common.{subst, arith, inl, inr, ◌⊎◌}
use Rattle.det_values.specs.declared.format.Format.{Format}
use Rattle.det_values.specs.declared.format.Format.TheVariants.{One, Two}
use Rattle.det_values.specs.declared.frames.Frame.{Frame}
use Rattle.det_values.specs.declared.frames.Frame.TheVariants as frames
use Rattle.det_values.specs.Values.{ProfileValue}
use Rattle.record_grammar.specs.declared.record_fault.Reason.{Reason}
use Rattle.record_grammar.specs.declared.record_fault.Reason.TheVariants.{Magic, Version, Range, TooMany, Trailing}
use Rattle.record_grammar.specs.declared.place.Layout.{Layout}
use Rattle.record_grammar.specs.declared.place.Place.{Place}
use Rattle.record_grammar.specs.declared.place.Place.TheVariants as places
use Rattle.record_grammar.specs.declared.item.Item.{Item}
use Rattle.record_grammar.specs.declared.item.Item.TheVariants as items
use Rattle.record_grammar.specs.Read.{Read, Got, More, Bad, ◌>>=◌}
use Rattle.record_grammar.specs.Numbers.{number}
use Rattle.record_grammar.specs.Grammar.{exactly_at, magic_at, format_at, version_at, params_at, events_at, profile_at, tag_reason, init_at}
use Rattle.record_grammar.specs.Grammar.{run_at, tagged_at, frame_at, item_at}
use Rattle.record_grammar.specs.Laws.{tag_reason_at}
use Rattle.record_grammar.proofs.Steady.{IsSteady, steady_then, steady_give, got_is, bad, bad_is, bind_got, bind_bad}
use Rattle.record_grammar.proofs.SteadyFields.{number_steady, params_steady, events_steady, init_steady, run_steady}
use Rattle.record_grammar.proofs.lemmas.record_laws.HeaderParts.{a_profile, from_events, from_params, from_cycle, from_seed, from_job}
use Rattle.record_grammar.proofs.lemmas.record_laws.HeaderParts.{from_version}
use Rattle.record_grammar.proofs.lemmas.record_laws.Ranges.{RefusedFor, job as job_for, init as init_for, run as run_for}

-- ---- a frame is refused at its first byte, or for Range behind it

abbrev pub Says : List ℕ → Reason → Reason → ℕ → Type 0
Says bytes first reason left = ((reason ≡ first) × (left ≡ suc (length bytes))) ⊎ ((reason ≡ Range) × (left ≤ length bytes))

abbrev framed : Read Frame → Read Item
framed r = r >>= λ f. Got (items.Frame f.0, f.1)

framed_bad : (r : Read Frame) (reason : Reason) (left : ℕ) → framed r ≡ Bad reason left → r ≡ Bad reason left
framed_bad (Got x) reason left e = absurd cc
framed_bad More reason left e = absurd cc
framed_bad (Bad why n) reason left e =
    let p = bad_is {A = Item} why reason n left e in ap (λ (m : ℕ). bad {A = Frame} why m) p.1
    ∙ ap (λ (w : Reason). bad {A = Frame} w left) p.0

abbrev IsRange : Reason → Type 0
IsRange reason = reason ≡ Range

-- a reader after the first byte
says_behind : (bytes : List ℕ) (first : Reason) (r : List ℕ → Read Frame) (reason : Reason) (left : ℕ) → RefusedFor IsRange (r bytes)
    → IsSteady 0 r → r bytes ≡ Bad reason left → Says bytes first reason left
says_behind bytes first r reason left h s e =
    let w : left ≤ 0 + length bytes = s.within bytes reason left e in inr (subst (λ (q : Read Frame). RefusedFor IsRange q) e h, omega arith)

says_first : (bytes : List ℕ) (first reason : Reason) (left : ℕ) → bad {A = Frame} first (suc (length bytes)) ≡ Bad reason left
    → Says bytes first reason left
says_first bytes first reason left e = let p = bad_is {A = Frame} first reason (suc (length bytes)) left e in inl (sym p.0, sym p.1)

says_if : (t : Bool) (bytes : List ℕ) (first : Reason) (r s : Read Frame) (reason : Reason) (left : ℕ)
    → (r ≡ Bad reason left → Says bytes first reason left) → (s ≡ Bad reason left → Says bytes first reason left) → cond t r s
    ≡ Bad reason left → Says bytes first reason left
says_if true bytes first r s reason left h k e = h e
says_if false bytes first r s reason left h k e = k e

-- a frame without fields, or else this reason
bare_says : (t : Bool) (f : Frame) (bytes : List ℕ) (first reason : Reason) (left : ℕ)
    → cond t (Got (f, bytes)) (bad first (suc (length bytes))) ≡ Bad reason left → Says bytes first reason left
bare_says true f bytes first reason left e = absurd cc
bare_says false f bytes first reason left e = says_first bytes first reason left e

runs_say : (layout : Layout) (before b : ℕ) (bytes : List ℕ) (reason : Reason) (left : ℕ) (four : Bool)
    → cond four (cond (ltb before 1000000) (run_at layout bytes) (bad TooMany (suc (length bytes))))
    (cond (eqb b 5) (Got (frames.Terminate, bytes)) (bad (tag_reason b) (suc (length bytes)))) ≡ Bad reason left
    → Says bytes (cond four TooMany (tag_reason b)) reason left
runs_say layout before b bytes reason left true e =
    says_if (ltb before 1000000) bytes TooMany (run_at layout bytes) (bad TooMany (suc (length bytes))) reason left
    (says_behind bytes TooMany (run_at layout) reason left (run_for IsRange refl layout bytes) (run_steady layout))
    (says_first bytes TooMany reason left) e
runs_say layout before b bytes reason left false e = bare_says (eqb b 5) frames.Terminate bytes (tag_reason b) reason left e

tagged_says : (place : Place) (b : ℕ) (bytes : List ℕ) (reason : Reason) (left : ℕ) → tagged_at place b bytes ≡ Bad reason left
    → Says bytes (tag_reason_at place b) reason left
unfolding tagged_at
tagged_says places.Header b bytes reason left e = absurd cc
tagged_says (places.Register layout) b bytes reason left e = bare_says (eqb b 1) frames.Register bytes (tag_reason b) reason left e
tagged_says (places.Discover layout) b bytes reason left e = bare_says (eqb b 2) frames.Discover bytes (tag_reason b) reason left e
tagged_says (places.Init layout) b bytes reason left e =
    says_if (eqb b 3) bytes (tag_reason b) (init_at bytes) (bad (tag_reason b) (suc (length bytes))) reason left
    (says_behind bytes (tag_reason b) init_at reason left (init_for IsRange refl bytes) init_steady)
    (says_first bytes (tag_reason b) reason left) e
tagged_says (places.Runs layout before) b bytes reason left e = runs_say layout before b bytes reason left (eqb b 4) e
tagged_says places.End b bytes reason left e = says_first bytes Trailing reason left e

frame_is : (place : Place) (b : ℕ) (bytes : List ℕ) → (place ≡ places.Header → ⊥) → item_at place (b ∷ bytes)
    ≡ framed (tagged_at place b bytes)
unfolding item_at frame_at
frame_is places.Header b bytes ne = absurd (ne refl)
frame_is (places.Register layout) b bytes ne = refl
frame_is (places.Discover layout) b bytes ne = refl
frame_is (places.Init layout) b bytes ne = refl
frame_is (places.Runs layout before) b bytes ne = refl
frame_is places.End b bytes ne = refl

pub frame_says : (place : Place) (b : ℕ) (bytes : List ℕ) (reason : Reason) (left : ℕ) → (place ≡ places.Header → ⊥)
    → item_at place (b ∷ bytes) ≡ Bad reason left → Says bytes (tag_reason_at place b) reason left
frame_says place b bytes reason left ne e =
    tagged_says place b bytes reason left (framed_bad (tagged_at place b bytes) reason left (sym (frame_is place b bytes ne) ∙ e))

-- ---- fields of a fixed width that are refused for one reason

record IsField {A : Type 0} (width : ℕ) (why : Reason) (read : List ℕ → Read A) : Type 0 where
  pub takes : (bytes : List ℕ) (x : A × List ℕ) → read bytes ≡ Got x → length bytes ≡ width + length x.1
  pub says : (bytes : List ℕ) (reason : Reason) (left : ℕ) → read bytes ≡ Bad reason left → (reason ≡ why) × (left ≤ length bytes)
      × (length bytes < left + width)

field_then : {A B : Type 0} (m n : ℕ) (why : Reason) (r : List ℕ → Read A) (f : A → List ℕ → Read B) → IsField m why r
    → ((a : A) → IsField n why (f a)) → IsField (m + n) why (λ bytes. r bytes >>= λ x. f x.0 x.1)
field_then m n why r f h k = record {
  takes = λ bytes y e.
      let b = bind_got (r bytes) (λ x. f x.0 x.1) y e in
      omega (arith, h.takes bytes b.0 b.1, (k b.0.0).takes b.0.1 y b.2);
  says = λ bytes reason left e. elim (bind_bad (r bytes) (λ x. f x.0 x.1) reason left e) [
    | inl b ↦ let s = h.says bytes reason left b in (s.0, s.1, omega (arith, s.2))
    | inr b ↦
        let t : length bytes ≡ m + length b.0.1 = h.takes bytes b.0 b.1 in
        let s = (k b.0.0).says b.0.1 reason left b.2 in
        (s.0, omega (arith, s.1), omega (arith, s.2))
  ];
}

field_same : {A : Type 0} (m : ℕ) (why : Reason) (r s : List ℕ → Read A) → ((bytes : List ℕ) → r bytes ≡ s bytes) → IsField m why s
    → IsField m why r
field_same m why r s same h = record {
  takes = λ bytes x e. h.takes bytes x (sym (same bytes) ∙ e);
  says = λ bytes reason left e. h.says bytes reason left (sym (same bytes) ∙ e);
}

byte_takes : {A : Type 0} (t : Bool) (a : A) (bytes : List ℕ) (why : Reason) (left : ℕ) (x : A × List ℕ)
    → cond t (Got (a, bytes)) (bad why left) ≡ Got x → suc (length bytes) ≡ 1 + length x.1
byte_takes {A = A} true a bytes why left x e = let l : length bytes
    ≡ length x.1 = ap (λ (y : A × List ℕ). length y.1) (got_is (a, bytes) x e) in omega arith
byte_takes false a bytes why left x e = absurd cc

byte_says : {A : Type 0} (t : Bool) (a : A) (bytes : List ℕ) (why reason : Reason) (left : ℕ)
    → cond t (Got (a, bytes)) (bad why (suc (length bytes))) ≡ Bad reason left → (reason ≡ why) × (left ≤ suc (length bytes))
    × (suc (length bytes) < left + 1)
byte_says true a bytes why reason left e = absurd cc
byte_says {A = A} false a bytes why reason left e = let p = bad_is {A = A} why reason (suc (length bytes)) left e in
    (sym p.0, omega (arith, p.1), omega (arith, p.1))

exactly_field : (why : Reason) (k : ℕ) → IsField 1 why (exactly_at why k)
exactly_field why k = record { takes = takes; says = says }
  where
    takes : (bytes : List ℕ) (x : ℕ × List ℕ) → exactly_at why k bytes ≡ Got x → length bytes ≡ 1 + length x.1
    takes [] x e = absurd cc
    takes (b ∷ bytes) x e = byte_takes (eqb b k) k bytes why (suc (length bytes)) x e

    says : (bytes : List ℕ) (reason : Reason) (left : ℕ) → exactly_at why k bytes ≡ Bad reason left → (reason ≡ why) × (left ≤ length bytes)
        × (length bytes < left + 1)
    says [] reason left e = absurd cc
    says (b ∷ bytes) reason left e = byte_says (eqb b k) k bytes why reason left e

abbrev behind_t : List ℕ → Read ℕ
behind_t bytes = exactly_at Magic 82 bytes >>= λ r. exactly_at Magic 69 r.1 >>= λ f. exactly_at Magic 67 f.1

abbrev behind_d : List ℕ → Read ℕ
behind_d bytes = exactly_at Magic 69 bytes >>= λ e. exactly_at Magic 84 e.1 >>= λ t. behind_t t.1

magic_is : (bytes : List ℕ) → magic_at bytes ≡ (exactly_at Magic 68 bytes >>= λ d. behind_d d.1)
unfolding magic_at
magic_is bytes = refl

magic_field : IsField 6 Magic magic_at
magic_field =
    field_same 6 Magic magic_at (λ bytes. exactly_at Magic 68 bytes >>= λ d. behind_d d.1) magic_is (
    field_then 1 5 Magic (exactly_at Magic 68) (λ d. behind_d) (exactly_field Magic 68) (λ d.
    field_then 1 4 Magic (exactly_at Magic 69) (λ e bytes. exactly_at Magic 84 bytes >>= λ t. behind_t t.1) (exactly_field Magic 69) (λ e.
    field_then 1 3 Magic (exactly_at Magic 84) (λ t. behind_t) (exactly_field Magic 84) (λ t.
    field_then 1 2 Magic (exactly_at Magic 82) (λ r bytes. exactly_at Magic 69 bytes >>= λ f. exactly_at Magic 67 f.1)
    (exactly_field Magic 82) (λ r.
    field_then 1 1 Magic (exactly_at Magic 69) (λ f. exactly_at Magic 67) (exactly_field Magic 69) (λ f. exactly_field Magic 67))))))

format_takes : (one two : Bool) (bytes : List ℕ) (left : ℕ) (x : Format × List ℕ)
    → cond one (Got (One, bytes)) (cond two (Got (Two, bytes)) (bad Version left)) ≡ Got x → suc (length bytes) ≡ 1 + length x.1
format_takes true two bytes left x e = byte_takes true One bytes Version left x e
format_takes false two bytes left x e = byte_takes two Two bytes Version left x e

format_says : (one two : Bool) (bytes : List ℕ) (reason : Reason) (left : ℕ)
    → cond one (Got (One, bytes)) (cond two (Got (Two, bytes)) (bad Version (suc (length bytes)))) ≡ Bad reason left
    → (reason ≡ Version) × (left ≤ suc (length bytes)) × (suc (length bytes) < left + 1)
format_says true two bytes reason left e = absurd cc
format_says false two bytes reason left e = byte_says two Two bytes Version reason left e

format_field : IsField 1 Version format_at
unfolding format_at
format_field = record { takes = takes; says = says }
  where
    takes : (bytes : List ℕ) (x : Format × List ℕ) → format_at bytes ≡ Got x → length bytes ≡ 1 + length x.1
    takes [] x e = absurd cc
    takes (b ∷ bytes) x e = format_takes (eqb b 1) (eqb b 2) bytes (suc (length bytes)) x e

    says : (bytes : List ℕ) (reason : Reason) (left : ℕ) → format_at bytes ≡ Bad reason left → (reason ≡ Version) × (left ≤ length bytes)
        × (length bytes < left + 1)
    says [] reason left e = absurd cc
    says (b ∷ bytes) reason left e = format_says (eqb b 1) (eqb b 2) bytes reason left e

version_field : IsField 2 Version version_at
unfolding version_at
version_field = field_then 1 1 Version (exactly_at Version 0) (λ high. format_at) (exactly_field Version 0) (λ high. format_field)

-- ---- the header

job_steady : (format : Format) → IsSteady 0 (from_job format)
job_steady format =
    steady_then 0 (number 2 0 65535) (from_seed format) (number_steady 2 0 65535) (λ job.
    steady_then 0 (number 8 0 18446744073709551615) (from_cycle format job) (number_steady 8 0 18446744073709551615) (λ seed.
    steady_then 0 (number 8 1 9223372036854775807) (from_params format job seed) (number_steady 8 1 9223372036854775807) (λ cycle.
    steady_then 0 params_at (from_events format job seed cycle) params_steady (λ params.
    steady_then 0 (events_at format) (λ events bytes. Got (a_profile format job seed cycle params events, bytes)) (events_steady format)
    (λ events.
    steady_give 0 (a_profile format job seed cycle params events))))))

-- by the number of bytes before the faulty one
pub data HeaderSays (len left : ℕ) (reason : Reason) : Type 0 where
  in_magic : reason ≡ Magic → len < left + 6 → HeaderSays len left reason
  in_version : reason ≡ Version → left + 6 ≤ len → len < left + 8 → HeaderSays len left reason
  behind : reason ≡ Range → left + 8 ≤ len → HeaderSays len left reason

profile_in_parts : (bytes : List ℕ) → profile_at bytes ≡ (magic_at bytes >>= λ m. from_version m.0 m.1)
unfolding profile_at
profile_in_parts bytes = refl

version_says : (last : ℕ) (bytes : List ℕ) (len : ℕ) (reason : Reason) (left : ℕ) → len ≡ 6 + length bytes → from_version last bytes
    ≡ Bad reason left → HeaderSays len left reason
version_says last bytes len reason left l e = elim (bind_bad (version_at bytes) (λ format. from_job format.0 format.1) reason left e) [
  | inl b ↦ let s = version_field.says bytes reason left b in in_version s.0 (omega (arith, s.1)) (omega (arith, s.2))
  | inr b ↦
      let t : length bytes ≡ 2 + length b.0.1 = version_field.takes bytes b.0 b.1 in
      let w : left ≤ 0 + length b.0.1 = (job_steady b.0.0).within b.0.1 reason left b.2 in
      behind (subst (λ (q : Read ProfileValue). RefusedFor IsRange q) b.2 (job_for IsRange refl b.0.0 b.0.1)) (omega arith)
]

profile_says : (bytes : List ℕ) (reason : Reason) (left : ℕ) → profile_at bytes ≡ Bad reason left → HeaderSays (length bytes) left reason
profile_says bytes reason left e =
    elim (bind_bad (magic_at bytes) (λ m. from_version m.0 m.1) reason left (sym (profile_in_parts bytes) ∙ e)) [
      | inl b ↦ let s = magic_field.says bytes reason left b in in_magic s.0 s.2
      | inr b ↦ version_says b.0.0 b.0.1 (length bytes) reason left (magic_field.takes bytes b.0 b.1) b.2
    ]

header_bad : (r : Read ProfileValue) (reason : Reason) (left : ℕ) → (r >>= λ p. Got (items.Header p.0, p.1)) ≡ Bad reason left → r
    ≡ Bad reason left
header_bad (Got x) reason left e = absurd cc
header_bad More reason left e = absurd cc
header_bad (Bad why n) reason left e =
    let p = bad_is {A = Item} why reason n left e in ap (λ (m : ℕ). bad {A = ProfileValue} why m) p.1
    ∙ ap (λ (w : Reason). bad {A = ProfileValue} w left) p.0

pub header_says : (bytes : List ℕ) (reason : Reason) (left : ℕ) → item_at places.Header bytes ≡ Bad reason left
    → HeaderSays (length bytes) left reason
unfolding item_at
header_says bytes reason left e = profile_says bytes reason left (header_bad (profile_at bytes) reason left e)
