-- The places of an item's parts, as they are read.
use Rattle.std.proofs.Common.{◌≡◌, ℕ, suc, ◌+◌, ◌-◌, ◌≤◌, Bool, true, false, eqb}
use Rattle.std.proofs.Common.{cond, List, [], ◌∷◌, length, drop, length-drop, Option, arith, refl, sym}
use Rattle.std.proofs.Common.{ap, ◌∙◌, ℤ}
use Rattle.det_values.specs.declared.format.Format.{Format}
use Rattle.det_values.specs.declared.event.Policy.{Policy}
use Rattle.det_values.specs.declared.frames.CycleInput.{CycleInput}
use Rattle.det_values.specs.declared.frames.Frame.TheVariants as frames
use Rattle.det_values.specs.declared.frames.Outcome.TheVariants as outcomes
use Rattle.det_values.specs.Values.{SampleValue, EventSpecValue, RefusedAtValue, ProfileValue}
use Rattle.record_grammar.specs.declared.place.Layout.{Layout}
use Rattle.record_grammar.specs.declared.item.Item.TheVariants as items
use Rattle.record_grammar.specs.declared.place.Place.TheVariants as places
use Rattle.record_grammar.specs.Read.{Read, Got, many}
use Rattle.record_grammar.specs.Numbers.{number}
use Rattle.record_grammar.specs.Places.{layout_of}
use Rattle.record_grammar.specs.Grammar.{magic_at, version_at, name_at, policy_at, event_at, params_at, events_at, profile_at, time_at}
use Rattle.record_grammar.specs.Grammar.{sample_at, most_samples, samples_at, input_at, refusal_at, refused_at}
use Rattle.record_grammar.proofs.SteadyFields.{time_steady, number_steady, sample_steady, refusal_steady}
use Rattle.record_grammar.proofs.Steady.{steady_many}
use Rattle.record_view.specs.declared.view.InputView.{InputView}
use Rattle.record_view.specs.declared.view.OutcomeView.TheVariants as ends
use Rattle.record_view.specs.declared.view.ItemKind.TheVariants as item_kinds
use Rattle.record_view.specs.declared.view.FrameKind.TheVariants as kinds
use Rattle.record_view.specs.declared.opening.Opening.TheVariants as opening
use Rattle.record_view.specs.Opening.{OpeningValue, ready, run_of, run_opening}
use Rattle.record_view.specs.Shows.{ShowsInput}
use Rattle.record_view.specs.Scans.{ShowsOpening}
use Rattle.std.proofs.lemmas.List.{drop-drop}
use Rattle.record_grammar.specs.declared.limits.Limits.TheVariants.{Between}
use Rattle.record_view.proofs.Numbers.{number_takes}
use Rattle.record_view.proofs.Suffix.{IsBehind, behind_at, behind_read, behind_then}

pub event_got : (format : Format) (bytes r s t : List ℕ) (capacity : ℕ) (name : List ℕ) (policy : Policy) → number 2 1 1024 bytes
    ≡ Got (capacity, r) → name_at r ≡ Got (name, s) → policy_at format s ≡ Got (policy, t)
    → event_at format bytes ≡ Got (record { capacity = capacity; name = name; policy = policy }, t)
unfolding event_at
event_got format bytes r s t capacity name policy a b c = rw (a, b, c) refl

abbrev a_layout : Format → ℕ → Layout
a_layout format events = record { format = format; events = events }

pub profile_got : (bytes a b c d e f g h : List ℕ) (magic : ℕ) (format : Format) (job seed cycle : ℕ) (params : List ℤ) (count : ℕ)
    (events : List EventSpecValue) → magic_at bytes ≡ Got (magic, a) → version_at a ≡ Got (format, b) → number 2 0 65535 b ≡ Got (job, c)
    → number 8 0 18446744073709551615 c ≡ Got (seed, d) → number 8 1 9223372036854775807 d ≡ Got (cycle, e) → params_at e ≡ Got (params, f)
    → number 2 0 256 f ≡ Got (count, g) → many (event_at format) count g ≡ Got (events, h) → length events ≡ count
    → (p : ProfileValue) × (profile_at bytes ≡ Got (p, h)) × (layout_of p ≡ record { format = format; events = count })
unfolding profile_at events_at
profile_got bytes a b c d e f g h magic format job seed cycle params count events p q r s t u v w n = (
  record { format = format; job = job; seed = seed; cycle_time = cycle; params = params; events = events },
  rw (p, q, r, s, t, u, v, w) refl,
  ap (a_layout format) n,
)

-- ---- an input

pub input_behind : (bytes r : List ℕ) (time : Option ℕ) → 1 ≤ length bytes → time_at (drop 1 bytes) ≡ Got (time, r) → IsBehind r bytes
input_behind bytes r time some t =
    behind_then bytes (drop 1 bytes) r (behind_at 1 (drop 1 bytes) bytes some refl) (behind_read time_at time_steady
    (drop 1 bytes) time r t)

pub count_behind : (events : ℕ) (bytes r s : List ℕ) (time : Option ℕ) (n : ℕ) → 1 ≤ length bytes → time_at (drop 1 bytes) ≡ Got (time, r)
    → number 4 0 (most_samples events) r ≡ Got (n, s) → IsBehind s bytes
count_behind events bytes r s time n some t k =
    behind_then bytes r s (input_behind bytes r time some t)
    (behind_read (number 4 0 (most_samples events)) (number_steady 4 0 (most_samples events)) r n s k)

pub samples_behind : (events : ℕ) (bytes r s u : List ℕ) (time : Option ℕ) (n : ℕ) (samples : List SampleValue) → 1 ≤ length bytes
    → time_at (drop 1 bytes) ≡ Got (time, r) → number 4 0 (most_samples events) r ≡ Got (n, s)
    → many (sample_at events) n s ≡ Got (samples, u) → IsBehind u bytes
samples_behind events bytes r s u time n samples some t k m =
    behind_then bytes s u (count_behind events bytes r s time n some t k)
    (behind_read (many (sample_at events) n) (steady_many (sample_at events) (sample_steady events) n) s samples u m)

abbrev got_samples : List SampleValue → List ℕ → Read (List SampleValue)
got_samples xs rest = Got (xs, rest)

few_of : (b : Bool) (n : ℕ) → n ≤ cond b 0 4096 → n ≤ 4096
few_of true n h = omega arith
few_of false n h = h

few_samples : (events n : ℕ) → n ≤ most_samples events → n ≤ 4096
few_samples events n h = few_of (eqb events 0) n h

pub input_shown : (events : ℕ) (bytes r s u : List ℕ) (time : Option ℕ) (n : ℕ) (samples : List SampleValue) → 1 ≤ length bytes
    → n ≤ most_samples events → time_at (drop 1 bytes) ≡ Got (time, r) → number 4 0 (most_samples events) r ≡ Got (n, s)
    → many (sample_at events) n s ≡ Got (samples, u)
    → (input : CycleInput) × (input_at events (drop 1 bytes) ≡ Got (input, u))
    × ShowsInput events (record {
      time = time;
      samples = n;
      samples_at = length bytes - length s;
      outcome_at = length bytes - length u;
    }) bytes input × (u ≡ drop (length bytes - length u) bytes)
unfolding input_at samples_at
input_shown events bytes r s u time n samples some within t k m =
    let one = count_behind events bytes r s time n some t k in
    let two = samples_behind events bytes r s u time n samples some t k m in
    let three = behind_read (many (sample_at events) n) (steady_many (sample_at events) (sample_steady events) n) s samples u m in (
      record { time = time; samples = samples },
      rw (t, k, m) refl,
      record {
        time = refl;
        samples =
            ap (many (sample_at events) n) (sym one.is) ∙ m ∙ ap (λ (xs : List ℕ). got_samples samples xs) two.is;
        few = few_samples events n within;
        order = omega (arith, three.room);
        within = omega arith;
      },
      two.is,
    )

-- ---- a run up to its elements

pub flag_behind : (events : ℕ) (bytes r s : List ℕ) (p : InputView) (input : CycleInput) (flag : ℕ) → ShowsInput events p bytes input
    → r ≡ drop p.outcome_at bytes → number 1 0 1 r ≡ Got (flag, s) → IsBehind s bytes
flag_behind events bytes r s p input flag shows e f =
    behind_then bytes r s (behind_at p.outcome_at r bytes shows.within e) (behind_read (number 1 0 1) (number_steady 1 0 1) r flag s f)

pub elements_behind : (events : ℕ) (bytes r s u : List ℕ) (p : InputView) (input : CycleInput) (flag n : ℕ)
    → ShowsInput events p bytes input → r ≡ drop p.outcome_at bytes → number 1 0 1 r ≡ Got (flag, s) → number 4 0 65536 s ≡ Got (n, u)
    → IsBehind u bytes
elements_behind events bytes r s u p input flag n shows e f k =
    behind_then bytes s u (flag_behind events bytes r s p input flag shows e f)
    (behind_read (number 4 0 65536) (number_steady 4 0 65536) s n u k)

pub finished_begins : (layout : Layout) (before : ℕ) (bytes r s u : List ℕ) (p : InputView) (input : CycleInput) (flag n : ℕ)
    → input_at layout.events (drop 1 bytes) ≡ Got (input, r) → ShowsInput layout.events p bytes input → r ≡ drop p.outcome_at bytes
    → number 1 0 1 r ≡ Got (flag, s) → eqb flag 0 ≡ true → number 4 0 65536 s ≡ Got (n, u)
    → (value : OpeningValue) × (run_opening layout (drop 1 bytes) ≡ Got (value, u))
    × ShowsOpening (places.Runs layout before) (opening.Run p n (length bytes - length u)) bytes value u
unfolding run_opening
finished_begins layout before bytes r s u p input flag n i shows e f zero k =
    let b = elements_behind layout.events bytes r s u p input flag n shows e f k in
    let l : length r ≡ length bytes - p.outcome_at = ap length e ∙ length-drop p.outcome_at bytes in
    let c = behind_read (number 1 0 1) (number_steady 1 0 1) r flag s f in
    let d = behind_read (number 4 0 65536) (number_steady 4 0 65536) s n u k in
    let order : p.outcome_at ≤ length bytes - length u = omega (arith, l, shows.within, b.room, c.room, d.room) in
    (run_of layout.format input [] n, rw (i, f, zero, k) refl, (refl, refl, refl, omega arith, b.is, shows, order))

abbrev got_place : RefusedAtValue → List ℕ → Read RefusedAtValue
got_place at rest = Got (at, rest)

pub refused_begins : (layout : Layout) (before : ℕ) (bytes r s u : List ℕ) (p : InputView) (input : CycleInput) (flag : ℕ)
    (at : RefusedAtValue) → input_at layout.events (drop 1 bytes) ≡ Got (input, r) → ShowsInput layout.events p bytes input → r
    ≡ drop p.outcome_at bytes → number 1 0 1 r ≡ Got (flag, s) → eqb flag 0 ≡ false → refusal_at s ≡ Got (at, u)
    → (value : OpeningValue) × (run_opening layout (drop 1 bytes) ≡ Got (value, u))
    × ShowsOpening (places.Runs layout before) (opening.Ready (item_kinds.Frame (kinds.Run p (ends.Refused (length bytes - length s)))))
    bytes value u
unfolding run_opening refused_at
refused_begins layout before bytes r s u p input flag at i shows e f other k =
    let a = flag_behind layout.events bytes r s p input flag shows e f in
    let c = behind_read refusal_at refusal_steady s at u k in
    let b = behind_then bytes s u a c in
    let l : length r ≡ length bytes - p.outcome_at = ap length e ∙ length-drop p.outcome_at bytes in
    let d = behind_read (number 1 0 1) (number_steady 1 0 1) r flag s f in
    let order : p.outcome_at ≤ length bytes - length s = omega (arith, l, shows.within, a.room, d.room) in (
      ready (items.Frame (frames.Run (record { input = input; outcome = outcomes.Refused at }))),
      rw (i, f, other, k) refl,
      (
        length bytes - length u,
        omega arith,
        b.is,
        (
          shows,
          record {
            place = at;
            is = refl;
            place_read = ap refusal_at (sym a.is) ∙ k ∙ ap (λ (xs : List ℕ). got_place at xs) b.is;
            order = omega (arith, c.room);
            within = omega arith;
          },
          order,
        ),
      ),
    )

-- ---- behind a tag

pub one_byte : (bytes rest : List ℕ) (tag : ℕ) → bytes ≡ tag ∷ rest → (1 ≤ length bytes) × (rest ≡ drop 1 bytes)
one_byte bytes rest tag e = let l : length bytes ≡ suc (length rest) = ap length e in (omega arith, sym (ap (drop 1) e))

pub five_bytes : (bytes rest others : List ℕ) (tag n : ℕ) → bytes ≡ tag ∷ rest → number 4 0 65536 rest ≡ Got (n, others)
    → (5 ≤ length bytes) × (others ≡ drop 5 bytes)
five_bytes bytes rest others tag n e k =
    let l : length bytes ≡ suc (length rest) = ap length e in
    let t : length rest ≡ 4 + length others = number_takes (Between 0 65536) 4 0 rest (n, others) k in
    let b = behind_read (number 4 0 65536) (number_steady 4 0 65536) rest n others k in
    let f : length rest - length others ≡ 4 = omega arith in
    (omega arith, b.is ∙ ap (λ (i : ℕ). drop i rest) f ∙ ap (drop 4) (one_byte bytes rest tag e).1 ∙ drop-drop 4 1 bytes)
